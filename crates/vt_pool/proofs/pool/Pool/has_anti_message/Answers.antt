use Rattle.std.proofs.Common.{◌≡◌, true, false, sym, subst}
use Rattle.vt_key.specs.promise.Queues.{has_stamp}
use Rattle.vt_key.specs.declared.letter.Sign.TheVariants.{Minus}
use Rattle.vt_pool.specs.inside.Pool.{holds_stamp}
use Rattle.vt_pool.specs.inside.Share.{HeldPool}
use Rattle.vt_pool.proofs.HoldLemmas.{any-found, any-none}
use Rattle.vt_pool.proofs.pool.Pool.has_anti_message.Goals as goal

pub returns-in_default : goal.returns-in_default
returns-in_default g c =
    let i = c.self.inside in
    let stamp = c.args.stamp.now in
    subst (λ (v : HeldPool _ _ _). false ≡ holds_stamp Minus stamp v.stock) c.self.view_is (sym (any-none (has_stamp stamp) i.waiting (sym c.in_default.ensures)))

pub returns : goal.returns
returns g c =
    let i = c.self.inside in
    let stamp = c.args.stamp.now in
    subst (λ (v : HeldPool _ _ _). true ≡ holds_stamp Minus stamp v.stock) c.self.view_is (sym (any-found (has_stamp stamp) i.waiting _ (sym c.in-Some.ensures)))
