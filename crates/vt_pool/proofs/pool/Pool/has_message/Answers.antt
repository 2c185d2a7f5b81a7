use Rattle.std.proofs.Common.{◌≡◌, ◌∙◌, ◌||◌, Bool, map, sym, ap, subst}
use Rattle.std.specs.List.{list_any}
use Rattle.vt_key.specs.promise.Order.{stamp_same}
use Rattle.vt_key.specs.declared.letter.Sign.TheVariants.{Plus}
use Rattle.vt_pool.specs.inside.View.{Placed}
use Rattle.vt_pool.specs.inside.Inside.{placed_rank}
use Rattle.vt_pool.specs.inside.Logged.{placed}
use Rattle.vt_pool.specs.inside.Pool.{holds_stamp}
use Rattle.vt_pool.specs.inside.Share.{HeldPool}
use Rattle.vt_pool.proofs.HoldLemmas.{any-map}
use Rattle.vt_pool.proofs.pool.Pool.has_message.Goals as goal

pub returns-else-any : goal.returns-else-any
returns-else-any g c =
    let i = c.self.inside in
    let stamp = c.args.stamp.now in
    let test = λ (e : Placed _ _). stamp_same (placed_rank e).stamp stamp in
    let past = c.has_stamp.ensures ∙ sym (any-map test (placed i.worker) i.log.events) in
    subst (λ (v : HeldPool _ _ _). c.has_stamp.result ≡ holds_stamp Plus stamp v.stock) c.self.view_is
    (past ∙ ap (λ (b : Bool). b || list_any test (map (placed i.worker) i.log.events)) (sym (sym c.any.ensures ∙ c.if-any.false)))
