use Rattle.std.proofs.Common.{◌≡◌, ◌∙◌, sym, ap, subst}
use Rattle.vt_key.specs.promise.Order.{rank_before}
use Rattle.vt_key.specs.promise.Queues.{insert_letter, letter_rank}
use Rattle.vt_key.specs.declared.letter.Letter.{Letter}
use Rattle.vt_key.specs.declared.letter.Sign.{Sign}
use Rattle.vt_key.specs.declared.letter.Sign.TheVariants.{Plus}
use Rattle.vt_key.proofs.ListLemmas.{every-insert_ordered}
use Rattle.vt_pool.specs.inside.Inside.{AreSettled, ComesAfter, IsWorkersLetter}
use Rattle.vt_pool.specs.inside.Pool.{holds_stamp, with_letter}
use Rattle.vt_pool.specs.inside.Share.{HeldPool, PoolLeadsTo}
use Rattle.vt_pool.specs.inside.Steps.{received_in}
use Rattle.vt_pool.proofs.ForceLemmas.{pool-both, pool-nothing}
use Rattle.vt_pool.proofs.HoldLemmas.{new-past, new-pending}
use Rattle.vt_pool.proofs.pool.Pool.accept.Goals as goal

pub put_pending-requires-clause-mine : goal.put_pending-requires-clause-mine
put_pending-requires-clause-mine g c κs within =
    let now = c.args.self.now in
    let sign = ap (λ (l : Letter _). l.sign) (sym c.get.ensures) ∙ (c.comes_last.ensures c.if-comes_last.true).0 in
    subst (λ (s : Sign). IsWorkersLetter now.config now.worker s c.args.letter) sign c.requires.may.mine

pub put_pending-requires-clause-new : goal.put_pending-requires-clause-new
put_pending-requires-clause-new g c κs within =
    let now = c.args.self.now in
    let sign = ap (λ (l : Letter _). l.sign) (sym c.get.ensures) ∙ (c.comes_last.ensures c.if-comes_last.true).0 in
    let stamp = (letter_rank c.args.letter).stamp in
    new-pending now.stock stamp (ap (λ (s : Sign). holds_stamp s stamp now.stock) (sym sign) ∙ c.requires.may.new)

pub put_pending-requires-clause-not_past : goal.put_pending-requires-clause-not_past
put_pending-requires-clause-not_past g c κs within =
    let now = c.args.self.now in
    let sign = ap (λ (l : Letter _). l.sign) (sym c.get.ensures) ∙ (c.comes_last.ensures c.if-comes_last.true).0 in
    let stamp = (letter_rank c.args.letter).stamp in
    new-past now.stock stamp (ap (λ (s : Sign). holds_stamp s stamp now.stock) (sym sign) ∙ c.requires.may.new)

pub put_pending-requires-clause-heard : goal.put_pending-requires-clause-heard
put_pending-requires-clause-heard g c κs within =
    let sign = ap (λ (l : Letter _). l.sign) (sym c.get.ensures) ∙ (c.comes_last.ensures c.if-comes_last.true).0 in
    c.requires.may.heard sign

-- where the letter is put among the pending ones
put-is : {S P K : Type 0} (old new : HeldPool S P K) (letter : Letter P) → letter.sign ≡ Plus → new ≡ record old { stock = record old.stock { pending = insert_letter letter old.stock.pending } } → new ≡ with_letter letter old
put-is old new letter sign is = is ∙ ap (λ (s : Sign). record old { stock = received_in s letter old.stock }) (sym sign)

pub returns-then-comes_last-clause-leads : goal.returns-then-comes_last-clause-leads
returns-then-comes_last-clause-leads g c =
    let handlers = g.M.Model.handlers c.args.model.now in
    let now = c.args.self.now in
    let sign = ap (λ (l : Letter _). l.sign) (sym c.get.ensures) ∙ (c.comes_last.ensures c.if-comes_last.true).0 in
    subst (PoolLeadsTo handlers (with_letter c.args.letter now)) (sym (put-is now c.put_pending.new.self c.args.letter sign c.put_pending.ensures)) (pool-nothing handlers (with_letter c.args.letter now))

pub returns-then-comes_last-clause-settled : goal.returns-then-comes_last-clause-settled
returns-then-comes_last-clause-settled g c =
    let now = c.args.self.now in
    let after = subst (ComesAfter now.stock.past) c.get.ensures (c.comes_last.ensures c.if-comes_last.true).1 in
    subst (λ (p : HeldPool _ _ _). AreSettled p.stock) (sym c.put_pending.ensures)
    (every-insert_ordered (λ (a b : Letter _). rank_before (letter_rank a) (letter_rank b)) (ComesAfter now.stock.past) c.args.letter now.stock.pending after c.requires.settled)

pub returns-clause-leads : goal.returns-clause-leads
returns-clause-leads g c =
    let handlers = g.M.Model.handlers c.args.model.now in
    pool-both handlers (with_letter c.args.letter c.args.self.now) c.receive.new.self c.home_all.new.self c.receive.ensures.leads c.home_all.ensures.leads
