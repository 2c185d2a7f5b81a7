use Rattle.std.proofs.Common.{◌≡◌, ◌∙◌, ◌<◌, ◌≤◌, ◌/◌, ◌%◌, List, length, inr, ap, subst, sym}
use Rattle.vt_key.specs.promise.Queues.{letter_rank, insert_letter}
use Rattle.vt_key.specs.promise.Lists.{Among}
use Rattle.vt_key.specs.declared.letter.Letter.{Letter}
use Rattle.vt_model.specs.declared.settings.Config.{Config}
use Rattle.vt_pool.specs.inside.View.{number_at}
use Rattle.vt_pool.specs.inside.Share.{HeldPool, AreSettledBut, PoolLeadsTo}
use Rattle.vt_pool.specs.inside.Pool.{weight_of, with_waiting}
use Rattle.vt_pool.proofs.SettleLemmas.{settled-but, settled-by-all}
use Rattle.vt_pool.proofs.ForceLemmas.{pool-both}
use Rattle.vt_pool.proofs.ReceiveLemmas.{number-of, index-there, among-inserted, cancel-may-lead, cancel-stays-settled, cancel-same}
use Rattle.vt_pool.proofs.WeightLemmas.{cancelled-weight}
use Rattle.vt_pool.proofs.pool.Pool.receive_anti_message.Given.{Over}
use Rattle.vt_pool.proofs.pool.Pool.receive_anti_message.Goals.{After-fits-2, After-fits-3, After-cancel}
use Rattle.vt_pool.proofs.pool.Pool.receive_anti_message.Goals as goal

-- the letter waits
waits : (g : Over) (c : After-fits-2 g) → Among c.args.letter c.put_waiting.new.self.stock.waiting
waits g c = subst (λ (v : HeldPool _ _ _). Among c.args.letter v.stock.waiting) (sym c.put_waiting.ensures) (among-inserted c.args.letter c.args.self.now.stock.waiting)

rank-is : (g : Over) (c : After-fits-2 g) → letter_rank c.args.letter ≡ c.get.result.now.event.rank
rank-is g c = ap letter_rank (sym c.get.ensures)

index-is : (g : Over) (c : After-fits-2 g) → c.index_of-index.result ≡ c.args.letter.event.dest / c.args.self.now.config.workers
index-is g c = c.index_of-index.ensures ∙ ap (λ (l : Letter _). l.event.dest / c.args.self.now.config.workers) c.get-2.ensures

pub undo_from-requires-send-M-Payload : goal.undo_from-requires-send-M-Payload
undo_from-requires-send-M-Payload g c κs within =
    let at = (goal.at.undo_from-requires-send-M-Payload g c).After-fits-2 in
    let old = c.args.self.now in
    let letter = c.args.letter in
    let index = c.index_of-index.result in
    let back = sym c.put_waiting.ensures in
    let mine = c.requires.mine in
    let number = number-of old.config old.worker letter.event.dest index (index-is g at) mine.own in
    let there = index-there letter.event.dest index c.fits.ensures.known c.fits.ensures.inside (index-is g at) mine.own mine.within.known in (
      within.0,
      (
        within.1.0,
        (
          within.1.1.0,
          (
            within.1.1.1,
            (
              record { owned = c.type_bounds.send-M-Payload.owned; leaving = c.type_bounds.send-M-Payload.leaving },
              (
                (letter, inr (waits g at), rank-is g at, subst (λ (v : HeldPool _ _ _). letter.event.dest ≡ number_at v.config v.worker index) back number),
                subst (λ (v : HeldPool _ _ _). index < length v.stock.triples) back there,
              ),
            ),
          ),
        ),
      ),
    )

-- where the letter's process is after what was undone
record IsAfter (g : Over) (c : After-fits-3 g) : Type 0 where
  pub index : c.index_of-index.result < length c.undo_from.new.self.stock.triples
  pub dest : c.args.letter.event.dest ≡ number_at c.undo_from.new.self.config c.undo_from.new.self.worker c.index_of-index.result

is-after : (g : Over) (c : After-fits-3 g) (at : After-fits-2 g) → c.index_of-index.result ≡ c.args.letter.event.dest / c.args.self.now.config.workers → IsAfter g c
is-after g c at index_is =
    let letter = c.args.letter in
    let index = c.index_of-index.result in
    let mine = c.requires.mine in
    let config = c.undo_from.ensures.same.1 ∙ ap (λ (v : HeldPool _ _ _). v.config) c.put_waiting.ensures in
    let worker = c.undo_from.ensures.same.0 ∙ ap (λ (v : HeldPool _ _ _). v.worker) c.put_waiting.ensures in
    let here = index_is ∙ ap (λ (k : Config). letter.event.dest / k.workers) (sym config) in
    let own = ap (λ (k : Config). letter.event.dest % k.workers) config ∙ mine.own ∙ sym worker in
    let within = subst (λ (k : Config). letter.event.dest < k.lps) (sym config) mine.within.known in
    record {
      index = index-there letter.event.dest index c.fits-3.ensures.known c.fits-3.ensures.inside here own within;
      dest = number-of c.undo_from.new.self.config c.undo_from.new.self.worker letter.event.dest index here own;
    }

pub returns-clause-leads : goal.returns-clause-leads
returns-clause-leads g c =
    let at = goal.at.returns-clause-leads g c in
    let handlers = g.M.Model.handlers c.args.model.now in
    let old = c.args.self.now in
    let p1 = c.put_waiting.new.self in
    let p2 = c.undo_from.new.self in
    let f = is-after g at.After-fits-3 at.After-fits-2 (index-is g at.After-fits-2) in
    let received : HeldPool _ _ _ = with_waiting (insert_letter c.args.letter old.stock.waiting) old in
    let first = subst (λ (v : HeldPool _ _ _). PoolLeadsTo handlers v p2) c.put_waiting.ensures
    (subst (λ (ws : List (Letter _)). PoolLeadsTo handlers p1 (with_waiting ws p2)) (sym c.undo_from.ensures.same.3) c.undo_from.ensures.leads) in
    pool-both handlers received p2 c.cancel.new.self first
    (cancel-may-lead handlers p2 c.cancel.new.self c.fits-3.ensures.known c.fits-3.ensures.inside c.get.result.now.event.rank c.get-2.result.now.event.dest c.index_of-index.result f.index (ap (λ (l : Letter _). l.event.dest) c.get-2.ensures ∙ f.dest) c.cancel.ensures)

pub returns-clause-settled : goal.returns-clause-settled
returns-clause-settled g c =
    let at = goal.at.returns-clause-settled g c in
    let handlers = g.M.Model.handlers c.args.model.now in
    let p2 = c.undo_from.new.self in
    let f = is-after g at.After-fits-3 at.After-fits-2 (index-is g at.After-fits-2) in
    let settled = settled-by-all p2.stock (λ r. c.undo_from.ensures.settled r
    (subst (λ (v : HeldPool _ _ _). AreSettledBut r v.stock) (sym c.put_waiting.ensures) (settled-but c.args.self.now.stock r c.requires.settled))) in
    cancel-stays-settled handlers p2 c.cancel.new.self c.fits-3.ensures.known c.fits-3.ensures.inside c.get.result.now.event.rank c.get-2.result.now.event.dest c.index_of-index.result f.index (ap (λ (l : Letter _). l.event.dest) c.get-2.ensures ∙ f.dest) c.cancel.ensures settled

pub returns-clause-same : goal.returns-clause-same
returns-clause-same g c =
    let at = goal.at.returns-clause-same g c in
    let p2 = c.undo_from.new.self in
    let f = is-after g at.After-fits-3 at.After-fits-2 (index-is g at.After-fits-2) in
    let last = cancel-same (g.M.Model.handlers c.args.model.now) p2 c.cancel.new.self c.fits-3.ensures.known c.fits-3.ensures.inside c.get.result.now.event.rank c.get-2.result.now.event.dest c.index_of-index.result f.index
    (ap (λ (l : Letter _). l.event.dest) c.get-2.ensures ∙ f.dest) c.cancel.ensures in (
      last.0 ∙ c.undo_from.ensures.same.0 ∙ ap (λ (v : HeldPool _ _ _). v.worker) c.put_waiting.ensures,
      last.1 ∙ c.undo_from.ensures.same.1 ∙ ap (λ (v : HeldPool _ _ _). v.config) c.put_waiting.ensures,
      last.2 ∙ c.undo_from.ensures.same.2 ∙ ap (λ (v : HeldPool _ _ _). v.heard) c.put_waiting.ensures,
    )

pub returns-clause-work : goal.returns-clause-work
returns-clause-work g c =
    let came = ap weight_of c.put_waiting.ensures in
    let undone = c.undo_from.ensures.work in
    let left = cancelled-weight c.undo_from.new.self c.cancel.new.self c.get.result.now.event.rank c.get-2.result.now.event.dest c.cancel.ensures in
    subst (λ n. weight_of c.cancel.new.self ≤ n) came (subst (λ n. n ≤ weight_of c.put_waiting.new.self) (sym left) undone)
