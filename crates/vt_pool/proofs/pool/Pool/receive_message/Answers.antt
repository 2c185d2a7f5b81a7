use Rattle.std.proofs.Common.{◌≡◌, ◌∙◌, ◌<◌, ◌≤◌, ◌/◌, ◌%◌, List, length, inl, ap, subst, sym}
use Rattle.vt_key.specs.inside.Order.{RankBefore}
use Rattle.vt_key.specs.promise.Queues.{letter_rank, insert_letter}
use Rattle.vt_key.specs.promise.Lists.{Among}
use Rattle.vt_key.specs.declared.letter.Letter.{Letter}
use Rattle.vt_model.specs.declared.settings.Config.{Config}
use Rattle.vt_pool.specs.inside.View.{number_at}
use Rattle.vt_pool.specs.inside.Share.{HeldPool, AreSettledBut, PoolLeadsTo}
use Rattle.vt_pool.specs.inside.Pool.{weight_of, with_waiting}
use Rattle.vt_pool.proofs.SettleLemmas.{received-settled, settled-again}
use Rattle.vt_pool.proofs.ForceLemmas.{pool-both}
use Rattle.vt_pool.proofs.ReceiveLemmas.{number-of, index-there, among-inserted, cancel-may-lead, cancel-stays-settled, cancel-same}
use Rattle.vt_pool.proofs.WeightLemmas.{cancelled-weight}
use Rattle.vt_pool.proofs.pool.Pool.receive_message.Given.{Over}
use Rattle.vt_pool.proofs.pool.Pool.receive_message.Goals.{After-fits-2, After-fits-3, After-cancel}
use Rattle.vt_pool.proofs.pool.Pool.receive_message.Goals as goal

-- the letter is pending
pending : (g : Over) (c : After-fits-2 g) → Among c.args.letter c.put_pending.new.self.stock.pending
pending g c = subst (λ (v : HeldPool _ _ _). Among c.args.letter v.stock.pending) (sym c.put_pending.ensures) (among-inserted c.args.letter c.args.self.now.stock.pending)

rank-is : (g : Over) (c : After-fits-2 g) → letter_rank c.args.letter ≡ c.get.result.now.event.rank
rank-is g c = ap letter_rank (sym c.get.ensures)

index-is : (g : Over) (c : After-fits-2 g) → c.index_of-index.result ≡ c.args.letter.event.dest / c.args.self.now.config.workers
index-is g c = c.index_of-index.ensures ∙ ap (λ (l : Letter _). l.event.dest / c.args.self.now.config.workers) c.get-2.ensures

pub undo_from-requires-send-M-Payload : goal.undo_from-requires-send-M-Payload
undo_from-requires-send-M-Payload g c κs within =
    let at = (goal.at.undo_from-requires-send-M-Payload g c).After-fits-2 in
    let old = c.args.self.now in
    let letter = c.args.letter in
    let index = c.index_of-index.result in
    let back = sym c.put_pending.ensures in
    let mine = c.requires.mine in
    let number = number-of old.config old.worker letter.event.dest index (index-is g at) mine.own in
    let there = index-there letter.event.dest index c.fits.ensures.known c.fits.ensures.inside (index-is g at) mine.own mine.within.known in (
      within.0,
      (
        within.1.0,
        (
          within.1.1.0,
          (
            within.1.1.1,
            (
              record { owned = c.type_bounds.send-M-Payload.owned; leaving = c.type_bounds.send-M-Payload.leaving },
              (
                (letter, inl (pending g at), rank-is g at, subst (λ (v : HeldPool _ _ _). letter.event.dest ≡ number_at v.config v.worker index) back number),
                subst (λ (v : HeldPool _ _ _). index < length v.stock.triples) back there,
              ),
            ),
          ),
        ),
      ),
    )

-- where the letter's process is after what was undone
record IsAfter (g : Over) (c : After-fits-3 g) : Type 0 where
  pub index : c.index_of-index.result < length c.undo_from.new.self.stock.triples
  pub dest : c.args.letter.event.dest ≡ number_at c.undo_from.new.self.config c.undo_from.new.self.worker c.index_of-index.result
  pub among : Among c.args.letter c.undo_from.new.self.stock.pending

is-after : (g : Over) (c : After-fits-3 g) (at : After-fits-2 g) → Among c.args.letter c.put_pending.new.self.stock.pending → c.index_of-index.result ≡ c.args.letter.event.dest / c.args.self.now.config.workers → IsAfter g c
is-after g c at among index_is =
    let letter = c.args.letter in
    let index = c.index_of-index.result in
    let mine = c.requires.mine in
    let config = c.undo_from.ensures.same.1 ∙ ap (λ (v : HeldPool _ _ _). v.config) c.put_pending.ensures in
    let worker = c.undo_from.ensures.same.0 ∙ ap (λ (v : HeldPool _ _ _). v.worker) c.put_pending.ensures in
    let here = index_is ∙ ap (λ (k : Config). letter.event.dest / k.workers) (sym config) in
    let own = ap (λ (k : Config). letter.event.dest % k.workers) config ∙ mine.own ∙ sym worker in
    let within = subst (λ (k : Config). letter.event.dest < k.lps) (sym config) mine.within.known in
    record {
      index = index-there letter.event.dest index c.fits-3.ensures.known c.fits-3.ensures.inside here own within;
      dest = number-of c.undo_from.new.self.config c.undo_from.new.self.worker letter.event.dest index here own;
      among = c.undo_from.ensures.still letter among;
    }

pub returns-clause-leads : goal.returns-clause-leads
returns-clause-leads g c =
    let at = goal.at.returns-clause-leads g c in
    let handlers = g.M.Model.handlers c.args.model.now in
    let old = c.args.self.now in
    let p1 = c.put_pending.new.self in
    let p2 = c.undo_from.new.self in
    let f = is-after g at.After-fits-3 at.After-fits-2 (pending g at.After-fits-2) (index-is g at.After-fits-2) in
    let received : HeldPool _ _ _ = record old { stock = record old.stock { pending = insert_letter c.args.letter old.stock.pending } } in
    let first = subst (λ (v : HeldPool _ _ _). PoolLeadsTo handlers v p2) c.put_pending.ensures
    (subst (λ (ws : List (Letter _)). PoolLeadsTo handlers p1 (with_waiting ws p2)) (sym c.undo_from.ensures.same.3) c.undo_from.ensures.leads) in
    pool-both handlers received p2 c.cancel.new.self first
    (cancel-may-lead handlers p2 c.cancel.new.self c.fits-3.ensures.known c.fits-3.ensures.inside c.get.result.now.event.rank c.get-2.result.now.event.dest c.index_of-index.result f.index (ap (λ (l : Letter _). l.event.dest) c.get-2.ensures ∙ f.dest) c.cancel.ensures)

pub returns-clause-settled : goal.returns-clause-settled
returns-clause-settled g c =
    let at = goal.at.returns-clause-settled g c in
    let handlers = g.M.Model.handlers c.args.model.now in
    let p2 = c.undo_from.new.self in
    let f = is-after g at.After-fits-3 at.After-fits-2 (pending g at.After-fits-2) (index-is g at.After-fits-2) in
    let back = ap letter_rank c.get.ensures in
    let settled = settled-again c.fits-3.ensures.known c.fits-3.ensures.inside c.index_of-index.result c.args.letter f.among f.dest
    (λ event last. subst (RankBefore event.letter.event.rank) back (c.undo_from.ensures.before event last))
    (c.undo_from.ensures.settled (letter_rank c.args.letter)
    (subst (λ (v : HeldPool _ _ _). AreSettledBut (letter_rank c.args.letter) v.stock) (sym c.put_pending.ensures) (received-settled c.args.self.now.stock c.args.letter c.requires.settled))) in
    cancel-stays-settled handlers p2 c.cancel.new.self c.fits-3.ensures.known c.fits-3.ensures.inside c.get.result.now.event.rank c.get-2.result.now.event.dest c.index_of-index.result f.index (ap (λ (l : Letter _). l.event.dest) c.get-2.ensures ∙ f.dest) c.cancel.ensures settled

pub returns-clause-same : goal.returns-clause-same
returns-clause-same g c =
    let at = goal.at.returns-clause-same g c in
    let p2 = c.undo_from.new.self in
    let f = is-after g at.After-fits-3 at.After-fits-2 (pending g at.After-fits-2) (index-is g at.After-fits-2) in
    let last = cancel-same (g.M.Model.handlers c.args.model.now) p2 c.cancel.new.self c.fits-3.ensures.known c.fits-3.ensures.inside c.get.result.now.event.rank c.get-2.result.now.event.dest c.index_of-index.result f.index
    (ap (λ (l : Letter _). l.event.dest) c.get-2.ensures ∙ f.dest) c.cancel.ensures in (
      last.0 ∙ c.undo_from.ensures.same.0 ∙ ap (λ (v : HeldPool _ _ _). v.worker) c.put_pending.ensures,
      last.1 ∙ c.undo_from.ensures.same.1 ∙ ap (λ (v : HeldPool _ _ _). v.config) c.put_pending.ensures,
      last.2 ∙ c.undo_from.ensures.same.2 ∙ ap (λ (v : HeldPool _ _ _). v.heard) c.put_pending.ensures,
    )

pub returns-clause-work : goal.returns-clause-work
returns-clause-work g c =
    let came = ap weight_of c.put_pending.ensures in
    let undone = c.undo_from.ensures.work in
    let left = cancelled-weight c.undo_from.new.self c.cancel.new.self c.get.result.now.event.rank c.get-2.result.now.event.dest c.cancel.ensures in
    subst (λ n. weight_of c.cancel.new.self ≤ n) came (subst (λ n. n ≤ weight_of c.put_pending.new.self) (sym left) undone)
