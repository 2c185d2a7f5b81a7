use Rattle.std.proofs.Common.{◌≡◌, ◌∙◌, ◌⊎◌, false, inl, inr, refl, sym, ap, subst, arith, length, None}
use Rattle.std.specs.List.{last_or}
use Rattle.std.proofs.Math.ListN.{length-set}
use Rattle.vt_key.specs.promise.Order.{rank_before}
use Rattle.vt_key.specs.promise.Queues.{letter_rank}
use Rattle.vt_key.specs.promise.Lists.{Among}
use Rattle.vt_steps.proofs.lists.Indices.{get-within}
use Rattle.vt_lp.specs.inside.Held.{way_back}
use Rattle.vt_pool.specs.inside.View.{past_at, number_at}
use Rattle.vt_pool.specs.inside.Share.{HeldPool, AreSettledBut, PoolLeadsTo}
use Rattle.vt_pool.specs.inside.Pool.{pool_after_undo, weight_of, with_waiting}
use Rattle.vt_pool.proofs.SettleLemmas.{undone-settled}
use Rattle.vt_pool.proofs.ForceLemmas.{pool-nothing, pool-both, ends-with, ends-before, undo-forced, still-pending, fewer-past}
use Rattle.vt_pool.proofs.WeightLemmas.{undone-weight}
use Rattle.vt_pool.proofs.pool.Pool.undo_from.Goals as goal

pub loop-self-init : goal.loop-self-init
loop-self-init g c = record {
  known = c.fits.ensures.known;
  inside = c.fits.ensures.inside;
  leads = pool-nothing (g.M.Model.handlers c.args.model.now) (with_waiting g.waits c.args.self.now);
  settled = λ r h. h;
  there = refl;
  work = omega arith;
  still = λ letter m. m;
  same = (refl, refl, refl, refl);
}

pub loop-self-preserved : goal.loop-self-preserved
loop-self-preserved g c =
    let handlers = g.M.Model.handlers c.args.model.now in
    let old = c.args.self.now in
    let s = c.loop-self.self in
    let inv = c.loop-self.invariant in
    let index = c.args.index in
    let found = ends-with c.args.rank.now (last_or None (past_at index s.stock.past)) (sym c.ends_from.ensures ∙ c.loop-self-test.true) in
    let event = found.0 in
    let letter = c.requires.1.1.1.1.1.0.0 in
    let there = inv.there in
    let t = get-within s.stock.triples index (let within = c.requires.1.1.1.1.1.1 in omega (arith, within, there)) in
    let is : c.undo_last.new.self ≡ pool_after_undo handlers index event t.0 s = c.undo_last.ensures.undone event t.0 found.1 t.1 in
    let dest : letter.event.dest ≡ number_at s.config s.worker index = c.requires.1.1.1.1.1.0.3 ∙ (λ j. number_at (sym inv.same.1 j) (sym inv.same.0 j) index) in
    let forces : Among letter s.stock.pending ⊎ Among letter g.waits = elim c.requires.1.1.1.1.1.0.1 [ inl m ↦ inl (inv.still letter m) | inr w ↦ inr w ] in
    let late : rank_before event.letter.event.rank (letter_rank letter) ≡ false = ap (rank_before event.letter.event.rank) c.requires.1.1.1.1.1.0.2 ∙ found.2 in
    let now = way_back handlers (number_at s.config s.worker index) event t.0 in
    let weight = ap weight_of is in
    let lower = undone-weight handlers index event t.0 s found.1 in
    let before = inv.work in
    let step = undo-forced handlers s inv.known inv.inside letter g.waits index dest forces t.0 event t.1 found.1 late in
    record {
      known = c.fits-in-loop-self.ensures.known;
      inside = c.fits-in-loop-self.ensures.inside;
      leads = subst (λ (v : HeldPool _ _ _). PoolLeadsTo handlers (with_waiting g.waits old) (with_waiting g.waits v)) (sym is)
          (pool-both handlers (with_waiting g.waits old) (with_waiting g.waits s) (with_waiting g.waits (pool_after_undo handlers index event t.0 s)) inv.leads step);
      settled = λ r h. subst (λ (v : HeldPool _ _ _). AreSettledBut r v.stock) (sym is) (undone-settled inv.known inv.inside r index event now found.1 (inv.settled r h));
      there = ap (λ (v : HeldPool _ _ _). length v.stock.triples) is ∙ length-set s.stock.triples index now ∙ inv.there;
      work = omega (arith, weight, lower, before);
      still = λ l m. subst (λ (v : HeldPool _ _ _). Among l v.stock.pending) (sym is) (still-pending l event.letter s.stock.pending (inv.still l m));
      same = (
        ap (λ (v : HeldPool _ _ _). v.worker) is ∙ inv.same.0,
        ap (λ (v : HeldPool _ _ _). v.config) is ∙ inv.same.1,
        ap (λ (v : HeldPool _ _ _). v.heard) is ∙ inv.same.2,
        ap (λ (v : HeldPool _ _ _). v.stock.waiting) is ∙ inv.same.3,
      );
    }

pub loop-self-smaller : goal.loop-self-smaller
loop-self-smaller g c =
    let handlers = g.M.Model.handlers c.args.model.now in
    let s = c.loop-self.self in
    let index = c.args.index in
    let found = ends-with c.args.rank.now (last_or None (past_at index s.stock.past)) (sym c.ends_from.ensures ∙ c.loop-self-test.true) in
    let there = c.loop-self.invariant.there in
    let t = get-within s.stock.triples index (let within = c.requires.1.1.1.1.1.1 in omega (arith, within, there)) in
    let is = ap (λ (v : HeldPool _ _ _). length v.stock.past) (c.undo_last.ensures.undone found.0 t.0 found.1 t.1) in
    let less = fewer-past index found.0 s.stock.past found.1 in
    omega (arith, is, less)

pub returns-clause-leads : goal.returns-clause-leads
returns-clause-leads g c = c.loop-self.invariant.leads

pub returns-clause-settled : goal.returns-clause-settled
returns-clause-settled g c = c.loop-self.invariant.settled

pub returns-clause-still : goal.returns-clause-still
returns-clause-still g c = c.loop-self.invariant.still

pub returns-clause-before : goal.returns-clause-before
returns-clause-before g c event last = ends-before c.args.rank.now (last_or None (past_at c.args.index c.loop-self.self.stock.past)) (sym c.ends_from.ensures ∙ c.loop-self-test.false) event last

pub returns-clause-same : goal.returns-clause-same
returns-clause-same g c = c.loop-self.invariant.same

pub returns-clause-work : goal.returns-clause-work
returns-clause-work g c = c.loop-self.invariant.work
