use Rattle.std.proofs.Common.{◌≡◌, ◌≤◌, false, map, ap, arith, inl, inr, refl, slice_set, subst, sym, IfSome}
use Rattle.std.proofs.Math.ListN.{length-set}
use Rattle.std.proofs.lemmas.Bool.{false≢true}
use Rattle.std.proofs.lemmas.Bool.Decides.{leb_tells}
use Rattle.std.proofs.lemmas.Option.{slice_get_past, slice_get_read}
use Rattle.vt_key.specs.declared.letter.Sign.TheVariants.{Plus}
use Rattle.vt_model.specs.declared.process.Process.{Process}
use Rattle.vt_model.specs.inside.Process.{triple_at}
use Rattle.vt_pool.specs.inside.View.{Stock}
use Rattle.vt_pool.specs.inside.Logged.{placed}
use Rattle.vt_pool.specs.inside.Pool.{holds_stamp}
use Rattle.vt_pool.specs.inside.Share.{HeldPool}
use Rattle.vt_pool.proofs.HoldLemmas.{not-held}
use Rattle.vt_pool.proofs.KeptLemmas.{now-heard, still-heard}
use Rattle.vt_pool.proofs.PoolLemmas.{pool-heard}
use Rattle.vt_pool.proofs.pool.Pool.hear.Goals as goal

pub invariant_of-self-2 : goal.invariant_of-self-2
invariant_of-self-2 g c =
    let i = c.self.inside in
    let stamp = c.args.stamp in
    let most = c.in-Some.most.now in
    let there = slice_get_read i.heard.items i.heard.len stamp.worker most i.heard.ok.0 (c.in-Some.ensures.variant.0 refl) c.in-Some.ensures.value in
    let late = c.if-stamp-most.false in
    let more : most ≤ stamp.serial = omega (arith, late) in
    (pool-heard c.self.invariant.0 (slice_set i.heard.items stamp.worker stamp.serial) (length-set i.heard.items stamp.worker stamp.serial) (λ s was. still-heard i.heard.items stamp.worker most stamp.serial s there more was), c.self.invariant.1, c.self.invariant.2)

pub returns-clause-new : goal.returns-clause-new
returns-clause-new g c _ =
    let i = c.self.inside in
    let stamp = c.args.stamp in
    let there = slice_get_read i.heard.items i.heard.len stamp.worker c.in-Some.most.now i.heard.ok.0 (c.in-Some.ensures.variant.0 refl) c.in-Some.ensures.value in
    let stock : Stock _ _ _ = record { triples = map (λ (q : Process _ _ _ _). triple_at q.state q.number q.stream) i.processes.items; past = map (placed i.worker) i.log.events; pending = i.calendar; waiting = i.waiting } in
    subst (λ (v : HeldPool _ _ _). holds_stamp Plus stamp v.stock ≡ false) c.self.view_is
    (not-held stock stamp i.heard.items c.in-Some.most.now there c.if-stamp-most.false c.self.invariant.0.heard_pending c.self.invariant.0.heard_past)

pub returns-clause-heard : goal.returns-clause-heard
returns-clause-heard g c =
    let i = c.self.inside in
    let stamp = c.args.stamp in
    let there = slice_get_read i.heard.items i.heard.len stamp.worker c.in-Some.most.now i.heard.ok.0 (c.in-Some.ensures.variant.0 refl) c.in-Some.ensures.value in
    now-heard i.heard.items stamp c.in-Some.most.now stamp.serial there (omega arith)

pub returns-clause-same : goal.returns-clause-same
returns-clause-same g c =
    let stamp = c.args.stamp in
    ap (λ (v : HeldPool _ _ _). record v { heard = slice_set c.self.inside.heard.items stamp.worker stamp.serial }) c.self.view_is

-- ---- it was noted

pub returns-then-stamp-most-clause-new : goal.returns-then-stamp-most-clause-new
returns-then-stamp-most-clause-new g c new = absurd (false≢true new)

pub returns-then-stamp-most-clause-heard : goal.returns-then-stamp-most-clause-heard
returns-then-stamp-most-clause-heard g c =
    let i = c.self.inside in
    let stamp = c.args.stamp in
    let most = c.in-Some.most.now in
    let there = slice_get_read i.heard.items i.heard.len stamp.worker most i.heard.ok.0 (c.in-Some.ensures.variant.0 refl) c.in-Some.ensures.value in
    now-heard i.heard.items stamp most most there c.if-stamp-most.true

pub returns-then-stamp-most-clause-same : goal.returns-then-stamp-most-clause-same
returns-then-stamp-most-clause-same g c =
    ap (λ (v : HeldPool _ _ _). record v { heard = slice_set c.self.inside.heard.items c.args.stamp.worker c.in-Some.most.now }) c.self.view_is

-- ---- no such worker

pub invariant_of-self : goal.invariant_of-self
invariant_of-self g c = c.self.invariant

pub returns-in_default-clause-new : goal.returns-in_default-clause-new
returns-in_default-clause-new g c new = absurd (false≢true new)

pub returns-in_default-clause-same : goal.returns-in_default-clause-same
returns-in_default-clause-same g c = ap (λ (v : HeldPool _ _ _). record v { heard = c.self.inside.heard.items }) c.self.view_is

pub returns-in_default-clause-heard : goal.returns-in_default-clause-heard
returns-in_default-clause-heard g c =
    let i = c.self.inside in
    let stamp = c.args.stamp in
    elim (leb_tells i.heard.len stamp.worker) [
      | inl past ↦ subst (λ o. IfSome o (λ most. stamp.serial ≤ most)) (sym (slice_get_past i.heard.items stamp.worker (subst (λ n. n ≤ stamp.worker) i.heard.ok.0 past.1))) tt
      | inr there ↦ absurd (false≢true (c.in_default.ensures.variant.1 there.1))
    ]
