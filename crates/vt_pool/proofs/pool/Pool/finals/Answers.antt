use Rattle.std.proofs.Common.{◌≡◌, ◌∙◌, ◌≤◌, suc, ◌+◌, ◌*◌, Some, length, map, slice_get, sym, ap, subst, arith}
use Rattle.std.proofs.Math.Nat.{suc-mul}
use Rattle.std.proofs.lemmas.List.{length-map, take_all}
use Rattle.std.proofs.lemmas.Option.{slice_get-get_or}
use Rattle.vt_model.specs.declared.process.Process.{Process}
use Rattle.vt_model.specs.inside.Process.{triple_at}
use Rattle.vt_kernel.specs.inside.Held.{held_values}
use Rattle.vt_kernel.proofs.ProcessLemmas.{get-map_of}
use Rattle.vt_pool.specs.inside.View.{processes_from}
use Rattle.vt_pool.specs.inside.Share.{HeldPool}
use Rattle.vt_pool.proofs.FinalLemmas.{values-next}
use Rattle.vt_pool.proofs.pool.Pool.finals.Goals as goal

pub loop-process-preserved : goal.loop-process-preserved
loop-process-preserved g c =
    let i = c.self.inside in
    let now = c.args.self.now in
    let inv = c.loop-process.invariant in
    let k = c.loop-process.process-index in
    let q = c.process-item.result in
    let handlers = g.M.Model.handlers c.args.model.now in
    let items : c.deref-process-items.result.now ≡ i.processes.items = c.deref-process-items.ensures.value in
    let triple = λ (p : Process _ _ _ _). triple_at p.state p.number p.stream in
    let item : slice_get c.deref-process-items.result.now k ≡ Some q = slice_get-get_or c.deref-process-items.result.now k q c.loop-process-test.true ∙ ap Some (sym c.process-item.is) in
    let at : slice_get now.stock.triples k ≡ Some (triple q) =
    subst (λ (v : HeldPool _ _ _). slice_get v.stock.triples k ≡ Some (triple q)) c.self.view_is (get-map_of triple i.processes.items k q (subst (λ ps. slice_get ps k ≡ Some q) items item)) in
    let value : c.finish.result ≡ handlers.finish c.loop-process.p q.state = c.finish.ensures in
    let same : i.config.workers ≡ now.config.workers = ap (λ (v : HeldPool _ _ _). v.config.workers) c.self.view_is in
    let plus : suc k ≡ k + 1 = omega arith in
    let row : (k + 1) * now.config.workers ≡ k * now.config.workers + now.config.workers = ap (λ n. n * now.config.workers) (sym plus) ∙ suc-mul k now.config.workers in
    let before = inv.at in
    record {
      at = omega (arith, before, row, same);
      values = values-next handlers now.config now.worker now.stock k (triple q) c.loop-process.values.items c.push.new.self.items c.finish.result at inv.values c.in-Ok.ensures.items
          (value ∙ ap (λ p. handlers.finish p q.state) inv.at);
    }

pub returns-clause-values : goal.returns-clause-values
returns-clause-values g c =
    let i = c.self.inside in
    let now = c.args.self.now in
    let k = c.loop-process.process-index in
    let triple = λ (p : Process _ _ _ _). triple_at p.state p.number p.stream in
    let items : c.deref-process-items.result.now ≡ i.processes.items = c.deref-process-items.ensures.value in
    let all : length i.processes.items ≤ k = subst (λ ps. length ps ≤ k) items c.loop-process-test.false in
    let count : length (map triple i.processes.items) ≡ length i.processes.items = length-map i.processes.items triple in
    let done : length now.stock.triples ≤ k = subst (λ (v : HeldPool _ _ _). length v.stock.triples ≤ k) c.self.view_is (subst (λ n. n ≤ k) (sym count) all) in
    c.loop-process.invariant.values ∙ ap (λ ts. held_values (g.M.Model.handlers c.args.model.now) (processes_from now.config now.worker 0 ts now.stock)) (take_all k now.stock.triples done)
