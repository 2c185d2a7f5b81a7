use Rattle.std.proofs.Common.{rules, ◌≡◌, ◌<◌, ◌∙◌, ◌+◌, inl, inr, List, [], ◌∷◌, ◌++◌, length, map, sym, ap, subst, arith}
use Rattle.std.specs.List.{range_with_len}
use Rattle.std.proofs.lemmas.List.{length_push}
use Rattle.std.proofs.lemmas.List.FromFn.{map-range_with_len_more}
use Rattle.vt_key.specs.declared.fault.Fault.TheVariants.{Memory}
use Rattle.vt_key.proofs.ResultLemmas.{if_err, if_refused}
use Rattle.vt_model.specs.declared.settings.Config.{Config}
use Rattle.vt_model.specs.promise.Simulation.{simulation_of}
use Rattle.vt_steps.specs.promise.World.{Part, opening_part}
use Rattle.vt_steps.specs.inside.StandsFor.{StandsForPart, StandForParts}
use Rattle.vt_kernel.specs.inside.Held.{HeldWorker, part_memory}
use Rattle.vt_world.specs.inside.Held.{AreWorkers}
use Rattle.vt_world.proofs.MakingLemmas.{workers-push, stand-push}
use Rattle.vt_world.proofs.making.open_workers.Goals as goal

pub loop-w-preserved : goal.loop-w-preserved
loop-w-preserved g c =
    let inv = c.loop-w.invariant in
    let config = c.args.config in
    let handlers = g.M.Model.handlers c.args.model.now in
    let sim = simulation_of handlers config in
    let w = c.loop-w.w in
    let items = c.loop-w.kernels.items in
    let k : HeldWorker _ _ _ = c.in_ok-kernel.kernel in
    let made = c.in_ok-kernel.ensures.made in
    let pushed : c.push.new.self.items ≡ items ++ k ∷ [] = c.in-Ok.ensures.items ∙ ap (λ (x : HeldWorker _ _ _). items ++ x ∷ []) c.in_ok-engine.ensures.made in
    let longer = length_push items k in
    let counted : length c.push.new.self.items ≡ length (items ++ k ∷ []) = ap length pushed in
    let here : w ≡ 0 + length items = (let n = inv.count in omega (arith, n)) in
    let parts : List (Part _) = map (opening_part sim c.args.serial) (range_with_len 0 w) in
    let more : map (opening_part sim c.args.serial) (range_with_len 0 (w + 1)) ≡ parts ++ opening_part sim c.args.serial w ∷ [] =
    map-range_with_len_more (opening_part sim c.args.serial) 0 w w (omega arith) in
    let stands : StandsForPart sim (0 + length items) (part_memory handlers k) (opening_part sim c.args.serial w) =
    subst (λ b. StandsForPart sim b (part_memory handlers k) (opening_part sim c.args.serial w)) (made.0 ∙ here)
    (subst (λ (f : Config). StandsForPart (simulation_of handlers f) k.worker (part_memory handlers k) (opening_part sim c.args.serial w)) made.1 c.in_ok-kernel.ensures.opening) in
    record {
      count = (let n = inv.count in omega (arith, counted, longer, n));
      workers = subst (AreWorkers config 0) (sym pushed) (workers-push config 0 items k inv.workers (made.0 ∙ here) made.1);
      opening =
          subst (λ (ks : List (HeldWorker _ _ _)). StandForParts sim 0 (map (part_memory handlers) ks) (map (opening_part sim c.args.serial) (range_with_len 0 (w + 1)))) (sym pushed)
          (subst (λ (ps : List (Part _)). StandForParts sim 0 (map (part_memory handlers) (items ++ k ∷ [])) ps) (sym more)
          (stand-push handlers sim 0 items parts k (opening_part sim c.args.serial w) inv.opening stands));
    }

pub returns-in_err-kernel-clause-count : goal.returns-in_err-kernel-clause-count
returns-in_err-kernel-clause-count g c = if_refused _ _ c.from_residual.result c.from_residual.ensures.1

pub returns-in_err-kernel-clause-workers : goal.returns-in_err-kernel-clause-workers
returns-in_err-kernel-clause-workers g c = if_refused _ _ c.from_residual.result c.from_residual.ensures.1

pub returns-in_err-kernel-clause-opening : goal.returns-in_err-kernel-clause-opening
returns-in_err-kernel-clause-opening g c = if_refused _ _ c.from_residual.result c.from_residual.ensures.1

pub returns-in_err-kernel-clause-refused : goal.returns-in_err-kernel-clause-refused
returns-in_err-kernel-clause-refused g c =
    let near : c.loop-w.w < c.args.config.workers = search rules in
    if_err (λ fault. fault ≡ Memory) c.from_residual.result c.in_err-kernel.field-0.0 (search rules)
    (elim c.in_err-kernel.ensures.refused [
      | inl over ↦ absurd (c.requires.fits (c.loop-w.w, near, over.1))
      | inr e ↦ e.0
    ])
