use Rattle.std.proofs.Common.{◌≡◌, ◌∙◌, ◌+◌, List, [], ◌∷◌, ◌++◌, take, sym, ap}
use Rattle.std.specs.List.{flat_map}
use Rattle.std.proofs.lemmas.List.{take_more}
use Rattle.vt_key.specs.promise.Times.{Time, earlier}
use Rattle.vt_model.specs.promise.Settings.{end_of}
use Rattle.vt_steps.specs.promise.Letters.{least_time}
use Rattle.vt_kernel.specs.inside.Guards.{held_letters}
use Rattle.vt_kernel.specs.inside.Held.{HeldWorker}
use Rattle.vt_world.proofs.LeastLemmas.{least-more}
use Rattle.vt_world.proofs.reading.least_of_workers.Goals as goal

pub loop-kernel-preserved : goal.loop-kernel-preserved
loop-kernel-preserved g c =
    let end = c.args.end in
    let all = c.args.kernels.now in
    let i = c.loop-kernel.kernel-index in
    let k : HeldWorker _ _ _ = c.kernel-item.result in
    let more : take (i + 1) all ≡ take i all ++ k ∷ [] =
    take_more all i k c.loop-kernel-test.true ∙ ap (λ (x : HeldWorker _ _ _). take i all ++ x ∷ []) (sym c.kernel-item.is) in
    let same_end : (end_of k.config) ≡ end = ap (λ (x : HeldWorker _ _ _). (end_of x.config)) c.kernel-item.is ∙ c.requires.same_end i k c.loop-kernel-test.true in
    let here : c.least.result ≡ least_time end (held_letters k) = c.least.ensures ∙ ap (λ (x : HeldWorker _ _ _). least_time (end_of x.config) (held_letters x)) c.kernel.ensures ∙ ap (λ (t : Time). least_time t (held_letters k)) same_end in
    c.earlier-least.ensures
    ∙ (λ j. earlier (c.loop-kernel.invariant j) (here j))
    ∙ sym (least-more end held_letters (take i all) k)
    ∙ ap (λ (ks : List (HeldWorker _ _ _)). least_time end (flat_map held_letters ks)) (sym more)
