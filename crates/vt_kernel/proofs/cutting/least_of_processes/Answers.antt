use Rattle.std.proofs.Common.{◌≡◌, ◌∙◌, ◌+◌, [], ◌∷◌, ◌++◌, append-nil, List, Some, take, slice_get, refl, sym, ap}
use Rattle.std.specs.List.{flat_map}
use Rattle.std.proofs.lemmas.List.{take_more, take_all}
use Rattle.std.proofs.lemmas.List.Concat.{flat_map-append}
use Rattle.std.proofs.lemmas.Option.{slice_get_read}
use Rattle.vt_key.specs.promise.Times.{Time, earlier}
use Rattle.vt_key.specs.declared.letter.Letter.{Letter}
use Rattle.vt_model.specs.promise.Settings.{end_of}
use Rattle.vt_steps.specs.promise.Letters.{least_time}
use Rattle.vt_lp.specs.inside.Held.{HeldProcess}
use Rattle.vt_kernel.proofs.ReportLemmas.{kept_letters}
use Rattle.vt_kernel.proofs.TimeLemmas.{least_time-append}
use Rattle.vt_kernel.proofs.Written.{get-all}
use Rattle.vt_kernel.proofs.cutting.least_of_processes.Goals as goal

pub loop-process-preserved : goal.loop-process-preserved
loop-process-preserved g c =
    let end = c.args.end in
    let all = c.args.processes.now in
    let i = c.loop-process.process-index in
    let item = c.process-item.result in
    let before = take i all in
    let at : slice_get all i ≡ Some item = slice_get_read all _ i item refl c.loop-process-test.true c.process-item.is in
    let more : take (i + 1) all ≡ before ++ item ∷ [] = take_more all i item c.loop-process-test.true ∙ ap (λ (x : HeldProcess _ _ _). before ++ x ∷ []) (sym c.process-item.is) in
    let own = get-all (λ (q : HeldProcess _ _ _). end_of q.config ≡ end) all i item c.requires.ends at in
    let kept = c.least.ensures ∙ ap (λ (t : Time). least_time t (kept_letters item)) own in
    c.earlier-least.ensures
    ∙ (λ j. earlier (c.loop-process.invariant j) (kept j))
    ∙ sym (least_time-append end (flat_map kept_letters before) (kept_letters item))
    ∙ ap (λ (ls : List (Letter _)). least_time end (flat_map kept_letters before ++ ls)) (sym (append-nil (kept_letters item)))
    ∙ ap (least_time end) (sym (flat_map-append kept_letters before (item ∷ [])))
    ∙ ap (λ (ps : List (HeldProcess _ _ _)). least_time end (flat_map kept_letters ps)) (sym more)

pub returns : goal.returns
returns g c =
    c.loop-process.invariant
    ∙ ap (λ (ps : List (HeldProcess _ _ _)). least_time c.args.end (flat_map kept_letters ps)) (take_all c.loop-process.process-index c.args.processes.now c.loop-process-test.false)
