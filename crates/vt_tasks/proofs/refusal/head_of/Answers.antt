use Rattle.std.proofs.Common.{◌≡◌, ◌∙◌, List, ℕ, ap, sym}
use Rattle.std.specs.Fmt.{digits}
use denote.Ref.{Bor}
use Rattle.vt_tasks.specs.promise.Refusals.{head_text}
use Rattle.vt_tasks.proofs.refusal.head_of.Goals.{in-Memory, in-NotLawful, in-Busy, in-Closed, in-Exhausted, in-TurnsSpent, in-BadOption, in-BadStep, in-Output}
use Rattle.vt_tasks.proofs.refusal.head_of.Goals as goal

pub returns : goal.returns
unfolding digits
returns c =
    let said = λ (head : Bor (List ℕ)). head.now in
    let is : c.match-fault.head.now ≡ head_text c.args.fault = elim c.match-fault.branch [
      | in-Memory w ↦ ap said w.head-is ∙ ap head_text (sym w.in-Memory.is)
      | in-NotLawful w ↦ ap said w.head-is ∙ ap head_text (sym w.in-NotLawful.is)
      | in-Busy w ↦ ap said w.head-is ∙ ap head_text (sym w.in-Busy.is)
      | in-Closed w ↦ ap said w.head-is ∙ ap head_text (sym w.in-Closed.is)
      | in-Exhausted w ↦ ap said w.head-is ∙ ap head_text (sym w.in-Exhausted.is)
      | in-TurnsSpent w ↦ ap said w.head-is ∙ ap head_text (sym w.in-TurnsSpent.is)
      | in-BadOption w ↦ ap said w.head-is ∙ ap head_text (sym w.in-BadOption.is)
      | in-BadStep w ↦ ap said w.head-is ∙ ap head_text (sym w.in-BadStep.is)
      | in-Output w ↦ ap said w.head-is ∙ ap head_text (sym w.in-Output.is)
    ] in
    c.as_bytes.ensures.value ∙ is
