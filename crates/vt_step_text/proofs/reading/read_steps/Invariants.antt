use Rattle.std.proofs.Common.{◌≡◌, ◌+◌, ◌≤◌, length}
use Rattle.vt_step_text.specs.promise.StepText.{text_lines, steps_from, steps_of}
use Rattle.vt_step_text.proofs.StepTextLemmas.{with_front}
use Rattle.vt_step_text.proofs.reading.read_steps.Given as goal

-- the steps so far, and then those of the rest, are those of the text
abbrev pub invariant-lines : goal.invariant-lines
invariant-lines l = record {
  counted : l.line + length l.rest ≤ length l.text + 1;
  said : with_front l.steps.items (steps_from l.lps l.workers l.line (text_lines l.rest)) ≡ steps_of l.lps l.workers l.text;
}

abbrev pub decreases-lines : goal.decreases-lines
decreases-lines l = length l.rest
