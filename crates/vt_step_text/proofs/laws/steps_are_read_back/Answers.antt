use Rattle.vt_step_text.proofs.StepLineLemmas.{steps_again}
use Rattle.vt_step_text.proofs.laws.steps_are_read_back.Goals as goal

pub returns : goal.returns
returns c = λ lps workers steps few small h. steps_again lps workers few small steps h
