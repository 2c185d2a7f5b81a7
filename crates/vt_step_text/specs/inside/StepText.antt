-- A step text: its lines, and the steps that they say.
use Rattle.std.specs.Prelude.{◌≡◌, ⊤, ℕ, List, Result, Err}
use Rattle.vt_key.specs.declared.fault.Fault.{Fault}
use Rattle.vt_key.specs.declared.fault.Fault.TheVariants.{Memory, BadStep}
use Rattle.vt_step_text.specs.declared.reading.NumberedStep.{NumberedStep}

-- a text is refused with this fault: memory was refused, or the fault names the first bad line
abbrev pub IsStepTextRefusal : Result (List NumberedStep) ℕ → Fault → Type 0
IsStepTextRefusal said Memory = ⊤
IsStepTextRefusal said (BadStep line) = said ≡ Err line
IsStepTextRefusal said _ = ⊥
