use Rattle.std.proofs.Common.{◌∙◌, inl, inr, refl, sym}
use Rattle.std.proofs.KnownBytes.{Keeps-refl}
use Rattle.vt_key.specs.declared.fault.Fault.TheVariants.{BadOption}
use Rattle.vt_runner.proofs.process.run_program_with_files.Goals as goal

pub returns-in-Some-clause-refused : goal.returns-in-Some-clause-refused
returns-in-Some-clause-refused g c = λ refused.
    let why = inr (inr (c.in-Some.name.now, sym c.in-Some.ensures, refl)) in
    inr (BadOption c.in-Some.name, c.tell_refusal.ensures.status, record { why = why; unread = Keeps-refl _; kept = Keeps-refl _ }, c.tell_refusal.ensures.told)

pub returns-in-Some-clause-taken : goal.returns-in-Some-clause-taken
returns-in-Some-clause-taken g c = λ name is. (c.tell_refusal.ensures.status, Keeps-refl _, Keeps-refl _, (BadOption c.in-Some.name, c.in-Some.ensures ∙ is, c.tell_refusal.ensures.told))

pub returns-in-Ok-clause-done : goal.returns-in-Ok-clause-done
returns-in-Ok-clause-done g c = λ done. (_, c.model_program_with_files.ensures.done done, c.model_program_with_files.ensures.read)

pub returns-in-Ok-clause-refused : goal.returns-in-Ok-clause-refused
returns-in-Ok-clause-refused g c = λ refused. inl (_, c.model_program_with_files.ensures.refused refused, c.model_program_with_files.ensures.read)
