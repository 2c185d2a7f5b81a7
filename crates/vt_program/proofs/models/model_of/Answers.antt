use Rattle.std.proofs.Common.{Ok, Err, Option, inl, inr, subst, sym}
use Rattle.std.proofs.lemmas.Result.{IfOk-weaker, IfErr-weaker}
use Rattle.vt_options.specs.declared.programs.ProgramChoice.{ProgramChoice}
use Rattle.vt_program.specs.promise.Models.{MakesBy}
use Rattle.vt_program.proofs.ProgramLemmas.{refused_so}
use Rattle.vt_program.proofs.models.model_of.Goals as goal

pub returns-in-Some-clause-ok : goal.returns-in-Some-clause-ok
returns-in-Some-clause-ok g c =
    let told = g.D.Files.told c.args.files.now in
    IfOk-weaker c.program_model.result _ _ (λ made runs. subst (λ (o : Option ProgramChoice). MakesBy told c.args.chosen.now o c.args.config (Ok made)) (sym c.in-Some.is) runs) c.program_model.ensures.ok

pub returns-in-Some-clause-err : goal.returns-in-Some-clause-err
returns-in-Some-clause-err g c =
    let told = g.D.Files.told c.args.files.now in
    IfErr-weaker c.program_model.result _ _ (λ refusal why. elim (refused_so told c.in-Some.program c.args.chosen.now.lps refusal why) [
      | inl memory ↦ inl memory
      | inr bad ↦ inr (bad.0, subst (λ (o : Option ProgramChoice). MakesBy told c.args.chosen.now o c.args.config (Err bad.0)) (sym c.in-Some.is) bad.1, bad.2)
    ]) c.program_model.ensures.err
