use Rattle.std.proofs.Common.{◌∙◌, Ok, Err, inl, inr, subst, sym}
use Rattle.std.proofs.KnownBytes.{Keeps-refl}
use Rattle.vt_model.specs.declared.settings.Config.{Config}
use Rattle.vt_tasks.specs.inside.Tasks.{BeginsWithinLimit}
use Rattle.vt_program.specs.promise.Models.{Makes, meaning_of}
use Rattle.vt_tasks.proofs.TaskLemmas.{carried_out, counted_with, input_kept}
use Rattle.vt_program.proofs.models.answer_task.Goals as goal

pub carry_out-requires-clause-counted : goal.carry_out-requires-clause-counted
carry_out-requires-clause-counted g c κs within =
    subst BeginsWithinLimit (sym c.with_config.ensures) (counted_with c.in-Ok.config c.args.task.now c.requires.counted)

pub returns-in-Ok : goal.returns-in-Ok
returns-in-Ok g c =
    let told = g.D.Files.told c.args.files.now in
    let made = subst (λ (given : Config). Makes told c.args.chosen.now given (Ok (c.in-Ok.model, c.in-Ok.config))) c.config.ensures c.in-Ok.ensures.ok in
    carried_out meaning_of (Makes told) c.args.chosen.now c.args.task.now c.in-Ok.model c.in-Ok.config c.with_config.result _ _ _ _ c.carry_out.result c.with_config.ensures made c.carry_out.ensures.ok c.carry_out.ensures.err c.carry_out.ensures.unread

pub returns-in-Err : goal.returns-in-Err
returns-in-Err g c =
    record {
      ok = tt;
      err = inr (record {
        why = elim c.in-Err.ensures.err [
          | inl memory ↦ inl (c.fault_of.ensures.memory memory)
          | inr bad ↦ inr (bad.0, subst (λ (given : Config). Makes (g.D.Files.told c.args.files.now) c.args.chosen.now given (Err bad.0)) c.config.ensures bad.1, c.fault_of.ensures.named ∙ bad.2)
        ];
        unread = Keeps-refl _;
        kept = Keeps-refl _;
      });
      unread = input_kept c.args.task.now _;
    }
