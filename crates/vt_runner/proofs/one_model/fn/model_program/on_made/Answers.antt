use Rattle.std.proofs.Common.{None, Some, inl, inr, refl, rules, subst, sym}
use Rattle.std.specs.Prelude.{codes}
use Rattle.std.specs.Fn.{FnReturnsAt}
use Rattle.std.proofs.KnownBytes.{Keeps-refl}
use Rattle.vt_model.specs.declared.settings.Config.{Config}
use Rattle.vt_options.specs.promise.Processes.{IsUnsettled, Settles}
use Rattle.vt_options.specs.promise.Tasks.{task_config}
use Rattle.vt_tasks.specs.promise.Models.{any_handlers}
use Rattle.vt_tasks.specs.inside.Tasks.{BeginsWithinLimit}
use Rattle.vt_tasks.proofs.TaskLemmas.{carried_out, counted_with, input_kept}
use Rattle.vt_runner.specs.promise.OneModel.{MakesBy, option_unsettled}
use Rattle.vt_runner.proofs.one_model.fn.model_program.on_made.Goals as goal

pub carry_out-requires-clause-counted : goal.carry_out-requires-clause-counted
carry_out-requires-clause-counted g c κs within =
    subst BeginsWithinLimit (sym c.with_config.ensures) (counted_with c.in-Ok.config c.args.task.now c.requires.0)

pub returns-in-Ok : goal.returns-in-Ok
returns-in-Ok g c =
    let given : FnReturnsAt g.F.Fn c.captures.make c.args.chosen.now.values.items (Some c.in-Some.made) = search rules in
    let settles = subst (λ (k : Config). Settles c.fixed_by.result c.args.chosen.now.lps k c.in-Ok.config) c.config.ensures c.in-Ok.ensures.ok in
    carried_out (λ model. any_handlers (g.M.Model.handlers model)) (MakesBy (λ values made. FnReturnsAt g.F.Fn c.captures.make values made)) c.args.chosen.now c.args.task.now c.in-Some.made.model c.in-Ok.config c.with_config.result _ _ _ _ c.carry_out.result c.with_config.ensures
    (record { processes = c.in-Some.made.processes; made = given; settles = subst (λ n. Settles n c.args.chosen.now.lps (task_config c.args.task.now) c.in-Ok.config) c.fixed_by.ensures settles })
    c.carry_out.ensures.ok c.carry_out.ensures.err c.carry_out.ensures.unread

pub returns-in_default : goal.returns-in_default
returns-in_default g c =
    let given : FnReturnsAt g.F.Fn c.captures.make c.args.chosen.now.values.items None = search rules in
    record {
      ok = tt;
      err = inr (record { why = inr (codes "values", inl (given, refl), refl); unread = Keeps-refl _; kept = Keeps-refl _ });
      unread = input_kept c.args.task.now _;
    }

pub returns : goal.returns
returns g c =
    let given : FnReturnsAt g.F.Fn c.captures.make c.args.chosen.now.values.items (Some c.in-Some.made) = search rules in
    let unsettled = subst (λ n. IsUnsettled n c.args.chosen.now.lps c.in-Err.unsettled) c.fixed_by.ensures c.in-Err.ensures.err in
    record {
      ok = tt;
      err = inr (record {
        why = inr (option_unsettled c.in-Err.unsettled, inr (record { model = c.in-Some.made.model; processes = c.in-Some.made.processes; made = given; why = c.in-Err.unsettled; unsettled = unsettled; named = refl }), c.fault_of.ensures);
        unread = Keeps-refl _;
        kept = Keeps-refl _;
      });
      unread = input_kept c.args.task.now _;
    }
