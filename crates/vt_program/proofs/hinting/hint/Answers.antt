use Rattle.std.proofs.Common.{codes, inr, map, subst}
use Rattle.std.proofs.lemmas.Option.{IfSome_then}
use Rattle.vt_options.specs.declared.asking.Request.{Request}
use Rattle.vt_options.specs.inside.Asked.{IsAsked}
use Rattle.vt_command.specs.promise.Table.{twarp_models}
use Rattle.vt_program.proofs.hinting.hint.Goals as goal

pub returns : goal.returns
returns g c =
    let asked = subst (λ (r : Request). IsAsked (codes "twarp") twarp_models (map g.S.AsStr.text c.args.words.now) r) c.in-Ok-Task.field-0-is c.in-Ok-Task.ensures.ok in
    IfSome_then c.hint_on_choice.result c.hint_on_choice.ensures (λ line is. inr (record {
      task = c.in-Ok-Task.task;
      chosen = c.in-Ok-Task.chosen;
      asked = asked;
      program = c.in-Some-program.program;
      is_chosen = c.in-Some-program.is;
      bad = is.0;
      refused = is.1;
      said = is.2.0;
      line_is = is.2.1;
    }))
