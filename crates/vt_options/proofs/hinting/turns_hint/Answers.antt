use Rattle.std.proofs.Common.{map, subst, arith}
use Rattle.std.proofs.lemmas.Option.{IfSome_then}
use Rattle.vt_options.specs.declared.asking.Request.{Request}
use Rattle.vt_options.specs.declared.choices.Task.{Task}
use Rattle.vt_options.specs.promise.Asked.{AskTaskWith}
use Rattle.vt_options.specs.inside.Asked.{IsAsked}
use Rattle.vt_options.specs.promise.Own.{path_of}
use Rattle.vt_options.specs.inside.Own.{models_of}
use Rattle.vt_options.proofs.hinting.turns_hint.Goals as goal

pub returns : goal.returns
returns g c =
    let name = c.args.texts.now.name.now in
    let models = models_of c.args.table.now in
    let words = map g.S.AsStr.text c.args.words.now in
    let chosen = c.in-Ok-Task-Run-default.field-0-1 in
    let asked = subst (λ (r : Request). IsAsked name models words r) c.in-Ok-Task-Run-default.field-0-is c.in-Ok-Task-Run-default.ensures.ok in
    let run = subst (λ (t : Task). AskTaskWith name models words t chosen) c.in-Ok-Task-Run-default.field-0-0-is asked in
    IfSome_then c.hint_on_turns.result c.hint_on_turns.ensures (λ line is. record {
      settings = c.in-Ok-Task-Run-default.settings;
      model = chosen.model;
      values = chosen.values.items;
      lps = chosen.lps;
      choice = chosen.program;
      paths = map path_of chosen.files.items;
      asked = run;
      more = c.min-more.result;
      is_more = c.if-more-settings.false;
      allowed = omega (arith, c.min-more.ensures);
      text_is = is;
    })
