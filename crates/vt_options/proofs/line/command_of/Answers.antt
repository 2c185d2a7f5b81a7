use Rattle.std.proofs.Common.{◌∙◌, rules, ap₂, sym}
use Rattle.clap.specs.Words.{new_app, with_rule}
use Rattle.vt_options.specs.inside.Line.{option_of}
use Rattle.vt_options.proofs.LineLemmas.{options_more}
use Rattle.vt_options.proofs.line.command_of.Goals as goal

pub loop-taken-preserved : goal.loop-taken-preserved
loop-taken-preserved c =
    let l = c.loop-taken in
    let added = c.in_ok-command.ensures in record {
      app = added.shape c.option.ensures.local ∙ ap₂ with_rule l.invariant.app c.option.ensures.rule
          ∙ sym (options_more option_of (new_app c.args.name.now) c.args.options.now l.taken-index _ c.loop-taken-test.true);
      local = search rules;
    }
