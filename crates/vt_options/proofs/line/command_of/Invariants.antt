use Rattle.std.proofs.Common.{◌≡◌, false, take, map}
use Rattle.clap.specs.Words.{app_of, new_app}
use Rattle.clap.specs.declared.builder.command.Command.TheViews.{out-Command}
use Rattle.vt_options.specs.promise.Line.{with_options}
use Rattle.vt_options.specs.inside.Line.{option_of}
use Rattle.vt_options.proofs.line.command_of.Given as goal

-- the command with the options so far
abbrev pub invariant-loop-taken : goal.invariant-loop-taken
invariant-loop-taken l = record {
  app : app_of l.command ≡ with_options (new_app l.name) (map option_of (take l.taken-index l.options));
  local : (out-Command l.command).has_globals ≡ false;
}
