use Rattle.std.proofs.Common.{◌≡◌, None, take}
use Rattle.clap.specs.Words.{first_value, found_of}
use Rattle.vt_options.specs.promise.Table.{first_bad_of}
use Rattle.vt_options.specs.promise.Own.{AreWithin, GiveValues, number_table}
use Rattle.vt_options.proofs.own.own_options.Given as goal

-- the options so far have these values
abbrev pub invariant-loop-own : goal.invariant-loop-own
invariant-loop-own l = record {
  given : GiveValues (first_value (found_of l.matches)) (number_table (take l.own-index l.table)) l.values.items;
  within : AreWithin (take l.own-index l.table) l.values.items;
  good : first_bad_of (first_value (found_of l.matches)) (number_table (take l.own-index l.table)) ≡ None;
}
