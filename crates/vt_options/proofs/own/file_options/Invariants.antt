use Rattle.std.proofs.Common.{map, take}
use Rattle.clap.specs.Words.{first_value, found_of}
use Rattle.vt_options.specs.promise.Own.{GivePaths, path_of}
use Rattle.vt_options.specs.inside.Own.{file_names}
use Rattle.vt_options.proofs.own.file_options.Given as goal

-- the files so far are there
abbrev pub invariant-loop-file : goal.invariant-loop-file
invariant-loop-file l = GivePaths (first_value (found_of l.matches)) (file_names (take l.file-index l.table)) (map path_of l.files.items)
