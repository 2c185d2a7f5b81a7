use Rattle.std.proofs.Common.{◌++◌, length, drop, string_bytes}
use Rattle.std.specs.Str.{chars}
use Rattle.clap.specs.Words.{Text}
use Rattle.vt_options.specs.inside.Shown.{IsShownIn}
use Rattle.vt_options.proofs.shown.shown_in.Given as goal

-- what shows the characters that are left shows, behind the text so far, all
abbrev pub invariant-loop-c : goal.invariant-loop-c
invariant-loop-c l =
    (rest : Text) → IsShownIn l.fn.spared l.room (drop (length l.yielded) (chars l.fn.whole)) rest → IsShownIn l.fn.spared l.fn.columns (chars l.fn.whole) (string_bytes l.text ++ rest)
