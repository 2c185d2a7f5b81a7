-- What the words of a program's command line ask for, and why they are refused.
use Rattle.std.specs.Prelude.{◌≡◌, ⊤, List, codes}
use Rattle.clap.specs.Words.{App, Text}
use Rattle.vt_key.specs.declared.fault.Fault.{Fault}
use Rattle.vt_key.specs.declared.fault.Fault.TheVariants.{Memory, BadOption}
use Rattle.vt_options.specs.promise.Requests.{Line, IsUnreadableBy, IsRefusedAsOf}

-- why the words are refused: for want of memory, whatever they are, or under a name
abbrev pub IsRefusedByOf : Line → List Text → Fault → Type 0
IsRefusedByOf line words Memory = ⊤
IsRefusedByOf line words (BadOption name) = IsRefusedAsOf line words name.now
IsRefusedByOf line words _ = ⊥

-- why the parser's error refuses the words: for want of memory, or since they can't be read
abbrev pub IsParserRefusal : App → List Text → Fault → Type 0
IsParserRefusal app words Memory = ⊤
IsParserRefusal app words (BadOption name) = (name.now ≡ codes "command-line") × IsUnreadableBy app words
IsParserRefusal app words _ = ⊥
