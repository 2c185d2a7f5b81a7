-- What a run prints: its records in a version of their text, or none, and then final values, or none.
use Rattle.std.specs.Prelude.{ℕ, suc, Bool, List, [], ◌∷◌, ◌++◌, Option, Some, None, if◌then◌else◌, codes}
use Rattle.std.specs.Fmt.{decimal}
use Rattle.vt_model.specs.declared.rows.Record.{Record}
use Rattle.vt_model.specs.promise.Simulation.{Simulation}
use Rattle.vt_model.specs.promise.Sequential.{seq_finals}
use Rattle.vt_text.specs.declared.version.Version.{Version}
use Rattle.vt_text.specs.promise.Records.{first_line, record_lines}

-- the line with which the text of records begins
abbrev pub printed_first : Option Version → List ℕ
printed_first None = []
printed_first (Some version) = first_line version

-- the lines of records
abbrev pub printed_lines : Option Version → List Record → List ℕ
printed_lines None records = []
printed_lines (Some version) records = record_lines version records

-- the text of records, or nothing where they aren't printed
abbrev pub printed_text : Option Version → List Record → List ℕ
printed_text shown records = printed_first shown ++ printed_lines shown records

-- the line of a final value: its process and the value, as decimal numbers with single spaces (32) and a newline (10)
abbrev pub final_text : ℕ → ℕ → List ℕ
final_text lp value = codes "final " ++ (decimal lp ++ 32 ∷ (decimal value ++ 10 ∷ []))

-- a line for each final value, of the process of this number and of those that follow it
abbrev pub final_lines : ℕ → List ℕ → List ℕ
final_lines lp [] = []
final_lines lp (value ∷ values) = final_text lp value ++ final_lines (suc lp) values

-- the final values of a model's sequential run as text, where they are printed
abbrev pub finals_text : {S P : Type 0} → Bool → Simulation S P → List ℕ
finals_text printed sim = if printed then final_lines 0 (seq_finals sim) else []
