-- The text of a table.
use Rattle.std.specs.Prelude.{◌≡◌, ◌≤◌, ◌<◌, ◌⊎◌, ⊤, ℕ, ◌+◌, List, [], length, map, take, get_or, Option, Some, None, option_and_then, nat_lt, if◌then◌else◌}
use Rattle.std.specs.Str.{IsUtf8}
use Rattle.std.specs.Str.Lines.{lines}
use Rattle.vt_key.specs.declared.limits.TheConstants.{MAX_PROCESSES}
use Rattle.vt_text.specs.promise.Numbers.{number_said}
use Rattle.vt_relay.specs.declared.table.TableFault.{TableFault}
use Rattle.vt_relay.specs.declared.table.TableFault.TheVariants.{Memory, NoText, Lines, NoNumber, NoProcess}

-- a process of so many
abbrev pub if_process : ℕ → ℕ → Option ℕ
if_process count n = if nat_lt n count then Some n else None

-- the process that a line names
abbrev pub next_said : ℕ → List ℕ → Option ℕ
next_said count line = option_and_then (if_process count) (number_said line)

-- lines name these processes
abbrev pub IsTable : ℕ → List (List ℕ) → List ℕ → Type 0
IsTable count said table = map (next_said count) said ≡ map Some table

-- so do those of a text, as many as there are
abbrev pub IsTableOf : List ℕ → List ℕ → Type 0
IsTableOf text table = IsTable (length (lines text)) (lines text) table

-- why a line of this number names none
abbrev pub IsRefusedLine : ℕ → List ℕ → ℕ → TableFault → Type 0
IsRefusedLine count line number (NoNumber at) = (at ≡ number) × (number_said line ≡ None)
IsRefusedLine count line number (NoProcess at n) = (at ≡ number) × (number_said line ≡ Some n) × (count ≤ n)
IsRefusedLine count line number _ = ⊥

-- the first line that names none, and why
pub record FirstRefused (said : List (List ℕ)) (fault : TableFault) : Type 0 where
  pub index : ℕ
  pub table : List ℕ
  pub before : IsTable (length said) (take index said) table
  pub refused : IsRefusedLine (length said) (get_or said index []) (index + 1) fault

-- why lines are no table
abbrev pub IsRefusedTable : List (List ℕ) → TableFault → Type 0
IsRefusedTable said Memory = ⊤
IsRefusedTable said fault = FirstRefused said fault

-- why a text is none
abbrev pub IsRefusedText : List ℕ → TableFault → Type 0
IsRefusedText text Memory = ⊤
IsRefusedText text NoText = ¬ IsUtf8 text
IsRefusedText text (Lines count) = (count ≡ length (lines text)) × ((count ≡ 0) ⊎ (MAX_PROCESSES < count))
IsRefusedText text fault = FirstRefused (lines text) fault
