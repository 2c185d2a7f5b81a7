-- The text of records.
use Rattle.std.specs.Prelude.{ℕ, List, [], ◌∷◌, ◌++◌, codes}
use Rattle.std.specs.List.{flat_map}
use Rattle.std.specs.Fmt.{decimal}
use Rattle.vt_model.specs.declared.rows.Record.{Record}
use Rattle.vt_text.specs.declared.version.Version.{Version}
use Rattle.vt_text.specs.declared.version.Version.TheVariants.{One, Two}

-- the line with which a text of records begins, with a newline (10): version 1 has none
abbrev pub first_line : Version → List ℕ
first_line One = []
first_line Two = codes "twarp-records 2" ++ 10 ∷ []

-- how each line ends: a record's process, kind and value as decimal numbers, with single spaces (32) and a newline (10)
abbrev pub tail_text : Record → List ℕ
tail_text r = decimal r.lp ++ 32 ∷ (decimal r.kind ++ 32 ∷ (decimal r.value ++ 10 ∷ []))

-- the line of a record: its time in ticks, in version 2 its priority, and then its process, kind and value, as decimal numbers
-- with single spaces (32) and a newline (10)
abbrev pub record_text : Version → Record → List ℕ
record_text One r = decimal r.time ++ 32 ∷ tail_text r
record_text Two r = decimal r.time ++ 32 ∷ (decimal r.priority ++ 32 ∷ tail_text r)

-- a line for each record, in order
abbrev pub record_lines : Version → List Record → List ℕ
record_lines version records = flat_map (record_text version) records

-- the text of records in a version: its first line, if it has one, and a line for each record
abbrev pub records_text : Version → List Record → List ℕ
records_text version records = first_line version ++ record_lines version records
