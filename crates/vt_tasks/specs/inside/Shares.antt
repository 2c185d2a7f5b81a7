-- Shares of records, as lines that threads make.
use Rattle.std.specs.Prelude.{◌≡◌, true, List}
use Rattle.vt_model.specs.declared.rows.Record.{Record}
use Rattle.vt_text.specs.declared.version.Version.{Version}
use Rattle.vt_text.specs.promise.Records.{record_lines}
use Rattle.vt_tasks.specs.declared.printing.Share.{Share}

-- a share that is whole has the lines of these records
abbrev pub HasLines : Version → List Record → Share → Type 0
HasLines version records share = share.is_whole ≡ true → share.lines.items ≡ record_lines version records
