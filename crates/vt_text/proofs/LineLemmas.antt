-- Lines of records that are partly written and partly held.
use Rattle.std.proofs.Common.{◌≡◌, ℕ, ◌+◌, ◌<◌, List, [], ◌∷◌, ◌++◌, length, get_or, take, drop, Option, ap, sym, subst, ◌∙◌, append_assoc, append-nil}
use Rattle.std.proofs.lemmas.Grind.{flat_map-append}
use Rattle.std.proofs.lemmas.List.{take_more}
use Rattle.vt_model.specs.declared.rows.Record.{Record}
use Rattle.vt_text.specs.declared.version.Version.{Version}
use Rattle.vt_text.specs.promise.Records.{record_text, record_lines}
use Rattle.vt_text.specs.promise.Writing.{AppendsBeginning}
use Rattle.vt_text.specs.inside.Writing.{AppendsAllButHeld, AppendsIntoHeld}
use Rattle.vt_text.proofs.TextLemmas.{made_room, pushed, stopped, lines_split}

module _ (version : Version) where
  one_more : (records : List Record) (i : ℕ) (d : Record) → i < length records
      → record_lines version (take i records) ++ record_text version (get_or records i d) ≡ record_lines version (take (i + 1) records)
  one_more records i d h =
      let r = get_or records i d in
      let lines = record_lines version in
      sym (ap lines (take_more records i d h) ∙ flat_map-append (record_text version) (take i records) (r ∷ []) ∙ ap (λ l. lines (take i records) ++ l) (append-nil (record_text version r)))

  -- the line of one more record is held
  pub record_put : (front : List ℕ) (records : List Record) (i : ℕ) (d : Record) (old now new : Option (List ℕ)) (held held' : List ℕ) → i < length records
      → AppendsAllButHeld old now held (front ++ record_lines version (take i records)) → AppendsAllButHeld now new held' held
      → AppendsAllButHeld old new (held' ++ record_text version (get_or records i d)) (front ++ record_lines version (take (i + 1) records))
  record_put front records i d old now new held held' within g h =
      let line = record_text version (get_or records i d) in
      let lines = record_lines version (take i records) in
      subst (λ (l : List ℕ). AppendsAllButHeld old new (held' ++ line) l)
      (append_assoc front lines line ∙ ap (λ l. front ++ l) (one_more records i d within))
      (pushed old new held' (front ++ lines) line (made_room old now new held held' (front ++ lines) g h))

  -- the lines of the records stop after some of them
  pub records_stop : (front : List ℕ) (records : List Record) (i : ℕ) (old now new : Option (List ℕ)) (held left : List ℕ) → left ≡ held
      → AppendsAllButHeld old now held (front ++ record_lines version (take i records)) → AppendsBeginning now new held → AppendsIntoHeld old new left (front ++ record_lines version records)
  records_stop front records i old now new held left is g h =
      let first = record_lines version (take i records) in
      let rest = record_lines version (drop i records) in
      subst (λ (l : List ℕ). AppendsIntoHeld old new left l) (append_assoc front first rest ∙ ap (λ l. front ++ l) (sym (lines_split (record_text version) records i)))
      (stopped old now new held left (front ++ first) rest is g h)
