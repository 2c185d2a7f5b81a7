-- Lines of records that are written share by share.
use Rattle.std.proofs.Common.{◌≡◌, ◌∙◌, ap, sym, subst, ℕ, ◌+◌, ◌≤◌, min, List, [], ◌∷◌, ◌++◌, length, take, drop, Option, append-nil, take-append-drop, arith}
use Rattle.std.specs.Io.KnownBytes.{Appends}
use Rattle.std.proofs.KnownBytes.{Appends-nil}
use Rattle.std.proofs.lemmas.List.{drop_min, drop-drop, take_min}
use Rattle.std.proofs.lemmas.Grind.{flat_map-append}
use Rattle.vt_model.specs.declared.rows.Record.{Record}
use Rattle.vt_text.specs.declared.version.Version.{Version}
use Rattle.vt_text.specs.promise.Records.{record_text, record_lines}
use Rattle.vt_text.specs.promise.Writing.{AppendsBeginning}
use Rattle.vt_text.specs.inside.Writing.{AppendsAllButHeld}
use Rattle.vt_text.proofs.TextLemmas.{flush_fails, made_room, of_longer}

-- the records from an index on are a share and those that come after it
pub parted : (size at n : ℕ) (records rest share more : List Record) → n ≡ min size (length rest) → rest ≡ drop at records → share ≡ take n rest → more ≡ drop n rest
    → (share ≡ take size (drop at records)) × (rest ≡ share ++ more) × (more ≡ drop (at + size) records)
parted size at n records rest share more least is front back = (
  front ∙ ap (λ k. take k rest) least ∙ take_min size rest ∙ ap (take size) is,
  sym (take-append-drop n rest) ∙ ap (λ l. l ++ drop n rest) (sym front) ∙ ap (λ l. share ++ l) (sym back),
  back ∙ ap (λ k. drop k rest) least ∙ drop_min size rest ∙ ap (drop size) is ∙ drop-drop size at records,
)

module _ (version : Version) (old now new : Option (List ℕ)) (rest share more : List Record) (text : List ℕ) (parts : rest ≡ share ++ more) (so_far : AppendsAllButHeld old now (record_lines version rest) text) where
  lines : record_lines version rest ≡ record_lines version share ++ record_lines version more
  lines = ap (record_lines version) parts ∙ flat_map-append (record_text version) share more

  -- a share is written after what comes before it
  pub share_written : Appends now new (record_lines version share) → AppendsAllButHeld old new (record_lines version more) text
  share_written h = made_room old now new (record_lines version rest) (record_lines version more) text so_far (record { sent = record_lines version share; whole = lines; appends = h })

  -- a beginning of a share is written after what comes before it
  pub share_stops : AppendsBeginning now new (record_lines version share) → AppendsBeginning old new text
  share_stops h =
      flush_fails old now new (record_lines version rest) text so_far
      (subst (λ (l : List ℕ). AppendsBeginning now new l) (sym lines) (of_longer now new (record_lines version share) (record_lines version more) h))

-- before the first share nothing is written
pub none_yet : (old : Option (List ℕ)) {held text : List ℕ} → text ≡ held → AppendsAllButHeld old old held text
none_yet old is = record { sent = []; whole = is; appends = Appends-nil old }

-- nothing is left
pub all_written : (version : Version) (old new : Option (List ℕ)) (rest : List Record) (text : List ℕ) → length rest ≤ 0 → AppendsAllButHeld old new (record_lines version rest) text → Appends old new text
all_written version old new [] text none g = subst (λ (l : List ℕ). Appends old new l) (sym (g.whole ∙ append-nil g.sent)) g.appends
all_written version old new (record' ∷ rest) text none g = absurd (omega arith)
