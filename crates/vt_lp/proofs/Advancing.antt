-- What an executed event leaves is memory of it.
use Rattle.std.proofs.Common.{◌≡◌, ℕ, ◌+◌, ◌-◌, ◌%◌, ◌^◌, ◌<◌, ◌≤◌, List, [], ◌∷◌, map, refl, sym, ap, ◌∙◌, length, arith}
use Rattle.std.proofs.lemmas.List.{length-map}
use Rattle.std.specs.List.{enumerate_from}
use Rattle.std.proofs.lemmas.List.FromFn.{length-enumerate_from}
use Rattle.vt_key.specs.declared.letter.Event.{Event}
use Rattle.vt_key.specs.declared.letter.Sign.{Sign}
use Rattle.vt_key.specs.declared.letter.Sign.TheVariants.{Plus, Minus}
use Rattle.vt_model.specs.declared.limits.TheConstants.{MAX_DRAWS, MAX_RECORDS}
use Rattle.vt_model.specs.declared.rows.Record.{Record}
use Rattle.vt_model.specs.declared.settings.Config.{Config}
use Rattle.vt_model.specs.declared.sending.Sent.{Sent}
use Rattle.vt_model.specs.promise.Handler.{Handlers}
use Rattle.vt_model.specs.inside.Handler.{IsWithinLimits, AreWords}
use Rattle.vt_model.specs.inside.Process.{IsProcessStream}
use Rattle.vt_model.specs.promise.Sends.{RecordRequest, requested_records}
use Rattle.vt_model.proofs.LawLemmas.{are_words}
use Rattle.vt_key.specs.promise.Keys.{Key}
use Rattle.vt_stream.specs.inside.Words.{Stream, moved}
use Rattle.vt_model.specs.promise.Simulation.{Triple, words_at, fire_of, simulation_of, rows_of}
use Rattle.vt_steps.specs.promise.Letters.{unstamped, stamped, signed}
use Rattle.vt_steps.specs.inside.StandsFor.{IsRemembered}
use Rattle.vt_steps.proofs.letters.Stamped.{unstamped-stamped}
use Rattle.vt_past.specs.declared.event.UndoEntry.{UndoEntry}
use Rattle.vt_lp.specs.inside.Held.{remembered, way_back}
use Rattle.vt_past.specs.inside.Events.{past_event}

-- drawn words given back
pub place-back : (at n : ℕ) → at < 2 ^ 64 → n ≤ MAX_DRAWS → ((at + n) % 2 ^ 64 + (2 ^ 64 - n)) % 2 ^ 64 ≡ at
place-back at n small few = omega arith

-- so the stream is where it was
pub stream-back : (before after : Stream) (n : ℕ) → before.place < 2 ^ 64 → n ≤ MAX_DRAWS → after ≡ moved before n → record after { place = (after.place + (2 ^ 64 - n)) % 2 ^ 64 } ≡ before
stream-back before after n small few is =
    ap (λ (s : Stream). record s { place = (s.place + (2 ^ 64 - n)) % 2 ^ 64 }) is
    ∙ (λ j. record { key = before.key; process = before.process; place = place-back before.place n small few j })

-- drawing words leaves its key and process
pub stream-stays : {seed p : ℕ} (n : ℕ) (before after : Stream) → after ≡ moved before n → IsProcessStream seed p before → IsProcessStream seed p after
stream-stays n before after is own = record { key = ap (λ (s : Stream). s.key) is ∙ own.key; process = ap (λ (s : Stream). s.process) is ∙ own.process }

-- the events of letters
pub events-signed : {P : Type 0} (sign : Sign) (es : List (Event P)) → map (λ l. l.event) (map (signed sign) es) ≡ es
events-signed sign [] = refl
events-signed {P} sign (x ∷ xs) = ap (λ (ys : List (Event P)). x ∷ ys) (events-signed sign xs)

module _ {S P K : Type 0} (handlers : Handlers S P K) (config : Config) where
  pub remembers : (p w serial : ℕ) (event : Event P) (before now : Triple S) (undo_entry : UndoEntry P K) (records : List Record) →
      now ≡ ((simulation_of handlers config).fire p before (unstamped event)).triple →
      handlers.reverse p event.rank.key.time event.payload now.state undo_entry.bits undo_entry.kept ≡ before.state →
      undo_entry.number ≡ before.number → before.place < 2 ^ 64 → undo_entry.drawn ≤ MAX_DRAWS → now.place ≡ (before.place + undo_entry.drawn) % 2 ^ 64 →
      undo_entry.anti_messages ≡ map (signed Minus) (stamped w serial ((simulation_of handlers config).fire p before (unstamped event)).sends) →
      rows_of event.rank.key records ≡ ((simulation_of handlers config).fire p before (unstamped event)).rows →
      IsRemembered (simulation_of handlers config) p before (remembered handlers p (past_event (signed Plus event) undo_entry records))
  remembers p w serial event before now undo_entry records triple state number small few place anti rows =
      let place_is : (now.place + (2 ^ 64 - undo_entry.drawn)) % 2 ^ 64 ≡ before.place =
      ap (λ (n : ℕ). (n + (2 ^ 64 - undo_entry.drawn)) % 2 ^ 64) place ∙ place-back before.place undo_entry.drawn small few in
      record {
        back = ap (way_back handlers p (past_event (signed Plus event) undo_entry records)) (sym triple)
            ∙ (λ j. record { state = state j; number = number j; place = place_is j });
        sent = ap (λ ls. map unstamped (map (λ l. l.event) ls)) anti
            ∙ ap (map unstamped) (events-signed Minus (stamped w serial ((simulation_of handlers config).fire p before (unstamped event)).sends))
            ∙ unstamped-stamped w serial ((simulation_of handlers config).fire p before (unstamped event)).sends;
        rows = rows;
      }

-- as many rows as records
rows-length : (key : Key) (records : List Record) → length (rows_of key records) ≡ length records
unfolding rows_of
rows-length key records = length-map (enumerate_from 0 records) _ ∙ length-enumerate_from 0 records

module _ {S P K : Type 0} (handlers : Handlers S P K) (config : Config)
    (forward_within : (lps lp now : ℕ) (p : P) (s : S) (words : ℕ → ℕ) → lp < lps → AreWords words
    → IsWithinLimits lps now (handlers.forward lps lp now p s words).drawn (handlers.forward lps lp now p s words).send_requests (handlers.forward lps lp now p s words).record_requests) where
  -- an event of a known process makes few records
  pub few-records : (p : ℕ) (before : Triple S) (e : Sent P) (records : List Record) → p < config.lps →
      rows_of e.key records ≡ ((simulation_of handlers config).fire p before e).rows → length records ≤ MAX_RECORDS
  unfolding fire_of requested_records
  few-records p before e records known rows =
      let words = words_at config.seed p before.place in
      let requests : List RecordRequest = (handlers.forward config.lps p e.key.time e.payload before.state words).record_requests in
      let few : length requests ≤ MAX_RECORDS = (forward_within config.lps p e.key.time e.payload before.state words known (are_words config.seed p before.place)).few_records in
      let as_many : length records ≡ length requests =
      sym (rows-length e.key records) ∙ ap length rows ∙ rows-length e.key (requested_records p e.key.time requests) ∙ length-map requests _ in
      omega (arith, as_many, few)
