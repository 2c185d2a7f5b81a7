-- The past events before a floor: their rows, and the process that has committed them.
use Rattle.std.proofs.Common.{◌≡◌, ◌++◌, ◌+◌, ◌∷◌, Bool, true, false, if◌then◌else◌, ℕ, suc, List, [], map, take, drop, length, refl, sym, subst, ◌∙◌, ap, arith, append_assoc, get_or, ◌<◌, ◌≤◌, slice_get, Some, None}
use Rattle.std.specs.Prelude.{All}
use Rattle.std.specs.List.{enumerate_from, prefix_len}
use Rattle.std.proofs.lemmas.List.{map-append, take_more, length-take-le}
use Rattle.std.proofs.lemmas.List.Elements.{All-tail}
use Rattle.std.proofs.lemmas.Bool.Decides.{nat_tests}
use Rattle.vt_key.specs.promise.Times.{Time}
use Rattle.vt_key.specs.promise.Keys.{Key}
use Rattle.vt_key.specs.declared.letter.Letter.{Letter}
use Rattle.vt_key.proofs.ListLemmas.{rising-right}
use Rattle.vt_stream.specs.inside.Words.{Stream}
use Rattle.vt_model.specs.declared.rows.Record.{Record}
use Rattle.vt_model.specs.declared.rows.Row.{Row}
use Rattle.vt_model.specs.declared.settings.Config.{Config}
use Rattle.vt_model.specs.promise.Handler.{Handlers}
use Rattle.vt_model.specs.promise.Simulation.{Simulation, Triple, simulation_of, rows_of}
use Rattle.vt_model.proofs.SendLemmas.{enumerate_from-append}
use Rattle.vt_steps.specs.promise.Rows.{rows_from}
use Rattle.vt_steps.specs.promise.World.{Entry, LogicalProcess, entry_events, triple_after}
use Rattle.vt_steps.specs.promise.PartSteps.{is_below, ripe, ripe_rows, process_after_commit}
use Rattle.vt_steps.specs.inside.StandsFor.{entry_of, fired_at, LeadTo}
use Rattle.vt_steps.proofs.steps.MemoryLemmas.{forgets}
use Rattle.vt_past.specs.declared.event.PastEvent.{PastEvent}
use Rattle.vt_lp.specs.inside.Held.{HeldProcess, StandsFor, remembered, process_memory, IsNotPending, IsOwnEvent, IsRisingPast, IsProcessInside}
use Rattle.vt_lp.specs.inside.Ripe.{is_ripe, unripe_events, rows_of_ripe}

-- the rows of records and one more
pub rows_of_more : (key : Key) (records : List Record) (i : ℕ) (d : Record) → i < length records →
    rows_of key (take (i + 1) records) ≡ rows_of key (take i records) ++ record { key = key; index = i; rec = get_or records i d } ∷ []
unfolding rows_of
rows_of_more key records i d within =
    let row = λ (q : ℕ × Record). (let r : Row = record { key = key; index = q.0; rec = q.1 } in r) in
    let taken = length-take-le i records (omega arith) in
    let long : 0 + length (take i records) ≡ i = omega arith in
    ap (λ rs. map row (enumerate_from 0 rs)) (take_more records i d within)
    ∙ ap (map row) (enumerate_from-append 0 (take i records) (get_or records i d ∷ []))
    ∙ map-append row (enumerate_from 0 (take i records)) (enumerate_from (0 + length (take i records)) (get_or records i d ∷ []))
    ∙ ap (λ n. map row (enumerate_from 0 (take i records)) ++ record { key = key; index = n; rec = get_or records i d } ∷ []) long

one-more : (n : ℕ) → 1 + n ≡ suc n
one-more n = omega arith

-- the row of the next record is appended
pub rows_grow : (key : Key) (records : List Record) (i n : ℕ) (d : Record) (others rows new : List Row) → new ≡ rows ++ record { key = key; index = n; rec = get_or records i d } ∷ [] →
    n ≡ i → i < length records → rows ≡ others ++ rows_of key (take i records) → new ≡ others ++ rows_of key (take (i + 1) records)
rows_grow key records i n d others rows new is same within before =
    let last : List Row = record { key = key; index = i; rec = get_or records i d } ∷ [] in
    is
    ∙ ap (λ m. rows ++ record { key = key; index = m; rec = get_or records i d } ∷ []) same
    ∙ ap (λ rs. rs ++ last) before
    ∙ append_assoc others (rows_of key (take i records)) last
    ∙ ap (λ rs. others ++ rs) (sym (rows_of_more key records i d within))

module _ {P K : Type 0} (floor : Time) where
  -- the past events that go first, as many as are before the floor
  abbrev ripe_events : List (PastEvent P K) → List (PastEvent P K)
  ripe_events [] = []
  ripe_events (e ∷ es) = if is_ripe floor e then e ∷ ripe_events es else []

  parts : (es : List (PastEvent P K)) → es ≡ ripe_events es ++ unripe_events floor es
  parts [] = refl
  parts (e ∷ es) = elim (is_ripe floor e) as (λ b. e ∷ es ≡ (if b then e ∷ ripe_events es else []) ++ (if b then unripe_events floor es else e ∷ es)) [
    | true ↦ ap (λ l. e ∷ l) (parts es)
    | false ↦ refl
  ]

  -- the rows of the next event, which is before the floor, are appended
  pub rows_on : (e : PastEvent P K) (es : List (PastEvent P K)) (rows : List Row) {all new : List Row} → e.key.time < floor → rows ++ rows_of_ripe floor (e ∷ es) ≡ all → new ≡ rows ++ rows_of e.key e.records →
      new ++ rows_of_ripe floor es ≡ all
  rows_on e es rows before told is =
      let early : e.letter.event.rank.key.time < floor = subst (λ (k : Key). k.time < floor) (sym e.keyed) before in
      let first : is_ripe floor e ≡ true = grind (arith, nat_tests) in
      ap (λ (rs : List Row). rs ++ rows_of_ripe floor es) (is ∙ ap (λ (k : Key). rows ++ rows_of k e.records) (sym e.keyed))
      ∙ append_assoc rows (rows_of e.letter.event.rank.key e.records) (rows_of_ripe floor es)
      ∙ ap (λ (b : Bool). rows ++ (if b then rows_of e.letter.event.rank.key e.records ++ rows_of_ripe floor es else [])) (sym first)
      ∙ told

  -- where the first isn't before the floor, all stay
  pub unripe_late : (es : List (PastEvent P K)) (e : PastEvent P K) → slice_get es 0 ≡ Some e → floor ≤ e.letter.event.rank.key.time → unripe_events floor es ≡ es
  unripe_late [] e at late = refl
  unripe_late (x ∷ xs) e at late =
      let same : x ≡ e = cc in
      let not_before : is_ripe floor e ≡ false = grind (arith, nat_tests) in
      ap (λ (b : Bool). if b then unripe_events floor xs else x ∷ xs) (ap (is_ripe floor) same ∙ not_before)

  pub unripe_none : (es : List (PastEvent P K)) → slice_get es 0 ≡ None → unripe_events floor es ≡ es
  unripe_none [] at = refl
  unripe_none (x ∷ xs) at = absurd (let e : Some x ≡ None = at in cc)

  -- ---- what the process keeps to

  -- what each event has, each that is left has
  All-unripe : (Q : PastEvent P K → Type 0) (es : List (PastEvent P K)) → All Q es → All Q (unripe_events floor es)
  All-unripe Q [] all = all
  All-unripe Q (e ∷ es) all = elim (is_ripe floor e) as (λ b. All Q (if b then unripe_events floor es else e ∷ es)) [ true ↦ All-unripe Q es (All-tail Q e es all) | false ↦ all ]

  pub inside-committed : (config : Config) (p number : ℕ) (stream : Stream) (past new : List (PastEvent P K)) (pending waiting : List (Letter P)) → new ≡ unripe_events floor past →
      IsProcessInside config p number stream past pending waiting → IsProcessInside config p number stream new pending waiting
  inside-committed config p number stream past new pending waiting is i = record {
    known = i.known;
    few_sends = i.few_sends;
    own_stream = i.own_stream;
    own_pending = i.own_pending;
    own_waiting = i.own_waiting;
    own_past = subst (λ (es : List (PastEvent P K)). All (IsOwnEvent config p) es) (sym is) (All-unripe (IsOwnEvent config p) past i.own_past);
    rising = subst (λ (es : List (PastEvent P K)). IsRisingPast es) (sym is) (rising-right _ (ripe_events past) (unripe_events floor past) (subst (λ (es : List (PastEvent P K)). IsRisingPast es) (parts past) i.rising));
    apart = subst (λ (es : List (PastEvent P K)). All (IsNotPending pending) es) (sym is) (All-unripe (IsNotPending pending) past i.apart);
  }

module _ {S P K : Type 0} (handlers : Handlers S P K) (floor : Time) where
  -- the entries that a process commits
  entries-ripe : (p : ℕ) (es : List (PastEvent P K)) → take (prefix_len (is_below floor) (map entry_of (map (remembered handlers p) es))) (map entry_of (map (remembered handlers p) es)) ≡
      map entry_of (map (remembered handlers p) (ripe_events floor es))
  entries-ripe p [] = refl
  entries-ripe p (e ∷ es) = elim (is_ripe floor e) as (λ b.
      take (if b then 1 + prefix_len (is_below floor) (map entry_of (map (remembered handlers p) es)) else 0) (map entry_of (map (remembered handlers p) (e ∷ es))) ≡
      map entry_of (map (remembered handlers p) (if b then e ∷ ripe_events floor es else []))) [
        | true ↦ (
            let all = map entry_of (map (remembered handlers p) es) in
            ap (λ n. take n (entry_of (remembered handlers p e) ∷ all)) (one-more (prefix_len (is_below floor) all)) ∙ ap (λ l. entry_of (remembered handlers p e) ∷ l) (entries-ripe p es))
        | false ↦ refl
      ]

  -- and those that stay
  entries-unripe : (p : ℕ) (es : List (PastEvent P K)) → drop (prefix_len (is_below floor) (map entry_of (map (remembered handlers p) es))) (map entry_of (map (remembered handlers p) es)) ≡
      map entry_of (map (remembered handlers p) (unripe_events floor es))
  entries-unripe p [] = refl
  entries-unripe p (e ∷ es) = elim (is_ripe floor e) as (λ b.
      drop (if b then 1 + prefix_len (is_below floor) (map entry_of (map (remembered handlers p) es)) else 0) (map entry_of (map (remembered handlers p) (e ∷ es))) ≡
      map entry_of (map (remembered handlers p) (if b then unripe_events floor es else e ∷ es))) [
        | true ↦ (
            let all = map entry_of (map (remembered handlers p) es) in
            ap (λ n. drop n (entry_of (remembered handlers p e) ∷ all)) (one-more (prefix_len (is_below floor) all)) ∙ entries-unripe p es)
        | false ↦ refl
      ]

  -- ---- commit

  pub commits : (held : HeldProcess S P K) (h : LogicalProcess P) (new : List (PastEvent P K)) → new ≡ unripe_events floor held.past → StandsFor handlers held h →
      StandsFor handlers (record held { past = new }) (process_after_commit floor h)
  commits held h new is s =
      let sim = simulation_of handlers held.config in
      let p = held.lp in
      let first = map (remembered handlers p) (ripe_events floor held.past) in
      let rest = map (remembered handlers p) (unripe_events floor held.past) in
      let split : map (remembered handlers p) held.past ≡ first ++ rest =
      ap (map (remembered handlers p)) (parts floor held.past) ∙ map-append (remembered handlers p) (ripe_events floor held.past) (unripe_events floor held.past) in
      let after = forgets sim p (process_memory handlers held) h first rest s split in
      let done : h.done ++ map entry_of first ≡ h.done ++ ripe floor h =
      ap (λ es. h.done ++ es) (sym (ap (λ (es : List (Entry P)). take (prefix_len (is_below floor) es) es) s.past ∙ entries-ripe p held.past)) in
      let left : drop (prefix_len (is_below floor) h.past) h.past ≡ map entry_of rest = ap (λ (es : List (Entry P)). drop (prefix_len (is_below floor) es) es) s.past ∙ entries-unripe p held.past in
      record {
        past = left ∙ ap (λ (es : List (PastEvent P K)). map entry_of (map (remembered handlers p) es)) (sym is);
        pending = s.pending;
        waiting = s.waiting;
        leads = subst (λ (es : List (PastEvent P K)). LeadTo sim p (triple_after sim p (h.done ++ ripe floor h)) (map (remembered handlers p) es) held.triple) (sym is)
            (subst (λ (es : List (Entry P)). LeadTo sim p (triple_after sim p es) rest held.triple) done after.leads);
      }

  -- ---- rows

  rows-lead : (sim : Simulation S P) (p : ℕ) (t now : Triple S) (es : List (PastEvent P K)) → LeadTo sim p t (map (remembered handlers p) es) now →
      rows_from sim p t (entry_events (map entry_of (map (remembered handlers p) (ripe_events floor es)))) ≡ rows_of_ripe floor es
  rows-lead sim p t now [] leads = refl
  rows-lead sim p t now (e ∷ es) leads = elim (is_ripe floor e) as (λ b.
      rows_from sim p t (entry_events (map entry_of (map (remembered handlers p) (if b then e ∷ ripe_events floor es else [])))) ≡
      (if b then rows_of e.letter.event.rank.key e.records ++ rows_of_ripe floor es else [])) [
        | true ↦ (λ j. sym leads.0.rows j ++ rows-lead sim p (fired_at sim p t (remembered handlers p e)).triple now es leads.1 j)
        | false ↦ refl
      ]

  -- the rows that the step hands in are those of the first past events
  pub rows-ripe : (held : HeldProcess S P K) (h : LogicalProcess P) → StandsFor handlers held h → ripe_rows (simulation_of handlers held.config) held.lp floor h ≡ rows_of_ripe floor held.past
  rows-ripe held h s =
      let sim = simulation_of handlers held.config in
      let p = held.lp in
      let t = triple_after sim p h.done in
      ap (λ (es : List (Entry P)). rows_from sim p t (entry_events (take (prefix_len (is_below floor) es) es))) s.past
      ∙ ap (λ (es : List (Entry P)). rows_from sim p t (entry_events es)) (entries-ripe p held.past)
      ∙ rows-lead sim p t held.triple held.past s.leads
