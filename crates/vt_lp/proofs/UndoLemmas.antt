-- Undo: what the code does is the step of each process that it stands for.
use Rattle.std.proofs.Common.{◌≡◌, ℕ, suc, ◌+◌, ◌-◌, ◌≤◌, inl, List, [], ◌∷◌, ◌++◌, map, take, length, true, false, Option, Some, None, if◌then◌else◌, refl, sym, subst, ap, ◌∙◌, arith}
use Rattle.std.specs.List.{All, last_or}
use Rattle.std.specs.Option.{option_and_then}
use Rattle.std.proofs.lemmas.List.{map-append, length_push}
use Rattle.std.proofs.lemmas.List.Elements.{All-from_recursion, recursion_from_All, All-head, All-tail, All-cons, All-nil}
use Rattle.vt_key.specs.promise.Order.{rank_before, rank_same}
use Rattle.vt_key.specs.promise.Queues.{letter_rank, insert_letter}
use Rattle.vt_key.specs.declared.limits.TheConstants.{MAX_COUNT}
use Rattle.vt_key.specs.declared.letter.Letter.{Letter}
use Rattle.vt_key.specs.declared.letter.Sign.TheVariants.{Plus, Minus}
use Rattle.vt_key.proofs.ListLemmas.{every-left, every-right, every-both, every-all, rising-left, rising-across}
use Rattle.vt_stream.specs.inside.Words.{Stream}
use Rattle.vt_model.specs.declared.settings.Config.{Config}
use Rattle.vt_model.specs.promise.Handler.{Handlers}
use Rattle.vt_model.specs.inside.Process.{IsProcessStream}
use Rattle.vt_model.specs.promise.Simulation.{Simulation, Triple, simulation_of}
use Rattle.vt_model.specs.promise.Settings.{end_of}
use Rattle.vt_steps.specs.promise.Letters.{signed}
use Rattle.vt_steps.specs.promise.World.{Entry, LogicalProcess, triple_after}
use Rattle.vt_steps.specs.promise.ProcessSteps.{must_undo, effect_of_undo, undo_process, ProcessEffect}
use Rattle.vt_steps.specs.inside.StandsFor.{entry_of, LeadTo}
use Rattle.vt_steps.proofs.steps.MemoryLemmas.{goes_back}
use Rattle.vt_past.specs.declared.event.PastEvent.{PastEvent}
use Rattle.vt_lp.specs.inside.Held.{HeldProcess, StandsFor, process_memory, remembered, way_back, IsOwnLetter, IsOwnEvent, IsReady, IsWithinRun, IsRisingPast, IsNotPending, IsProcessInside}
use Rattle.vt_lp.specs.inside.Guards.{IsDone}
use Rattle.vt_lp.specs.inside.Past.{must_undo_last}
use Rattle.vt_lp.proofs.AcceptLemmas.{All-insert, holds-insert}
use Rattle.vt_lp.proofs.Ends.{after-differs}

module _ {X : Type 0} where
  last-push : (o : Option X) (xs : List X) (x : X) → last_or o (xs ++ x ∷ []) ≡ Some x
  last-push o [] x = refl
  last-push o (y ∷ ys) x = last-push (Some y) ys x

  take-front : (n : ℕ) (xs : List X) (x : X) → n ≡ length xs → take n (xs ++ x ∷ []) ≡ xs
  take-front n [] x e = ap (λ k. take k (x ∷ [])) e
  take-front n (y ∷ ys) x e =
      let more : n ≡ suc (length ys) = omega (arith, e) in
      ap (λ k. take k (y ∷ ys ++ x ∷ [])) more ∙ ap (λ (zs : List X). y ∷ zs) (take-front (length ys) ys x refl)

  front-of : (xs : List X) (x : X) → take (length (xs ++ x ∷ []) - 1) (xs ++ x ∷ []) ≡ xs
  front-of xs x = let n = length_push xs x in take-front (length (xs ++ x ∷ []) - 1) xs x (omega (arith, n))

  pub All-front : (Q : X → Type 0) (xs : List X) (x : X) → All Q (xs ++ x ∷ []) → All Q xs × Q x
  All-front Q xs x a =
      let all = recursion_from_All Q (xs ++ x ∷ []) a in
      (All-from_recursion Q xs (every-left Q xs (x ∷ []) all), (every-right Q xs (x ∷ []) all).0)

  All-both : (Q R T : X → Type 0) (xs : List X) → ((x : X) → Q x → R x → T x) → All Q xs → All R xs → All T xs
  All-both Q R T xs f a b = All-from_recursion T xs (every-both Q R T xs f (recursion_from_All Q xs a) (recursion_from_All R xs b))

pub length-insert : {P : Type 0} (l : Letter P) (ls : List (Letter P)) → length (insert_letter l ls) ≡ length ls + 1
length-insert l [] = refl
length-insert l (x ∷ xs) =
    let ih = length-insert l xs in
    elim (rank_before (letter_rank l) (letter_rank x)) as (λ b. length (if b then l ∷ x ∷ xs else x ∷ insert_letter l xs) ≡ length (x ∷ xs) + 1) [
      | true ↦ omega arith
      | false ↦ omega (arith, ih)
    ]

-- letters of one sign are their events' letters
minus-again : {P : Type 0} (lps end : ℕ) (ls : List (Letter P)) → All (IsReady lps end) ls → ls ≡ map (signed Minus) (map (λ l. l.event) ls)
minus-again lps end [] all = refl
minus-again lps end (l ∷ ls) all =
    let first = All-head (IsReady lps end) l ls all in
    λ j. record { event = l.event; sign = first.minus j } ∷ minus-again lps end ls (All-tail (IsReady lps end) l ls all) j

pub ready-within : {P : Type 0} (lps end : ℕ) (ls : List (Letter P)) → All (IsReady lps end) ls → All (IsWithinRun lps end) ls
ready-within lps end [] all = All-nil (IsWithinRun lps end)
ready-within lps end (l ∷ ls) all =
    All-cons (IsWithinRun lps end) l ls (All-head (IsReady lps end) l ls all).within (ready-within lps end ls (All-tail (IsReady lps end) l ls all))

module _ {S P K : Type 0} (handlers : Handlers S P K) where
  -- what Undo does at a process whose last past entry this is
  abbrev undo_after : LogicalProcess P → Entry P → Option (ProcessEffect P)
  undo_after h last = if must_undo h.pending h.waiting last.event.rank then Some (effect_of_undo h last) else None

  -- what the value is asked is what the process is asked
  undo-last : (held : HeldProcess S P K) (h : LogicalProcess P) (o : Option (PastEvent P K)) (r : Option (Entry P)) (es : List (PastEvent P K)) →
      h.pending ≡ held.pending → h.waiting ≡ held.waiting → (must_undo_last held.pending held.waiting o ≡ false → option_and_then (undo_after h) r ≡ None) →
      must_undo_last held.pending held.waiting (last_or o es) ≡ false → option_and_then (undo_after h) (last_or r (map entry_of (map (remembered handlers held.lp) es))) ≡ None
  undo-last held h o r [] a b f none = f none
  undo-last held h o r (e ∷ es) a b f none =
      undo-last held h (Some e) (Some (entry_of (remembered handlers held.lp e))) es a b
      (λ no. ap (λ t. if t then Some (effect_of_undo h (entry_of (remembered handlers held.lp e))) else None) ((λ j. must_undo (a j) (b j) e.letter.event.rank) ∙ no)) none

  pub undo-none : (held : HeldProcess S P K) (h : LogicalProcess P) → must_undo_last held.pending held.waiting (last_or None held.past) ≡ false → StandsFor handlers held h →
      undo_process h ≡ None
  undo-none held h none s = ap (λ (es : List (Entry P)). option_and_then (undo_after h) (last_or None es)) s.past ∙ undo-last held h None None held.past s.pending s.waiting (λ e. refl) none

  -- the step of each process that the value stands for
  pub undoes : (held : HeldProcess S P K) (h : LogicalProcess P) (past : List (PastEvent P K)) (e : PastEvent P K) (q : ℕ) (now : Triple S) (pending outbox new_outbox : List (Letter P)) →
      StandsFor handlers held h → held.past ≡ past ++ e ∷ [] → must_undo_last held.pending held.waiting (last_or None held.past) ≡ true → IsOwnEvent held.config held.lp e →
      q ≡ held.lp → now ≡ way_back handlers q e held.triple → pending ≡ insert_letter e.letter held.pending → new_outbox ≡ outbox ++ e.undo_entry.anti_messages →
      IsDone handlers (record { lp = held.lp; config = held.config; triple = now; past = past; pending = pending; waiting = held.waiting }) (undo_process h) outbox new_outbox 0 0
  unfolding effect_of_undo
  undoes held h past e q now pending outbox new_outbox s longer forced mine own back put box =
      let p : ℕ = held.lp in
      let sim : Simulation S P = simulation_of handlers held.config in
      let entry : Entry P = entry_of (remembered handlers p e) in
      let shorter : map (remembered handlers p) held.past ≡ map (remembered handlers p) past ++ remembered handlers p e ∷ [] =
      ap (map (remembered handlers p)) longer ∙ map-append (remembered handlers p) past (e ∷ []) in
      let past_is : h.past ≡ map entry_of (map (remembered handlers p) past) ++ entry ∷ [] =
      s.past ∙ ap (map entry_of) shorter ∙ map-append entry_of (map (remembered handlers p) past) (remembered handlers p e ∷ []) in
      let last_is : last_or None h.past ≡ Some entry = ap (λ (es : List (Entry P)). last_or None es) past_is ∙ last-push None (map entry_of (map (remembered handlers p) past)) entry in
      let front_is : take (length h.past - 1) h.past ≡ map entry_of (map (remembered handlers p) past) =
      ap (λ (es : List (Entry P)). take (length es - 1) es) past_is ∙ front-of (map entry_of (map (remembered handlers p) past)) entry in
      let must : must_undo h.pending h.waiting e.letter.event.rank ≡ true =
      (λ j. must_undo (s.pending j) (s.waiting j) e.letter.event.rank)
      ∙ ap (must_undo_last held.pending held.waiting) (sym (ap (λ (es : List (PastEvent P K)). last_or None es) longer ∙ last-push None past e)) ∙ forced in
      let gone = goes_back sim p (process_memory handlers held) h (map (remembered handlers p) past) (remembered handlers p e) s shorter in
      let plus : signed Plus e.letter.event ≡ e.letter = λ j. record { event = e.letter.event; sign = sym mine.own.signed j } in
      record {
        effect = effect_of_undo h entry;
        lawful = ap (option_and_then (undo_after h)) last_is ∙ ap (λ t. if t then Some (effect_of_undo h entry) else None) must;
        stands = record {
          past = front_is;
          pending = (λ j. insert_letter (plus j) (s.pending j)) ∙ sym put;
          waiting = s.waiting;
          leads = subst (λ (t : Triple S). LeadTo sim p (triple_after sim p h.done) (map (remembered handlers p) past) t)
              (ap (λ d. way_back handlers d e held.triple) (sym own) ∙ sym back) gone.leads;
        };
        letters = box ∙ ap (λ (xs : List (Letter P)). outbox ++ xs) (minus-again held.config.lps (end_of held.config) e.undo_entry.anti_messages mine.ready);
        serials = refl;
      }

-- ---- what a process keeps to

module _ {P K : Type 0} where
  -- the last one's rank is no other's
  others : (es : List (PastEvent P K)) (e : PastEvent P K) → IsRisingPast (es ++ e ∷ []) → All (λ d. rank_same e.letter.event.rank d.letter.event.rank ≡ false) es
  others es e rises =
      All-from_recursion (λ (d : PastEvent P K). rank_same e.letter.event.rank d.letter.event.rank ≡ false) es
      (every-all _ es (λ d m. after-differs d.letter.event.rank e.letter.event.rank (rising-across _ es (e ∷ []) rises d e m (inl refl))))

  -- the last past event is pending again
  pub inside-less : (config : Config) (p number new_number : ℕ) (stream new_stream : Stream) (past : List (PastEvent P K)) (pending waiting new_pending : List (Letter P)) (es : List (PastEvent P K))
      (e : PastEvent P K) → IsProcessInside config p number stream past pending waiting → past ≡ es ++ e ∷ [] → new_number ≤ MAX_COUNT → IsProcessStream config.seed p new_stream →
      new_pending ≡ insert_letter e.letter pending → IsProcessInside config p new_number new_stream es new_pending waiting
  inside-less config p number new_number stream new_stream past pending waiting new_pending es e inside longer few own put =
      let mine = All-front (IsOwnEvent config p) es e (subst (λ (xs : List (PastEvent P K)). All (IsOwnEvent config p) xs) longer inside.own_past) in
      let apart = All-front (IsNotPending pending) es e (subst (λ (xs : List (PastEvent P K)). All (IsNotPending pending) xs) longer inside.apart) in
      let rises = subst IsRisingPast longer inside.rising in
      subst (λ (ls : List (Letter P)). IsProcessInside config p new_number new_stream es ls waiting) (sym put) (record {
        known = inside.known;
        few_sends = few;
        own_stream = own;
        own_pending = All-insert (IsOwnLetter p (end_of config) Plus) e.letter pending mine.1.own inside.own_pending;
        own_waiting = inside.own_waiting;
        own_past = mine.0;
        rising = rising-left _ es (e ∷ []) rises;
        apart = All-both (IsNotPending pending) (λ d. rank_same e.letter.event.rank d.letter.event.rank ≡ false) (IsNotPending (insert_letter e.letter pending)) es
            (λ d not_there other. holds-insert d.letter.event.rank e.letter pending other not_there) apart.0 (others es e rises);
      })
