-- A letter that comes: what the process keeps to, and the step of each process that it stands for.
use Rattle.std.proofs.Common.{◌≡◌, ◌||◌, inl, inr, Bool, true, false, if◌then◌else◌, ℕ, List, [], ◌∷◌, Some, None, Result, Ok, Err, IfOk, IfErr, map, refl, sym, subst, ◌∙◌, ap}
use Rattle.std.specs.Prelude.{All}
use Rattle.std.specs.List.{list_any}
use Rattle.std.proofs.lemmas.List.Elements.{All-from_recursion, recursion_from_All, All-nil, All-cons, All-head, All-tail}
use Rattle.std.proofs.lemmas.Bool.{cases_Bool}
use Rattle.vt_key.proofs.RisingLemmas.{first-false, second-false}
use Rattle.vt_key.specs.promise.Order.{rank_before, rank_same}
use Rattle.vt_key.specs.promise.Queues.{has_rank, insert_letter, letter_rank}
use Rattle.vt_key.specs.inside.Queues.{holds_rank}
use Rattle.vt_key.specs.declared.order.Rank.{Rank}
use Rattle.vt_key.specs.declared.letter.Letter.{Letter}
use Rattle.vt_key.specs.declared.letter.Sign.{Sign}
use Rattle.vt_key.specs.declared.letter.Sign.TheVariants.{Plus, Minus}
use Rattle.vt_key.proofs.ListLemmas.{every-insert_ordered}
use Rattle.vt_key.proofs.OrderLemmas.{rank_same-true, same-rank_same}
use Rattle.vt_stream.specs.inside.Words.{Stream}
use Rattle.vt_model.specs.declared.settings.Config.{Config}
use Rattle.vt_model.specs.promise.Handler.{Handlers}
use Rattle.vt_model.specs.promise.Settings.{end_of}
use Rattle.vt_steps.specs.promise.World.{LogicalProcess, entry_rank}
use Rattle.vt_steps.specs.inside.StandsFor.{entry_of}
use Rattle.vt_steps.specs.promise.ProcessSteps.{ProcessEffect, holds, with_letter, accept_process}
use Rattle.vt_past.specs.declared.event.PastEvent.{PastEvent}
use Rattle.vt_lp.specs.inside.Held.{HeldProcess, StandsFor, remembered, IsOwnLetter, IsNotPending, IsProcessInside}
use Rattle.vt_lp.specs.inside.Guards.{IsDone, holds_letter}

-- ---- what a queue answers

-- what holds after either answer
pub either : {A E : Type 0} {Q R : A → Type 0} {S : E → Type 0} {T : Type 0} (result : Result A E) → ((a : A) → Q a → R a → T) → ((e : E) → S e → T) → IfOk result Q → IfOk result R → IfErr result S → T
either (Ok a) done refused q r s = done a q r
either (Err e) done refused q r s = refused e s

pub ok-is : {A E : Type 0} {T : Type 0} (result : Result A E) (a : A) → result ≡ Ok a → IfOk result (λ _. T) → T
ok-is (Ok b) a is t = t
ok-is (Err e) a is t = absurd (let h : Err e ≡ Ok a = is in cc)

pub err-is : {A E : Type 0} {T : Type 0} (result : Result A E) (e : E) → result ≡ Err e → IfErr result (λ _. T) → T
err-is (Ok a) e is t = absurd (let h : Ok a ≡ Err e = is in cc)
err-is (Err d) e is t = t

-- ---- what the process keeps to

module _ {P : Type 0} where
  -- what each letter has, and the new one, each has with the new one in its place
  pub All-insert : (Q : Letter P → Type 0) (x : Letter P) (ls : List (Letter P)) → Q x → All Q ls → All Q (insert_letter x ls)
  All-insert Q x ls q all = All-from_recursion Q (insert_letter x ls) (every-insert_ordered (λ a b. rank_before (letter_rank a) (letter_rank b)) Q x ls q (recursion_from_All Q ls all))

  -- a rank that is neither among the letters nor the new one's
  pub holds-insert : (r : Rank) (x : Letter P) (ls : List (Letter P)) → rank_same (letter_rank x) r ≡ false → holds_rank r ls ≡ false → holds_rank r (insert_letter x ls) ≡ false
  holds-insert r x [] other none = ap (λ b. b || false) other
  holds-insert r x (l ∷ ls) other none = elim (rank_before (letter_rank x) (letter_rank l)) as (λ b. holds_rank r (if b then x ∷ l ∷ ls else l ∷ insert_letter x ls) ≡ false) [
    | true ↦ ap (λ b. b || holds_rank r (l ∷ ls)) other ∙ none
    | false ↦
        let here = first-false (has_rank r l) (holds_rank r ls) none in
        let there = second-false (has_rank r l) (holds_rank r ls) none in
        ap (λ b. b || holds_rank r (insert_letter x ls)) here ∙ holds-insert r x ls other there
  ]

-- sameness of ranks goes both ways
differs : (a b : Rank) → rank_same a b ≡ false → rank_same b a ≡ false
differs a b other = elim (cases_Bool (rank_same b a)) [
  | inl is ↦ absurd (let e : true ≡ false = sym (subst (λ (r : Rank). rank_same r b ≡ true) (rank_same-true b a is) (same-rank_same b)) ∙ other in cc)
  | inr is ↦ is
]

module _ {P K : Type 0} where
  -- past events of other ranks stay apart from what is pending
  apart-insert : (x : Letter P) (ls : List (Letter P)) (past : List (PastEvent P K)) → list_any (λ e. rank_same e.letter.event.rank (letter_rank x)) past ≡ false →
      All (IsNotPending ls) past → All (IsNotPending (insert_letter x ls)) past
  apart-insert x ls [] none apart = All-nil (IsNotPending (insert_letter x ls))
  apart-insert x ls (e ∷ es) none apart =
      let here = first-false (rank_same e.letter.event.rank (letter_rank x)) (list_any (λ (d : PastEvent P K). rank_same d.letter.event.rank (letter_rank x)) es) none in
      let there = second-false (rank_same e.letter.event.rank (letter_rank x)) (list_any (λ (d : PastEvent P K). rank_same d.letter.event.rank (letter_rank x)) es) none in
      All-cons (IsNotPending (insert_letter x ls)) e es
      (holds-insert e.letter.event.rank x ls (differs e.letter.event.rank (letter_rank x) here) (All-head (IsNotPending ls) e es apart))
      (apart-insert x ls es there (All-tail (IsNotPending ls) e es apart))

  -- a message more
  pub inside-message : (config : Config) (p number : ℕ) (stream : Stream) (past : List (PastEvent P K)) (pending waiting new : List (Letter P)) (x : Letter P) →
      new ≡ insert_letter x pending → IsOwnLetter p (end_of config) Plus x → holds_letter pending waiting past Plus (letter_rank x) ≡ false →
      IsProcessInside config p number stream past pending waiting → IsProcessInside config p number stream past new waiting
  inside-message config p number stream past pending waiting new x is own never i =
      let none = second-false (list_any (has_rank (letter_rank x)) pending) (list_any (λ (e : PastEvent P K). rank_same e.letter.event.rank (letter_rank x)) past) never in
      record {
        known = i.known;
        few_sends = i.few_sends;
        own_stream = i.own_stream;
        own_pending = subst (λ (ls : List (Letter P)). All (IsOwnLetter p (end_of config) Plus) ls) (sym is) (All-insert (IsOwnLetter p (end_of config) Plus) x pending own i.own_pending);
        own_waiting = i.own_waiting;
        own_past = i.own_past;
        rising = i.rising;
        apart = subst (λ (ls : List (Letter P)). All (IsNotPending ls) past) (sym is) (apart-insert x pending past none i.apart);
      }

  -- an anti-message more
  pub inside-anti_message : (config : Config) (p number : ℕ) (stream : Stream) (past : List (PastEvent P K)) (pending waiting new : List (Letter P)) (x : Letter P) →
      new ≡ insert_letter x waiting → IsOwnLetter p (end_of config) Minus x → IsProcessInside config p number stream past pending waiting →
      IsProcessInside config p number stream past pending new
  inside-anti_message config p number stream past pending waiting new x is own i = record {
    known = i.known;
    few_sends = i.few_sends;
    own_stream = i.own_stream;
    own_pending = i.own_pending;
    own_waiting = subst (λ (ls : List (Letter P)). All (IsOwnLetter p (end_of config) Minus) ls) (sym is) (All-insert (IsOwnLetter p (end_of config) Minus) x waiting own i.own_waiting);
    own_past = i.own_past;
    rising = i.rising;
    apart = i.apart;
  }

-- ---- the step

module _ {S P K : Type 0} (handlers : Handlers S P K) where
  any-past : (p : ℕ) (rank : Rank) (es : List (PastEvent P K)) →
      list_any (λ e. rank_same e.event.rank rank) (map entry_of (map (remembered handlers p) es)) ≡ list_any (λ e. rank_same e.letter.event.rank rank) es
  any-past p rank [] = refl
  any-past p rank (e ∷ es) = ap (λ b. rank_same e.letter.event.rank rank || b) (any-past p rank es)

  -- what a process holds is what the process that it stands for holds
  holds-is : (held : HeldProcess S P K) (h : LogicalProcess P) (sign : Sign) (rank : Rank) → StandsFor handlers held h →
      holds entry_rank h.pending h.waiting h.past sign rank ≡ holds_letter held.pending held.waiting held.past sign rank
  holds-is held h Plus rank s =
      (λ j. list_any (has_rank rank) (s.pending j) || list_any (λ e. rank_same e.event.rank rank) (s.past j))
      ∙ ap (λ b. list_any (has_rank rank) held.pending || b) (any-past held.lp rank held.past)
  holds-is held h Minus rank s = ap (list_any (has_rank rank)) s.waiting

  -- what comes of a letter
  abbrev pub accepted : LogicalProcess P → Sign → Letter P → ProcessEffect P
  accepted h sign letter = record { process = with_letter h sign letter; letters = []; serials = 0 }

  pub accept-by : (held : HeldProcess S P K) (h : LogicalProcess P) (letter : Letter P) (b : Bool) → holds_letter held.pending held.waiting held.past letter.sign letter.event.rank ≡ b →
      StandsFor handlers held h → accept_process letter h ≡ (if b then None else Some (accepted h letter.sign letter))
  unfolding accept_process
  accept-by held h letter b is s = ap (λ (t : Bool). if t then None else Some (accepted h letter.sign letter)) (holds-is held h letter.sign letter.event.rank s ∙ is)

  -- it is refused where it is held
  pub accept-none : (held : HeldProcess S P K) (h : LogicalProcess P) (letter : Letter P) →
      holds_letter held.pending held.waiting held.past letter.sign letter.event.rank ≡ true → StandsFor handlers held h → accept_process letter h ≡ None
  accept-none held h letter is s = accept-by held h letter true is s

  -- a message is pending from now on
  pub accepts-message : (held : HeldProcess S P K) (h : LogicalProcess P) (letter : Letter P) (new : List (Letter P)) → letter.sign ≡ Plus → new ≡ insert_letter letter held.pending →
      holds_letter held.pending held.waiting held.past letter.sign letter.event.rank ≡ false → StandsFor handlers held h →
      IsDone handlers (record held { pending = new }) (accept_process letter h) [] [] 0 0
  accepts-message held h letter new sign is never s = record {
    effect = accepted h Plus letter;
    lawful = accept-by held h letter false never s ∙ ap (λ (g : Sign). Some (accepted h g letter)) sign;
    stands = record { past = s.past; pending = ap (λ ls. insert_letter letter ls) s.pending ∙ sym is; waiting = s.waiting; leads = s.leads };
    letters = refl;
    serials = refl;
  }

  -- an anti-message waits
  pub accepts-anti_message : (held : HeldProcess S P K) (h : LogicalProcess P) (letter : Letter P) (new : List (Letter P)) → letter.sign ≡ Minus →
      new ≡ insert_letter letter held.waiting → holds_letter held.pending held.waiting held.past letter.sign letter.event.rank ≡ false → StandsFor handlers held h →
      IsDone handlers (record held { waiting = new }) (accept_process letter h) [] [] 0 0
  accepts-anti_message held h letter new sign is never s = record {
    effect = accepted h Minus letter;
    lawful = accept-by held h letter false never s ∙ ap (λ (g : Sign). Some (accepted h g letter)) sign;
    stands = record { past = s.past; pending = s.pending; waiting = ap (λ ls. insert_letter letter ls) s.waiting ∙ sym is; leads = s.leads };
    letters = refl;
    serials = refl;
  }
