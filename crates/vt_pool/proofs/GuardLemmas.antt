-- When a step may be done: an event that may follow, one that has to be undone, and a letter that isn't held.
use Rattle.std.proofs.Common.{◌≡◌, ◌∙◌, ◌||◌, ℕ, Bool, true, false, not, List, [], ◌∷◌, refl, sym, ap, subst, inl, inr, Option, Some, None}
use Rattle.std.specs.List.{last_or, list_any, AllByRecursion}
use Rattle.std.proofs.lemmas.Bool.{cases_Bool, eqb-true}
use Rattle.vt_key.specs.promise.Order.{rank_before, rank_same}
use Rattle.vt_key.specs.inside.Order.{RankBefore}
use Rattle.vt_key.specs.promise.Queues.{letter_rank, has_rank}
use Rattle.vt_key.specs.promise.Lists.{Among}
use Rattle.vt_key.specs.declared.order.Rank.{Rank}
use Rattle.vt_key.specs.declared.letter.Letter.{Letter}
use Rattle.vt_key.specs.declared.letter.Sign.{Sign}
use Rattle.vt_key.specs.declared.letter.Sign.TheVariants.{Plus, Minus}
use Rattle.vt_key.proofs.ListLemmas.{every-both, every-last, every-filter, every-weaker, among-filter}
use Rattle.vt_key.proofs.OrderLemmas.{rank_same-true, before-rank_before}
use Rattle.vt_model.specs.declared.settings.Config.{Config}
use Rattle.vt_past.specs.declared.event.PastEvent.{PastEvent}
use Rattle.vt_lp.specs.inside.Guards.{may_come_after, holds_letter}
use Rattle.vt_lp.specs.inside.Past.{must_undo_last}
use Rattle.vt_pool.specs.inside.View.{Placed, is_at, past_at, is_to, letters_to, number_at}
use Rattle.vt_pool.specs.inside.Inside.{IsWorkersEvent, ComesAfter, placed_rank}
use Rattle.vt_pool.proofs.ViewLemmas.{past-here, past-elsewhere, to-own}

-- ---- lists and tests

module _ {X : Type 0} (test : X → Bool) where
  or-true : (b : Bool) → b || true ≡ true
  or-true true = refl
  or-true false = refl

  pub any-among : (xs : List X) (x : X) → Among x xs → test x ≡ true → list_any test xs ≡ true
  any-among [] x among is = elim among [ ]
  any-among (y ∷ ys) x among is = elim among [
    | inl same ↦ ap (λ (b : Bool). b || list_any test ys) (ap test (sym same) ∙ is)
    | inr more ↦ ap (λ (b : Bool). test y || b) (any-among ys x more is) ∙ or-true (test y)
  ]

  pub none-any : (xs : List X) → AllByRecursion (λ x. test x ≡ false) xs → list_any test xs ≡ false
  none-any [] all = refl
  none-any (x ∷ xs) all = ap (λ (b : Bool). b || list_any test xs) all.0 ∙ none-any xs all.1

-- ranks of different stamps differ
pub differs-by_stamp : (a b : Rank) → (a.stamp ≡ b.stamp → ⊥) → rank_same a b ≡ false
differs-by_stamp a b apart = elim (cases_Bool (rank_same a b)) [ inl is ↦ absurd (apart (ap (λ (r : Rank). r.stamp) (rank_same-true a b is))) | inr is ↦ is ]

module _ {P K : Type 0} where
  -- what each past event of a process has
  pub every-past_at : (Q : PastEvent P K → Type 0) (i : ℕ) (es : List (Placed P K)) → AllByRecursion (λ (e : Placed P K). e.index ≡ i → Q e.event) es → AllByRecursion Q (past_at i es)
  every-past_at Q i [] all = tt
  every-past_at Q i (e ∷ es) all = elim (cases_Bool (is_at i e)) [
    | inl is ↦ subst (AllByRecursion Q) (sym (past-here i e es is)) (all.0 (eqb-true e.index i is), every-past_at Q i es all.1)
    | inr is ↦ subst (AllByRecursion Q) (sym (past-elsewhere i e es is)) (every-past_at Q i es all.1)
  ]

  -- ---- Execute

  after-all : (es : List (PastEvent P K)) (rank : Rank) → AllByRecursion (λ (e : PastEvent P K). RankBefore e.letter.event.rank rank) es → may_come_after (last_or None es) rank ≡ true
  after-all es rank all = by (last_or None es) refl
    where
      by : (o : Option (PastEvent P K)) → last_or None es ≡ o → may_come_after (last_or None es) rank ≡ true
      by None at = ap (λ o. may_come_after o rank) at
      by (Some e) at =
          ap (λ o. may_come_after o rank) at
          ∙ before-rank_before e.letter.event.rank rank (every-last (λ (d : PastEvent P K). RankBefore d.letter.event.rank rank) es e at all)

  -- a letter after all past events of its process may be executed
  pub may-execute : (config : Config) (w i : ℕ) (letter : Letter P) (es : List (Placed P K)) → AllByRecursion (IsWorkersEvent config w) es → ComesAfter es letter → letter.event.dest ≡ number_at config w i
      → may_come_after (last_or None (past_at i es)) letter.event.rank ≡ true
  may-execute config w i letter es own after dest =
      after-all (past_at i es) letter.event.rank (every-past_at (λ (e : PastEvent P K). RankBefore e.letter.event.rank letter.event.rank) i es
      (every-both (IsWorkersEvent config w) (λ (e : Placed P K). e.event.letter.event.dest ≡ letter.event.dest → RankBefore (placed_rank e) (letter_rank letter))
      (λ (e : Placed P K). e.index ≡ i → RankBefore (placed_rank e) (letter_rank letter)) es
      (λ e mine before at. before (mine.own.own.dest ∙ ap (number_at config w) at ∙ sym dest)) own after))

  -- ---- Undo

  module _ (p : ℕ) (e : PastEvent P K) (pending waiting : List (Letter P)) where
    -- a pending message is before the event
    pub forced-by_message : (letter : Letter P) → Among letter pending → letter.event.dest ≡ p → RankBefore letter.event.rank e.letter.event.rank
        → must_undo_last (letters_to p pending) (letters_to p waiting) (Some e) ≡ true
    forced-by_message letter among dest before =
        ap (λ (b : Bool). b || list_any (λ (l : Letter P). not (rank_before e.letter.event.rank l.event.rank)) (letters_to p waiting))
        (any-among (λ (l : Letter P). rank_before l.event.rank e.letter.event.rank) (letters_to p pending) letter (among-filter (is_to p) letter pending among (to-own p letter dest))
        (before-rank_before letter.event.rank e.letter.event.rank before))

    -- a waiting anti-message isn't after it
    pub forced-by_anti_message : (letter : Letter P) → Among letter waiting → letter.event.dest ≡ p → rank_before e.letter.event.rank letter.event.rank ≡ false
        → must_undo_last (letters_to p pending) (letters_to p waiting) (Some e) ≡ true
    forced-by_anti_message letter among dest late =
        let test = λ (l : Letter P). not (rank_before e.letter.event.rank l.event.rank) in
        let some = list_any (λ (l : Letter P). rank_before l.event.rank e.letter.event.rank) (letters_to p pending) in
        ap (λ (b : Bool). some || b) (any-among test (letters_to p waiting) letter (among-filter (is_to p) letter waiting among (to-own p letter dest)) (ap not late)) ∙ or-true test some

  -- ---- a letter that comes

  module _ (p i : ℕ) (letter : Letter P) (pending waiting : List (Letter P)) (past : List (Placed P K)) where
    -- no letter has its stamp
    none-of : (letters : List (Letter P)) → AllByRecursion (λ (l : Letter P). (letter_rank l).stamp ≡ (letter_rank letter).stamp → ⊥) letters → list_any (has_rank letter.event.rank) (letters_to p letters) ≡ false
    none-of letters apart =
        none-any (has_rank letter.event.rank) (letters_to p letters) (every-filter (λ (l : Letter P). has_rank letter.event.rank l ≡ false) (is_to p) letters
        (every-weaker _ (λ (l : Letter P). has_rank letter.event.rank l ≡ false) letters (λ l other. differs-by_stamp (letter_rank l) letter.event.rank other) apart))

    -- a message whose stamp no other message has
    pub new-message : letter.sign ≡ Plus → AllByRecursion (λ (l : Letter P). (letter_rank l).stamp ≡ (letter_rank letter).stamp → ⊥) pending
        → AllByRecursion (λ (e : Placed P K). (placed_rank e).stamp ≡ (letter_rank letter).stamp → ⊥) past
        → holds_letter (letters_to p pending) (letters_to p waiting) (past_at i past) letter.sign letter.event.rank ≡ false
    new-message sign apart apart_past =
        let test = λ (e : PastEvent P K). rank_same e.letter.event.rank letter.event.rank in
        let none = none-any test (past_at i past) (every-past_at (λ (e : PastEvent P K). test e ≡ false) i past
        (every-weaker _ (λ (e : Placed P K). e.index ≡ i → test e.event ≡ false) past (λ e other at. differs-by_stamp (placed_rank e) letter.event.rank other) apart_past)) in
        ap (λ (s : Sign). holds_letter (letters_to p pending) (letters_to p waiting) (past_at i past) s letter.event.rank) sign
        ∙ (λ j. none-of pending apart j || none j)

    -- an anti-message whose stamp no other waiting one has
    pub new-anti_message : letter.sign ≡ Minus → AllByRecursion (λ (l : Letter P). (letter_rank l).stamp ≡ (letter_rank letter).stamp → ⊥) waiting
        → holds_letter (letters_to p pending) (letters_to p waiting) (past_at i past) letter.sign letter.event.rank ≡ false
    new-anti_message sign apart =
        ap (λ (s : Sign). holds_letter (letters_to p pending) (letters_to p waiting) (past_at i past) s letter.event.rank) sign ∙ none-of waiting apart
