-- Each pending letter is after all past events of its process: so it stays, or so it is again once a letter has come.
use Rattle.std.proofs.Common.{◌≡◌, ◌∙◌, ◌⊎◌, ℕ, ◌/◌, ◌<◌, Bool, true, false, List, [], ◌∷◌, ◌++◌, refl, sym, ap, subst, inl, inr, if◌then◌else◌, Option, Some, None, suc, arith}
use Rattle.std.specs.List.{find, last_or, list_any, AllByRecursion}
use Rattle.std.proofs.lemmas.Bool.{cases_Bool, eq-eqb}
use Rattle.vt_key.specs.promise.Order.{rank_before}
use Rattle.vt_key.specs.inside.Order.{RankBefore}
use Rattle.vt_key.specs.promise.Queues.{insert_letter, without_first, letter_rank, has_rank}
use Rattle.vt_key.specs.inside.Queues.{holds_rank, IsRising}
use Rattle.vt_key.specs.promise.Lists.{Among}
use Rattle.vt_key.specs.declared.order.Rank.{Rank}
use Rattle.vt_key.specs.declared.letter.Letter.{Letter}
use Rattle.vt_key.proofs.ListLemmas.{every-append, every-right, every-both, every-weaker, every-all, every-among, every-insert_ordered, every-without_first, same-element, no_last}
use Rattle.vt_key.proofs.OrderLemmas.{rank-transitive, same-rank_same}
use Rattle.vt_key.proofs.RisingLemmas.{first-false, second-false}
use Rattle.vt_model.specs.declared.settings.Config.{Config}
use Rattle.vt_model.specs.promise.Simulation.{Triple}
use Rattle.vt_past.specs.declared.event.PastEvent.{PastEvent}
use Rattle.vt_pool.specs.inside.View.{Placed, Stock, is_at, past_at, without_last_at, number_at}
use Rattle.vt_pool.specs.inside.Steps.{executed_in, undone_in, cancelled_in}
use Rattle.vt_pool.specs.inside.Inside.{IsWorkersEvent, AreRisingPasts, ComesAfter, AreSettled, placed_rank, IsStockInside}
use Rattle.vt_pool.specs.inside.Share.{AreSettledBut}
use Rattle.vt_pool.proofs.ViewLemmas.{number-index, past-here, past-elsewhere}
use Rattle.vt_pool.proofs.InsideLemmas.{IsLastThere, last-there, every-left_there, every-last_there}

-- ---- past events of one process

-- the indexes are one where the numbers are
one-index : (config : Config) (w : ℕ) → w < config.workers → (i j : ℕ) → number_at config w i ≡ number_at config w j → i ≡ j
one-index config w known i j same = sym (number-index config w known i) ∙ ap (λ n. n / config.workers) same ∙ number-index config w known j

module _ {P K : Type 0} where
  -- what holds of a process's past events holds of each of them among all
  every-placed : (Q : PastEvent P K → Type 0) (i : ℕ) (es : List (Placed P K)) → AllByRecursion Q (past_at i es) → AllByRecursion (λ (e : Placed P K). e.index ≡ i → Q e.event) es
  every-placed Q i [] all = tt
  every-placed Q i (e ∷ es) all = elim (cases_Bool (is_at i e)) [
    | inl is ↦ (let both = subst (AllByRecursion Q) (past-here i e es is) all in (λ at. both.0, every-placed Q i es both.1))
    | inr is ↦ (
      λ at. absurd (let k : true ≡ false = sym (eq-eqb e.index i at) ∙ is in cc),
      every-placed Q i es (subst (AllByRecursion Q) (past-elsewhere i e es is) all),
    )
  ]

  -- none of these is of a process
  none-placed : (Q : Placed P K → Type 0) (i : ℕ) (es : List (Placed P K)) → list_any (is_at i) es ≡ false → AllByRecursion (λ (e : Placed P K). e.index ≡ i → Q e) es
  none-placed Q i [] none = tt
  none-placed Q i (e ∷ es) none = (
    λ at. absurd (let k : true ≡ false = sym (eq-eqb e.index i at) ∙ first-false (is_at i e) (list_any (is_at i) es) none in cc),
    none-placed Q i es (second-false (is_at i e) (list_any (is_at i) es) none),
  )

  -- those before one in the middle are before it
  before-middle : (i : ℕ) (event : PastEvent P K) (front back : List (Placed P K)) → AreRisingPasts (front ++ record { index = i; event = event } ∷ back)
      → AllByRecursion (λ (d : Placed P K). d.index ≡ i → RankBefore (placed_rank d) event.letter.event.rank) front
  before-middle i event [] back rises = tt
  before-middle i event (d ∷ front) back rises = ((every-right _ front (record { index = i; event = event } ∷ back) rises.0).0, before-middle i event front back rises.1)

  -- what is left without the last event of a process is before that
  before-last : (i : ℕ) (event : PastEvent P K) (es : List (Placed P K)) → IsLastThere i event es → AreRisingPasts es
      → AllByRecursion (λ (d : Placed P K). d.index ≡ i → RankBefore (placed_rank d) event.letter.event.rank) (without_last_at i es)
  before-last i event es t rises =
      let Q = λ (d : Placed P K). d.index ≡ i → RankBefore (placed_rank d) event.letter.event.rank in
      subst (AllByRecursion Q) (sym t.left)
      (every-append Q t.front t.back (before-middle i event t.front t.back (subst AreRisingPasts t.whole rises))
      (none-placed (λ (d : Placed P K). RankBefore (placed_rank d) event.letter.event.rank) i t.back t.none_after))

  -- all are before what comes after the last one
  before-all : (i : ℕ) (event : PastEvent P K) (es : List (Placed P K)) (rank : Rank) → IsLastThere i event es → AreRisingPasts es → RankBefore event.letter.event.rank rank
      → AllByRecursion (λ (d : Placed P K). d.index ≡ i → RankBefore (placed_rank d) rank) es
  before-all i event es rank t rises before =
      let Q = λ (d : Placed P K). d.index ≡ i → RankBefore (placed_rank d) rank in
      subst (AllByRecursion Q) (sym t.whole)
      (every-append Q t.front (record { index = i; event = event } ∷ t.back)
      (every-weaker _ Q t.front (λ d early at. rank-transitive (placed_rank d) event.letter.event.rank rank (early at) before) (before-middle i event t.front t.back (subst AreRisingPasts t.whole rises)))
      ((λ at. before), none-placed (λ (d : Placed P K). RankBefore (placed_rank d) rank) i t.back t.none_after))

-- ---- steps

module _ {S P K : Type 0} {config : Config} {w : ℕ} {stock : Stock S P K} (known : w < config.workers) (h : IsStockInside config w stock) where
  -- events of the letter's process stand at its index
  by-index : (i : ℕ) (rank : Rank) (letter : Letter P) (es : List (Placed P K)) → letter.event.dest ≡ number_at config w i → letter_rank letter ≡ rank → AllByRecursion (IsWorkersEvent config w) es
      → AllByRecursion (λ (d : Placed P K). d.index ≡ i → RankBefore (placed_rank d) rank) es → ComesAfter es letter
  by-index i rank letter es dest is own before =
      every-both (IsWorkersEvent config w) (λ (d : Placed P K). d.index ≡ i → RankBefore (placed_rank d) rank)
      (λ (d : Placed P K). d.event.letter.event.dest ≡ letter.event.dest → RankBefore (placed_rank d) (letter_rank letter)) es
      (λ d mine early same. subst (RankBefore (placed_rank d)) (sym is) (early (one-index config w known d.index i (sym mine.own.own.dest ∙ same ∙ dest)))) own before

  -- after Undo all but those of a rank are so again
  pub undone-settled : (rank : Rank) (i : ℕ) (event : PastEvent P K) (now : Triple S) → last_or None (past_at i stock.past) ≡ Some event → AreSettledBut rank stock → AreSettledBut rank (undone_in i event now stock)
  undone-settled rank i event now last settled =
      let t = last-there i event stock.past last in
      let mine = every-last_there i event stock.past t (IsWorkersEvent config w) h.own_past in
      let left = without_last_at i stock.past in
      let Q = λ (l : Letter P). (letter_rank l ≡ rank) ⊎ ComesAfter left l in
      every-insert_ordered (λ (a b : Letter P). rank_before (letter_rank a) (letter_rank b)) Q event.letter stock.pending
      (inr (by-index i event.letter.event.rank event.letter left mine.own.own.dest refl (every-left_there i event stock.past t (IsWorkersEvent config w) h.own_past) (before-last i event stock.past t h.pasts_rise)))
      (every-weaker _ Q stock.pending
      (λ l either. elim either [
        | inl is ↦ inl is
        | inr after ↦ inr (every-left_there i event stock.past t (λ (d : Placed P K). d.event.letter.event.dest ≡ l.event.dest → RankBefore (placed_rank d) (letter_rank l)) after)
      ]) settled)

  -- the letter of that rank comes after the last past event of its process: so all are settled
  pub settled-again : (i : ℕ) (letter : Letter P) → Among letter stock.pending → letter.event.dest ≡ number_at config w i
      → ((event : PastEvent P K) → last_or None (past_at i stock.past) ≡ Some event → RankBefore event.letter.event.rank (letter_rank letter)) → AreSettledBut (letter_rank letter) stock → AreSettled stock
  settled-again i letter among dest late settled =
      let early : AllByRecursion (λ (d : Placed P K). d.index ≡ i → RankBefore (placed_rank d) (letter_rank letter)) stock.past = by (last_or None (past_at i stock.past)) refl in
      let after : ComesAfter stock.past letter = by-index i (letter_rank letter) letter stock.past dest refl h.own_past early in
      every-all (ComesAfter stock.past) stock.pending (λ l there. elim (every-among _ stock.pending l settled there) [
        | inl is ↦
            let same : l ≡ letter = same-element (λ (x : Letter P). (letter_rank x).stamp) stock.pending h.pending_stamps l letter there among (ap (λ (r : Rank). r.stamp) is) in
            subst (ComesAfter stock.past) (sym same) after
        | inr so ↦ so
      ])
    where
      by : (o : Option (PastEvent P K)) → last_or None (past_at i stock.past) ≡ o → AllByRecursion (λ (d : Placed P K). d.index ≡ i → RankBefore (placed_rank d) (letter_rank letter)) stock.past
      by None at =
          every-placed (λ (d : PastEvent P K). RankBefore d.letter.event.rank (letter_rank letter)) i stock.past
          (subst (AllByRecursion (λ (d : PastEvent P K). RankBefore d.letter.event.rank (letter_rank letter))) (sym (no_last (past_at i stock.past) at)) tt)
      by (Some event) at = before-all i event stock.past (letter_rank letter) (last-there i event stock.past at) h.pasts_rise (late event at)

  -- after Execute of the least pending letter
  pub executed-settled : (i : ℕ) (letter : Letter P) (rest : List (Letter P)) (event : PastEvent P K) (now : Triple S) → stock.pending ≡ letter ∷ rest → event.letter ≡ letter → AreSettled stock → AreSettled (executed_in i event rest now stock)
  executed-settled i letter rest event now first brought settled =
      let e : Placed P K = record { index = i; event = event } in
      let rises : IsRising (letter ∷ rest) = subst IsRising first h.pending_rises in
      let all : AllByRecursion (ComesAfter stock.past) (letter ∷ rest) = subst (AllByRecursion (ComesAfter stock.past)) first settled in
      every-both (λ (l : Letter P). RankBefore (letter_rank letter) (letter_rank l)) (ComesAfter stock.past) (ComesAfter (stock.past ++ e ∷ [])) rest
      (λ l later after. every-append _ stock.past (e ∷ []) after ((λ same. subst (λ (m : Letter P). RankBefore (letter_rank m) (letter_rank l)) (sym brought) later), tt)) rises.0 all.1

-- ---- a letter that comes, and two that annihilate each other

module _ {S P K : Type 0} (stock : Stock S P K) where
  -- all are settled but those of some rank
  pub settled-but : (rank : Rank) → AreSettled stock → AreSettledBut rank stock
  settled-but rank settled = every-weaker (ComesAfter stock.past) (λ l. (letter_rank l ≡ rank) ⊎ ComesAfter stock.past l) stock.pending (λ l after. inr after) settled

  -- once a message came, all are but those of its rank
  pub received-settled : (letter : Letter P) → AreSettled stock → AreSettledBut (letter_rank letter) (record stock { pending = insert_letter letter stock.pending })
  received-settled letter settled =
      every-insert_ordered (λ (a b : Letter P). rank_before (letter_rank a) (letter_rank b)) (λ l. (letter_rank l ≡ letter_rank letter) ⊎ ComesAfter stock.past l) letter stock.pending (inl refl)
      (settled-but (letter_rank letter) settled)

  pub cancelled-settled : (rank : Rank) → AreSettled stock → AreSettled (cancelled_in rank stock)
  cancelled-settled rank settled = every-without_first (ComesAfter stock.past) (has_rank rank) stock.pending settled

-- where they are but for one rank, whichever that is, all are
pub settled-by-all : {S P K : Type 0} (stock : Stock S P K) → ((r : Rank) → AreSettledBut r stock) → AreSettled stock
settled-by-all {P = P} stock all =
    let other = λ (l : Letter P). (let r : Rank = record { key = (letter_rank l).key; stamp = record { worker = (letter_rank l).stamp.worker; serial = suc (letter_rank l).stamp.serial } } in r) in
    every-all (ComesAfter stock.past) stock.pending (λ l among. elim (every-among _ stock.pending l (all (other l)) among) [
      | inl is ↦ (let same = ap (λ (r : Rank). r.stamp.serial) is in absurd (omega (arith, same)))
      | inr so ↦ so
    ])

-- a letter that was put in its place is the one of its rank there
pub without-inserted : {P : Type 0} (x : Letter P) (letters : List (Letter P)) → holds_rank (letter_rank x) letters ≡ false → without_first (has_rank (letter_rank x)) (insert_letter x letters) ≡ letters
without-inserted x [] none = ap (λ (b : Bool). if b then [] else x ∷ []) (same-rank_same (letter_rank x))
without-inserted {P = P} x (l ∷ ls) none =
    elim (rank_before (letter_rank x) (letter_rank l)) as (λ b. without_first (has_rank (letter_rank x)) (if b then x ∷ l ∷ ls else l ∷ insert_letter x ls) ≡ l ∷ ls) [
      | true ↦ ap (λ (b : Bool). if b then l ∷ ls else x ∷ without_first (has_rank (letter_rank x)) (l ∷ ls)) (same-rank_same (letter_rank x))
      | false ↦
          ap (λ (b : Bool). if b then insert_letter x ls else l ∷ without_first (has_rank (letter_rank x)) (insert_letter x ls)) (first-false (has_rank (letter_rank x) l) (holds_rank (letter_rank x) ls) none)
          ∙ ap (λ (ms : List (Letter P)). l ∷ ms) (without-inserted x ls (second-false (has_rank (letter_rank x) l) (holds_rank (letter_rank x) ls) none))
    ]

-- and it is found
pub find-inserted : {P : Type 0} (x : Letter P) (letters : List (Letter P)) → holds_rank (letter_rank x) letters ≡ false → find (has_rank (letter_rank x)) (insert_letter x letters) ≡ Some x
find-inserted x [] none = ap (λ (b : Bool). if b then Some x else None) (same-rank_same (letter_rank x))
find-inserted x (l ∷ ls) none =
    elim (rank_before (letter_rank x) (letter_rank l)) as (λ b. find (has_rank (letter_rank x)) (if b then x ∷ l ∷ ls else l ∷ insert_letter x ls) ≡ Some x) [
      | true ↦ ap (λ (b : Bool). if b then Some x else find (has_rank (letter_rank x)) (l ∷ ls)) (same-rank_same (letter_rank x))
      | false ↦
          ap (λ (b : Bool). if b then Some l else find (has_rank (letter_rank x)) (insert_letter x ls)) (first-false (has_rank (letter_rank x) l) (holds_rank (letter_rank x) ls) none)
          ∙ find-inserted x ls (second-false (has_rank (letter_rank x) l) (holds_rank (letter_rank x) ls) none)
    ]
