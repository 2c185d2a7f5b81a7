-- What a worker keeps of all its processes together fits after each step at one of them.
use Rattle.std.proofs.Common.{◌≡◌, ◌∙◌, ◌&&◌, not, ℕ, ◌%◌, ◌<◌, ◌≤◌, Bool, true, false, if◌then◌else◌, List, [], ◌∷◌, ◌++◌, sym, ap, subst, inl, inr, Some, None}
use Rattle.std.specs.List.{last_or, list_any, AllByRecursion}
use Rattle.std.proofs.Math.ListN.{length-set}
use Rattle.std.proofs.lemmas.Bool.{cases_Bool, eqb-true}
use Rattle.vt_key.specs.promise.Order.{rank_before}
use Rattle.vt_key.specs.inside.Order.{RankBefore}
use Rattle.vt_key.specs.promise.Queues.{insert_ordered, insert_letter, without_first, letter_rank, has_rank}
use Rattle.vt_key.specs.inside.Queues.{holds_rank, IsRising}
use Rattle.vt_key.specs.promise.Lists.{IsRisingBy}
use Rattle.vt_key.specs.declared.limits.TheConstants.{MAX_COUNT}
use Rattle.vt_key.specs.declared.order.Rank.{Rank}
use Rattle.vt_key.specs.declared.letter.Letter.{Letter}
use Rattle.vt_key.specs.declared.letter.Sign.TheVariants.{Plus, Minus}
use Rattle.vt_key.proofs.ListLemmas.{every-append, every-left, every-right, every-put, every-both, every-weaker, every-insert_ordered, every-without_first}
use Rattle.vt_key.proofs.RisingLemmas.{IsRising-insert, IsRising-without}
use Rattle.vt_model.specs.declared.settings.Config.{Config}
use Rattle.vt_model.specs.promise.Simulation.{Triple}
use Rattle.vt_past.specs.declared.event.PastEvent.{PastEvent}
use Rattle.vt_lp.specs.inside.Held.{IsOwnEvent}
use Rattle.vt_pool.specs.inside.View.{Placed, Stock, is_at, past_at, without_last_at, number_at, HaveOwnStamps}
use Rattle.vt_pool.specs.inside.Steps.{executed_in, undone_in, cancelled_in}
use Rattle.vt_pool.specs.inside.Inside.{IsWorkersLetter, IsWorkersEvent, IsStampedApart, ComesAfter, placed_rank, IsStockInside}
use Rattle.vt_pool.proofs.ViewLemmas.{number-own, past-here, past-elsewhere, none-at, last-any}
use Rattle.vt_pool.proofs.GuardLemmas.{none-any, differs-by_stamp}

-- ---- one element more or less

module _ {X : Type 0} (R : X → X → Type 0) where
  -- one more that R holds of with each, where R goes both ways
  pub rising-insert_ordered : (is_before : X → X → Bool) → ((x y : X) → R x y → R y x) → (x : X) (xs : List X) → AllByRecursion (R x) xs → IsRisingBy R xs → IsRisingBy R (insert_ordered is_before x xs)
  rising-insert_ordered is_before back x [] all rises = (tt, tt)
  rising-insert_ordered is_before back x (y ∷ ys) all rises =
      elim (is_before x y) as (λ b. IsRisingBy R (if b then x ∷ y ∷ ys else y ∷ insert_ordered is_before x ys)) [
        | true ↦ (all, rises)
        | false ↦ (every-insert_ordered is_before (R y) x ys (back x y all.0) rises.0, rising-insert_ordered is_before back x ys all.1 rises.1)
      ]

  pub rising-without_first : (test : X → Bool) (xs : List X) → IsRisingBy R xs → IsRisingBy R (without_first test xs)
  rising-without_first test [] rises = tt
  rising-without_first test (x ∷ xs) rises =
      elim (test x) as (λ b. IsRisingBy R (if b then xs else x ∷ without_first test xs)) [
        | true ↦ rises.1
        | false ↦ (every-without_first (R x) test xs rises.0, rising-without_first test xs rises.1)
      ]

  -- one more at the end
  pub rising-more : (xs : List X) (x : X) → IsRisingBy R xs → AllByRecursion (λ y. R y x) xs → IsRisingBy R (xs ++ x ∷ [])
  rising-more [] x rises all = (tt, tt)
  rising-more (y ∷ ys) x rises all = (every-append (R y) ys (x ∷ []) rises.0 (all.0, tt), rising-more ys x rises.1 all.1)

  -- without one in the middle
  rising-parted : (front back : List X) (x : X) → IsRisingBy R (front ++ x ∷ back) → IsRisingBy R (front ++ back)
  rising-parted [] back x rises = rises.1
  rising-parted (y ∷ front) back x rises = (every-parted (R y) front back x rises.0, rising-parted front back x rises.1)
    where
      every-parted : (Q : X → Type 0) (front back : List X) (x : X) → AllByRecursion Q (front ++ x ∷ back) → AllByRecursion Q (front ++ back)
      every-parted Q front back x all = every-append Q front back (every-left Q front (x ∷ back) all) (every-right Q front (x ∷ back) all).1

  -- those before it, and those after it
  sides : (front back : List X) (x : X) → ((y z : X) → R y z → R z y) → IsRisingBy R (front ++ x ∷ back) → AllByRecursion (R x) (front ++ back)
  sides [] back x both rises = rises.0
  sides (y ∷ front) back x both rises = (both y x (every-right (R y) front (x ∷ back) rises.0).0, sides front back x both rises.1)

module _ {P : Type 0} where
  -- the same of letters in rising rank
  every-insert : (Q : Letter P → Type 0) (x : Letter P) (letters : List (Letter P)) → Q x → AllByRecursion Q letters → AllByRecursion Q (insert_letter x letters)
  every-insert Q x letters q all = every-insert_ordered (λ (a b : Letter P). rank_before (letter_rank a) (letter_rank b)) Q x letters q all

  stamps-insert : (x : Letter P) (letters : List (Letter P)) → AllByRecursion (λ (l : Letter P). (letter_rank x).stamp ≡ (letter_rank l).stamp → ⊥) letters → HaveOwnStamps letters → HaveOwnStamps (insert_letter x letters)
  stamps-insert x letters all apart =
      rising-insert_ordered (λ (a b : Letter P). (letter_rank a).stamp ≡ (letter_rank b).stamp → ⊥) (λ (a b : Letter P). rank_before (letter_rank a) (letter_rank b)) (λ a b differs same. differs (sym same)) x letters all apart

-- ---- the last past event of a process

module _ {P K : Type 0} (i : ℕ) (event : PastEvent P K) where
  -- where it stands among all, and what is left without it
  pub record IsLastThere (es : List (Placed P K)) : Type 0 where
    pub front : List (Placed P K)
    pub back : List (Placed P K)
    pub whole : es ≡ front ++ record { index = i; event = event } ∷ back
    pub left : without_last_at i es ≡ front ++ back
    pub none_after : list_any (is_at i) back ≡ false

  pub last-there : (es : List (Placed P K)) → last_or None (past_at i es) ≡ Some event → IsLastThere es
  last-there [] last = absurd (let k : None ≡ Some event = last in cc)
  last-there (e ∷ es) last =
      let left = λ (b c : Bool). if b && not c then es else e ∷ without_last_at i es in
      elim (cases_Bool (is_at i e)) [
        | inl is ↦ elim (cases_Bool (list_any (is_at i) es)) [
          | inl more ↦
              let rest = last-there es (sym (last-any i (Some e.event) es more) ∙ sym (ap (last_or None) (past-here i e es is)) ∙ last) in
              record {
                front = e ∷ rest.front;
                back = rest.back;
                whole = ap (λ (ds : List (Placed P K)). e ∷ ds) rest.whole;
                left = (λ j. left (is j) (more j)) ∙ ap (λ (ds : List (Placed P K)). e ∷ ds) rest.left;
                none_after = rest.none_after;
              }
          | inr none ↦
              let k : Some e.event ≡ Some event =
              sym (ap (last_or None) (past-here i e es is ∙ ap (λ (ds : List (PastEvent P K)). e.event ∷ ds) (none-at i es none))) ∙ last in
              let same : e.event ≡ event = cc in
              record {
                front = [];
                back = es;
                whole = λ j. record { index = eqb-true e.index i is j; event = same j } ∷ es;
                left = λ j. left (is j) (none j);
                none_after = none;
              }
        ]
        | inr is ↦
            let rest = last-there es (sym (ap (last_or None) (past-elsewhere i e es is)) ∙ last) in
            record {
              front = e ∷ rest.front;
              back = rest.back;
              whole = ap (λ (ds : List (Placed P K)). e ∷ ds) rest.whole;
              left = (λ j. left (is j) (list_any (is_at i) es)) ∙ ap (λ (ds : List (Placed P K)). e ∷ ds) rest.left;
              none_after = rest.none_after;
            }
      ]

  module _ (es : List (Placed P K)) (t : IsLastThere es) where
    -- what each has, those that are left have
    pub every-left_there : (Q : Placed P K → Type 0) → AllByRecursion Q es → AllByRecursion Q (without_last_at i es)
    every-left_there Q all =
        let parted = subst (AllByRecursion Q) t.whole all in
        subst (AllByRecursion Q) (sym t.left) (every-append Q t.front t.back (every-left Q t.front _ parted) (every-right Q t.front _ parted).1)

    -- and it has it
    pub every-last_there : (Q : Placed P K → Type 0) → AllByRecursion Q es → Q (record { index = i; event = event })
    every-last_there Q all = (every-right Q t.front _ (subst (AllByRecursion Q) t.whole all)).0

    pub rising-left_there : (R : Placed P K → Placed P K → Type 0) → IsRisingBy R es → IsRisingBy R (without_last_at i es)
    rising-left_there R rises = subst (IsRisingBy R) (sym t.left) (rising-parted R t.front t.back _ (subst (IsRisingBy R) t.whole rises))

    -- R holds of it with each that is left, where R goes both ways
    pub sides_there : (R : Placed P K → Placed P K → Type 0) → ((d e : Placed P K) → R d e → R e d) → IsRisingBy R es → AllByRecursion (R (record { index = i; event = event })) (without_last_at i es)
    sides_there R both rises = subst (AllByRecursion (R (record { index = i; event = event }))) (sym t.left) (sides R t.front t.back _ both (subst (IsRisingBy R) t.whole rises))

-- ---- what is kept fits

-- a letter that no other has the stamp of has no other's rank
pub stamped-apart : {P : Type 0} (letter : Letter P) (letters : List (Letter P)) → AllByRecursion (λ l. (letter_rank letter).stamp ≡ (letter_rank l).stamp → ⊥) letters → holds_rank (letter_rank letter) letters ≡ false
stamped-apart letter letters apart =
    none-any (has_rank (letter_rank letter)) letters
    (every-weaker _ (λ l. has_rank (letter_rank letter) l ≡ false) letters (λ l other. differs-by_stamp (letter_rank l) (letter_rank letter) (λ same. other (sym same))) apart)

module _ {S P K : Type 0} {config : Config} {w : ℕ} {stock : Stock S P K} (h : IsStockInside config w stock) where
  -- after Execute
  pub executed-inside : (i : ℕ) (now : Triple S) (letter : Letter P) (rest : List (Letter P)) (event : PastEvent P K) → stock.pending ≡ letter ∷ rest → event.letter ≡ letter
      → ComesAfter stock.past letter → now.number ≤ MAX_COUNT → number_at config w i < config.lps → IsOwnEvent config (number_at config w i) event
      → IsStockInside config w (executed_in i event rest now stock)
  executed-inside i now letter rest event first brought after few known own =
      let e : Placed P K = record { index = i; event = event } in
      let rank : placed_rank e ≡ letter_rank letter = ap (λ (l : Letter P). letter_rank l) brought in
      let stamp : (placed_rank e).stamp ≡ (letter_rank letter).stamp = ap (λ (r : Rank). r.stamp) rank in
      let stamps : HaveOwnStamps (letter ∷ rest) = subst HaveOwnStamps first h.pending_stamps in
      let apart : AllByRecursion (IsStampedApart (letter ∷ rest)) stock.past = subst (λ ls. AllByRecursion (IsStampedApart ls) stock.past) first h.apart in
      record {
        all_there = length-set stock.triples i now ∙ h.all_there;
        few_sends = every-put (λ (t : Triple S). t.number ≤ MAX_COUNT) stock.triples i now h.few_sends few;
        own_pending = (subst (AllByRecursion (IsWorkersLetter config w Plus)) first h.own_pending).1;
        own_waiting = h.own_waiting;
        own_past = every-append (IsWorkersEvent config w) stock.past (e ∷ []) h.own_past (record { known = known; own = own }, tt);
        pending_rises = (subst IsRising first h.pending_rises).1;
        waiting_rises = h.waiting_rises;
        pasts_rise = rising-more _ stock.past e h.pasts_rise
            (every-both _ _ (λ (d : Placed P K). d.index ≡ i → RankBefore (placed_rank d) (placed_rank e)) stock.past
            (λ d mine before at. subst (RankBefore (placed_rank d)) (sym rank)
            (before (mine.own.own.dest ∙ ap (number_at config w) at ∙ sym own.own.dest ∙ ap (λ (l : Letter P). l.event.dest) brought))) h.own_past after);
        pending_stamps = stamps.1;
        waiting_stamps = h.waiting_stamps;
        past_stamps = rising-more _ stock.past e h.past_stamps
            (every-weaker _ (λ (d : Placed P K). (placed_rank d).stamp ≡ (placed_rank e).stamp → ⊥) stock.past (λ d other same. other.0 (sym stamp ∙ sym same)) apart);
        apart = every-append (IsStampedApart rest) stock.past (e ∷ [])
            (every-weaker (IsStampedApart (letter ∷ rest)) (IsStampedApart rest) stock.past (λ d other. other.1) apart)
            (every-weaker _ (λ (l : Letter P). (letter_rank l).stamp ≡ (placed_rank e).stamp → ⊥) rest (λ l other same. other (sym (same ∙ stamp))) stamps.0, tt);
      }

  -- after Undo
  pub undone-inside : (i : ℕ) (now : Triple S) (event : PastEvent P K) → w < config.workers → last_or None (past_at i stock.past) ≡ Some event → now.number ≤ MAX_COUNT → IsStockInside config w (undone_in i event now stock)
  undone-inside i now event within last few =
      let t = last-there i event stock.past last in
      let e : Placed P K = record { index = i; event = event } in
      let mine : IsWorkersEvent config w e = every-last_there i event stock.past t (IsWorkersEvent config w) h.own_past in
      let apart : IsStampedApart stock.pending e = every-last_there i event stock.past t (IsStampedApart stock.pending) h.apart in
      let other : AllByRecursion (λ (l : Letter P). (letter_rank event.letter).stamp ≡ (letter_rank l).stamp → ⊥) stock.pending =
      every-weaker _ (λ (l : Letter P). (letter_rank event.letter).stamp ≡ (letter_rank l).stamp → ⊥) stock.pending (λ l differs same. differs (sym same)) apart in
      let others = sides_there i event stock.past t (λ d e. (placed_rank d).stamp ≡ (placed_rank e).stamp → ⊥) (λ d e differs same. differs (sym same)) h.past_stamps in
      record {
        all_there = length-set stock.triples i now ∙ h.all_there;
        few_sends = every-put (λ (t : Triple S). t.number ≤ MAX_COUNT) stock.triples i now h.few_sends few;
        own_pending = every-insert (IsWorkersLetter config w Plus) event.letter stock.pending (record {
          within = record { known = subst (λ p. p < config.lps) (sym mine.own.own.dest) mine.known; soon = mine.own.own.soon };
          own = ap (λ p. p % config.workers) mine.own.own.dest ∙ number-own config w within i;
          signed = mine.own.own.signed;
        }) h.own_pending;
        own_waiting = h.own_waiting;
        own_past = every-left_there i event stock.past t (IsWorkersEvent config w) h.own_past;
        pending_rises = IsRising-insert event.letter stock.pending (stamped-apart event.letter stock.pending other) h.pending_rises;
        waiting_rises = h.waiting_rises;
        pasts_rise = rising-left_there i event stock.past t _ h.pasts_rise;
        pending_stamps = stamps-insert event.letter stock.pending other h.pending_stamps;
        waiting_stamps = h.waiting_stamps;
        past_stamps = rising-left_there i event stock.past t _ h.past_stamps;
        apart = every-both _ _ (IsStampedApart (insert_letter event.letter stock.pending)) (without_last_at i stock.past)
            (λ d differs left. every-insert (λ (l : Letter P). (letter_rank l).stamp ≡ (placed_rank d).stamp → ⊥) event.letter stock.pending differs left)
            others (every-left_there i event stock.past t (IsStampedApart stock.pending) h.apart);
      }

  -- after Cancel
  pub cancelled-inside : (rank : Rank) → IsStockInside config w (cancelled_in rank stock)
  cancelled-inside rank = record {
    all_there = h.all_there;
    few_sends = h.few_sends;
    own_pending = every-without_first (IsWorkersLetter config w Plus) (has_rank rank) stock.pending h.own_pending;
    own_waiting = every-without_first (IsWorkersLetter config w Minus) (has_rank rank) stock.waiting h.own_waiting;
    own_past = h.own_past;
    pending_rises = IsRising-without (has_rank rank) stock.pending h.pending_rises;
    waiting_rises = IsRising-without (has_rank rank) stock.waiting h.waiting_rises;
    pasts_rise = h.pasts_rise;
    pending_stamps = rising-without_first _ (has_rank rank) stock.pending h.pending_stamps;
    waiting_stamps = rising-without_first _ (has_rank rank) stock.waiting h.waiting_stamps;
    past_stamps = h.past_stamps;
    apart = every-weaker (IsStampedApart stock.pending) (IsStampedApart (without_first (has_rank rank) stock.pending)) stock.past
        (λ d differs. every-without_first (λ (l : Letter P). (letter_rank l).stamp ≡ (placed_rank d).stamp → ⊥) (has_rank rank) stock.pending differs) h.apart;
  }

  -- after a message came
  pub message-inside : (letter : Letter P) → IsWorkersLetter config w Plus letter → AllByRecursion (λ (l : Letter P). (letter_rank letter).stamp ≡ (letter_rank l).stamp → ⊥) stock.pending
      → AllByRecursion (λ (e : Placed P K). (letter_rank letter).stamp ≡ (placed_rank e).stamp → ⊥) stock.past → IsStockInside config w (record stock { pending = insert_letter letter stock.pending })
  message-inside letter mine other other_past = record {
    all_there = h.all_there;
    few_sends = h.few_sends;
    own_pending = every-insert (IsWorkersLetter config w Plus) letter stock.pending mine h.own_pending;
    own_waiting = h.own_waiting;
    own_past = h.own_past;
    pending_rises = IsRising-insert letter stock.pending (stamped-apart letter stock.pending other) h.pending_rises;
    waiting_rises = h.waiting_rises;
    pasts_rise = h.pasts_rise;
    pending_stamps = stamps-insert letter stock.pending other h.pending_stamps;
    waiting_stamps = h.waiting_stamps;
    past_stamps = h.past_stamps;
    apart = every-both _ _ (IsStampedApart (insert_letter letter stock.pending)) stock.past
        (λ d differs left. every-insert (λ (l : Letter P). (letter_rank l).stamp ≡ (placed_rank d).stamp → ⊥) letter stock.pending differs left) other_past h.apart;
  }

  -- after an anti-message came
  pub anti_message-inside : (letter : Letter P) → IsWorkersLetter config w Minus letter → AllByRecursion (λ (l : Letter P). (letter_rank letter).stamp ≡ (letter_rank l).stamp → ⊥) stock.waiting
      → IsStockInside config w (record stock { waiting = insert_letter letter stock.waiting })
  anti_message-inside letter mine other = record {
    all_there = h.all_there;
    few_sends = h.few_sends;
    own_pending = h.own_pending;
    own_waiting = every-insert (IsWorkersLetter config w Minus) letter stock.waiting mine h.own_waiting;
    own_past = h.own_past;
    pending_rises = h.pending_rises;
    waiting_rises = IsRising-insert letter stock.waiting (stamped-apart letter stock.waiting other) h.waiting_rises;
    pasts_rise = h.pasts_rise;
    pending_stamps = h.pending_stamps;
    waiting_stamps = stamps-insert letter stock.waiting other h.waiting_stamps;
    past_stamps = h.past_stamps;
    apart = h.apart;
  }
