-- The letters that a worker keeps of all its processes together are those that its processes have.
use Rattle.std.proofs.Common.{◌≡◌, ◌∙◌, inl, inr, ℕ, ◌+◌, ◌/◌, ◌<◌, Bool, true, false, ◌||◌, List, [], ◌∷◌, ◌++◌, refl, sym, ap, subst, arith}
use Rattle.std.specs.List.{filter, flat_map, list_any}
use Rattle.std.proofs.lemmas.Bool.{cases_Bool, eq-eqb}
use Rattle.vt_key.specs.promise.Times.{Time, TimeAtMost, earlier}
use Rattle.vt_key.specs.promise.Lists.{Among}
use Rattle.vt_key.specs.promise.Order.{rank_before, stamp_same}
use Rattle.vt_key.specs.inside.Order.{RankBefore}
use Rattle.vt_key.specs.promise.Queues.{has_stamp, letter_rank}
use Rattle.vt_key.specs.inside.Queues.{IsRising}
use Rattle.vt_key.specs.declared.order.Rank.{Rank}
use Rattle.vt_key.proofs.OrderLemmas.{rank-irreflexive, rank-transitive, rank_before-true}
use Rattle.vt_key.specs.declared.order.Stamp.{Stamp}
use Rattle.vt_key.specs.declared.letter.Letter.{Letter}
use Rattle.vt_key.specs.declared.letter.Sign.{Sign}
use Rattle.vt_key.specs.declared.letter.Sign.TheVariants.{Plus, Minus}
use Rattle.vt_key.proofs.ListLemmas.{among-left, among-right, among-append, among-map, among-flat_map, flat_map-among, among-filter, filter-among, get-among, every-among}
use Rattle.vt_model.specs.declared.settings.Config.{Config}
use Rattle.vt_model.specs.promise.Simulation.{Triple}
use Rattle.vt_steps.specs.promise.Letters.{letter_time, least_time}
use Rattle.vt_steps.proofs.TimeLemmas.{least_time-append, least_time-low, at_most_both, same_times}
use Rattle.vt_steps.proofs.lists.Indices.{get-within}
use Rattle.vt_past.specs.declared.event.PastEvent.{PastEvent}
use Rattle.vt_lp.specs.inside.Held.{HeldProcess}
use Rattle.vt_kernel.specs.inside.Held.{HeldWorker}
use Rattle.vt_pool.specs.inside.View.{Placed, Stock, number_at, is_at, is_to, letters_to, past_at, process_in, processes_from, processes_in}
use Rattle.vt_pool.specs.inside.Inside.{IsWorkersEvent, IsWorkersLetter, IsStockInside, placed_rank}
use Rattle.vt_pool.specs.inside.Pool.{holds_stamp}
use Rattle.vt_pool.proofs.GuardLemmas.{any-among}
use Rattle.vt_pool.proofs.ViewLemmas.{get-in, number-own, number-index, to-own}
use Rattle.vt_pool.proofs.ReceiveLemmas.{number-of, index-there}
use Rattle.vt_share.specs.inside.Calls.{has_stamped, IsLeastPending}

-- ---- the least time of letters

module _ {P : Type 0} (end : Time) where
  least-among : (letters : List (Letter P)) (x : Letter P) → Among x letters → TimeAtMost (least_time end letters) (letter_time x)
  least-among [] x none = absurd none
  least-among (y ∷ ys) x among = elim among [
    | inl same ↦ let time : letter_time x ≡ letter_time y = ap letter_time same in omega (arith, time)
    | inr more ↦ let low = least-among ys x more in omega (arith, low)
  ]

  least-great : (letters : List (Letter P)) (t : Time) → TimeAtMost t end → ((x : Letter P) → Among x letters → TimeAtMost t (letter_time x)) → TimeAtMost t (least_time end letters)
  least-great [] t low all = low
  least-great (y ∷ ys) t low all = at_most_both t (letter_time y) (least_time end ys) (all y (inl refl)) (least-great ys t low (λ x more. all x (inr more)))

  -- it is the same for the same letters in any order
  least-same : (xs ys : List (Letter P)) → ((x : Letter P) → Among x xs → Among x ys) → ((x : Letter P) → Among x ys → Among x xs) → least_time end xs ≡ least_time end ys
  least-same xs ys there back =
      same_times (least_time end xs) (least_time end ys) (least-great ys (least_time end xs) (least_time-low end xs) (λ x among. least-among xs x (back x among)))
      (least-great xs (least_time end ys) (least_time-low end ys) (λ x among. least-among ys x (there x among)))

  -- of letters in an outbox, that arrived, and that are kept
  pub least-held : (outbox arrived pending waiting kept : List (Letter P)) → least_time end kept ≡ least_time end (pending ++ waiting)
      → earlier (least_time end (outbox ++ pending ++ waiting)) (least_time end arrived) ≡ least_time end (outbox ++ arrived ++ kept)
  least-held outbox arrived pending waiting kept same =
      let all = least_time-append end (outbox ++ pending) waiting in
      let some = least_time-append end outbox pending in
      let both = least_time-append end pending waiting in
      let whole = least_time-append end (outbox ++ arrived) kept in
      let front = least_time-append end outbox arrived in
      omega (arith, all, some, both, whole, front, same)

-- ---- tests

module _ {X : Type 0} (test : X → Bool) where
  any-true : (xs : List X) → list_any test xs ≡ true → (x : X) × Among x xs × (test x ≡ true)
  any-true [] is = absurd (let h : false ≡ true = is in cc)
  any-true (x ∷ xs) is = elim (cases_Bool (test x)) [
    | inl passes ↦ (x, inl refl, passes)
    | inr fails ↦ (let more = any-true xs (sym (ap (λ b. b || list_any test xs) fails) ∙ is) in (more.0, inr more.1, more.2))
  ]

no-element : {X : Type 0} (xs : List X) → ((x : X) → Among x xs → ⊥) → xs ≡ []
no-element [] none = refl
no-element (x ∷ xs) none = absurd (none x (inl refl))

not-before : (a b : Rank) → (RankBefore a b → ⊥) → rank_before a b ≡ false
not-before a b never = elim (cases_Bool (rank_before a b)) [
  | inl is ↦ absurd (never (rank_before-true a b is))
  | inr is ↦ is
]

or-right : (a b : Bool) → b ≡ true → (a || b) ≡ true
or-right true b is = refl
or-right false b is = is

-- ---- the letters of processes

module _ {S P K : Type 0} where
  -- all letters of a process
  abbrev kept_of : HeldProcess S P K → List (Letter P)
  kept_of q = q.pending ++ q.waiting

  -- a process is one that stands at some index
  from-among : (config : Config) (w base : ℕ) (triples : List (Triple S)) (stock : Stock S P K) (q : HeldProcess S P K) → Among q (processes_from config w base triples stock)
      → (i : ℕ) × (triple : Triple S) × (q ≡ process_in config w i triple stock)
  from-among config w base [] stock q none = absurd none
  from-among config w base (t ∷ ts) stock q among = elim among [
    | inl same ↦ (base, t, same)
    | inr more ↦ from-among config w (base + 1) ts stock q more
  ]

  module _ (config : Config) (w : ℕ) (stock : Stock S P K) (known : w < config.workers) (inside : IsStockInside config w stock) where
    -- the process of a letter for one of the worker's processes, and the letter is for it
    pub record IsAtProcess (letter : Letter P) : Type 0 where
      pub i : ℕ
      pub triple : Triple S
      pub there : Among (process_in config w i triple stock) (processes_in config w stock)
      pub own : is_to (number_at config w i) letter ≡ true

    pub at-process : (sign : Sign) (letter : Letter P) → IsWorkersLetter config w sign letter → IsAtProcess letter
    at-process sign letter mine =
        let i = letter.event.dest / config.workers in
        let within = index-there letter.event.dest i known inside refl mine.own mine.within.known in
        let at = get-within stock.triples i within in
        record {
          i = i;
          triple = at.0;
          there = get-among (processes_in config w stock) i (process_in config w i at.0 stock) (get-in config w i at.0 stock at.1);
          own = to-own (number_at config w i) letter (number-of config w letter.event.dest i refl mine.own);
        }

    there : (x : Letter P) → Among x (flat_map kept_of (processes_in config w stock)) → Among x (stock.pending ++ stock.waiting)
    there x among =
        let found = flat_map-among kept_of x (processes_in config w stock) among in
        let from = from-among config w 0 stock.triples stock found.0 found.1 in
        let p = number_at config w from.0 in
        let mine : Among x (letters_to p stock.pending ++ letters_to p stock.waiting) = subst (λ (q : HeldProcess S P K). Among x (kept_of q)) from.2 found.2 in
        elim (among-append x (letters_to p stock.pending) (letters_to p stock.waiting) mine) [
          | inl pending ↦ among-left x stock.pending stock.waiting (filter-among (is_to p) x stock.pending pending).0
          | inr waiting ↦ among-right x stock.pending stock.waiting (filter-among (is_to p) x stock.waiting waiting).0
        ]

    back : (x : Letter P) → Among x (stock.pending ++ stock.waiting) → Among x (flat_map kept_of (processes_in config w stock))
    back x among = elim (among-append x stock.pending stock.waiting among) [
      | inl pending ↦
          let at = at-process Plus x (every-among (IsWorkersLetter config w Plus) stock.pending x inside.own_pending pending) in
          let p = number_at config w at.i in
          among-flat_map kept_of x (process_in config w at.i at.triple stock) (processes_in config w stock) at.there
          (among-left x (letters_to p stock.pending) (letters_to p stock.waiting) (among-filter (is_to p) x stock.pending pending at.own))
      | inr waiting ↦
          let at = at-process Minus x (every-among (IsWorkersLetter config w Minus) stock.waiting x inside.own_waiting waiting) in
          let p = number_at config w at.i in
          among-flat_map kept_of x (process_in config w at.i at.triple stock) (processes_in config w stock) at.there
          (among-right x (letters_to p stock.pending) (letters_to p stock.waiting) (among-filter (is_to p) x stock.waiting waiting at.own))
    ]

    pending-there : (x : Letter P) → Among x (flat_map (λ (q : HeldProcess S P K). q.pending) (processes_in config w stock)) → Among x stock.pending
    pending-there x among =
        let found = flat_map-among (λ (q : HeldProcess S P K). q.pending) x (processes_in config w stock) among in
        let from = from-among config w 0 stock.triples stock found.0 found.1 in
        let p = number_at config w from.0 in
        let mine : Among x (letters_to p stock.pending) = subst (λ (q : HeldProcess S P K). Among x q.pending) from.2 found.2 in
        (filter-among (is_to p) x stock.pending mine).0

    pending-back : (x : Letter P) → Among x stock.pending → Among x (flat_map (λ (q : HeldProcess S P K). q.pending) (processes_in config w stock))
    pending-back x pending =
        let at = at-process Plus x (every-among (IsWorkersLetter config w Plus) stock.pending x inside.own_pending pending) in
        among-flat_map (λ (q : HeldProcess S P K). q.pending) x (process_in config w at.i at.triple stock) (processes_in config w stock) at.there
        (among-filter (is_to (number_at config w at.i)) x stock.pending pending at.own)

    -- where nothing is pending, nothing is so at a process
    pub nothing-pending : stock.pending ≡ [] → flat_map (λ (q : HeldProcess S P K). q.pending) (processes_in config w stock) ≡ []
    nothing-pending none =
        no-element (flat_map (λ (q : HeldProcess S P K). q.pending) (processes_in config w stock)) (λ x among. subst (Among x) none (pending-there x among))

    -- the least time of all that is pending
    pub least-pending : (end : Time) → least_time end stock.pending ≡ least_time end (flat_map (λ (q : HeldProcess S P K). q.pending) (processes_in config w stock))
    least-pending end = least-same end stock.pending (flat_map (λ (q : HeldProcess S P K). q.pending) (processes_in config w stock)) pending-back pending-there

    -- the first pending message is the least of all
    pub first-least : (held : HeldWorker S P K) → held.processes ≡ processes_in config w stock → (letter : Letter P) (later : List (Letter P)) → stock.pending ≡ letter ∷ later → IsLeastPending held letter
    first-least held are letter later first =
        let all = λ (ps : List (HeldProcess S P K)). flat_map (λ (q : HeldProcess S P K). q.pending) ps in
        let rises = subst IsRising first inside.pending_rises in
        record {
          there = subst (λ ps. Among letter (all ps)) (sym are) (pending-back letter (subst (Among letter) (sym first) (inl refl)));
          least = λ other among. elim (subst (Among other) first (pending-there other (subst (λ ps. Among other (all ps)) are among))) [
            | inl same ↦ not-before (letter_rank other) (letter_rank letter) (λ before. rank-irreflexive (letter_rank letter) (subst (λ (l : Letter P). RankBefore (letter_rank l) (letter_rank letter)) same before))
            | inr more ↦
                let after = every-among (λ (l : Letter P). RankBefore (letter_rank letter) (letter_rank l)) later other rises.0 more in
                not-before (letter_rank other) (letter_rank letter) (λ before. rank-irreflexive (letter_rank letter) (rank-transitive (letter_rank letter) (letter_rank other) (letter_rank letter) after before))
          ];
        }

    -- the least time of all letters that the processes have
    pub least-kept : (end : Time) → least_time end (flat_map (λ (q : HeldProcess S P K). q.pending ++ q.waiting) (processes_in config w stock)) ≡ least_time end (stock.pending ++ stock.waiting)
    least-kept end = least-same end (flat_map kept_of (processes_in config w stock)) (stock.pending ++ stock.waiting) there back

    -- ---- stamps

    -- a message that is pending is so at its process
    message-somewhere : (stamp : Stamp) → list_any (has_stamp stamp) stock.pending ≡ true → list_any (has_stamped Plus stamp) (processes_in config w stock) ≡ true
    message-somewhere stamp held =
        let found = any-true (has_stamp stamp) stock.pending held in
        let at = at-process Plus found.0 (every-among (IsWorkersLetter config w Plus) stock.pending found.0 inside.own_pending found.1) in
        let p = number_at config w at.i in
        let here = any-among (has_stamp stamp) (letters_to p stock.pending) found.0 (among-filter (is_to p) found.0 stock.pending found.1 at.own) found.2 in
        any-among (has_stamped Plus stamp) (processes_in config w stock) (process_in config w at.i at.triple stock) at.there
        (ap (λ b. b || list_any (λ (e : PastEvent P K). stamp_same e.letter.event.rank.stamp stamp) (past_at at.i stock.past)) here)

    -- and so is a past event
    past-somewhere : (stamp : Stamp) → list_any (λ (e : Placed P K). stamp_same (placed_rank e).stamp stamp) stock.past ≡ true
        → list_any (has_stamped Plus stamp) (processes_in config w stock) ≡ true
    past-somewhere stamp held =
        let found = any-true (λ (e : Placed P K). stamp_same (placed_rank e).stamp stamp) stock.past held in
        let e = found.0 in
        let i = e.index in
        let mine = every-among (IsWorkersEvent config w) stock.past e inside.own_past found.1 in
        let within = index-there (number_at config w i) i known inside (sym (number-index config w known i)) (number-own config w known i) mine.known in
        let at = get-within stock.triples i within in
        let there = get-among (processes_in config w stock) i (process_in config w i at.0 stock) (get-in config w i at.0 stock at.1) in
        let here : Among e.event (past_at i stock.past) = among-map (λ (d : Placed P K). d.event) e (filter (is_at i) stock.past) (among-filter (is_at i) e stock.past found.1 (eq-eqb i i refl)) in
        any-among (has_stamped Plus stamp) (processes_in config w stock) (process_in config w i at.0 stock) there
        (or-right (list_any (has_stamp stamp) (letters_to (number_at config w i) stock.pending)) (list_any (λ (d : PastEvent P K). stamp_same d.letter.event.rank.stamp stamp) (past_at i stock.past))
        (any-among (λ (d : PastEvent P K). stamp_same d.letter.event.rank.stamp stamp) (past_at i stock.past) e.event here found.2))

    -- a letter that the worker holds, one of its processes has
    pub held-somewhere : (sign : Sign) (stamp : Stamp) → holds_stamp sign stamp stock ≡ true → list_any (has_stamped sign stamp) (processes_in config w stock) ≡ true
    held-somewhere Plus stamp held =
        let pending = list_any (has_stamp stamp) stock.pending in
        elim (cases_Bool pending) [
          | inl is ↦ message-somewhere stamp is
          | inr is ↦ past-somewhere stamp (sym (ap (λ b. b || list_any (λ (e : Placed P K). stamp_same (placed_rank e).stamp stamp) stock.past) is) ∙ held)
        ]
    held-somewhere Minus stamp held =
        let found = any-true (has_stamp stamp) stock.waiting held in
        let at = at-process Minus found.0 (every-among (IsWorkersLetter config w Minus) stock.waiting found.0 inside.own_waiting found.1) in
        any-among (has_stamped Minus stamp) (processes_in config w stock) (process_in config w at.i at.triple stock) at.there
        (any-among (has_stamp stamp) (letters_to (number_at config w at.i) stock.waiting) found.0 (among-filter (is_to (number_at config w at.i)) found.0 stock.waiting found.1 at.own) found.2)
