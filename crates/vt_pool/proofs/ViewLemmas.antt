-- What becomes of a worker's processes where what is kept of them together changes: one process changes.
use Rattle.std.proofs.Common.{◌≡◌, ℕ, zero, suc, ◌+◌, ◌/◌, ◌%◌, ◌<◌, ◌≤◌, Bool, true, false, not, ◌&&◌, ◌||◌, nat_eq, if◌then◌else◌, List, [], ◌∷◌, ◌++◌, append-nil, map, refl, sym, ◌∙◌, ap, arith, inl, inr, Option, Some, None, slice_get, slice_set}
use Rattle.std.specs.List.{filter, find, last_or, list_any}
use Rattle.std.proofs.Math.Nat.{mul-add-div_right, mul-add-mod_self_right, div-eq_of_lt, mod-eq_of_lt}
use Rattle.std.proofs.lemmas.List.{map-append}
use Rattle.std.proofs.lemmas.List.Elements.{filter-append}
use Rattle.std.proofs.lemmas.Bool.{eq-eqb, eqb-true, cases_Bool}
use Rattle.std.proofs.lemmas.Bool.Decides.{eqb_tells}
use Rattle.vt_key.specs.promise.Queues.{insert_letter, without_first, has_rank}
use Rattle.vt_key.specs.inside.Queues.{IsRising}
use Rattle.vt_key.specs.declared.order.Rank.{Rank}
use Rattle.vt_key.specs.declared.letter.Letter.{Letter}
use Rattle.vt_model.specs.declared.settings.Config.{Config}
use Rattle.vt_model.specs.promise.Simulation.{Triple}
use Rattle.vt_key.proofs.RisingLemmas.{first-false, second-false}
use Rattle.vt_pending.proofs.Filters.{filter-insert, filter-insert-other, filter-without, filter-without-other}
use Rattle.vt_past.specs.declared.event.PastEvent.{PastEvent}
use Rattle.vt_kernel.proofs.Written.{put-there}
use Rattle.vt_kernel.specs.inside.Held.{AreProcesses}
use Rattle.vt_kernel.proofs.LocalLemmas.{IsOwnIndex}
use Rattle.vt_pool.specs.inside.View.{Placed, Stock, is_at, past_at, without_last_at, is_to, letters_to, number_at, process_in, processes_from, processes_in}

-- ---- numbers and indexes

-- two numbers that differ, by the test
pub differ : (a b : ℕ) → (a ≡ b → ⊥) → nat_eq a b ≡ false
differ a b apart = elim (eqb_tells a b) [ inl e ↦ absurd (apart e.1) | inr e ↦ e.0 ]

module _ (config : Config) (w : ℕ) (known : w < config.workers) where
  -- the index of the process of this number
  pub number-index : (i : ℕ) → number_at config w i / config.workers ≡ i
  number-index i =
      let some : 0 < config.workers = omega (arith, known) in
      let none : w / config.workers ≡ 0 = div-eq_of_lt known in
      mul-add-div_right some i w ∙ omega (arith, none)

  -- it is one of the worker's
  pub number-own : (i : ℕ) → number_at config w i % config.workers ≡ w
  number-own i = mul-add-mod_self_right i config.workers w ∙ mod-eq_of_lt known

  pub index-own : (i : ℕ) → number_at config w i < config.lps → IsOwnIndex config w (number_at config w i) i
  index-own i within = (sym (number-index i), number-own i, within)

  -- processes at other indexes have other numbers
  pub numbers-differ : (i j : ℕ) → (j ≡ i → ⊥) → number_at config w j ≡ number_at config w i → ⊥
  numbers-differ i j apart same = apart (sym (number-index j) ∙ ap (λ n. n / config.workers) same ∙ number-index i)

-- ---- the processes

module _ {S P K : Type 0} (config : Config) (w : ℕ) where
  pub get-from : (base i : ℕ) (triples : List (Triple S)) (triple : Triple S) (stock : Stock S P K) → slice_get triples i ≡ Some triple
      → slice_get (processes_from config w base triples stock) i ≡ Some (process_in config w (base + i) triple stock)
  get-from base i [] triple stock at = absurd (let k : None ≡ Some triple = at in cc)
  get-from base zero (t ∷ ts) triple stock at =
      let k : Some t ≡ Some triple = at in
      let same : t ≡ triple = cc in
      let here : base ≡ base + 0 = omega arith in
      λ j. Some (process_in config w (here j) (same j) stock)
  get-from base (suc i) (t ∷ ts) triple stock at =
      let here : (base + 1) + i ≡ base + suc i = omega arith in
      get-from (base + 1) i ts triple stock at ∙ ap (λ n. Some (process_in config w n triple stock)) here

  -- the process at an index
  pub get-in : (i : ℕ) (triple : Triple S) (stock : Stock S P K) → slice_get stock.triples i ≡ Some triple → slice_get (processes_in config w stock) i ≡ Some (process_in config w i triple stock)
  get-in i triple stock at =
      let here : 0 + i ≡ i = omega arith in
      get-from 0 i stock.triples triple stock at ∙ ap (λ n. Some (process_in config w n triple stock)) here

  -- they are the worker's
  pub are-from : (base : ℕ) (triples : List (Triple S)) (stock : Stock S P K) → AreProcesses config w base (processes_from config w base triples stock)
  are-from base [] stock = tt
  are-from base (t ∷ ts) stock = (refl, refl, are-from (base + 1) ts stock)

  -- of the process at an index the same is kept
  pub record IsSameAt (old new : Stock S P K) (i : ℕ) : Type 0 where
    pub past : past_at i new.past ≡ past_at i old.past
    pub pending : letters_to (number_at config w i) new.pending ≡ letters_to (number_at config w i) old.pending
    pub waiting : letters_to (number_at config w i) new.waiting ≡ letters_to (number_at config w i) old.waiting

  same-process : (old new : Stock S P K) (i : ℕ) (triple : Triple S) → IsSameAt old new i → process_in config w i triple new ≡ process_in config w i triple old
  same-process old new i triple h = λ j. record { lp = number_at config w i; config = config; triple = triple; past = h.past j; pending = h.pending j; waiting = h.waiting j }

  same-from : (old new : Stock S P K) (base : ℕ) (triples : List (Triple S)) → ((i : ℕ) → base ≤ i → IsSameAt old new i) → processes_from config w base triples new ≡ processes_from config w base triples old
  same-from old new base [] same = refl
  same-from old new base (t ∷ ts) same =
      λ j. same-process old new base t (same base (omega arith)) j ∷ same-from old new (base + 1) ts (λ i more. same i (omega (arith, more))) j

  changed-from : (old new : Stock S P K) (base k : ℕ) (triples : List (Triple S)) (triple : Triple S) → ((i : ℕ) → (i ≡ base + k → ⊥) → IsSameAt old new i)
      → processes_from config w base (slice_set triples k triple) new ≡ slice_set (processes_from config w base triples old) k (process_in config w (base + k) triple new)
  changed-from old new base k [] triple same = refl
  changed-from old new base zero (t ∷ ts) triple same =
      let here : base ≡ base + 0 = omega arith in
      λ j. process_in config w (here j) triple new ∷ same-from old new (base + 1) ts (λ i more. same i (λ e. omega (arith, more, e))) j
  changed-from old new base (suc k) (t ∷ ts) triple same =
      let here : (base + 1) + k ≡ base + suc k = omega arith in
      (λ j. same-process old new base t (same base (λ e. omega (arith, e))) j
      ∷ changed-from old new (base + 1) k ts triple (λ i other. same i (λ e. other (e ∙ sym here))) j)
      ∙ ap (λ n. processes_from config w base (t ∷ []) old ++ slice_set (processes_from config w (base + 1) ts old) k (process_in config w n triple new)) here

  -- the process at an index changed, and may stand elsewhere
  pub changed-in : (old new : Stock S P K) (i : ℕ) (triple : Triple S) → new.triples ≡ slice_set old.triples i triple → ((j : ℕ) → (j ≡ i → ⊥) → IsSameAt old new j)
      → processes_in config w new ≡ slice_set (processes_in config w old) i (process_in config w i triple new)
  changed-in old new i triple moved same =
      let here : 0 + i ≡ i = omega arith in
      ap (λ ts. processes_from config w 0 ts new) moved
      ∙ changed-from old new 0 i old.triples triple (λ j other. same j (λ e. other (e ∙ sym here)))
      ∙ ap (λ n. slice_set (processes_in config w old) i (process_in config w n triple new)) here

  -- it stands where it stood
  pub changed-letters : (old new : Stock S P K) (i : ℕ) (triple : Triple S) → new.triples ≡ old.triples → slice_get old.triples i ≡ Some triple → ((j : ℕ) → (j ≡ i → ⊥) → IsSameAt old new j)
      → processes_in config w new ≡ slice_set (processes_in config w old) i (process_in config w i triple new)
  changed-letters old new i triple still at same = changed-in old new i triple (still ∙ sym (put-there old.triples i triple at)) same

-- ---- past events

module _ {P K : Type 0} where
  -- one event at the front
  pub past-here : (i : ℕ) (e : Placed P K) (es : List (Placed P K)) → is_at i e ≡ true → past_at i (e ∷ es) ≡ e.event ∷ past_at i es
  past-here i e es is = ap (λ (b : Bool). map (λ (d : Placed P K). d.event) (if b then e ∷ filter (is_at i) es else filter (is_at i) es)) is

  pub past-elsewhere : (i : ℕ) (e : Placed P K) (es : List (Placed P K)) → is_at i e ≡ false → past_at i (e ∷ es) ≡ past_at i es
  past-elsewhere i e es is = ap (λ (b : Bool). map (λ (d : Placed P K). d.event) (if b then e ∷ filter (is_at i) es else filter (is_at i) es)) is

  past-append : (i : ℕ) (es ds : List (Placed P K)) → past_at i (es ++ ds) ≡ past_at i es ++ past_at i ds
  past-append i es ds = ap (map (λ (d : Placed P K). d.event)) (filter-append (is_at i) es ds) ∙ map-append (λ (d : Placed P K). d.event) (filter (is_at i) es) (filter (is_at i) ds)

  -- one event more at the end, of this process
  pub past-more : (i : ℕ) (event : PastEvent P K) (es : List (Placed P K)) → past_at i (es ++ record { index = i; event = event } ∷ []) ≡ past_at i es ++ event ∷ []
  past-more i event es =
      let e : Placed P K = record { index = i; event = event } in
      past-append i es (e ∷ []) ∙ ap (λ (ds : List (PastEvent P K)). past_at i es ++ ds) (past-here i e [] (eq-eqb i i refl))

  -- of another
  pub past-more-other : (i j : ℕ) (event : PastEvent P K) (es : List (Placed P K)) → (j ≡ i → ⊥) → past_at j (es ++ record { index = i; event = event } ∷ []) ≡ past_at j es
  past-more-other i j event es apart =
      let e : Placed P K = record { index = i; event = event } in
      past-append j es (e ∷ []) ∙ ap (λ (ds : List (PastEvent P K)). past_at j es ++ ds) (past-elsewhere j e [] (differ i j (λ same. apart (sym same)))) ∙ append-nil (past_at j es)

  -- where no event is one of a process, it has none
  pub none-at : (i : ℕ) (es : List (Placed P K)) → list_any (is_at i) es ≡ false → past_at i es ≡ []
  none-at i [] none = refl
  none-at i (e ∷ es) none =
      past-elsewhere i e es (first-false (is_at i e) (list_any (is_at i) es) none) ∙ none-at i es (second-false (is_at i e) (list_any (is_at i) es) none)

  -- where some is, the last one is the same whatever comes before
  pub last-any : (i : ℕ) (o : Option (PastEvent P K)) (es : List (Placed P K)) → list_any (is_at i) es ≡ true → last_or o (past_at i es) ≡ last_or None (past_at i es)
  last-any i o [] some = absurd (let k : false ≡ true = some in cc)
  last-any i o (e ∷ es) some = elim (cases_Bool (is_at i e)) [
    | inl is ↦ ap (last_or o) (past-here i e es is) ∙ sym (ap (last_or None) (past-here i e es is))
    | inr is ↦
        ap (last_or o) (past-elsewhere i e es is)
        ∙ last-any i o es (sym (ap (λ (b : Bool). b || list_any (is_at i) es) is) ∙ some)
        ∙ sym (ap (last_or None) (past-elsewhere i e es is))
  ]

  -- without the last event of this process
  pub past-less : (i : ℕ) (event : PastEvent P K) (es : List (Placed P K)) → last_or None (past_at i es) ≡ Some event → past_at i es ≡ past_at i (without_last_at i es) ++ event ∷ []
  past-less i event [] last = absurd (let k : None ≡ Some event = last in cc)
  past-less i event (e ∷ es) last =
      let left = λ (b c : Bool). if b && not c then es else e ∷ without_last_at i es in
      elim (cases_Bool (is_at i e)) [
        | inl is ↦ elim (cases_Bool (list_any (is_at i) es)) [
          | inl more ↦
              let rest = past-less i event es (sym (last-any i (Some e.event) es more) ∙ sym (ap (last_or None) (past-here i e es is)) ∙ last) in
              let kept : without_last_at i (e ∷ es) ≡ e ∷ without_last_at i es = λ j. left (is j) (more j) in
              past-here i e es is ∙ ap (λ (ds : List (PastEvent P K)). e.event ∷ ds) rest
              ∙ sym (ap (λ (ds : List (Placed P K)). past_at i ds ++ event ∷ []) kept ∙ ap (λ (ds : List (PastEvent P K)). ds ++ event ∷ []) (past-here i e (without_last_at i es) is))
          | inr none ↦
              let gone : without_last_at i (e ∷ es) ≡ es = λ j. left (is j) (none j) in
              let all : past_at i (e ∷ es) ≡ e.event ∷ [] = past-here i e es is ∙ ap (λ (ds : List (PastEvent P K)). e.event ∷ ds) (none-at i es none) in
              let k : Some e.event ≡ Some event = sym (ap (last_or None) all) ∙ last in
              let same : e.event ≡ event = cc in
              all ∙ (λ j. same j ∷ [])
              ∙ sym (ap (λ (ds : List (Placed P K)). past_at i ds ++ event ∷ []) gone ∙ ap (λ (ds : List (PastEvent P K)). ds ++ event ∷ []) (none-at i es none))
        ]
        | inr is ↦
            let kept : without_last_at i (e ∷ es) ≡ e ∷ without_last_at i es = λ j. left (is j) (list_any (is_at i) es) in
            past-elsewhere i e es is ∙ past-less i event es (sym (ap (last_or None) (past-elsewhere i e es is)) ∙ last)
            ∙ sym (ap (λ (ds : List (Placed P K)). past_at i ds ++ event ∷ []) kept ∙ ap (λ (ds : List (PastEvent P K)). ds ++ event ∷ []) (past-elsewhere i e (without_last_at i es) is))
      ]

  -- an event of one process is none of another
  at-other : (i j : ℕ) (e : Placed P K) → (j ≡ i → ⊥) → is_at i e ≡ true → is_at j e ≡ false
  at-other i j e apart is = differ e.index j (λ same. apart (sym same ∙ eqb-true e.index i is))

  past-cons : (j : ℕ) (e : Placed P K) (es ds : List (Placed P K)) → past_at j es ≡ past_at j ds → past_at j (e ∷ es) ≡ past_at j (e ∷ ds)
  past-cons j e es ds same = elim (cases_Bool (is_at j e)) [
    | inl is ↦ past-here j e es is ∙ ap (λ (xs : List (PastEvent P K)). e.event ∷ xs) same ∙ sym (past-here j e ds is)
    | inr is ↦ past-elsewhere j e es is ∙ same ∙ sym (past-elsewhere j e ds is)
  ]

  -- without the last event of another process
  pub past-less-other : (i j : ℕ) (es : List (Placed P K)) → (j ≡ i → ⊥) → past_at j (without_last_at i es) ≡ past_at j es
  past-less-other i j [] apart = refl
  past-less-other i j (e ∷ es) apart =
      elim (is_at i e) as (λ b. is_at i e ≡ b → past_at j (if b && not (list_any (is_at i) es) then es else e ∷ without_last_at i es) ≡ past_at j (e ∷ es)) [
        | true ↦ λ is. elim (list_any (is_at i) es) as (λ c. past_at j (if not c then es else e ∷ without_last_at i es) ≡ past_at j (e ∷ es)) [
          | true ↦ past-cons j e (without_last_at i es) es (past-less-other i j es apart)
          | false ↦ sym (past-elsewhere j e es (at-other i j e apart is))
        ]
        | false ↦ λ is. past-cons j e (without_last_at i es) es (past-less-other i j es apart)
      ] refl

-- ---- letters

module _ {P : Type 0} where
  -- a letter for one process is for no other
  pub to-other : (p q : ℕ) (letter : Letter P) → letter.event.dest ≡ p → (q ≡ p → ⊥) → is_to q letter ≡ false
  to-other p q letter dest apart = differ letter.event.dest q (λ same. apart (sym same ∙ dest))

  pub to-own : (p : ℕ) (letter : Letter P) → letter.event.dest ≡ p → is_to p letter ≡ true
  to-own p letter dest = eq-eqb letter.event.dest p dest

  -- a letter more at the front
  pub to-first : (p : ℕ) (letter : Letter P) (letters : List (Letter P)) → letter.event.dest ≡ p → letters_to p (letter ∷ letters) ≡ letter ∷ letters_to p letters
  to-first p letter letters dest = ap (λ (b : Bool). if b then letter ∷ letters_to p letters else letters_to p letters) (to-own p letter dest)

  pub to-first-other : (p q : ℕ) (letter : Letter P) (letters : List (Letter P)) → letter.event.dest ≡ p → (q ≡ p → ⊥) → letters_to q (letter ∷ letters) ≡ letters_to q letters
  to-first-other p q letter letters dest apart = ap (λ (b : Bool). if b then letter ∷ letters_to q letters else letters_to q letters) (to-other p q letter dest apart)

  -- in its place
  pub to-insert : (p : ℕ) (letter : Letter P) (letters : List (Letter P)) → letter.event.dest ≡ p → IsRising letters → letters_to p (insert_letter letter letters) ≡ insert_letter letter (letters_to p letters)
  to-insert p letter letters dest rises = filter-insert (is_to p) letter letters (to-own p letter dest) rises

  pub to-insert-other : (p q : ℕ) (letter : Letter P) (letters : List (Letter P)) → letter.event.dest ≡ p → (q ≡ p → ⊥) → letters_to q (insert_letter letter letters) ≡ letters_to q letters
  to-insert-other p q letter letters dest apart = filter-insert-other (is_to q) letter letters (to-other p q letter dest apart)

  -- without the one of a rank
  pub to-without : (p : ℕ) (rank : Rank) (letter : Letter P) (letters : List (Letter P)) → find (has_rank rank) letters ≡ Some letter → letter.event.dest ≡ p
      → letters_to p (without_first (has_rank rank) letters) ≡ without_first (has_rank rank) (letters_to p letters)
  to-without p rank letter letters found dest = filter-without (has_rank rank) (is_to p) letter letters found (to-own p letter dest)

  pub to-without-other : (p q : ℕ) (rank : Rank) (letter : Letter P) (letters : List (Letter P)) → find (has_rank rank) letters ≡ Some letter → letter.event.dest ≡ p → (q ≡ p → ⊥)
      → letters_to q (without_first (has_rank rank) letters) ≡ letters_to q letters
  to-without-other p q rank letter letters found dest apart = filter-without-other (has_rank rank) (is_to q) letter letters found (to-other p q letter dest apart)
