-- An outbox's letters, sorted by the workers of their receivers.
use Rattle.std.proofs.Common.{◌≡◌, ◌∙◌, ℕ, ◌+◌, ◌-◌, ◌%◌, ◌^◌, ◌<◌, ◌≤◌, append-nil, Bool, true, false, not, cond, nat_eq, nat_lt, ◌||◌, if◌then◌else◌, List, [], ◌∷◌, ◌++◌, length, drop, replicate, Option, Some, None, IfNone, IsTrue, slice_get, slice_set, slice_index_or, refl, sym, ap, subst, inl, inr, arith}
use native.Mathlib.Nat.{mod-lt}
use Rattle.std.specs.List.{filter, find, list_any}
use Rattle.std.proofs.lemmas.Option.{slice_get_read}
use Rattle.std.proofs.lemmas.Bool.Decides.{eqb_tells, nat_tests}
use Rattle.std.proofs.lemmas.List.{length-append, length-replicate, length-set}
use Rattle.std.proofs.lemmas.List.Elements.{filter-append}
use Rattle.std.specs.Option.{is_some}
use Rattle.vt_key.specs.promise.Times.{Time, earlier}
use Rattle.vt_key.specs.promise.Queues.{without_first}
use Rattle.vt_key.specs.declared.letter.Letter.{Letter}
use Rattle.vt_model.specs.declared.settings.Config.{Config}
use Rattle.vt_steps.specs.promise.Letters.{least_time}
use Rattle.vt_steps.specs.promise.PartSteps.{is_for}
use Rattle.vt_steps.proofs.lists.Indices.{all-written, get-replicate}
use Rattle.vt_outbox.specs.inside.Outbox.{HeldOutbox, IsSorted}
use Rattle.vt_outbox.proofs.PartingLemmas.{passes, fails}

-- ---- the first that passes a test, and those that do not pass

module _ {X : Type 0} (test : X → Bool) where
  -- the first that passes is the first of those that pass
  pub find-filter : (xs : List X) → find test xs ≡ slice_get (filter test xs) 0
  find-filter [] = refl
  find-filter (x ∷ xs) =
      elim (test x) as (λ (b : Bool). cond b (Some x) (find test xs) ≡ slice_get (cond b (x ∷ filter test xs) (filter test xs)) 0) [ true ↦ refl | false ↦ find-filter xs ]

  -- without it, those that pass are the others of them
  pub filter-without : (xs : List X) → filter test (without_first test xs) ≡ drop 1 (filter test xs)
  filter-without [] = refl
  filter-without (x ∷ xs) =
      elim (test x) as (λ (b : Bool). test x ≡ b → filter test (if b then xs else x ∷ without_first test xs) ≡ drop 1 (cond b (x ∷ filter test xs) (filter test xs))) [
        | true ↦ λ _. refl
        | false ↦ λ e. fails test x (without_first test xs) e ∙ filter-without xs
      ] refl

  -- it is one less without it
  pub length-without : (xs : List X) (x : X) → find test xs ≡ Some x → length xs ≡ length (without_first test xs) + 1
  length-without [] x is = absurd (let k : None ≡ Some x = is in cc)
  length-without (y ∷ ys) x is =
      (elim (test y) as (λ (b : Bool). cond b (Some y) (find test ys) ≡ Some x → length (y ∷ ys) ≡ length (if b then ys else y ∷ without_first test ys) + 1) [
        | true ↦ λ _. omega arith
        | false ↦ λ e. (let rest = length-without ys x e in omega (arith, rest))
      ]) is

  -- where none passes, all are left
  pub without-none : (xs : List X) → find test xs ≡ None → without_first test xs ≡ xs
  without-none [] is = refl
  without-none (y ∷ ys) is =
      (elim (test y) as (λ (b : Bool). cond b (Some y) (find test ys) ≡ None → (if b then ys else y ∷ without_first test ys) ≡ y ∷ ys) [
        | true ↦ λ e. absurd (let k : Some y ≡ None = e in cc)
        | false ↦ λ e. ap (λ zs. y ∷ zs) (without-none ys e)
      ]) is

  -- of those that do not pass, none passes
  pub filter-others_none : (xs : List X) → filter test (filter (λ (y : X). not (test y)) xs) ≡ []
  filter-others_none [] = refl
  filter-others_none (x ∷ xs) =
      let rest : List X = filter (λ (y : X). not (test y)) xs in
      elim (test x) as (λ (b : Bool). test x ≡ b → filter test (cond (not b) (x ∷ rest) rest) ≡ []) [
        | true ↦ λ _. filter-others_none xs
        | false ↦ λ e. fails test x rest e ∙ filter-others_none xs
      ] refl

  -- each passes or does not
  pub length-parted : (xs : List X) → length xs ≡ length (filter test xs) + length (filter (λ (y : X). not (test y)) xs)
  length-parted [] = refl
  length-parted (x ∷ xs) =
      let rest = length-parted xs in
      elim (test x) as (λ (b : Bool). length (x ∷ xs) ≡ length (cond b (x ∷ filter test xs) (filter test xs)) + length (cond (not b) (x ∷ filter (λ (y : X). not (test y)) xs) (filter (λ (y : X). not (test y)) xs))) [
        | true ↦ omega (arith, rest)
        | false ↦ omega (arith, rest)
      ]

  -- where one passes there is some
  pub any-filter : (xs : List X) → (filter test xs ≡ [] → ⊥) → list_any test xs ≡ true
  any-filter [] some = absurd (some refl)
  any-filter (x ∷ xs) some =
      (elim (test x) as (λ (b : Bool). (cond b (x ∷ filter test xs) (filter test xs) ≡ [] → ⊥) → (b || list_any test xs) ≡ true) [
        | true ↦ λ _. refl
        | false ↦ λ more. any-filter xs more
      ]) some

  pub none-filter : (xs : List X) → filter test xs ≡ [] → list_any test xs ≡ false
  none-filter [] none = refl
  none-filter (x ∷ xs) none =
      (elim (test x) as (λ (b : Bool). cond b (x ∷ filter test xs) (filter test xs) ≡ [] → (b || list_any test xs) ≡ false) [
        | true ↦ λ e. absurd (omega (arith, ap length e))
        | false ↦ λ e. none-filter xs e
      ]) none

  -- what a list of those that pass tells by being empty
  pub empty-any : (xs list : List X) (empty : Bool) → (IsTrue empty → list ≡ []) × (list ≡ [] → IsTrue empty) → list ≡ filter test xs → not empty ≡ list_any test xs
  empty-any xs list true told is = sym (none-filter xs (sym is ∙ told.0 refl))
  empty-any xs list false told is = sym (any-filter xs (λ e. absurd (let k : false ≡ true = told.1 (is ∙ e) in cc)))

  -- a test that nothing passes
  module _ (never : (x : X) → test x ≡ false) where
    pub filter-never : (xs : List X) → filter test xs ≡ []
    filter-never [] = refl
    filter-never (x ∷ xs) = fails test x xs (never x) ∙ filter-never xs

  -- a test that all pass
  pub filter-always : ((x : X) → test x ≡ true) → (xs : List X) → filter test xs ≡ xs
  filter-always always [] = refl
  filter-always always (x ∷ xs) = passes test x xs (always x) ∙ ap (λ ys. x ∷ ys) (filter-always always xs)

  -- another test, which fails what passes this one
  module _ (other : X → Bool) (apart : (x : X) → test x ≡ true → other x ≡ false) where
    pub filter-without_other : (xs : List X) → filter other (without_first test xs) ≡ filter other xs
    filter-without_other [] = refl
    filter-without_other (x ∷ xs) =
        elim (test x) as (λ (b : Bool). test x ≡ b → filter other (if b then xs else x ∷ without_first test xs) ≡ filter other (x ∷ xs)) [
          | true ↦ λ e. sym (fails other x xs (apart x e))
          | false ↦ λ e. ap (λ (ys : List X). cond (other x) (x ∷ ys) ys) (filter-without_other xs)
        ] refl

    pub filter-others_other : (xs : List X) → filter other (filter (λ (y : X). not (test y)) xs) ≡ filter other xs
    filter-others_other [] = refl
    filter-others_other (x ∷ xs) =
        let rest : List X = filter (λ (y : X). not (test y)) xs in
        elim (test x) as (λ (b : Bool). test x ≡ b → filter other (cond (not b) (x ∷ rest) rest) ≡ filter other (x ∷ xs)) [
          | true ↦ λ e. filter-others_other xs ∙ sym (fails other x xs (apart x e))
          | false ↦ λ e. ap (λ (ys : List X). cond (other x) (x ∷ ys) ys) (filter-others_other xs)
        ] refl

-- the list that was read at the number of a worker of what a contract sees is there
pub list-read : {P : Type 0} {config : Config} {lists : List (List (Letter P))} {count : ℕ} {letters : List (Letter P)} → IsSorted config lists count letters
    → (outbox : HeldOutbox P) → record { config = config; letters = letters } ≡ outbox → (v : ℕ) → v < outbox.config.workers → (list : List (Letter P)) → list ≡ slice_index_or lists v list → slice_get lists v ≡ Some list
list-read {config = config} {lists = lists} sorted outbox is v known list was_read =
    slice_get_read lists config.workers v list (sym sorted.all_there) (subst (λ (o : HeldOutbox _). v < o.config.workers) (sym is) known) was_read

-- what holds where an index finds nothing
pub if-none : {X : Type 0} (found : Option X) (v n : ℕ) (Q : Type 0) → is_some found ≡ nat_lt v n → (n ≤ v → Q) → IfNone found Q
if-none (Some x) v n Q is past = tt
if-none None v n Q is past = past (let e : false ≡ nat_lt v n = is in grind (arith, nat_tests))

-- a number is not two numbers
pub not-both : (n u v : ℕ) → (u ≡ v → ⊥) → nat_eq n v ≡ true → nat_eq n u ≡ false
not-both n u v apart is =
    elim (eqb_tells n v) [
      | inl e ↦
          (elim (eqb_tells n u) [
            | inl f ↦ absurd (apart (sym f.1 ∙ e.1))
            | inr f ↦ f.0
          ])
      | inr e ↦ absurd (let k : true ≡ false = sym is ∙ e.0 in cc)
    ]

-- ---- worker by worker

-- the letters for processes of the first workers
abbrev pub letters_below : {P : Type 0} → Config → ℕ → List (Letter P) → List (Letter P)
letters_below config k letters = filter (λ letter. nat_lt (letter.event.dest % config.workers) k) letters

module _ {P : Type 0} (end : Time) where
  -- the least time of all that pass one test or another
  least-either : (one two both : Letter P → Bool) → ((x : Letter P) → both x ≡ (one x || two x)) → (xs : List (Letter P))
      → least_time end (filter both xs) ≡ earlier (least_time end (filter one xs)) (least_time end (filter two xs))
  least-either one two both is [] = omega arith
  least-either one two both is (x ∷ xs) =
      let rest = least-either one two both is xs in
      let a = filter one xs in let b = filter two xs in let c = filter both xs in
      ap (λ (t : Bool). least_time end (cond t (x ∷ c) c)) (is x)
      ∙ (elim (one x) as (λ (p : Bool). least_time end (cond (p || two x) (x ∷ c) c) ≡ earlier (least_time end (cond p (x ∷ a) a)) (least_time end (cond (two x) (x ∷ b) b))) [
        | true ↦
            (elim (two x) as (λ (q : Bool). least_time end (x ∷ c) ≡ earlier (least_time end (x ∷ a)) (least_time end (cond q (x ∷ b) b))) [
              | true ↦ omega (arith, rest)
              | false ↦ omega (arith, rest)
            ])
        | false ↦
            (elim (two x) as (λ (q : Bool). least_time end (cond q (x ∷ c) c) ≡ earlier (least_time end a) (least_time end (cond q (x ∷ b) b))) [
              | true ↦ omega (arith, rest)
              | false ↦ rest
            ])
      ])

  -- with the letters for one worker more
  pub least-below_more : (config : Config) (k : ℕ) (letters : List (Letter P))
      → least_time end (letters_below config (k + 1) letters) ≡ earlier (least_time end (letters_below config k letters)) (least_time end (filter (is_for config.workers k) letters))
  least-below_more config k letters =
      least-either (λ l. nat_lt (l.event.dest % config.workers) k) (is_for config.workers k) (λ l. nat_lt (l.event.dest % config.workers) (k + 1)) (λ x. below-more (x.event.dest % config.workers) k) letters
    where
      below-more : (n m : ℕ) → nat_lt n (m + 1) ≡ (nat_lt n m || nat_eq n m)
      below-more n m = grind (arith, nat_tests)

module _ {P : Type 0} (config : Config) where
  -- each letter is for one of the workers
  receiver-known : (x : Letter P) → x.event.dest % config.workers < config.workers
  receiver-known x = mod-lt x.event.dest config.some_worker

  -- none is for a worker below the first
  pub letters_below-none : (letters : List (Letter P)) → letters_below config 0 letters ≡ []
  letters_below-none letters = filter-never (λ (l : Letter P). nat_lt (l.event.dest % config.workers) 0) (λ x. none (x.event.dest % config.workers)) letters
    where
      none : (n : ℕ) → nat_lt n 0 ≡ false
      none n = grind (arith, nat_tests)

  -- all are for the workers of the run
  pub letters_below-all : (n : ℕ) (letters : List (Letter P)) → config.workers ≤ n → letters_below config n letters ≡ letters
  letters_below-all n letters enough = filter-always (λ (l : Letter P). nat_lt (l.event.dest % config.workers) n) (λ x. known (x.event.dest % config.workers) (receiver-known x)) letters
    where
      known : (m : ℕ) → m < config.workers → nat_lt m n ≡ true
      known m less = grind (arith, nat_tests)

  -- no letter is for a worker behind the last
  pub never-beyond : (v : ℕ) → config.workers ≤ v → (x : Letter P) → is_for config.workers v x ≡ false
  never-beyond v past x =
      elim (eqb_tells (x.event.dest % config.workers) v) [
        | inl e ↦ absurd (let known = receiver-known x in let same = e.1 in omega (arith, known, same, past))
        | inr e ↦ e.0
      ]

  -- where there is one for a worker, there is that worker
  pub receiver-below : (v : ℕ) (letters : List (Letter P)) → 0 < length (filter (is_for config.workers v) letters) → v < config.workers
  receiver-below v letters some =
      let beyond : (config.workers ≤ v → ⊥) = λ past. (let none : length (filter (is_for config.workers v) letters) ≡ 0 = ap length (filter-never (is_for config.workers v) (never-beyond v past) letters) in omega (arith, none, some)) in
      omega (arith, beyond)

-- ---- an outbox

module _ {P : Type 0} {config : Config} {lists : List (List (Letter P))} {count : ℕ} {letters : List (Letter P)} (h : IsSorted config lists count letters) where
  -- a letter is put behind all others
  pub sorted-put : (letter : Letter P) (v next : ℕ) {list new : List (Letter P)} → letter.event.dest % config.workers ≡ v → slice_get lists v ≡ Some list → new ≡ list ++ letter ∷ []
      → next ≡ (count + 1) % 2 ^ 64 → IsSorted config (slice_set lists v new) next (letters ++ letter ∷ [])
  sorted-put letter v next {list} {new} own there is more =
      let mine : nat_eq (letter.event.dest % config.workers) v ≡ true = (elim (eqb_tells (letter.event.dest % config.workers) v) [ inl e ↦ e.0 | inr e ↦ absurd (e.1 own) ]) in
      let kept = λ (u : ℕ). filter-append (is_for config.workers u) letters (letter ∷ []) in
      let one : length (letters ++ letter ∷ []) ≡ length letters + 1 = length-append letters (letter ∷ []) in
      let was = h.counted in
      record {
        all_there = length-set lists v new ∙ h.all_there;
        sorted = all-written (λ u list. list ≡ filter (is_for config.workers u) (letters ++ letter ∷ [])) lists v list new there
            (is ∙ ap (λ ls. ls ++ letter ∷ []) (h.sorted v list there) ∙ ap (λ (b : Bool). filter (is_for config.workers v) letters ++ cond b (letter ∷ []) []) (sym mine) ∙ sym (kept v))
            (λ u l apart at. h.sorted u l at ∙ sym (kept u ∙ ap (λ (b : Bool). filter (is_for config.workers u) letters ++ cond b (letter ∷ []) []) (not-both (letter.event.dest % config.workers) u v apart mine) ∙ append-nil (filter (is_for config.workers u) letters)));
        counted = omega (arith, one, was, more);
      }

  -- the letters for a worker are empty where its list is
  pub none-for : (v : ℕ) {list : List (Letter P)} → slice_get lists v ≡ Some list → list ≡ [] → find (is_for config.workers v) letters ≡ None
  none-for v {list} there is = find-filter (is_for config.workers v) letters ∙ ap (λ (ls : List (Letter P)). slice_get ls 0) (sym (h.sorted v list there) ∙ is)

  -- the first letter for a worker
  pub first-for : (v : ℕ) (letter : Letter P) {list rest : List (Letter P)} → slice_get lists v ≡ Some list → list ≡ letter ∷ rest → find (is_for config.workers v) letters ≡ Some letter
  first-for v letter {list} there is = find-filter (is_for config.workers v) letters ∙ ap (λ (ls : List (Letter P)). slice_get ls 0) (sym (h.sorted v list there) ∙ is)

  -- it is taken out
  pub sorted-pop : (letter : Letter P) (v next : ℕ) {list new : List (Letter P)} → slice_get lists v ≡ Some list → list ≡ letter ∷ new → next ≡ (count + 18446744073709551615) % 2 ^ 64
      → IsSorted config (slice_set lists v new) next (without_first (is_for config.workers v) letters)
  sorted-pop letter v next {list} {new} there is less =
      let test : Letter P → Bool = is_for config.workers v in
      let one = length-without test letters letter (first-for v letter there is) in
      let was = h.counted in
      record {
        all_there = length-set lists v new ∙ h.all_there;
        sorted = all-written (λ u l. l ≡ filter (is_for config.workers u) (without_first test letters)) lists v list new there
            (ap (drop 1) (sym is ∙ h.sorted v list there) ∙ sym (filter-without test letters))
            (λ u l apart at. h.sorted u l at ∙ sym (filter-without_other test (is_for config.workers u) (λ x mine. not-both (x.event.dest % config.workers) u v apart mine) letters));
        counted = omega (arith, one, was, less);
      }

  -- it is put back
  pub sorted-back : (letter : Letter P) (v next : ℕ) (before : List (Letter P)) {list new : List (Letter P)} → slice_get lists v ≡ Some list → new ≡ letter ∷ list
      → find (is_for config.workers v) before ≡ Some letter → letters ≡ without_first (is_for config.workers v) before → next ≡ (count + 1) % 2 ^ 64
      → IsSorted config (slice_set lists v new) next before
  sorted-back letter v next before {list} {new} there is found without more =
      let test : Letter P → Bool = is_for config.workers v in
      let one = length-without test before letter found in
      let was = h.counted in
      let less : length letters ≡ length (without_first test before) = ap length without in
      record {
        all_there = length-set lists v new ∙ h.all_there;
        sorted = all-written (λ u l. l ≡ filter (is_for config.workers u) before) lists v list new there
            (is ∙ ap (λ ls. letter ∷ ls) (h.sorted v list there ∙ ap (filter test) without ∙ filter-without test before) ∙ first-again (filter test before) (sym (find-filter test before) ∙ found))
            (λ u l apart at. h.sorted u l at ∙ ap (filter (is_for config.workers u)) without ∙ filter-without_other test (is_for config.workers u) (λ x mine. not-both (x.event.dest % config.workers) u v apart mine) before);
        counted = omega (arith, one, was, less, more);
      }
    where
      first-again : (xs : List (Letter P)) → slice_get xs 0 ≡ Some letter → letter ∷ drop 1 xs ≡ xs
      first-again [] at = absurd (let k : None ≡ Some letter = at in cc)
      first-again (x ∷ xs) at = (let same : x ≡ letter = cc in ap (λ (y : Letter P). y ∷ xs) (sym same))

  -- all letters for a worker are taken out
  pub sorted-taken : (v next taken : ℕ) {list new : List (Letter P)} → slice_get lists v ≡ Some list → new ≡ [] → taken ≡ length list % 2 ^ 64 → next ≡ (count + (18446744073709551616 - taken)) % 2 ^ 64
      → IsSorted config (slice_set lists v new) next (filter (λ (l : Letter P). not (is_for config.workers v l)) letters)
  sorted-taken v next taken {list} {new} there is size less =
      let test : Letter P → Bool = is_for config.workers v in
      let own : length list ≡ length (filter test letters) = ap length (h.sorted v list there) in
      let both = length-parted test letters in
      let was = h.counted in
      record {
        all_there = length-set lists v new ∙ h.all_there;
        sorted = all-written (λ u l. l ≡ filter (is_for config.workers u) (filter (λ (l : Letter P). not (test l)) letters)) lists v list new there
            (is ∙ sym (filter-others_none test letters))
            (λ u l apart at. h.sorted u l at ∙ sym (filter-others_other test (is_for config.workers u) (λ x mine. not-both (x.event.dest % config.workers) u v apart mine) letters));
        counted = omega (arith, own, both, was, size, less);
      }

-- an outbox without letters
pub sorted-none : {P : Type 0} (config : Config) (n : ℕ) (lists : List (List (Letter P))) → lists ≡ replicate n [] → config.workers ≡ n → IsSorted config lists 0 []
sorted-none config n lists is all = record {
  all_there = ap length is ∙ length-replicate n [] ∙ sym all;
  sorted = λ v list at. get-replicate n v [] list (ap (λ (ls : List (List (Letter _))). slice_get ls v) (sym is) ∙ at);
  counted = refl;
}

-- where no letter was found for a worker, the outbox is as it was
pub none-popped : {P : Type 0} (w : ℕ) {outbox popped : HeldOutbox P} → None ≡ find (is_for outbox.config.workers w) outbox.letters
    → popped ≡ record outbox { letters = without_first (is_for outbox.config.workers w) outbox.letters } → popped ≡ outbox
none-popped w {outbox} none is = is ∙ (λ j. record outbox { letters = without-none (is_for outbox.config.workers w) outbox.letters (sym none) j })
