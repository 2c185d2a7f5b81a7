-- What a queue keeps when letters of one list come or go.
use Rattle.std.proofs.Common.{Bool, true, false, not, ◌||◌, if◌then◌else◌, ◌≡◌, ◌≢◌, ◌↔◌, refl, sym, ap, ◌∙◌, subst, arith}
use Rattle.std.specs.Prelude.{ℕ, ◌+◌, ◌<◌, nat_eq, IsBitSet, List, [], ◌∷◌, length, drop, filter, find, Some, None}
use Rattle.std.specs.List.{list_any}
use Rattle.std.proofs.lemmas.Option.{none-some}
use Rattle.vt_key.specs.promise.Order.{rank_before}
use Rattle.vt_key.specs.promise.Queues.{without_first, letter_rank, has_rank, insert_letter}
use Rattle.vt_key.specs.inside.Queues.{holds_rank, IsRising}
use Rattle.vt_key.specs.declared.order.Rank.{Rank}
use Rattle.vt_key.specs.declared.letter.Letter.{Letter}
use Rattle.vt_key.proofs.OrderLemmas.{rank_same-true}
use Rattle.vt_pending.specs.inside.Buckets.{bucket_of, in_bucket, not_in_bucket, list_at, without_list, insert_in, put_some, letters_of, AreLists, Buckets}
use Rattle.vt_key.proofs.RisingLemmas.{IsRising-insert, IsRising-without}
use Rattle.vt_pending.proofs.Filters.{find-filter, filter-insert, filter-insert-other, filter-without, filter-without-other}
use Rattle.vt_pending.proofs.Lists.{own, in-own, same-number, number-same, listed-list, listed-insert, listed-put, listed-letters}

-- a list that can't be otherwise is empty
pub empty-else : {X : Type 0} (xs : List X) → (xs ≢ [] → ⊥) → xs ≡ []
empty-else [] none = refl
empty-else (x ∷ xs) none = absurd (none (λ e. omega (arith, ap length e)))

abbrev head_or : {X : Type 0} → X → List X → X
head_or x [] = x
head_or x (y ∷ ys) = y

module _ {P : Type 0} where
  -- bit b is set where letters belong into list b
  abbrev pub Marks : ℕ → List (Letter P) → Type 0
  Marks mask letters = (b : ℕ) → b < 64 → IsBitSet mask b ↔ (filter (in_bucket b) letters ≢ [])

  pub marks-of : (mask : ℕ) (lists : List (List (Letter P))) (letters : List (Letter P)) → Buckets mask lists letters → Marks mask letters
  marks-of mask lists letters kept b within = (
    (λ set e. (kept.bit b within).0 set (kept.list b within ∙ e)),
    (λ some. (kept.bit b within).1 (λ e. some (sym (kept.list b within) ∙ e))),
  )

  -- the lists are those of these letters
  pub record Keeps (mask : ℕ) (lists : List (List (Letter P))) (letters : List (Letter P)) : Type 0 where
    pub buckets : Buckets mask lists (letters_of lists)
    pub letters_are : letters_of lists ≡ letters

  pub keeps : (mask : ℕ) (lists : List (List (Letter P))) (letters : List (Letter P)) → IsRising letters → AreLists lists letters → Marks mask letters → Keeps mask lists letters
  keeps mask lists letters rises listed marks =
      let are = listed-letters lists letters rises listed in
      let kept : Buckets mask lists letters = record {
        rising = rises;
        list = λ b within. listed-list b lists letters listed;
        bit = λ b within. ((λ set e. (marks b within).0 set (sym (listed-list b lists letters listed) ∙ e)), (λ some. (marks b within).1 (λ e. some (listed-list b lists letters listed ∙ e))));
        listed = listed;
      } in
      record { buckets = subst (Buckets mask lists) (sym are) kept; letters_are = are }

  -- a letter isn't in another list than its own
  not-own : (b : ℕ) (x : Letter P) → b ≢ own x → in_bucket b x ≡ false
  not-own b x other = elim (in_bucket b x) as (λ c. in_bucket b x ≡ c → c ≡ false) [ true ↦ λ e. absurd (other (sym (same-number (own x) b e))) | false ↦ λ e. refl ] refl

  own-not : (x : Letter P) → not_in_bucket (own x) x ≡ false
  own-not x = ap not (in-own x)

  -- one list changed, with its bit
  pub changed : (mask new b : ℕ) (letters after : List (Letter P)) (lists : List (List (Letter P))) → Marks mask letters → IsRising after → AreLists lists after
      → (IsBitSet new b ↔ (filter (in_bucket b) after ≢ [])) → ((c : ℕ) → c ≢ b → IsBitSet new c ↔ IsBitSet mask c)
      → ((c : ℕ) → c ≢ b → filter (in_bucket c) after ≡ filter (in_bucket c) letters) → Keeps new lists after
  changed mask new b letters after lists marks rises listed bit bits same =
      keeps new lists after rises listed (λ c within.
      elim (nat_eq c b) as (λ t. nat_eq c b ≡ t → IsBitSet new c ↔ (filter (in_bucket c) after ≢ [])) [
        | true ↦ λ e. subst (λ n. IsBitSet new n ↔ (filter (in_bucket n) after ≢ [])) (sym (same-number c b e)) bit
        | false ↦ λ e.
            let other : c ≢ b = λ q. (let h : true ≡ false = sym (ap (λ n. nat_eq n b) q ∙ number-same b) ∙ e in cc) in (
              (λ set f. (marks c within).0 ((bits c other).0 set) (sym (same c other) ∙ f)),
              (λ some. (bits c other).1 ((marks c within).1 (λ f. some (same c other ∙ f)))),
            )
      ] refl)

  insert-full : (x : Letter P) (ls : List (Letter P)) → insert_letter x ls ≢ []
  insert-full x [] e = omega (arith, ap length e)
  insert-full x (l ∷ ls) e =
      elim (rank_before (letter_rank x) (letter_rank l)) as (λ b. (if b then x ∷ l ∷ ls else l ∷ insert_letter x ls) ≡ [] → ⊥) [ true ↦ λ f. omega (arith, ap length f) | false ↦ λ f. omega (arith, ap length f) ] e

  -- a letter came
  pub inserted : (mask new : ℕ) (x : Letter P) (letters : List (Letter P)) (lists after : List (List (Letter P))) → Marks mask letters → IsRising letters → AreLists lists letters → holds_rank (letter_rank x) letters ≡ false
      → after ≡ insert_in (own x) x lists → IsBitSet new (own x) → ((c : ℕ) → c ≢ own x → IsBitSet new c ↔ IsBitSet mask c) → Keeps new after (insert_letter x letters)
  inserted mask new x letters lists after marks rises listed none is bit bits =
      let there : filter (in_bucket (own x)) (insert_letter x letters) ≡ insert_letter x (filter (in_bucket (own x)) letters) = filter-insert (in_bucket (own x)) x letters (in-own x) rises in
      changed mask new (own x) letters (insert_letter x letters) after marks (IsRising-insert x letters none rises)
      (subst (λ ls. AreLists ls (insert_letter x letters)) (sym is) (listed-insert x lists letters rises none listed))
      ((λ set e. insert-full x (filter (in_bucket (own x)) letters) (sym there ∙ e)), (λ some. bit)) bits (λ c other. filter-insert-other (in_bucket c) x letters (not-own c x other))

  -- the first letter went
  pub record Left (x : Letter P) (mask : ℕ) (lists : List (List (Letter P))) (letters : List (Letter P)) : Type 0 where
    pub others : List (Letter P)
    pub is : letters ≡ x ∷ others
    pub kept : Keeps mask lists others

  pub first-left : (mask new : ℕ) (x : Letter P) (line : List (Letter P)) (letters : List (Letter P)) (rest lists : List (List (Letter P))) → Marks mask letters → IsRising letters → AreLists ((x ∷ line) ∷ rest) letters
      → lists ≡ put_some line rest → (IsBitSet new (own x) ↔ (line ≢ [])) → ((c : ℕ) → c ≢ own x → IsBitSet new c ↔ IsBitSet mask c) → Left x new lists letters
  first-left mask new x line [] rest lists marks rises listed put bit bits = absurd listed
  first-left mask new x line (y ∷ ys) rest lists marks rises listed put bit bits =
      let same : x ≡ y = ap (head_or x) listed.0 in
      let more : line ≡ filter (in_bucket (own y)) ys = ap (drop 1) listed.0 in
      record {
        others = ys;
        is = ap (λ z. z ∷ ys) (sym same);
        kept =
            changed mask new (own y) (y ∷ ys) ys lists marks rises.1 (subst (λ ls. AreLists ls ys) (sym (put ∙ ap (λ l. put_some l rest) more)) (listed-put (own y) rest ys rises.1 listed.1))
            (subst (λ (z : Letter P). IsBitSet new (own z) ↔ (filter (in_bucket (own y)) ys ≢ [])) same (subst (λ (l : List (Letter P)). IsBitSet new (own x) ↔ (l ≢ [])) more bit))
            (λ c other. bits c (λ e. other (e ∙ ap own same)))
            (λ c other. ap (λ b. if b then y ∷ filter (in_bucket c) ys else filter (in_bucket c) ys) (sym (not-own c y other)));
      }

  -- the first letter that passes a test went
  pub passing-left : (mask new : ℕ) (test : Letter P → Bool) (x : Letter P) (letters line : List (Letter P)) (rest lists : List (List (Letter P))) → Marks mask letters → IsRising letters → find test letters ≡ Some x
      → AreLists rest (filter (not_in_bucket (own x)) letters) → line ≡ without_first test (filter (in_bucket (own x)) letters) → lists ≡ put_some line rest → (IsBitSet new (own x) ↔ (line ≢ []))
      → ((c : ℕ) → c ≢ own x → IsBitSet new c ↔ IsBitSet mask c) → Keeps new lists (without_first test letters)
  passing-left mask new test x letters line rest lists marks rises found listed line_is put bit bits =
      let there : line ≡ filter (in_bucket (own x)) (without_first test letters) = line_is ∙ sym (filter-without test (in_bucket (own x)) x letters found (in-own x)) in
      let after : List (Letter P) = without_first test letters in
      let rises_on : IsRising after = IsRising-without test letters rises in
      let others : AreLists rest (filter (not_in_bucket (own x)) after) = subst (AreLists rest) (sym (filter-without-other test (not_in_bucket (own x)) x letters found (own-not x))) listed in
      changed mask new (own x) letters after lists marks rises_on (subst (λ ls. AreLists ls after) (sym (put ∙ ap (λ l. put_some l rest) there)) (listed-put (own x) rest after rises_on others))
      (subst (λ (l : List (Letter P)). IsBitSet new (own x) ↔ (l ≢ [])) there bit) bits (λ c other. filter-without-other test (in_bucket c) x letters found (not-own c x other))

  -- a rank can be in the list of its time alone
  pub holds-own : (r : Rank) (letters : List (Letter P)) → holds_rank r (filter (in_bucket (bucket_of r)) letters) ≡ holds_rank r letters
  holds-own r [] = refl
  holds-own r (x ∷ xs) =
      elim (in_bucket (bucket_of r) x) as (λ c. in_bucket (bucket_of r) x ≡ c → holds_rank r (if c then x ∷ filter (in_bucket (bucket_of r)) xs else filter (in_bucket (bucket_of r)) xs) ≡ has_rank r x || holds_rank r xs) [
        | true ↦ λ e. ap (λ t. has_rank r x || t) (holds-own r xs)
        | false ↦ λ e.
            let other : has_rank r x ≡ false = elim (has_rank r x) as (λ t. has_rank r x ≡ t → t ≡ false) [
              | true ↦ λ h.
                  let same : own x ≡ bucket_of r = ap bucket_of (rank_same-true (letter_rank x) r h) in
                  absurd (let wrong : true ≡ false = sym (ap (λ n. nat_eq n (bucket_of r)) same ∙ number-same (bucket_of r)) ∙ e in let h : true ≡ false = wrong in cc)
              | false ↦ λ h. refl
            ] refl in
            holds-own r xs ∙ sym (ap (λ t. t || holds_rank r xs) other)
      ] refl

  -- some letter belongs into list b where it isn't empty
  pub any-list : (b : ℕ) (letters : List (Letter P)) → (filter (in_bucket b) letters ≢ []) ↔ (list_any (in_bucket b) letters ≡ true)
  any-list b [] = ((λ some. absurd (some refl)), (λ e. absurd (let h : false ≡ true = e in cc)))
  any-list b (x ∷ xs) = let more = any-list b xs in
      elim (in_bucket b x) as (λ c. ((if c then x ∷ filter (in_bucket b) xs else filter (in_bucket b) xs) ≢ []) ↔ (c || list_any (in_bucket b) xs ≡ true)) [
        | true ↦ ((λ some. refl), (λ e f. omega (arith, ap length f)))
        | false ↦ more
      ]

  -- where list b is empty, the lists are without it
  pub without-none : (b : ℕ) (lists : List (List (Letter P))) → list_at b lists ≡ [] → without_list b lists ≡ lists
  without-none b [] none = refl
  without-none b ([] ∷ lists) none = ap (λ ls. [] ∷ ls) (without-none b lists none)
  without-none b ((x ∷ xs) ∷ lists) none =
      elim (in_bucket b x) as (λ c. (if c then x ∷ xs else list_at b lists) ≡ [] → (if c then lists else (x ∷ xs) ∷ without_list b lists) ≡ (x ∷ xs) ∷ lists) [
        | true ↦ λ e. absurd (omega (arith, ap length e))
        | false ↦ λ e. ap (λ ls. (x ∷ xs) ∷ ls) (without-none b lists e)
      ] none

  -- the list of the first letter is marked
  pub first-marked : (mask : ℕ) (x : Letter P) (line letters : List (Letter P)) (rest : List (List (Letter P))) → Marks mask letters → AreLists ((x ∷ line) ∷ rest) letters → own x < 64 → IsBitSet mask (own x)
  first-marked mask x line [] rest marks listed within = absurd listed
  first-marked mask x line (y ∷ ys) rest marks listed within =
      let same : x ≡ y = ap (head_or x) listed.0 in
      let here : in_bucket (own x) y ≡ true = ap (λ z. in_bucket (own x) z) (sym same) ∙ in-own x in
      (marks (own x) within).1 (λ e. omega (arith, ap length (sym (ap (λ c. if c then y ∷ filter (in_bucket (own x)) ys else filter (in_bucket (own x)) ys) here) ∙ e)))

  -- so is the list of one that is found
  pub found-marked : (mask : ℕ) (test : Letter P → Bool) (x : Letter P) (letters : List (Letter P)) → Marks mask letters → find test letters ≡ Some x → own x < 64 → IsBitSet mask (own x)
  found-marked mask test x letters marks found within =
      (marks (own x) within).1 (λ e. none-some x (sym (ap (find test) e) ∙ find-filter test (in_bucket (own x)) x letters found (in-own x)))

  pub length-insert : (x : Letter P) (ls : List (Letter P)) → length (insert_letter x ls) ≡ length ls + 1
  length-insert x [] = omega arith
  length-insert x (l ∷ ls) =
      elim (rank_before (letter_rank x) (letter_rank l)) as (λ b. length (if b then x ∷ l ∷ ls else l ∷ insert_letter x ls) ≡ length (l ∷ ls) + 1) [ true ↦ omega arith | false ↦ omega (arith, length-insert x ls) ]

  pub length-without : (test : Letter P → Bool) (x : Letter P) (ls : List (Letter P)) → find test ls ≡ Some x → length (without_first test ls) + 1 ≡ length ls
  length-without test x [] found = absurd (let h : None ≡ Some x = found in cc)
  length-without test x (l ∷ ls) found =
      elim (test l) as (λ b. (if b then Some l else find test ls) ≡ Some x → length (if b then ls else l ∷ without_first test ls) + 1 ≡ length (l ∷ ls)) [
        | true ↦ λ e. omega arith
        | false ↦ λ e. omega (arith, length-without test x ls e)
      ] found
