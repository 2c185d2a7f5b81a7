-- Lists by their number, of which one becomes another.
use Rattle.std.proofs.Common.{◌≡◌, ℕ, zero, suc, ◌<◌, ◌≤◌, ◌⊎◌, inl, inr, Bool, true, false, not, ◌||◌, ◌↔◌, List, [], ◌∷◌, ◌++◌, map, replicate, length, take, find, cond, is_some, slice_get, slice_set, slice_index_or, Some, None, Option, IfNone, ◌+◌, refl, sym, subst, ap, ◌∙◌, arith}
use Rattle.std.specs.List.{list_any}
use Rattle.std.specs.Option.{option_copied}
use Rattle.std.specs.Borrow.{Bor}
use Rattle.std.specs.List.Sorted.{IsPermutation}
use Rattle.std.proofs.lemmas.List.{append_assoc, append-nil, length-append, length-replicate, map-set}
use Rattle.std.proofs.lemmas.Option.{slice_get-get_or}
use Rattle.std.proofs.lemmas.List.Folds.{list_any-append}
use Rattle.std.proofs.lemmas.List.Sorted.{length_permutation, IsPermutation-refl, IsPermutation-sym, IsPermutation-trans, IsPermutation-append_left, IsPermutation-append_right, IsPermutation-append_comm, IsPermutation-middle}
use Rattle.vt_key.specs.promise.Lists.{Among}
use Rattle.vt_key.proofs.RisingLemmas.{first-false, second-false}
use Rattle.vt_key.proofs.ListLemmas.{among-left, among-right, among-append}
use Rattle.vt_calendar.specs.inside.Slots.{is_used, items_in, IsChanged, IsUsedAt}

-- ---- new lists

pub new-marks : (X : Type 0) (n : ℕ) → replicate n false ≡ map (is_used {X = X}) (replicate n [])
new-marks X zero = refl
new-marks X (suc n) = ap (λ (ms : List Bool). false ∷ ms) (new-marks X n)

pub new-items : (X : Type 0) (n : ℕ) → items_in {X = X} (replicate n []) ≡ []
new-items X zero = refl
new-items X (suc n) = new-items X n

pub same-length : {X : Type 0} (n : ℕ) (lists : List (List X)) → lists ≡ replicate n [] → length lists ≡ n
same-length n lists is = ap length is ∙ length-replicate n []

-- whether a reference is there
pub copied-some : {X : Type 0} (o : Option (Bor X)) → is_some (option_copied o) ≡ is_some o
copied-some None = refl
copied-some (Some x) = refl

module _ {X : Type 0} where
  -- what is found in lists of which one was changed
  pub set-found : (xs : List (List X)) (i j : ℕ) (y l : List X) → slice_get (slice_set xs i y) j ≡ Some l → ((j ≡ i) × (l ≡ y)) ⊎ ((j ≡ i → ⊥) × (slice_get xs j ≡ Some l))
  set-found [] i j y l h = inr ((λ same. let never : None ≡ Some l = h in absurd (cc)), h)
  set-found (x ∷ xs) zero zero y l h = inl (refl, (let z : Some y ≡ Some l = h in cc))
  set-found (x ∷ xs) zero (suc j) y l h = inr ((λ same. absurd (omega (arith, same))), h)
  set-found (x ∷ xs) (suc i) zero y l h = inr ((λ same. absurd (omega (arith, same))), h)
  set-found (x ∷ xs) (suc i) (suc j) y l h = elim (set-found xs i j y l h) [
    | inl u ↦ let at : j ≡ i = u.0 in inl (ap suc at, u.1)
    | inr u ↦ inr ((λ same. u.0 (omega (arith, same))), u.1)
  ]

  -- a marked list has an item, and one without a mark has none
  pub marked-used : (lists : List (List X)) (i : ℕ) → slice_get (map is_used lists) i ≡ Some true → IsUsedAt i lists
  marked-used [] i h = let never : None ≡ Some true = h in absurd (cc)
  marked-used (l ∷ lists) zero h = (l, refl, (let z : Some (is_used l) ≡ Some true = h in cc))
  marked-used (l ∷ lists) (suc i) h = marked-used lists i h

  pub unmarked-empty : (lists : List (List X)) (i : ℕ) (l : List X) → slice_get lists i ≡ Some l → (slice_get (map is_used lists) i ≡ Some true → ⊥) → l ≡ []
  unmarked-empty [] i l at none = let never : None ≡ Some l = at in absurd (cc)
  unmarked-empty ([] ∷ lists) zero l at none = let z : Some [] ≡ Some l = at in cc
  unmarked-empty ((x ∷ xs) ∷ lists) zero l at none = absurd (none refl)
  unmarked-empty (k ∷ lists) (suc i) l at none = unmarked-empty lists i l at none

  -- a mark that tells it already needn't be set
  pub same-marks : (lists : List (List X)) (i : ℕ) (old new : List X) → slice_get lists i ≡ Some old → is_used new ≡ is_used old → map is_used (slice_set lists i new) ≡ map is_used lists
  same-marks [] i old new at same = refl
  same-marks (l ∷ lists) zero old new at same =
      let z : l ≡ old = (let w : Some l ≡ Some old = at in cc) in
      ap (λ b. b ∷ map is_used lists) (same ∙ ap is_used (sym z))
  same-marks (l ∷ lists) (suc i) old new at same = ap (λ ms. is_used l ∷ ms) (same-marks lists i old new at same)

  pub exchange : (xs ys zs : List X) → IsPermutation (xs ++ (ys ++ zs)) (ys ++ (xs ++ zs))
  exchange xs ys zs = subst (λ l. IsPermutation l (ys ++ (xs ++ zs))) (append_assoc xs ys zs)
      (subst (IsPermutation (xs ++ ys ++ zs)) (append_assoc ys xs zs) (IsPermutation-append_left zs (xs ++ ys) (ys ++ xs) (IsPermutation-append_comm xs ys)))

  -- an item more in one list is one more in all
  pub items-put : (lists : List (List X)) (i : ℕ) (l : List X) (x : X) → slice_get lists i ≡ Some l → IsPermutation (x ∷ items_in lists) (items_in (slice_set lists i (x ∷ l)))
  items-put [] i l x h = let never : None ≡ Some l = h in absurd (cc)
  items-put (k ∷ lists) zero l x h =
      let same : k ≡ l = (let z : Some k ≡ Some l = h in cc) in
      subst (λ (m : List X). IsPermutation (x ∷ (m ++ items_in lists)) (x ∷ (l ++ items_in lists))) (sym same) (IsPermutation-refl (x ∷ (l ++ items_in lists)))
  items-put (k ∷ lists) (suc i) l x h =
      IsPermutation-trans (x ∷ (k ++ items_in lists)) (k ++ x ∷ items_in lists) (k ++ items_in (slice_set lists i (x ∷ l)))
      (IsPermutation-sym (k ++ x ∷ items_in lists) (x ∷ (k ++ items_in lists)) (IsPermutation-middle k x (items_in lists)))
      (IsPermutation-append_right k (x ∷ items_in lists) (items_in (slice_set lists i (x ∷ l))) (items-put lists i l x h))

  -- the items that are taken out of one list are missing in all
  pub items-taken : (lists : List (List X)) (i : ℕ) (l : List X) → slice_get lists i ≡ Some l → IsPermutation (l ++ items_in (slice_set lists i [])) (items_in lists)
  items-taken [] i l h = let never : None ≡ Some l = h in absurd (cc)
  items-taken (k ∷ lists) zero l h =
      let same : k ≡ l = (let z : Some k ≡ Some l = h in cc) in
      subst (λ (m : List X). IsPermutation (l ++ items_in lists) (m ++ items_in lists)) (sym same) (IsPermutation-refl (l ++ items_in lists))
  items-taken (k ∷ lists) (suc i) l h =
      IsPermutation-trans (l ++ (k ++ items_in (slice_set lists i []))) (k ++ (l ++ items_in (slice_set lists i []))) (k ++ items_in lists)
      (exchange l k (items_in (slice_set lists i [])))
      (IsPermutation-append_right k (l ++ items_in (slice_set lists i [])) (items_in lists) (items-taken lists i l h))

  -- the same where one item is taken out of a list
  pub items-less : (lists : List (List X)) (i : ℕ) (l : List X) (x : X) (less : List X) → slice_get lists i ≡ Some l → IsPermutation l (x ∷ less) → IsPermutation (items_in lists) (x ∷ items_in (slice_set lists i less))
  items-less [] i l x less h same = let never : None ≡ Some l = h in absurd (cc)
  items-less (k ∷ lists) zero l x less h same =
      let is : l ≡ k = (let z : Some k ≡ Some l = h in cc) in
      IsPermutation-append_left (items_in lists) k (x ∷ less) (subst (λ (m : List X). IsPermutation m (x ∷ less)) is same)
  items-less (k ∷ lists) (suc i) l x less h same =
      IsPermutation-trans (k ++ items_in lists) (k ++ x ∷ items_in (slice_set lists i less)) (x ∷ (k ++ items_in (slice_set lists i less)))
      (IsPermutation-append_right k (items_in lists) (x ∷ items_in (slice_set lists i less)) (items-less lists i l x less h same))
      (IsPermutation-middle k x (items_in (slice_set lists i less)))

  -- ---- what stands in lists

  pub items-among : (x : X) (lists : List (List X)) → Among x (items_in lists) → (i : ℕ) × (l : List X) × (slice_get lists i ≡ Some l) × Among x l
  items-among x [] m = absurd m
  items-among x (k ∷ lists) m = elim (among-append x k (items_in lists) m) [
    | inl a ↦ (0, k, refl, a)
    | inr b ↦ let r = items-among x lists b in (suc r.0, r.1, r.2, r.3)
  ]

  pub among-items : (x : X) (lists : List (List X)) (i : ℕ) (l : List X) → slice_get lists i ≡ Some l → Among x l → Among x (items_in lists)
  among-items x [] i l h m = let never : None ≡ Some l = h in absurd (cc)
  among-items x (k ∷ lists) zero l h m = let same : l ≡ k = (let z : Some k ≡ Some l = h in cc) in among-left x k (items_in lists) (subst (Among x) same m)
  among-items x (k ∷ lists) (suc i) l h m = among-right x k (items_in lists) (among-items x lists i l h m)

  -- without a mark there is no item
  pub unmarked-none : (lists : List (List X)) → ((i : ℕ) → slice_get (map is_used lists) i ≡ Some true → ⊥) → items_in lists ≡ []
  unmarked-none [] none = refl
  unmarked-none ([] ∷ lists) none = unmarked-none lists (λ i h. none (suc i) h)
  unmarked-none ((x ∷ l) ∷ lists) none = absurd (none 0 refl)

  -- without an item no list has one
  pub none-empty : (lists : List (List X)) (i : ℕ) (l : List X) → items_in lists ≡ [] → slice_get lists i ≡ Some l → l ≡ []
  none-empty [] i l none h = let never : None ≡ Some l = h in absurd (cc)
  none-empty ([] ∷ lists) zero l none h = let z : Some [] ≡ Some l = h in cc
  none-empty ([] ∷ lists) (suc i) l none h = none-empty lists i l none h
  none-empty ((x ∷ k) ∷ lists) i l none h = let never : x ∷ (k ++ items_in lists) ≡ [] = none in absurd (cc)

  -- a list that isn't empty has an item
  pub some-used : (l : List X) → (l ≡ [] → ⊥) → is_used l ≡ true
  some-used [] some = absurd (some refl)
  some-used (x ∷ l) some = refl

  -- a list has an item or is empty, as a look at it tells
  pub used-by : (empty : Bool) (l : List X) → (empty ≡ true) ↔ (l ≡ []) → not empty ≡ is_used l
  used-by true l is = sym (ap is_used (is.0 refl))
  used-by false l is = sym (some-used l (λ none. let both : false ≡ true = is.1 none in cc))

  -- the list of a number, as an index reads it
  pub list-there : (lists : List (List X)) (i n : ℕ) (l : List X) → n ≡ length lists → i < n → l ≡ slice_index_or lists i l → slice_get lists i ≡ Some l
  list-there lists i n l long within read = slice_get-get_or lists i l (subst (λ (m : ℕ). i < m) long within) ∙ ap Some (sym read)

  -- marks after a list and its mark became others
  pub marks-set : (lists : List (List X)) (i : ℕ) (new : List X) (old marks : List Bool) (mark : Bool) → marks ≡ slice_set old i mark → old ≡ map is_used lists → mark ≡ is_used new → marks ≡ map is_used (slice_set lists i new)
  marks-set lists i new old marks mark set kept used = set ∙ (λ t. slice_set (kept t) i (used t)) ∙ sym (map-set is_used lists i new)

  -- ---- tests

  pub find-any : (test : X → Bool) (l : List X) → is_some (find test l) ≡ list_any test l
  find-any test [] = refl
  find-any test (x ∷ l) = elim (test x) as (λ b. is_some (cond b (Some x) (find test l)) ≡ (b || list_any test l)) [ true ↦ refl | false ↦ find-any test l ]

  -- where an item of a list passes
  pub any-found : (test : X → Bool) (lists : List (List X)) (i : ℕ) (l : List X) → slice_get lists i ≡ Some l → list_any test l ≡ true → list_any test (items_in lists) ≡ true
  any-found test [] i l h found = let never : None ≡ Some l = h in absurd (cc)
  any-found test (k ∷ lists) zero l h found =
      let same : k ≡ l = (let z : Some k ≡ Some l = h in cc) in
      list_any-append test k (items_in lists) ∙ ap (λ b. b || list_any test (items_in lists)) (ap (list_any test) same ∙ found)
  any-found test (k ∷ lists) (suc i) l h found =
      list_any-append test k (items_in lists) ∙ ap (λ b. list_any test k || b) (any-found test lists i l h found)
      ∙ elim (list_any test k) as (λ b. (b || true) ≡ true) [ true ↦ refl | false ↦ refl ]

  -- where none did so far, and none of the next list does
  pub any-more : (test : X → Bool) (lists : List (List X)) (i : ℕ) (l : List X) → slice_get lists i ≡ Some l → list_any test (items_in (take i lists)) ≡ false → list_any test l ≡ false → list_any test (items_in (take (suc i) lists)) ≡ false
  any-more test [] i l h none here = let never : None ≡ Some l = h in absurd (cc)
  any-more test (k ∷ lists) zero l h none here =
      let same : k ≡ l = (let z : Some k ≡ Some l = h in cc) in
      ap (list_any test) (append-nil k) ∙ ap (list_any test) same ∙ here
  any-more test (k ∷ lists) (suc i) l h none here =
      let both : (list_any test k || list_any test (items_in (take i lists))) ≡ false = sym (list_any-append test k (items_in (take i lists))) ∙ none in
      list_any-append test k (items_in (take (suc i) lists)) ∙ ap (λ b. b || list_any test (items_in (take (suc i) lists))) (first-false (list_any test k) (list_any test (items_in (take i lists))) both)
      ∙ any-more test lists i l h (second-false (list_any test k) (list_any test (items_in (take i lists))) both) here

  -- ---- lists of which several are emptied

  -- one list more
  pub moved-more : (kept letters taken more : List X) (slot : ℕ) (all old new : List (List X))
      → IsPermutation (kept ++ items_in all) (letters ++ items_in old) → IsChanged slot taken [] old new → IsPermutation (taken ++ letters) more → IsPermutation (kept ++ items_in all) (more ++ items_in new)
  moved-more kept letters taken more slot all old new same changed joined =
      let is : IsPermutation (taken ++ items_in new) (items_in old) = subst (λ (lists : List (List X)). IsPermutation (taken ++ items_in lists) (items_in old)) (sym changed.is) (items-taken old slot taken changed.there) in
      let a : IsPermutation (kept ++ items_in all) (letters ++ (taken ++ items_in new)) =
      IsPermutation-trans (kept ++ items_in all) (letters ++ items_in old) (letters ++ (taken ++ items_in new)) same (IsPermutation-append_right letters (items_in old) (taken ++ items_in new) (IsPermutation-sym (taken ++ items_in new) (items_in old) is)) in
      let b : IsPermutation (kept ++ items_in all) (taken ++ (letters ++ items_in new)) =
      IsPermutation-trans (kept ++ items_in all) (letters ++ (taken ++ items_in new)) (taken ++ (letters ++ items_in new)) a (exchange letters taken (items_in new)) in
      IsPermutation-trans (kept ++ items_in all) (taken ++ letters ++ items_in new) (more ++ items_in new) (subst (IsPermutation (kept ++ items_in all)) (sym (append_assoc taken letters (items_in new))) b)
      (IsPermutation-append_left (items_in new) (taken ++ letters) more joined)

  -- what stays in the lists from a number on
  pub stayed-more : (bound slot : ℕ) (taken : List X) (all old new : List (List X)) → slot < bound → IsChanged slot taken [] old new
      → ((i : ℕ) (l : List X) → slice_get old i ≡ Some l → bound ≤ i → slice_get all i ≡ Some l) → (i : ℕ) (l : List X) → slice_get new i ≡ Some l → bound ≤ i → slice_get all i ≡ Some l
  stayed-more bound slot taken all old new below changed stayed i l h from =
      elim (set-found old slot i [] l (subst (λ (lists : List (List X)). slice_get lists i ≡ Some l) changed.is h)) [
        | inl here ↦ let at : i ≡ slot = here.0 in absurd (omega (arith, at, below, from))
        | inr other ↦ stayed i l other.1 from
      ]

  -- there are fewer items once a list that has one is emptied
  pub fewer : (slot : ℕ) (taken : List X) (old new : List (List X)) → IsChanged slot taken [] old new → IsUsedAt slot old → length (items_in new) < length (items_in old)
  fewer slot taken old new changed used =
      let is : IsPermutation (taken ++ items_in new) (items_in old) = subst (λ (lists : List (List X)). IsPermutation (taken ++ items_in lists) (items_in old)) (sym changed.is) (items-taken old slot taken changed.there) in
      let long : length (items_in old) ≡ length (taken ++ items_in new) = length_permutation (taken ++ items_in new) (items_in old) is in
      let same : used.0 ≡ taken = (let z : Some used.0 ≡ Some taken = sym used.1 ∙ changed.there in cc) in
      let sum : length (taken ++ items_in new) ≡ length taken + length (items_in new) = length-append taken (items_in new) in
      let some : 0 < length taken = used-long taken (subst (λ (l : List X). is_used l ≡ true) same used.2) in
      omega (arith, long, sum, some)
    where
      used-long : (l : List X) → is_used l ≡ true → 0 < length l
      used-long [] u = let never : false ≡ true = u in absurd (cc)
      used-long (x ∷ l) u = omega arith

-- what holds where there is nothing
pub if-none : {X : Type 0} {A B : Type 0} (o : Option X) → IfNone o A → (A → B) → IfNone o B
if-none None h f = f h
if-none (Some x) h f = tt
