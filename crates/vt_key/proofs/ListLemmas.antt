-- Lists by recursion: what holds of each element, what stands among them, what holds of each and all after it; and how
-- the edits that steps make keep this.
use Rattle.std.proofs.Common.{◌≡◌, ℕ, zero, suc, ◌+◌, ◌-◌, ◌≤◌, ◌<◌, ◌⊎◌, inl, inr, Bool, true, false, cond, List, [], ◌∷◌, ◌++◌, map, length, take, drop, replicate, refl, sym, ◌∙◌, ap, subst, arith, Some, None, slice_get, slice_set}
use Rattle.std.specs.List.{filter, find, flat_map, last_or, range_with_len, remove, AllByRecursion}
use Rattle.std.proofs.lemmas.Bool.{cases_order}
use Rattle.vt_key.specs.promise.Queues.{insert_ordered, without_first}
use Rattle.vt_key.specs.promise.Lists.{Among, IsRisingBy}

-- ---- each element

-- of two lists, of the two together
pub every-append : {X : Type 0} (Q : X → Type 0) (xs ys : List X) → AllByRecursion Q xs → AllByRecursion Q ys → AllByRecursion Q (xs ++ ys)
every-append Q [] ys h k = k
every-append Q (x ∷ xs) ys h k = (h.0, every-append Q xs ys h.1 k)

-- of the front
pub every-left : {X : Type 0} (Q : X → Type 0) (xs ys : List X) → AllByRecursion Q (xs ++ ys) → AllByRecursion Q xs
every-left Q [] ys h = tt
every-left Q (x ∷ xs) ys h = (h.0, every-left Q xs ys h.1)

-- of the rest
pub every-right : {X : Type 0} (Q : X → Type 0) (xs ys : List X) → AllByRecursion Q (xs ++ ys) → AllByRecursion Q ys
every-right Q [] ys h = h
every-right Q (x ∷ xs) ys h = every-right Q xs ys h.1

-- of the one at a place
pub every-get : {X : Type 0} (Q : X → Type 0) (xs : List X) (i : ℕ) (x : X) → slice_get xs i ≡ Some x → AllByRecursion Q xs → Q x
every-get Q [] i x e h = absurd (let k : None ≡ Some x = e in cc)
every-get Q (y ∷ ys) zero x e h = let same : y ≡ x = cc in subst Q same h.0
every-get Q (y ∷ ys) (suc i) x e h = every-get Q ys i x e h.1

-- after a write of one that has it
pub every-put : {X : Type 0} (Q : X → Type 0) (xs : List X) (i : ℕ) (y : X) → AllByRecursion Q xs → Q y → AllByRecursion Q (slice_set xs i y)
every-put Q [] i y h q = tt
every-put Q (x ∷ xs) zero y h q = (q, h.1)
every-put Q (x ∷ xs) (suc i) y h q = (h.0, every-put Q xs i y h.1 q)

-- of the first n
pub every-take : {X : Type 0} (Q : X → Type 0) (n : ℕ) (xs : List X) → AllByRecursion Q xs → AllByRecursion Q (take n xs)
every-take Q zero xs h = tt
every-take Q (suc n) [] h = tt
every-take Q (suc n) (x ∷ xs) h = (h.0, every-take Q n xs h.1)

-- of all but the first n
pub every-drop : {X : Type 0} (Q : X → Type 0) (n : ℕ) (xs : List X) → AllByRecursion Q xs → AllByRecursion Q (drop n xs)
every-drop Q zero xs h = h
every-drop Q (suc n) [] h = tt
every-drop Q (suc n) (x ∷ xs) h = every-drop Q n xs h.1

-- of the others, where one is removed
pub every-remove : {X : Type 0} (Q : X → Type 0) (xs : List X) (i : ℕ) → AllByRecursion Q xs → AllByRecursion Q (remove xs i)
every-remove Q xs i h = every-append Q (take i xs) (drop (suc i) xs) (every-take Q i xs h) (every-drop Q (suc i) xs h)

-- of the others, where the first that passes is left out
pub every-without_first : {X : Type 0} (Q : X → Type 0) (test : X → Bool) (xs : List X) → AllByRecursion Q xs → AllByRecursion Q (without_first test xs)
every-without_first Q test [] h = tt
every-without_first Q test (x ∷ xs) h =
    elim (test x) as (λ b. AllByRecursion Q (cond b xs (x ∷ without_first test xs))) [ true ↦ h.1 | false ↦ (h.0, every-without_first Q test xs h.1) ]

-- of the first that passes
pub every-find : {X : Type 0} (Q : X → Type 0) (test : X → Bool) (xs : List X) (x : X) → find test xs ≡ Some x → AllByRecursion Q xs → Q x
every-find Q test [] x e h = absurd (let k : None ≡ Some x = e in cc)
every-find Q test (y ∷ ys) x e h =
    elim (test y) as (λ b. cond b (Some y) (find test ys) ≡ Some x → Q x) [
      | true ↦ λ k. (let same : y ≡ x = cc in subst Q same h.0)
      | false ↦ λ k. every-find Q test ys x k h.1
    ] e

-- of those that pass
pub every-filter : {X : Type 0} (Q : X → Type 0) (test : X → Bool) (xs : List X) → AllByRecursion Q xs → AllByRecursion Q (filter test xs)
every-filter Q test [] h = tt
every-filter Q test (x ∷ xs) h =
    elim (test x) as (λ b. AllByRecursion Q (cond b (x ∷ filter test xs) (filter test xs))) [ true ↦ (h.0, every-filter Q test xs h.1) | false ↦ every-filter Q test xs h.1 ]

-- those that pass do
pub filter-passes : {X : Type 0} (test : X → Bool) (xs : List X) → AllByRecursion (λ x. test x ≡ true) (filter test xs)
filter-passes test [] = tt
filter-passes test (x ∷ xs) =
    elim (test x) as (λ b. test x ≡ b → AllByRecursion (λ y. test y ≡ true) (cond b (x ∷ filter test xs) (filter test xs))) [ true ↦ λ e. (e, filter-passes test xs) | false ↦ λ e. filter-passes test xs ] refl

-- of the images, where the elements' images have it
pub every-map : {X Y : Type 0} (f : X → Y) (Q : Y → Type 0) (xs : List X) → AllByRecursion (λ x. Q (f x)) xs → AllByRecursion Q (map f xs)
every-map f Q [] h = tt
every-map f Q (x ∷ xs) h = (h.0, every-map f Q xs h.1)

-- and the way back
pub every-unmap : {X Y : Type 0} (f : X → Y) (Q : Y → Type 0) (xs : List X) → AllByRecursion Q (map f xs) → AllByRecursion (λ x. Q (f x)) xs
every-unmap f Q [] h = tt
every-unmap f Q (x ∷ xs) h = (h.0, every-unmap f Q xs h.1)

-- of all pieces together
pub every-flat_map : {X Y : Type 0} (Q : Y → Type 0) (f : X → List Y) (xs : List X) → AllByRecursion (λ x. AllByRecursion Q (f x)) xs → AllByRecursion Q (flat_map f xs)
every-flat_map Q f [] h = tt
every-flat_map Q f (x ∷ xs) h = every-append Q (f x) (flat_map f xs) h.0 (every-flat_map Q f xs h.1)

-- and of each piece
pub every-unflat_map : {X Y : Type 0} (Q : Y → Type 0) (f : X → List Y) (xs : List X) → AllByRecursion Q (flat_map f xs) → AllByRecursion (λ x. AllByRecursion Q (f x)) xs
every-unflat_map Q f [] h = tt
every-unflat_map Q f (x ∷ xs) h = (every-left Q (f x) (flat_map f xs) h, every-unflat_map Q f xs (every-right Q (f x) (flat_map f xs) h))

-- of many times the same
pub every-replicate : {X : Type 0} (Q : X → Type 0) (n : ℕ) (x : X) → Q x → AllByRecursion Q (replicate n x)
every-replicate Q zero x q = tt
every-replicate Q (suc n) x q = (q, every-replicate Q n x q)

-- what follows from Q
pub every-weaker : {X : Type 0} (Q R : X → Type 0) (xs : List X) → ((x : X) → Q x → R x) → AllByRecursion Q xs → AllByRecursion R xs
every-weaker Q R [] f h = tt
every-weaker Q R (x ∷ xs) f h = (f x h.0, every-weaker Q R xs f h.1)

-- what follows from Q and R
pub every-both : {X : Type 0} (Q R T : X → Type 0) (xs : List X) → ((x : X) → Q x → R x → T x) → AllByRecursion Q xs → AllByRecursion R xs → AllByRecursion T xs
every-both Q R T [] f h k = tt
every-both Q R T (x ∷ xs) f h k = (f x h.0 k.0, every-both Q R T xs f h.1 k.1)

-- after one that has it is put in order
pub every-insert_ordered : {X : Type 0} (is_before : X → X → Bool) (Q : X → Type 0) (x : X) (xs : List X) → Q x → AllByRecursion Q xs → AllByRecursion Q (insert_ordered is_before x xs)
every-insert_ordered is_before Q x [] q h = (q, tt)
every-insert_ordered is_before Q x (y ∷ ys) q h =
    elim (is_before x y) as (λ b. AllByRecursion Q (cond b (x ∷ y ∷ ys) (y ∷ insert_ordered is_before x ys))) [
      | true ↦ (q, h)
      | false ↦ (h.0, every-insert_ordered is_before Q x ys q h.1)
    ]

-- ---- what stands among the elements

-- of the front, of the whole
pub among-left : {X : Type 0} (x : X) (xs ys : List X) → Among x xs → Among x (xs ++ ys)
among-left x [] ys k = elim k [ ]
among-left x (z ∷ zs) ys k = elim k [ inl e ↦ inl e | inr m ↦ inr (among-left x zs ys m) ]

-- of the rest, of the whole
pub among-right : {X : Type 0} (x : X) (xs ys : List X) → Among x ys → Among x (xs ++ ys)
among-right x [] ys k = k
among-right x (z ∷ zs) ys k = inr (among-right x zs ys k)

-- of the whole, of the front or the rest
pub among-append : {X : Type 0} (x : X) (xs ys : List X) → Among x (xs ++ ys) → Among x xs ⊎ Among x ys
among-append x [] ys k = inr k
among-append x (z ∷ zs) ys k = elim k [ inl e ↦ inl (inl e) | inr m ↦ elim (among-append x zs ys m) [ inl a ↦ inl (inr a) | inr b ↦ inr b ] ]

-- its image among the images
pub among-map : {X Y : Type 0} (f : X → Y) (x : X) (xs : List X) → Among x xs → Among (f x) (map f xs)
among-map f x [] m = elim m [ ]
among-map f x (y ∷ ys) m = elim m [ inl e ↦ inl (ap f e) | inr n ↦ inr (among-map f x ys n) ]

-- what is among the images is one of an element
pub map-among : {X Y : Type 0} (f : X → Y) (y : Y) (xs : List X) → Among y (map f xs) → (x : X) × Among x xs × (f x ≡ y)
map-among f y [] m = elim m [ ]
map-among f y (x ∷ xs) m = elim m [ inl e ↦ (x, inl refl, sym e) | inr n ↦ (let r = map-among f y xs n in (r.0, inr r.1, r.2)) ]

-- of a piece, of all pieces together
pub among-flat_map : {X Y : Type 0} (f : X → List Y) (y : Y) (x : X) (xs : List X) → Among x xs → Among y (f x) → Among y (flat_map f xs)
among-flat_map f y x [] m n = elim m [ ]
among-flat_map f y x (z ∷ zs) m n =
    elim m [ inl e ↦ among-left y (f z) (flat_map f zs) (subst (λ w. Among y (f w)) e n) | inr k ↦ among-right y (f z) (flat_map f zs) (among-flat_map f y x zs k n) ]

-- of all pieces together, of some piece
pub flat_map-among : {X Y : Type 0} (f : X → List Y) (y : Y) (xs : List X) → Among y (flat_map f xs) → (x : X) × Among x xs × Among y (f x)
flat_map-among f y [] m = elim m [ ]
flat_map-among f y (x ∷ xs) m =
    elim (among-append y (f x) (flat_map f xs) m) [ inl a ↦ (x, inl refl, a) | inr b ↦ (let r = flat_map-among f y xs b in (r.0, inr r.1, r.2)) ]

-- what passes, of those that pass
pub among-filter : {X : Type 0} (test : X → Bool) (x : X) (xs : List X) → Among x xs → test x ≡ true → Among x (filter test xs)
among-filter test x [] k t = elim k [ ]
among-filter test x (y ∷ ys) k t =
    elim k [
      | inl e ↦ subst (λ b. Among x (cond b (y ∷ filter test ys) (filter test ys))) (sym (sym (ap test e) ∙ t)) (inl e)
      | inr m ↦ (
          let ih = among-filter test x ys m t in
          elim (test y) as (λ b. Among x (cond b (y ∷ filter test ys) (filter test ys))) [ true ↦ inr ih | false ↦ ih ])
    ]

-- of those that pass, of all, and it passes
pub filter-among : {X : Type 0} (test : X → Bool) (x : X) (xs : List X) → Among x (filter test xs) → Among x xs × (test x ≡ true)
filter-among test x [] k = elim k [ ]
filter-among test x (y ∷ ys) k =
    elim (test y) as (λ b. test y ≡ b → Among x (cond b (y ∷ filter test ys) (filter test ys)) → Among x (y ∷ ys) × (test x ≡ true)) [
      | true ↦ λ t m. elim m [ inl e ↦ (inl e, ap test e ∙ t) | inr n ↦ (let ih = filter-among test x ys n in (inr ih.0, ih.1)) ]
      | false ↦ λ t m. (let ih = filter-among test x ys m in (inr ih.0, ih.1))
    ] refl k

-- what is put in order and what was there, of the list with it
pub among-insert_ordered : {X : Type 0} (is_before : X → X → Bool) (x : X) (xs : List X) (y : X) → (y ≡ x) ⊎ Among y xs → Among y (insert_ordered is_before x xs)
among-insert_ordered is_before x [] y m = m
among-insert_ordered is_before x (z ∷ zs) y m =
    elim (is_before x z) as (λ b. Among y (cond b (x ∷ z ∷ zs) (z ∷ insert_ordered is_before x zs))) [
      | true ↦ m
      | false ↦ elim m [ inl e ↦ inr (among-insert_ordered is_before x zs y (inl e)) | inr n ↦ elim n [ inl e ↦ inl e | inr k ↦ inr (among-insert_ordered is_before x zs y (inr k)) ] ]
    ]

-- of the list with it, what is put in order or was there
pub insert_ordered-among : {X : Type 0} (is_before : X → X → Bool) (x : X) (xs : List X) (y : X) → Among y (insert_ordered is_before x xs) → (y ≡ x) ⊎ Among y xs
insert_ordered-among is_before x [] y m = m
insert_ordered-among is_before x (z ∷ zs) y m =
    elim (is_before x z) as (λ b. Among y (cond b (x ∷ z ∷ zs) (z ∷ insert_ordered is_before x zs)) → (y ≡ x) ⊎ Among y (z ∷ zs)) [
      | true ↦ λ k. k
      | false ↦ λ k. elim k [ inl e ↦ inr (inl e) | inr n ↦ elim (insert_ordered-among is_before x zs y n) [ inl e ↦ inl e | inr o ↦ inr (inr o) ] ]
    ] m

-- a number is in a range of numbers
pub among-range : (x a n : ℕ) → a ≤ x → x < a + n → Among x (range_with_len a n)
among-range x a zero low high = elim (let none : ⊥ = omega arith in none) [ ]
among-range x a (suc n) low high =
    elim (cases_order x a) [ inl e ↦ inl e | inr h ↦ elim h [ inl l ↦ elim (let none : ⊥ = omega arith in none) [ ] | inr l ↦ inr (among-range x (a + 1) n (omega arith) (omega arith)) ] ]

-- what is in a range is between its ends
pub range-among : (x a n : ℕ) → Among x (range_with_len a n) → (a ≤ x) × (x < a + n)
range-among x a zero m = elim m [ ]
range-among x a (suc n) m = elim m [ inl e ↦ (omega arith, omega arith) | inr k ↦ (let r = range-among x (a + 1) n k in let low = r.0 in let high = r.1 in (omega arith, omega arith)) ]

-- what stands at a place is an element
pub get-among : {X : Type 0} (xs : List X) (i : ℕ) (x : X) → slice_get xs i ≡ Some x → Among x xs
get-among [] i x e = absurd (let k : None ≡ Some x = e in cc)
get-among (y ∷ ys) zero x e = inl (let k : Some y ≡ Some x = e in let s : y ≡ x = cc in sym s)
get-among (y ∷ ys) (suc i) x e = inr (get-among ys i x e)

-- the first that passes is an element
pub find-among : {X : Type 0} (test : X → Bool) (xs : List X) (x : X) → find test xs ≡ Some x → Among x xs
find-among test [] x e = absurd (let h : None ≡ Some x = e in cc)
find-among test (y ∷ ys) x e =
    elim (test y) as (λ b. cond b (Some y) (find test ys) ≡ Some x → Among x (y ∷ ys)) [
      | true ↦ λ e. inl (let same : y ≡ x = cc in sym same)
      | false ↦ λ e. inr (find-among test ys x e)
    ] e

-- and it passes
pub find-passes : {X : Type 0} (test : X → Bool) (xs : List X) (x : X) → find test xs ≡ Some x → test x ≡ true
find-passes test [] x e = absurd (let h : None ≡ Some x = e in cc)
find-passes test (y ∷ ys) x e =
    elim (test y) as (λ b. test y ≡ b → cond b (Some y) (find test ys) ≡ Some x → test x ≡ true) [
      | true ↦ λ is h. (let same : y ≡ x = cc in ap test (sym same) ∙ is)
      | false ↦ λ is h. find-passes test ys x h
    ] refl e

-- what each element has, this one has
pub every-among : {X : Type 0} (Q : X → Type 0) (xs : List X) (x : X) → AllByRecursion Q xs → Among x xs → Q x
every-among Q [] x h k = elim k [ ]
every-among Q (y ∷ ys) x h k = elim k [ inl e ↦ subst Q (sym e) h.0 | inr m ↦ every-among Q ys x h.1 m ]

-- what holds of whatever is an element holds of each
pub every-all : {X : Type 0} (Q : X → Type 0) (xs : List X) → ((x : X) → Among x xs → Q x) → AllByRecursion Q xs
every-all Q [] h = tt
every-all Q (x ∷ xs) h = (h x (inl refl), every-all Q xs (λ y m. h y (inr m)))

-- ---- each and all after it

-- two rising lists of which the first stands before the second
pub rising-append : {X : Type 0} (R : X → X → Type 0) (xs ys : List X) → IsRisingBy R xs → IsRisingBy R ys → ((x y : X) → Among x xs → Among y ys → R x y) → IsRisingBy R (xs ++ ys)
rising-append R [] ys h k f = k
rising-append R (x ∷ xs) ys h k f = (
  every-all (R x) (xs ++ ys) (λ y m. elim (among-append y xs ys m) [ inl a ↦ every-among (R x) xs y h.0 a | inr b ↦ f x y (inl refl) b ]),
  rising-append R xs ys h.1 k (λ a b m n. f a b (inr m) n),
)

-- the front of a rising list
pub rising-left : {X : Type 0} (R : X → X → Type 0) (xs ys : List X) → IsRisingBy R (xs ++ ys) → IsRisingBy R xs
rising-left R [] ys h = tt
rising-left R (x ∷ xs) ys h = (every-left (R x) xs ys h.0, rising-left R xs ys h.1)

-- the rest of a rising list
pub rising-right : {X : Type 0} (R : X → X → Type 0) (xs ys : List X) → IsRisingBy R (xs ++ ys) → IsRisingBy R ys
rising-right R [] ys h = h
rising-right R (x ∷ xs) ys h = rising-right R xs ys h.1

-- each of the front stands before each of the rest
pub rising-across : {X : Type 0} (R : X → X → Type 0) (xs ys : List X) → IsRisingBy R (xs ++ ys) → (x y : X) → Among x xs → Among y ys → R x y
rising-across R [] ys h x y m n = elim m [ ]
rising-across R (z ∷ zs) ys h x y m n =
    elim m [
      | inl e ↦ subst (λ w. R w y) (sym e) (every-among (R z) (zs ++ ys) y h.0 (among-right y zs ys n))
      | inr k ↦ rising-across R zs ys h.1 x y k n
    ]

-- those that pass
pub rising-filter : {X : Type 0} (R : X → X → Type 0) (test : X → Bool) (xs : List X) → IsRisingBy R xs → IsRisingBy R (filter test xs)
rising-filter R test [] h = tt
rising-filter R test (x ∷ xs) h =
    elim (test x) as (λ b. IsRisingBy R (cond b (x ∷ filter test xs) (filter test xs))) [
      | true ↦ (every-filter (R x) test xs h.0, rising-filter R test xs h.1)
      | false ↦ rising-filter R test xs h.1
    ]

-- what follows from R for its elements
pub rising-weaker : {X : Type 0} (R Q : X → X → Type 0) (xs : List X) → ((x y : X) → Among x xs → Among y xs → R x y → Q x y) → IsRisingBy R xs → IsRisingBy Q xs
rising-weaker R Q [] f h = tt
rising-weaker R Q (x ∷ xs) f h = (
  every-all (Q x) xs (λ y m. f x y (inl refl) (inr m) (every-among (R x) xs y h.0 m)),
  rising-weaker R Q xs (λ a b m n. f a b (inr m) (inr n)) h.1,
)

-- the images of a rising list
pub rising-map : {X Y : Type 0} (f : X → Y) (R : Y → Y → Type 0) (xs : List X) → IsRisingBy (λ x y. R (f x) (f y)) xs → IsRisingBy R (map f xs)
rising-map f R [] h = tt
rising-map f R (x ∷ xs) h = (every-map f (R (f x)) xs h.0, rising-map f R xs h.1)

-- and the way back
pub rising-unmap : {X Y : Type 0} (f : X → Y) (R : Y → Y → Type 0) (xs : List X) → IsRisingBy R (map f xs) → IsRisingBy (λ x y. R (f x) (f y)) xs
rising-unmap f R [] h = tt
rising-unmap f R (x ∷ xs) h = (every-unmap f (R (f x)) xs h.0, rising-unmap f R xs h.1)

-- two elements that R keeps apart where f has one value are one, if f has one value
pub same-element : {X Y : Type 0} (f : X → Y) (xs : List X) → IsRisingBy (λ x y. f x ≡ f y → ⊥) xs → (x y : X) → Among x xs → Among y xs → f x ≡ f y → x ≡ y
same-element f [] h x y m n e = elim m [ ]
same-element f (z ∷ zs) h x y m n e =
    elim m [
      | inl a ↦ elim n [ inl b ↦ a ∙ sym b | inr b ↦ elim (every-among (λ w. f z ≡ f w → ⊥) zs y h.0 b (sym (ap f a) ∙ e)) [ ] ]
      | inr a ↦ elim n [ inl b ↦ elim (every-among (λ w. f z ≡ f w → ⊥) zs x h.0 a (sym (ap f b) ∙ sym e)) [ ] | inr b ↦ same-element f zs h.1 x y a b e ]
    ]

-- ---- the last element

-- a list with a last element is those before it, and it
pub before_last : {X : Type 0} (xs : List X) (x : X) → last_or None xs ≡ Some x → xs ≡ take (length xs - 1) xs ++ x ∷ []
before_last [] x e = absurd (let h : None ≡ Some x = e in cc)
before_last (y ∷ []) x e = let same : y ≡ x = cc in ap (λ z. z ∷ []) same
before_last (y ∷ z ∷ zs) x e =
    let shorter : suc (suc (length zs)) - 1 ≡ suc (suc (length zs) - 1) = omega arith in
    rw shorter (ap (λ w. y ∷ w) (before_last (z ∷ zs) x e))

-- what each element has, the last has
pub every-last : {X : Type 0} (Q : X → Type 0) (xs : List X) (x : X) → last_or None xs ≡ Some x → AllByRecursion Q xs → Q x
every-last Q xs x e h = (every-right Q (take (length xs - 1) xs) (x ∷ []) (subst (AllByRecursion Q) (before_last xs x e) h)).0

-- a list without a last element is empty
pub no_last : {X : Type 0} (xs : List X) → last_or None xs ≡ None → xs ≡ []
no_last [] e = refl
no_last {X} (y ∷ ys) e = absurd (has_last ys y e)
  where
    has_last : (zs : List X) (z : X) → last_or (Some z) zs ≡ None → ⊥
    has_last [] z e = let h : Some z ≡ None = e in cc
    has_last (u ∷ zs) z e = has_last zs u e
