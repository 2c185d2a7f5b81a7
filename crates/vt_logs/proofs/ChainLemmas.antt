-- How the positions that entries know change as events are written, undone and committed.
use Rattle.std.proofs.Common.{◌≡◌, ℕ, ◌≤◌, ◌<◌, Bool, true, false, not, ◌&&◌, ◌||◌, cond, eqb, ltb, inl, inr, List, [], ◌∷◌, ◌++◌, map, length, drop, get_or, slice_set, Option, Some, None, MatchOption, refl, sym, ◌∙◌, ap, subst, arith, get_or-set_same, get_or-set_other}
use Rattle.std.specs.List.{filter, last_or, list_any, AllByRecursion}
use Rattle.std.proofs.lemmas.List.{append-nil, drop-append-le, length-set, length_push, map-append, same_from_push}
use Rattle.std.proofs.lemmas.List.Elements.{filter-append}
use Rattle.std.proofs.lemmas.Bool.Decides.{nat_tests}
use Rattle.vt_key.specs.promise.Lists.{Among, IsRisingBy}
use Rattle.vt_key.specs.promise.Times.{Time, TimeAtMost}
use Rattle.vt_key.proofs.ListLemmas.{every-among, every-filter, every-right, every-weaker, filter-among, rising-unmap}
use Rattle.vt_model.specs.declared.sending.Sent.{Sent}
use Rattle.vt_logs.specs.declared.slot.Position.{Position}
use Rattle.vt_logs.specs.inside.Events.{Logged, time_of, is_below, is_of, events_of, last_of, without_last, AreInOrder}
use Rattle.vt_logs.specs.inside.Sheets.{Noted, NonePasses, PassesAlone}
use Rattle.vt_logs.specs.inside.Shelves.{same_position, lies_at, lies_elsewhere, placed_events, placed_stays}
use Rattle.vt_logs.specs.inside.Chains.{is_placed_of, IsChain, AreChained, anywhere}
use Rattle.vt_logs.proofs.PresentLemmas.{alone-all, alone-filter, any-behind, filter-all}
use Rattle.vt_logs.proofs.ShelfLemmas.{apart-false, apart-true, eqb-self, eqb-swap, filter-map, none-any}

and-nothing : (b : Bool) → (b && false) ≡ false
and-nothing true = refl
and-nothing false = refl

-- a number isn't another
pub differ : (a b c : ℕ) → a ≡ b → (a ≡ c → ⊥) → eqb b c ≡ false
differ a b c e h = grind (arith, nat_tests)

pub agree : (a b c : ℕ) → a ≡ b → a ≡ c → eqb b c ≡ true
agree a b c e h = grind (arith, nat_tests)

module _ {P K : Type 0} where
  -- ---- one process

  pub chain-tail : (last : Position) (x : Position × Noted P K) (xs : List (Position × Noted P K)) → IsChain last (x ∷ xs) → IsChain last xs
  chain-tail last x xs h = ap (drop 1) h

  pub chain-back : (last : Position) (xs ys : List (Position × Noted P K)) → IsChain last (xs ++ ys) → IsChain last ys
  chain-back last [] ys h = h
  chain-back last (x ∷ xs) ys h = chain-back last xs ys (chain-tail last x (xs ++ ys) h)

  -- an event of the process is written behind the others
  pub chain-push : (last : Position) (xs : List (Position × Noted P K)) (y : Position × Noted P K) → y.1.before ≡ last → IsChain last xs → IsChain y.0 (xs ++ y ∷ [])
  chain-push last xs y e h =
      let befores = map (λ (x : Position × Noted P K). x.1.before) xs in
      let long : 1 ≤ length (befores ++ last ∷ []) = omega (arith, length_push befores last) in
      ap (λ bs. drop 1 (bs ++ y.0 ∷ [])) (map-append (λ (x : Position × Noted P K). x.1.before) xs (y ∷ []) ∙ ap (λ b. befores ++ b ∷ []) e)
      ∙ drop-append-le 1 (befores ++ last ∷ []) (y.0 ∷ []) long ∙ ap (λ ps. ps ++ y.0 ∷ []) h ∙ sym (map-append (λ (x : Position × Noted P K). x.0) xs (y ∷ []))

  -- the last one is taken out
  pub chain-pop : (last : Position) (xs : List (Position × Noted P K)) (y : Position × Noted P K) → IsChain last (xs ++ y ∷ []) → IsChain y.1.before xs
  chain-pop last xs y h =
      let befores = map (λ (x : Position × Noted P K). x.1.before) xs in
      let long : 1 ≤ length (befores ++ y.1.before ∷ []) = omega (arith, length_push befores y.1.before) in
      (same_from_push _ _ last y.0
      (sym (drop-append-le 1 (befores ++ y.1.before ∷ []) (last ∷ []) long) ∙ ap (λ bs. drop 1 (bs ++ last ∷ [])) (sym (map-append (λ (x : Position × Noted P K). x.1.before) xs (y ∷ [])))
      ∙ h ∙ map-append (λ (x : Position × Noted P K). x.0) xs (y ∷ []))).0

  -- the last one lies where the process says
  pub chain-end : (last : Position) (x : Position × Noted P K) (xs : List (Position × Noted P K)) → IsChain last (x ∷ xs) → (y : Position × Noted P K) × Among y (x ∷ xs) × (y.0 ≡ last)
  chain-end last x [] h = (x, inl refl, sym (let e : last ∷ [] ≡ x.0 ∷ [] = h in cc))
  chain-end last x (z ∷ zs) h = let r = chain-end last z zs (chain-tail last x (z ∷ zs) h) in (r.0, inr r.1, r.2)

  -- those before a floor are left out
  keep-all : (floor : Time) (t : Time) (x : Position × Noted P K) → t ≤ time_of x.1.event → (ltb t floor ≡ false) → placed_stays floor x ≡ true
  keep-all floor t x h e = later (time_of x.1.event) t floor h e
    where
      later : (s t floor : ℕ) → t ≤ s → ltb t floor ≡ false → not (ltb s floor) ≡ true
      later s t floor h e = grind (arith, nat_tests)

  pub chain-stays : (floor : Time) (last : Position) (xs : List (Position × Noted P K)) → IsRisingBy (λ x y. TimeAtMost (time_of x.1.event) (time_of y.1.event)) xs → IsChain last xs → IsChain last (filter (placed_stays floor) xs)
  chain-stays floor last [] r h = h
  chain-stays floor last (x ∷ xs) r h = go (is_below floor x.1.event) refl (chain-stays floor last xs r.1 (chain-tail last x xs h))
    where
      go : (b : Bool) → is_below floor x.1.event ≡ b → IsChain last (filter (placed_stays floor) xs) → IsChain last (cond (not b) (x ∷ filter (placed_stays floor) xs) (filter (placed_stays floor) xs))
      go true e k = k
      go false e k = subst (λ ys. IsChain last (x ∷ ys)) (sym (filter-all (placed_stays floor) xs (every-weaker _ _ xs (λ y t. keep-all floor (time_of x.1.event) y t e) r.0))) h

  -- ---- the last event

  at-self : (q : Position) (y : Position × Noted P K) → y.0 ≡ q → lies_at q y ≡ true
  at-self q y e = subst (λ a. same_position a q ≡ true) (sym e) ((λ i. eqb-self q.sheet i && eqb-self q.index i))

  -- a process has no event, where none lies where it says
  pub chain-empty : (q : Position) (xs : List (Position × Noted P K)) → IsChain q xs → ((y : Position × Noted P K) → Among y xs → y.0 ≡ q → ⊥) → xs ≡ []
  chain-empty q [] h f = refl
  chain-empty q (x ∷ xs) h f = let r = chain-end q x xs h in absurd (f r.0 r.1 r.2)

  none-lies : (q : Position) (xs : List (Position × Noted P K)) → NonePasses (lies_at q) xs → (y : Position × Noted P K) → Among y xs → y.0 ≡ q → ⊥
  none-lies q xs none y m e = let k : true ≡ false = sym (at-self q y e) ∙ every-among (λ z. lies_at q z ≡ false) xs y none m in cc

  module _ (p : ℕ) (q : Position) (placed : List (Position × Noted P K)) (chain : IsChain q (filter (is_placed_of p) placed)) where
    pub none-there : NonePasses (lies_at q) placed → filter (is_placed_of p) placed ≡ []
    none-there none = chain-empty q (filter (is_placed_of p) placed) chain (none-lies q (filter (is_placed_of p) placed) (every-filter _ (is_placed_of p) placed none))

    pub other-there : (x : Noted P K) → PassesAlone (lies_at q) (q, x) placed → is_of p x.event ≡ false → filter (is_placed_of p) placed ≡ []
    other-there x a other = chain-empty q (filter (is_placed_of p) placed) chain (λ y m e. (
        let here = filter-among (is_placed_of p) y placed m in
        let same : y ≡ (q, x) = every-among (λ z. lies_at q z ≡ true → z ≡ (q, x)) placed y (alone-all (lies_at q) (λ z. z ≡ (q, x)) (q, x) placed a refl) here.0 (at-self q y e) in
        let k : true ≡ false = sym here.1 ∙ ap (is_placed_of p) same ∙ other in
        cc))

    module _ (x : Noted P K) (a : PassesAlone (lies_at q) (q, x) placed) (own : is_of p x.event ≡ true) where
      own-parts : filter (is_placed_of p) placed ≡ filter (is_placed_of p) a.front ++ (q, x) ∷ filter (is_placed_of p) a.back
      own-parts = ap (filter (is_placed_of p)) a.is ∙ filter-append (is_placed_of p) a.front ((q, x) ∷ a.back) ∙ (rw own refl)

      pub own-back : filter (is_placed_of p) a.back ≡ []
      own-back =
          let c = chain-tail q (q, x) (filter (is_placed_of p) a.back) (chain-back q (filter (is_placed_of p) a.front) ((q, x) ∷ filter (is_placed_of p) a.back) (subst (IsChain q) own-parts chain)) in
          chain-empty q (filter (is_placed_of p) a.back) c (none-lies q (filter (is_placed_of p) a.back) (every-filter _ (is_placed_of p) a.back a.none_after))

      pub own-last : filter (is_placed_of p) placed ≡ filter (is_placed_of p) a.front ++ (q, x) ∷ []
      own-last = own-parts ∙ ap (λ ys. filter (is_placed_of p) a.front ++ (q, x) ∷ ys) own-back

      pub own-popped : IsChain x.before (filter (is_placed_of p) (a.front ++ a.back))
      own-popped =
          subst (IsChain x.before) (sym (filter-append (is_placed_of p) a.front a.back ∙ ap (λ ys. filter (is_placed_of p) a.front ++ ys) own-back ∙ append-nil (filter (is_placed_of p) a.front)))
          (chain-pop q (filter (is_placed_of p) a.front) (q, x) (subst (IsChain q) own-last chain))

  -- ---- the list of events

  pub events-filter : (p : ℕ) (placed : List (Position × Noted P K)) → events_of p (placed_events placed) ≡ placed_events (filter (is_placed_of p) placed)
  events-filter p placed = filter-map (λ (x : Position × Noted P K). x.1.event) (is_of p) placed

  last-behind : (o : Option (Logged P K)) (es : List (Logged P K)) (e : Logged P K) → last_or o (es ++ e ∷ []) ≡ Some e
  last-behind o [] e = refl
  last-behind o (d ∷ es) e = last-behind (Some d) es e

  pub last-none : (p : ℕ) (placed : List (Position × Noted P K)) → filter (is_placed_of p) placed ≡ [] → last_of p (placed_events placed) ≡ None
  last-none p placed e = ap (last_or None) (events-filter p placed ∙ ap placed_events e)

  pub last-some : (p : ℕ) (placed front : List (Position × Noted P K)) (x : Position × Noted P K) → filter (is_placed_of p) placed ≡ front ++ x ∷ [] → last_of p (placed_events placed) ≡ Some x.1.event
  last-some p placed front x e =
      ap (last_or None) (events-filter p placed ∙ ap placed_events e ∙ map-append (λ (x : Position × Noted P K). x.1.event) front (x ∷ [])) ∙ last-behind None (placed_events front) x.1.event

  filter-nil : (p : ℕ) (es : List (Logged P K)) → events_of p es ≡ [] → list_any (is_of p) es ≡ false
  filter-nil p [] h = refl
  filter-nil p (e ∷ es) h = go (is_of p e) refl h (filter-nil p es)
    where
      go : (b : Bool) → is_of p e ≡ b → cond b (e ∷ events_of p es) (events_of p es) ≡ [] → (events_of p es ≡ [] → list_any (is_of p) es ≡ false) → (is_of p e || list_any (is_of p) es) ≡ false
      go true k h f = cc
      go false k h f = rw k (f h)

  none-without : (p : ℕ) (es : List (Logged P K)) → AllByRecursion (λ e. is_of p e ≡ false) es → without_last p es ≡ es
  none-without p [] h = refl
  none-without p (e ∷ es) h = rw h.0 (ap (λ ds. e ∷ ds) (none-without p es h.1))

  pub without-none : (p : ℕ) (placed : List (Position × Noted P K)) → filter (is_placed_of p) placed ≡ [] → placed_events placed ≡ without_last p (placed_events placed)
  without-none p placed e = sym (none-without p (placed_events placed) (none-any (is_of p) (placed_events placed) (filter-nil p (placed_events placed) (events-filter p placed ∙ ap placed_events e))))

  without-split : (p : ℕ) (es : List (Logged P K)) (e : Logged P K) (fs : List (Logged P K)) → is_of p e ≡ true → list_any (is_of p) fs ≡ false → without_last p (es ++ e ∷ fs) ≡ es ++ fs
  without-split p [] e fs own none = rw (own, none) refl
  without-split p (d ∷ es) e fs own none =
      (λ i. cond (is_of p d && not (any-behind (is_of p) es e fs own i)) (es ++ e ∷ fs) (d ∷ without_last p (es ++ e ∷ fs)))
      ∙ (λ i. cond (and-nothing (is_of p d) i) (es ++ e ∷ fs) (d ∷ without_last p (es ++ e ∷ fs))) ∙ ap (λ ds. d ∷ ds) (without-split p es e fs own none)

  pub without-own : (p : ℕ) (q : Position) (placed : List (Position × Noted P K)) (x : Noted P K) (a : PassesAlone (lies_at q) (q, x) placed) → is_of p x.event ≡ true → filter (is_placed_of p) a.back ≡ []
      → placed_events (filter (lies_elsewhere q) placed) ≡ without_last p (placed_events placed)
  without-own p q placed x a own back =
      let ev = λ (x : Position × Noted P K). x.1.event in
      ap placed_events (alone-filter (lies_at q) (q, x) placed a) ∙ map-append ev a.front a.back
      ∙ sym (without-split p (placed_events a.front) x.event (placed_events a.back) own (filter-nil p (placed_events a.back) (events-filter p a.back ∙ ap placed_events back)))
      ∙ ap (without_last p) (sym (map-append ev a.front ((q, x) ∷ a.back))) ∙ ap (λ ys. without_last p (placed_events ys)) (sym a.is)

  -- ---- all processes

  other-last : (p : ℕ) (xs ys : List (Position × Noted P K)) (y : Position × Noted P K) → is_placed_of p y ≡ false → filter (is_placed_of p) (xs ++ y ∷ ys) ≡ filter (is_placed_of p) (xs ++ ys)
  other-last p xs ys y e = filter-append (is_placed_of p) xs (y ∷ ys) ∙ (rw e (sym (filter-append (is_placed_of p) xs ys)))

  pub chained-push : (lasts : List Position) (placed : List (Position × Noted P K)) (p : ℕ) (q : Position) (x : Noted P K) → p < length lasts → x.event.process ≡ p → x.before ≡ get_or lasts p anywhere
      → AreChained lasts placed → AreChained (slice_set lasts p q) (placed ++ (q, x) ∷ [])
  chained-push lasts placed p q x known own before chained = λ n h. go n (eqb n p) refl h
    where
      own-is : is_of p x.event ≡ true
      own-is = ap (λ m. eqb m p) own ∙ eqb-self p

      go : (n : ℕ) (b : Bool) → eqb n p ≡ b → n < length (slice_set lasts p q) → IsChain (get_or (slice_set lasts p q) n anywhere) (filter (is_placed_of n) (placed ++ (q, x) ∷ []))
      go n true e h =
          subst (λ m. IsChain (get_or (slice_set lasts p q) m anywhere) (filter (is_placed_of m) (placed ++ (q, x) ∷ []))) (sym (apart-true n p e))
          (subst (λ l. IsChain l (filter (is_placed_of p) (placed ++ (q, x) ∷ []))) (sym (get_or-set_same lasts p q anywhere known))
          (subst (IsChain q) (sym (filter-append (is_placed_of p) placed ((q, x) ∷ []) ∙ (rw own-is refl))) (chain-push (get_or lasts p anywhere) (filter (is_placed_of p) placed) (q, x) before (chained p known))))
      go n false e h =
          subst (λ l. IsChain l (filter (is_placed_of n) (placed ++ (q, x) ∷ []))) (sym (get_or-set_other lasts p n q anywhere (apart-false n p e)))
          (subst (IsChain (get_or lasts n anywhere)) (sym (other-last n placed [] (q, x) (ap (λ m. eqb m n) own ∙ eqb-swap n p e) ∙ ap (filter (is_placed_of n)) (append-nil placed)))
          (chained n (let l = length-set lasts p q in omega (arith, h, l))))

  pub chained-pop : (lasts : List Position) (placed : List (Position × Noted P K)) (p : ℕ) (q : Position) (x : Noted P K) → p < length lasts → q ≡ get_or lasts p anywhere → x.event.process ≡ p → (a : PassesAlone (lies_at q) (q, x) placed)
      → AreChained lasts placed → AreChained (slice_set lasts p x.before) (filter (lies_elsewhere q) placed)
  chained-pop lasts placed p q x known at own a chained = λ n h. go n (eqb n p) refl h
    where
      own-is : is_of p x.event ≡ true
      own-is = ap (λ m. eqb m p) own ∙ eqb-self p

      go : (n : ℕ) (b : Bool) → eqb n p ≡ b → n < length (slice_set lasts p x.before) → IsChain (get_or (slice_set lasts p x.before) n anywhere) (filter (is_placed_of n) (filter (lies_elsewhere q) placed))
      go n true e h =
          subst (λ m. IsChain (get_or (slice_set lasts p x.before) m anywhere) (filter (is_placed_of m) (filter (lies_elsewhere q) placed))) (sym (apart-true n p e))
          (subst (λ l. IsChain l (filter (is_placed_of p) (filter (lies_elsewhere q) placed))) (sym (get_or-set_same lasts p x.before anywhere known))
          (subst (λ ys. IsChain x.before (filter (is_placed_of p) ys)) (sym (alone-filter (lies_at q) (q, x) placed a))
          (own-popped p q placed (subst (λ l. IsChain l (filter (is_placed_of p) placed)) (sym at) (chained p known)) x a own-is)))
      go n false e h =
          subst (λ l. IsChain l (filter (is_placed_of n) (filter (lies_elsewhere q) placed))) (sym (get_or-set_other lasts p n x.before anywhere (apart-false n p e)))
          (subst (IsChain (get_or lasts n anywhere))
          (ap (filter (is_placed_of n)) a.is ∙ other-last n a.front a.back (q, x) (ap (λ m. eqb m n) own ∙ eqb-swap n p e) ∙ ap (filter (is_placed_of n)) (sym (alone-filter (lies_at q) (q, x) placed a)))
          (chained n (let l = length-set lasts p x.before in omega (arith, h, l))))

  filter-swap : (p r : Position × Noted P K → Bool) (xs : List (Position × Noted P K)) → filter p (filter r xs) ≡ filter r (filter p xs)
  filter-swap p r [] = refl
  filter-swap p r (x ∷ xs) = go (p x) refl (r x) refl (filter-swap p r xs)
    where
      go : (b : Bool) → p x ≡ b → (d : Bool) → r x ≡ d → filter p (filter r xs) ≡ filter r (filter p xs) → filter p (cond d (x ∷ filter r xs) (filter r xs)) ≡ filter r (cond b (x ∷ filter p xs) (filter p xs))
      go true e true f h = rw (e, f) (ap (λ ys. x ∷ ys) h)
      go true e false f h = rw f h
      go false e true f h = rw e h
      go false e false f h = h

  pub chained-stays : (floor : Time) (lasts : List Position) (placed : List (Position × Noted P K)) → AreInOrder (placed_events placed) → AreChained lasts placed → AreChained lasts (filter (placed_stays floor) placed)
  chained-stays floor lasts placed order chained = λ p h.
      let rising = rising-unmap (λ (x : Position × Noted P K). x.1.event) (λ d e. TimeAtMost (time_of d) (time_of e)) (filter (is_placed_of p) placed)
      (subst (IsRisingBy (λ d e. TimeAtMost (time_of d) (time_of e))) (events-filter p placed) (order p)) in
      subst (IsChain (get_or lasts p anywhere)) (sym (filter-swap (is_placed_of p) (placed_stays floor) placed)) (chain-stays floor (get_or lasts p anywhere) (filter (is_placed_of p) placed) rising (chained p h))

-- what holds of each that passes a test holds of the one that does
pub alone-has : {X : Type 0} (test : X → Bool) (Q : X → Type 0) (x : X) (xs : List X) → PassesAlone test x xs → AllByRecursion (λ y. test y ≡ true → Q y) xs → Q x
alone-has test Q x xs a h = (every-right _ a.front (x ∷ a.back) (subst (AllByRecursion (λ y. test y ≡ true → Q y)) a.is h)).0 a.passes

-- where a process has no event, nothing was sent
pub sends-none : {P K : Type 0} (o : Option (Logged P K)) → o ≡ None → MatchOption o (◌≡◌ {A = List (Sent P)} [] []) (λ e. ◌≡◌ {A = List (Sent P)} [] e.sends)
sends-none {P} {K} o h = subst (λ (q : Option (Logged P K)). MatchOption q (◌≡◌ {A = List (Sent P)} [] []) (λ e. ◌≡◌ {A = List (Sent P)} [] e.sends)) (sym h) refl
