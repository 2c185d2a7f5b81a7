-- What sheets hold together, after one of them or all are changed.
use Rattle.std.proofs.Common.{Option, Some, None, MatchOption, ◌≡◌, ℕ, zero, suc, ◌+◌, ◌-◌, ◌≤◌, ◌<◌, ◌^◌, ◌%◌, ◌≢◌, Bool, true, false, not, ◌&&◌, ◌||◌, cond, eqb, List, [], ◌∷◌, ◌++◌, ◌⊎◌, inl, inr, map, length, take, drop, get_or, slice_set, refl, sym, ◌∙◌, ap, subst, arith, append_assoc, get_or-set_same, get_or-set_other}
use Rattle.std.specs.List.{filter, flat_map, list_any, sum_by, count_by, AllByRecursion}
use Rattle.std.proofs.lemmas.List.{append-nil, drop_all, get_or_default, get_or_past, get_or_read, length-map, length-set, take_all, take_more, map-append}
use Rattle.std.proofs.lemmas.List.Concat.{flat_map-append}
use Rattle.std.proofs.lemmas.List.Elements.{filter-append, filter_more}
use Rattle.std.proofs.lemmas.List.Sums.{sum_by-append, sum_by-cons, sum_by_push}
use Rattle.std.proofs.lemmas.Option.{slice_get-get_or}
use Rattle.std.proofs.lemmas.List.Filters.{sum_by-filter_both}
use Rattle.std.proofs.lemmas.Bool.{cases_lt}
use Rattle.std.proofs.lemmas.Bool.Decides.{nat_tests}
use Rattle.vt_key.specs.promise.Times.{Time}
use Rattle.vt_key.proofs.ListLemmas.{every-all, every-append, every-filter, every-flat_map, every-get, every-left, every-map, every-right, every-weaker}
use Rattle.vt_model.specs.declared.rows.Row.{Row}
use Rattle.vt_logs.specs.declared.slot.Position.{Position}
use Rattle.vt_logs.specs.inside.Sheets.{Noted, Page, NonePasses, PassesAlone, is_at, is_elsewhere, is_blank, nodes_at, events_in}
use Rattle.vt_logs.specs.inside.Shelves.{lies_at, lies_elsewhere, placed_stays, placed_nodes, page_at, put_at, placed_of, placed_on, blank_page, page_below, page_rows, page_has_stamp, placed_events, is_used, is_unused, AreFiltered, IsShelf}
use Rattle.vt_key.specs.declared.order.Stamp.{Stamp}
use Rattle.vt_logs.specs.inside.Events.{is_stamped, rows_below}
use Rattle.vt_logs.proofs.SheetLemmas.{rows_below-append, any-found, any-more, flat-more}
use Rattle.vt_logs.proofs.PresentLemmas.{alone-between, alone-none, any-append, filter-same, filter-all}

-- ---- lists

map-cond : {X Y : Type 0} (f : X → Y) (b : Bool) (x : X) (xs : List X) → cond b (f x ∷ map f xs) (map f xs) ≡ map f (cond b (x ∷ xs) xs)
map-cond f true x xs = refl
map-cond f false x xs = refl

-- a filter of the images is the images of a filter
pub filter-map : {X Y : Type 0} (f : X → Y) (test : Y → Bool) (xs : List X) → filter test (map f xs) ≡ map f (filter (λ x. test (f x)) xs)
filter-map f test [] = refl
filter-map f test (x ∷ xs) = ap (λ ys. cond (test (f x)) (f x ∷ ys) ys) (filter-map f test xs) ∙ map-cond f (test (f x)) x (filter (λ x. test (f x)) xs)

-- pieces that are alike make lists that are alike
pub flat-same : {X Y : Type 0} (f g : X → List Y) (xs : List X) → AllByRecursion (λ x. f x ≡ g x) xs → flat_map f xs ≡ flat_map g xs
flat-same f g [] h = refl
flat-same f g (x ∷ xs) h = λ i. h.0 i ++ flat-same f g xs h.1 i

pub filter-flat : {X Y : Type 0} (f : X → List Y) (test : Y → Bool) (xs : List X) → filter test (flat_map f xs) ≡ flat_map (λ x. filter test (f x)) xs
filter-flat f test [] = refl
filter-flat f test (x ∷ xs) = filter-append test (f x) (flat_map f xs) ∙ ap (λ ys. filter test (f x) ++ ys) (filter-flat f test xs)

sum-cond : {X : Type 0} (f : X → ℕ) (b : Bool) (x : X) (ys : List X) (n : ℕ) → sum_by f ys ≤ n → sum_by f (cond b (x ∷ ys) ys) ≤ f x + n
sum-cond f true x ys n h = omega (arith, h, sum_by-cons f x ys)
sum-cond f false x ys n h = omega (arith, h)

pub sum-filter : {X : Type 0} (f : X → ℕ) (test : X → Bool) (xs : List X) → sum_by f (filter test xs) ≤ sum_by f xs
sum-filter f test [] = omega arith
sum-filter f test (x ∷ xs) = let h = sum-cond f (test x) x (filter test xs) (sum_by f xs) (sum-filter f test xs) in omega (arith, h, sum_by-cons f x xs)

-- ---- numbers that differ

pub apart-true : (m n : ℕ) → eqb m n ≡ true → m ≡ n
apart-true m n h = grind (arith, nat_tests)

pub apart-false : (m n : ℕ) → eqb m n ≡ false → m ≢ n
apart-false m n h = grind (arith, nat_tests)

pub eqb-swap : (m n : ℕ) → eqb m n ≡ false → eqb n m ≡ false
eqb-swap m n h = grind (arith, nat_tests)

pub eqb-self : (n : ℕ) → eqb n n ≡ true
eqb-self n = grind (arith, nat_tests)

count-case : (b : Bool) (n : ℕ) → cond b 1 0 + n ≡ 0 → (b ≡ false) × (n ≡ 0)
count-case true n h = absurd (omega (arith, h))
count-case false n h = (refl, omega (arith, h))

pub none-counted : {X : Type 0} (p : X → Bool) (xs : List X) → count_by p xs ≡ 0 → AllByRecursion (λ x. p x ≡ false) xs
none-counted p [] h = tt
none-counted p (x ∷ xs) h = let k = count-case (p x) (count_by p xs) (sym (sum_by-cons (λ y. cond (p y) 1 0) x xs) ∙ h) in (k.0, none-counted p xs k.1)

pub any-none : {X : Type 0} (p : X → Bool) (xs : List X) → AllByRecursion (λ x. p x ≡ false) xs → list_any p xs ≡ false
any-none p [] h = refl
any-none p (x ∷ xs) h = rw h.0 (any-none p xs h.1)

or-false : (b c : Bool) → (b || c) ≡ false → (b ≡ false) × (c ≡ false)
or-false true c h = absurd (let e : true ≡ false = h in cc)
or-false false c h = (refl, h)

pub none-any : {X : Type 0} (p : X → Bool) (xs : List X) → list_any p xs ≡ false → AllByRecursion (λ x. p x ≡ false) xs
none-any p [] h = tt
none-any p (x ∷ xs) h = let k = or-false (p x) (list_any p xs) h in (k.0, none-any p xs k.1)

counted-self : (n : ℕ) → ◌≡◌ {A = ℕ} (cond (eqb n n) 1 0) 1
counted-self n = ap (λ b. cond b 1 0) (eqb-self n)

-- one that occurs at most once, and stands between others, isn't among them
pub once : (n : ℕ) (xs ys : List ℕ) → count_by (λ m. eqb m n) (xs ++ n ∷ ys) ≤ 1 → AllByRecursion (λ m. eqb m n ≡ false) xs × AllByRecursion (λ m. eqb m n ≡ false) ys
once n xs ys h =
    let one = counted-self n in
    let a = sum_by-append (λ m. cond (eqb m n) 1 0) xs (n ∷ ys) in
    let b = sum_by-cons (λ m. cond (eqb m n) 1 0) n ys in
    (none-counted (λ m. eqb m n) xs (omega (arith, h, one, a, b)), none-counted (λ m. eqb m n) ys (omega (arith, h, one, a, b)))

-- where a number stands
pub split-any : (n : ℕ) (ns : List ℕ) → list_any (λ m. eqb m n) ns ≡ true → (front : List ℕ) × (back : List ℕ) × (ns ≡ front ++ n ∷ back)
split-any n [] h = absurd (let e : false ≡ true = h in cc)
split-any n (m ∷ ms) h = go (eqb m n) refl (split-any n ms)
  where
    go : (b : Bool) → eqb m n ≡ b → (list_any (λ m. eqb m n) ms ≡ true → (front : List ℕ) × (back : List ℕ) × (ms ≡ front ++ n ∷ back)) → (front : List ℕ) × (back : List ℕ) × (m ∷ ms ≡ front ++ n ∷ back)
    go true e rest = ([], ms, ap (λ k. k ∷ ms) (apart-true m n e))
    go false e rest =
        let r = rest (sym (ap (λ b. b || list_any (λ m. eqb m n) ms) e) ∙ h) in
        (m ∷ r.0, r.1, ap (λ ks. m ∷ ks) r.2)

module _ {P K : Type 0} where
  -- ---- one sheet is changed

  module _ (sheets : List (Page P K)) (n : ℕ) (page : Page P K) where
    pub page-same : n < length sheets → page_at (slice_set sheets n page) n ≡ page
    page-same h = get_or-set_same sheets n page blank_page h

    pub page-other : (m : ℕ) → eqb m n ≡ false → page_at (slice_set sheets n page) m ≡ page_at sheets m
    page-other m e = get_or-set_other sheets n m page blank_page (apart-false m n e)

    pub placed-others : (ns : List ℕ) → AllByRecursion (λ m. eqb m n ≡ false) ns → flat_map (placed_of (slice_set sheets n page)) ns ≡ flat_map (placed_of sheets) ns
    placed-others ns h = flat-same _ _ ns (every-weaker _ _ ns (λ m e. ap (λ (q : Page P K). map (put_at m) q.live) (page-other m e)) h)

  -- the events of the full sheets and of the current one
  pub placed-parts : (sheets : List (Page P K)) (full : List ℕ) (current : ℕ) → placed_on sheets full current ≡ flat_map (placed_of sheets) full ++ placed_of sheets current
  placed-parts sheets full current = flat_map-append (placed_of sheets) full (current ∷ []) ∙ ap (λ ys. flat_map (placed_of sheets) full ++ ys) (append-nil (placed_of sheets current))

  -- a write into the current sheet
  module _ (sheets : List (Page P K)) (full : List ℕ) (current : ℕ) (spare : List ℕ) (needs : ℕ) (shelf : IsShelf sheets full current spare needs)
      (page : Page P K) (i : ℕ) (x : Noted P K) (is : page ≡ record { live = (page_at sheets current).live ++ (i, x) ∷ []; has_room = false }) where
    here : current < length sheets
    here = (every-right _ full (current ∷ spare) shelf.known).0

    others : AllByRecursion (λ m. eqb m current ≡ false) full
    others = (once current full spare (shelf.apart current)).0

    pub placed-written : placed_on (slice_set sheets current page) full current ≡ placed_on sheets full current ++ (record { sheet = current; index = i }, x) ∷ []
    placed-written =
        placed-parts (slice_set sheets current page) full current
        ∙ (λ j. placed-others sheets current page full others j ++ map (put_at current) ((page-same sheets current page here ∙ is) j).live)
        ∙ ap (λ ys. flat_map (placed_of sheets) full ++ ys) (map-append (put_at current) (page_at sheets current).live ((i, x) ∷ []))
        ∙ sym (append_assoc (flat_map (placed_of sheets) full) (placed_of sheets current) _)
        ∙ ap (λ ys. ys ++ (record { sheet = current; index = i }, x) ∷ []) (sym (placed-parts sheets full current))

    pub shelf-written : (more : ℕ) → more ≡ placed_nodes (record { sheet = current; index = i }, x) → needs + more < 2 ^ 63 → IsShelf (slice_set sheets current page) full current spare (needs + more)
    shelf-written more e small = record {
      known = every-weaker _ _ (full ++ current ∷ spare) (λ n h. (let l = length-set sheets current page in omega (arith, h, l))) shelf.known;
      apart = shelf.apart;
      blank = λ n h. (
          let away = (every-right _ full (current ∷ []) (none-any (λ m. eqb m n) (full ++ current ∷ []) h)).0 in
          ap (λ (q : Page P K). q.live) (page-other sheets current page n (eqb-swap current n away)) ∙ shelf.blank n h);
      counted =
          let s = sum_by-append placed_nodes (placed_on sheets full current) ((record { sheet = current; index = i }, x) ∷ []) in
          let m : needs + more ≡ sum_by placed_nodes (placed_on sheets full current ++ (record { sheet = current; index = i }, x) ∷ []) = omega (arith, s, e, shelf.counted) in
          m ∙ ap (sum_by placed_nodes) (sym placed-written);
      small = small;
      few = λ h. absurd (let k : true ≡ false = sym h ∙ ap (λ (q : Page P K). q.has_room) (page-same sheets current page here ∙ is) in cc);
    }

  -- events are left out everywhere
  module _ (keeps : Position × Noted P K → Bool) (sheets sheets' : List (Page P K)) (f : AreFiltered keeps sheets sheets') where
    pub placed-filtered : (ns : List ℕ) → flat_map (placed_of sheets') ns ≡ filter keeps (flat_map (placed_of sheets) ns)
    placed-filtered ns =
        flat-same _ _ ns (every-all _ ns (λ m k. ap (map (put_at m)) (f.live m) ∙ sym (filter-map (put_at m) keeps (page_at sheets m).live)))
        ∙ sym (filter-flat (placed_of sheets) keeps ns)

    pub shelf-filtered : (full : List ℕ) (current : ℕ) (spare : List ℕ) (needs needs' : ℕ) → IsShelf sheets full current spare needs → needs' ≡ sum_by placed_nodes (filter keeps (placed_on sheets full current))
        → IsShelf sheets' full current spare needs'
    shelf-filtered full current spare needs needs' shelf e =
        let less = sum-filter placed_nodes keeps (placed_on sheets full current) in
        record {
          known = every-weaker _ _ (full ++ current ∷ spare) (λ n h. (let l = f.long in omega (arith, h, l))) shelf.known;
          apart = shelf.apart;
          blank = λ n h. f.live n ∙ ap (filter (λ x. keeps (put_at n x))) (shelf.blank n h);
          counted = e ∙ ap (sum_by placed_nodes) (sym (placed-filtered (full ++ current ∷ [])));
          small = (let c = shelf.counted in let s = shelf.small in omega (arith, less, e, c, s));
          few = λ h. (let c = shelf.counted in let k = shelf.few (f.room current h) in omega (arith, less, e, c, k));
        }

  -- ---- one sheet and all

  sum-put : (n : ℕ) (xs : List (ℕ × Noted P K)) → sum_by placed_nodes (map (put_at n) xs) ≡ sum_by nodes_at xs
  sum-put n [] = refl
  sum-put n (x ∷ xs) = let h = sum-put n xs in let a = sum_by-cons placed_nodes (put_at n x) (map (put_at n) xs) in let b = sum_by-cons nodes_at x xs in omega (arith, h, a, b)

  module _ (sheets : List (Page P K)) (full : List ℕ) (current : ℕ) (spare : List ℕ) (needs : ℕ) (shelf : IsShelf sheets full current spare needs) where
    pub current-known : current < length sheets
    current-known = (every-right _ full (current ∷ spare) shelf.known).0

    pub nodes-here : sum_by nodes_at (page_at sheets current).live ≤ needs
    nodes-here =
        let a = ap (sum_by placed_nodes) (placed-parts sheets full current) in
        let b = sum_by-append placed_nodes (flat_map (placed_of sheets) full) (placed_of sheets current) in
        let c = sum-put current (page_at sheets current).live in
        let d = shelf.counted in
        omega (arith, a, b, c, d)

  -- what is read of a list of sheets
  pub page-read : (sheets : List (Page P K)) (n : ℕ) (page : Page P K) → n < length sheets → page ≡ get_or sheets n page → page ≡ page_at sheets n
  page-read sheets n page h e = get_or_read sheets n page h e blank_page

  -- ---- a sheet is begun

  -- one sheet is written over by one with the same events
  pub live-kept : (sheets : List (Page P K)) (n : ℕ) (page : Page P K) → n < length sheets → page.live ≡ (page_at sheets n).live → (m : ℕ) → (page_at (slice_set sheets n page) m).live ≡ (page_at sheets m).live
  live-kept sheets n page h e m = go (eqb m n) refl
    where
      go : (b : Bool) → eqb m n ≡ b → (page_at (slice_set sheets n page) m).live ≡ (page_at sheets m).live
      go true k =
          subst (λ a. (page_at (slice_set sheets n page) a).live ≡ (page_at sheets a).live) (sym (apart-true m n k)) (ap (λ (q : Page P K). q.live) (page-same sheets n page h) ∙ e)
      go false k = ap (λ (q : Page P K). q.live) (page-other sheets n page m k)

  pub page-more : (sheets : List (Page P K)) (m : ℕ) → page_at (sheets ++ blank_page ∷ []) m ≡ page_at sheets m
  page-more [] zero = refl
  page-more [] (suc m) = refl
  page-more (q ∷ qs) zero = refl
  page-more (q ∷ qs) (suc m) = page-more qs m

  module _ (sheets : List (Page P K)) (full : List ℕ) (current : ℕ) (spare : List ℕ) (needs : ℕ) (shelf : IsShelf sheets full current spare needs) (sheets' : List (Page P K))
      (same : (m : ℕ) → (page_at sheets' m).live ≡ (page_at sheets m).live) where
    pub placed-kept : placed_on sheets' full current ≡ placed_on sheets full current
    placed-kept = flat-same _ _ (full ++ current ∷ []) (every-all _ (full ++ current ∷ []) (λ m k. ap (map (put_at m)) (same m)))

    pub shelf-kept : length sheets' ≡ length sheets → needs ≤ 2 ^ 62 → IsShelf sheets' full current spare needs
    shelf-kept l few = record {
      known = every-weaker _ _ (full ++ current ∷ spare) (λ n h. omega (arith, h, l)) shelf.known;
      apart = shelf.apart;
      blank = λ n h. same n ∙ shelf.blank n h;
      counted = shelf.counted ∙ ap (sum_by placed_nodes) (sym placed-kept);
      small = shelf.small;
      few = λ h. few;
    }

    module _ (n : ℕ) (spare' : List ℕ) (empty : (page_at sheets n).live ≡ []) (closed : (page_at sheets' n).has_room ≡ false) where
      pub placed-begun : placed_on sheets' (full ++ current ∷ []) n ≡ placed_on sheets full current
      placed-begun =
          placed-parts sheets' (full ++ current ∷ []) n
          ∙ (λ j. placed-kept j ++ map (put_at n) ((same n ∙ empty) j)) ∙ append-nil (placed_on sheets full current)

      pub shelf-begun : AllByRecursion (λ m. m < length sheets') ((full ++ current ∷ []) ++ n ∷ spare') → ((m : ℕ) → count_by (λ k. eqb k m) ((full ++ current ∷ []) ++ n ∷ spare') ≤ 1)
          → IsShelf sheets' (full ++ current ∷ []) n spare' needs
      shelf-begun known apart = record {
        known = known;
        apart = apart;
        blank = λ m h. same m ∙ shelf.blank m (any-none (λ k. eqb k m) (full ++ current ∷ []) (every-left _ (full ++ current ∷ []) (n ∷ []) (none-any (λ k. eqb k m) ((full ++ current ∷ []) ++ n ∷ []) h)));
        counted = shelf.counted ∙ ap (sum_by placed_nodes) (sym placed-begun);
        small = shelf.small;
        few = λ h. absurd (let k : true ≡ false = sym h ∙ closed in cc);
      }

    -- a spare sheet is begun
    module _ (n : ℕ) (spare' : List ℕ) (is : spare ≡ spare' ++ n ∷ []) where
      again : AllByRecursion (λ m. m < length sheets) (full ++ current ∷ (spare' ++ n ∷ []))
      again = subst (λ ss. AllByRecursion (λ m. m < length sheets) (full ++ current ∷ ss)) is shelf.known

      pub spare-known : n < length sheets
      spare-known = (every-right _ spare' (n ∷ []) (every-right _ full (current ∷ (spare' ++ n ∷ [])) again).1).0

      pub known-begun : length sheets' ≡ length sheets → AllByRecursion (λ m. m < length sheets') ((full ++ current ∷ []) ++ n ∷ spare')
      known-begun l =
          every-weaker _ _ ((full ++ current ∷ []) ++ n ∷ spare') (λ m h. omega (arith, h, l))
          (every-append _ (full ++ current ∷ []) (n ∷ spare')
          (every-append _ full (current ∷ []) (every-left _ full (current ∷ (spare' ++ n ∷ [])) again) ((every-right _ full (current ∷ (spare' ++ n ∷ [])) again).0, tt))
          (spare-known, every-left _ spare' (n ∷ []) (every-right _ full (current ∷ (spare' ++ n ∷ [])) again).1))

      counted-begun : (f : ℕ → ℕ) → sum_by f ((full ++ current ∷ []) ++ n ∷ spare') ≡ sum_by f (full ++ current ∷ (spare' ++ n ∷ []))
      counted-begun f =
          let a = sum_by-append f (full ++ current ∷ []) (n ∷ spare') in
          let b = sum_by-append f full (current ∷ []) in
          let c = sum_by-append f full (current ∷ (spare' ++ n ∷ [])) in
          let d = sum_by-append f spare' (n ∷ []) in
          let e = sum_by-cons f n spare' in
          let g = sum_by-cons f current (spare' ++ n ∷ []) in
          let h = sum_by-cons f current [] in
          let k = sum_by-cons f n [] in
          omega (arith, a, b, c, d, e, g, h, k)

      pub apart-begun : (m : ℕ) → count_by (λ k. eqb k m) ((full ++ current ∷ []) ++ n ∷ spare') ≤ 1
      apart-begun m =
          let a = subst (λ ss. count_by (λ k. eqb k m) (full ++ current ∷ ss) ≤ 1) is (shelf.apart m) in
          let b = counted-begun (λ k. cond (eqb k m) 1 0) in
          omega (arith, a, b)

      pub spare-empty : (page_at sheets n).live ≡ []
      spare-empty =
          shelf.blank n (any-none (λ k. eqb k n) (full ++ current ∷ []) (once n (full ++ current ∷ []) spare' (apart-begun n)).0)

    -- and a new one
    pub known-added : length sheets' ≡ length sheets + 1 → AllByRecursion (λ m. m < length sheets') ((full ++ current ∷ []) ++ length sheets ∷ spare)
    known-added l =
        let k = every-weaker _ _ (full ++ current ∷ spare) (λ m h. (let r : m < length sheets' = omega (arith, h, l) in r)) shelf.known in
        every-append _ (full ++ current ∷ []) (length sheets ∷ spare)
        (every-append _ full (current ∷ []) (every-left _ full (current ∷ spare) k) ((every-right _ full (current ∷ spare) k).0, tt))
        (omega (arith, l), (every-right _ full (current ∷ spare) k).1)

    pub apart-added : (m : ℕ) → count_by (λ k. eqb k m) ((full ++ current ∷ []) ++ length sheets ∷ spare) ≤ 1
    apart-added m =
        let f : ℕ → ℕ = λ k. cond (eqb k m) 1 0 in
        let a = sum_by-append f (full ++ current ∷ []) (length sheets ∷ spare) in
        let b = sum_by-append f full (current ∷ []) in
        let c = sum_by-append f full (current ∷ spare) in
        let e = sum_by-cons f (length sheets) spare in
        let g = sum_by-cons f current spare in
        let h = sum_by-cons f current [] in
        let total : sum_by f ((full ++ current ∷ []) ++ length sheets ∷ spare) ≡ f (length sheets) + sum_by f (full ++ current ∷ spare) = omega (arith, a, b, c, e, g, h) in
        last (eqb (length sheets) m) refl total
      where
        none-of : (n : ℕ) (ns : List ℕ) → AllByRecursion (λ k. k < n) ns → count_by (λ k. eqb k n) ns ≡ 0
        none-of n [] h = refl
        none-of n (k ∷ ks) h = let d = below-differs k n h.0 in let r = none-of n ks h.1 in let a = sum_by-cons (λ k. cond (eqb k n) 1 0) k ks in omega (arith, d, r, a)
          where
            below-differs : (k n : ℕ) → k < n → ◌≡◌ {A = ℕ} (cond (eqb k n) 1 0) 0
            below-differs k n h = ap (λ b. cond b 1 0) (let e : eqb k n ≡ false = grind (arith, nat_tests) in e)

        last : (b : Bool) → eqb (length sheets) m ≡ b → count_by (λ k. eqb k m) ((full ++ current ∷ []) ++ length sheets ∷ spare) ≡ cond (eqb (length sheets) m) 1 0 + count_by (λ k. eqb k m) (full ++ current ∷ spare)
            → count_by (λ k. eqb k m) ((full ++ current ∷ []) ++ length sheets ∷ spare) ≤ 1
        last true e t =
            let none = subst (λ a. count_by (λ k. eqb k a) (full ++ current ∷ spare) ≡ 0) (apart-true (length sheets) m e) (none-of (length sheets) (full ++ current ∷ spare) shelf.known) in
            let one : ◌≡◌ {A = ℕ} (cond (eqb (length sheets) m) 1 0) 1 = ap (λ b. cond b 1 0) e in
            omega (arith, t, none, one)
        last false e t =
            let zero-here : ◌≡◌ {A = ℕ} (cond (eqb (length sheets) m) 1 0) 0 = ap (λ b. cond b 1 0) e in
            let a = shelf.apart m in
            omega (arith, t, zero-here, a)

  pub shelf-along : {sheets sheets' : List (Page P K)} {full full' : List ℕ} {current : ℕ} {spare spare' : List ℕ} {needs : ℕ} → sheets' ≡ sheets → full' ≡ full → spare' ≡ spare → IsShelf sheets full current spare needs → IsShelf sheets' full' current spare' needs
  shelf-along {sheets} {sheets'} {full} {full'} {current} {spare} {spare'} {needs} e f g shelf =
      subst (λ qs. IsShelf qs full' current spare' needs) (sym e) (subst (λ ns. IsShelf sheets ns current spare' needs) (sym f) (subst (λ ns. IsShelf sheets full current ns needs) (sym g) shelf))

  -- ---- what lies at a position

  module _ (n i : ℕ) where
    at-same : (x : ℕ × Noted P K) → lies_at (record { sheet = n; index = i }) (put_at n x) ≡ is_at i x
    at-same x = ap (λ b. b && eqb x.0 i) (eqb-self n)

    none-other : (sheets : List (Page P K)) (m : ℕ) → eqb m n ≡ false → NonePasses (lies_at (record { sheet = n; index = i })) (placed_of sheets m)
    none-other sheets m e = every-map (put_at m) _ (page_at sheets m).live (every-all _ (page_at sheets m).live (λ x k. ap (λ b. b && eqb x.0 i) e))

    none-others : (sheets : List (Page P K)) (ns : List ℕ) → AllByRecursion (λ m. eqb m n ≡ false) ns → NonePasses (lies_at (record { sheet = n; index = i })) (flat_map (placed_of sheets) ns)
    none-others sheets ns h = every-flat_map _ (placed_of sheets) ns (every-weaker _ _ ns (λ m e. none-other sheets m e) h)

    none-here : (sheets : List (Page P K)) → NonePasses (is_at i) (page_at sheets n).live → NonePasses (lies_at (record { sheet = n; index = i })) (placed_of sheets n)
    none-here sheets h = every-map (put_at n) _ (page_at sheets n).live (every-weaker _ _ (page_at sheets n).live (λ x e. at-same x ∙ e) h)

    pub none-placed : (sheets : List (Page P K)) (ns : List ℕ) → NonePasses (is_at i) (page_at sheets n).live → NonePasses (lies_at (record { sheet = n; index = i })) (flat_map (placed_of sheets) ns)
    none-placed sheets ns h = every-flat_map _ (placed_of sheets) ns (every-all _ ns (λ m k. go m (eqb m n) refl))
      where
        go : (m : ℕ) (b : Bool) → eqb m n ≡ b → NonePasses (lies_at (record { sheet = n; index = i })) (placed_of sheets m)
        go m true e = subst (λ a. NonePasses (lies_at (record { sheet = n; index = i })) (placed_of sheets a)) (sym (apart-true m n e)) (none-here sheets h)
        go m false e = none-other sheets m e

    alone-here : (sheets : List (Page P K)) (x : Noted P K) → PassesAlone (is_at i) (i, x) (page_at sheets n).live → PassesAlone (lies_at (record { sheet = n; index = i })) (record { sheet = n; index = i }, x) (placed_of sheets n)
    alone-here sheets x a = record {
      front = map (put_at n) a.front;
      back = map (put_at n) a.back;
      is = ap (map (put_at n)) a.is ∙ map-append (put_at n) a.front _;
      passes = at-same (i, x) ∙ a.passes;
      none_before = every-map (put_at n) _ a.front (every-weaker _ _ a.front (λ y e. at-same y ∙ e) a.none_before);
      none_after = every-map (put_at n) _ a.back (every-weaker _ _ a.back (λ y e. at-same y ∙ e) a.none_after);
    }

    pub alone-placed : (sheets : List (Page P K)) (full : List ℕ) (current : ℕ) (spare : List ℕ) (needs : ℕ) → IsShelf sheets full current spare needs → (x : Noted P K)
        → PassesAlone (is_at i) (i, x) (page_at sheets n).live → PassesAlone (lies_at (record { sheet = n; index = i })) (record { sheet = n; index = i }, x) (placed_on sheets full current)
    alone-placed sheets full current spare needs shelf x a = go (list_any (λ m. eqb m n) (full ++ current ∷ [])) refl
      where
        few : count_by (λ m. eqb m n) (full ++ current ∷ []) ≤ 1
        few =
            let f : ℕ → ℕ = λ m. cond (eqb m n) 1 0 in
            let p = sum_by-append f full (current ∷ []) in
            let q = sum_by-append f full (current ∷ spare) in
            let r = sum_by-cons f current spare in
            let s = sum_by-cons f current [] in
            let t = shelf.apart n in
            omega (arith, p, q, r, s, t)

        go : (b : Bool) → list_any (λ m. eqb m n) (full ++ current ∷ []) ≡ b → PassesAlone (lies_at (record { sheet = n; index = i })) (record { sheet = n; index = i }, x) (placed_on sheets full current)
        go false e = absurd (no-items a.front (i, x) a.back (sym a.is ∙ shelf.blank n e))
          where
            no-items : {X : Type 0} (xs : List X) (y : X) (ys : List X) → xs ++ y ∷ ys ≡ [] → ⊥
            no-items [] y ys e = cc
            no-items (z ∷ zs) y ys e = cc
        go true e =
            let parts = split-any n (full ++ current ∷ []) e in
            let other = once n parts.0 parts.1 (subst (λ ns. count_by (λ m. eqb m n) ns ≤ 1) parts.2 few) in
            subst (PassesAlone (lies_at (record { sheet = n; index = i })) (record { sheet = n; index = i }, x))
            (append_assoc (flat_map (placed_of sheets) parts.0) (placed_of sheets n) (flat_map (placed_of sheets) parts.1)
            ∙ sym (flat_map-append (placed_of sheets) parts.0 (n ∷ parts.1)) ∙ ap (flat_map (placed_of sheets)) (sym parts.2))
            (alone-between _ _ (flat_map (placed_of sheets) parts.0) (placed_of sheets n) (flat_map (placed_of sheets) parts.1)
            (none-others sheets parts.0 other.0) (alone-here sheets x a) (none-others sheets parts.1 other.1))

    -- one is taken out
    pub filtered-out : (sheets : List (Page P K)) (page : Page P K) → n < length sheets → page ≡ record { live = filter (is_elsewhere i) (page_at sheets n).live; has_room = false }
        → AreFiltered (lies_elsewhere (record { sheet = n; index = i })) sheets (slice_set sheets n page)
    filtered-out sheets page known is = record {
      long = length-set sheets n page;
      live = λ m. go m (eqb m n) refl;
      room = λ m h. roomy m (eqb m n) refl h;
    }
      where
        go : (m : ℕ) (b : Bool) → eqb m n ≡ b → (page_at (slice_set sheets n page) m).live ≡ filter (λ x. lies_elsewhere (record { sheet = n; index = i }) (put_at m x)) (page_at sheets m).live
        go m true e =
            subst (λ a. (page_at (slice_set sheets n page) a).live ≡ filter (λ x. lies_elsewhere (record { sheet = n; index = i }) (put_at a x)) (page_at sheets a).live) (sym (apart-true m n e))
            (ap (λ (q : Page P K). q.live) (page-same sheets n page known ∙ is) ∙ filter-same _ _ (page_at sheets n).live (every-all _ (page_at sheets n).live (λ x k. ap not (sym (at-same x)))))
        go m false e =
            ap (λ (q : Page P K). q.live) (page-other sheets n page m e)
            ∙ sym (filter-all _ (page_at sheets m).live (every-all _ (page_at sheets m).live (λ x k. ap (λ b. not (b && eqb x.0 i)) e)))

        roomy : (m : ℕ) (b : Bool) → eqb m n ≡ b → (page_at (slice_set sheets n page) m).has_room ≡ true → (page_at sheets m).has_room ≡ true
        roomy m true e h =
            let k : false ≡ true = sym (ap (λ (q : Page P K). q.has_room) (page-same sheets n page known ∙ is)) ∙ subst (λ a. (page_at (slice_set sheets n page) a).has_room ≡ true) (apart-true m n e) h in
            absurd (cc)
        roomy m false e h = sym (ap (λ (q : Page P K). q.has_room) (page-other sheets n page m e)) ∙ h

  -- ---- all sheets

  page-map : (floor : Time) (sheets : List (Page P K)) (m : ℕ) → page_at (map (page_below floor) sheets) m ≡ page_below floor (page_at sheets m)
  page-map floor [] m = refl
  page-map floor (q ∷ qs) zero = refl
  page-map floor (q ∷ qs) (suc m) = page-map floor qs m

  pub filtered-below : (floor : Time) (sheets : List (Page P K)) → AreFiltered (placed_stays floor) sheets (map (page_below floor) sheets)
  filtered-below floor sheets = record {
    long = length-map sheets (page_below floor);
    live = λ m. ap (λ (q : Page P K). q.live) (page-map floor sheets m);
    room = λ m h. absurd (let k : false ≡ true = sym (ap (λ (q : Page P K). q.has_room) (page-map floor sheets m)) ∙ h in cc);
  }

pub le-trans : (a b c : ℕ) → a ≤ b → b ≤ c → a ≤ c
le-trans a b c h k = omega (arith, h, k)

pub still-small : (a n : ℕ) → a ≤ 2 ^ 62 → n ≤ 16 → a + (1 + n) < 2 ^ 63
still-small a n h k = omega (arith, h, k)

pub few-by : (a b : ℕ) → a ≡ b → b ≤ 2 ^ 62 → a ≤ 2 ^ 62
few-by a b e h = omega (arith, e, h)

module _ {P K : Type 0} where
  pub shelf-named : {sheets : List (Page P K)} {full : List ℕ} {current : ℕ} {spare : List ℕ} {needs : ℕ} (n : ℕ) → n ≡ current → IsShelf sheets full current spare needs → IsShelf sheets full n spare needs
  shelf-named {sheets} {full} {current} {spare} {needs} n e shelf = subst (λ m. IsShelf sheets full m spare needs) (sym e) shelf

blank-live : {P K : Type 0} (page : Page P K) → is_blank page ≡ true → page.live ≡ []
blank-live page h = go page.live (apart-true (sum_by nodes_at page.live) 0 h)
  where
    go : {P K : Type 0} (live : List (ℕ × Noted P K)) → sum_by nodes_at live ≡ 0 → live ≡ []
    go [] e = refl
    go (x ∷ xs) e = let a = sum_by-cons nodes_at x xs in absurd (omega (arith, a, e))

flip : (b : Bool) → not b ≡ false → b ≡ true
flip true h = refl
flip false h = absurd (let e : true ≡ false = h in cc)

module _ {P K : Type 0} (sheets : List (Page P K)) where
  flat-cond : (b : Bool) (n : ℕ) (ns : List ℕ) → is_used sheets n ≡ b → flat_map (placed_of sheets) (cond b (n ∷ ns) ns) ≡ placed_of sheets n ++ flat_map (placed_of sheets) ns
  flat-cond true n ns h = refl
  flat-cond false n ns h = ap (λ xs. map (put_at n) xs ++ flat_map (placed_of sheets) ns) (sym (blank-live (page_at sheets n) (flip (is_blank (page_at sheets n)) h)))

  pub flat-used : (ns : List ℕ) → flat_map (placed_of sheets) (filter (is_used sheets) ns) ≡ flat_map (placed_of sheets) ns
  flat-used [] = refl
  flat-used (n ∷ ns) = flat-cond (is_used sheets n) n (filter (is_used sheets) ns) refl ∙ ap (λ ys. placed_of sheets n ++ ys) (flat-used ns)

  -- full sheets without events are made spare
  module _ (full full' : List ℕ) (current : ℕ) (spare spare' : List ℕ) (needs : ℕ) (shelf : IsShelf sheets full current spare needs) (is : full' ≡ filter (is_used sheets) full)
      (known : AllByRecursion (λ n. n < length sheets) spare') (counts : (n : ℕ) → count_by (λ m. eqb m n) spare' ≤ count_by (λ m. eqb m n) spare + count_by (λ m. eqb m n) (filter (is_unused sheets) full)) where
    pub placed-retired : placed_on sheets full' current ≡ placed_on sheets full current
    placed-retired =
        placed-parts sheets full' current ∙ ap (λ ns. flat_map (placed_of sheets) ns ++ placed_of sheets current) is
        ∙ ap (λ ys. ys ++ placed_of sheets current) (flat-used full) ∙ sym (placed-parts sheets full current)

    pub shelf-retired : IsShelf sheets full' current spare' needs
    shelf-retired = record {
      known =
          every-append _ full' (current ∷ spare') (subst (AllByRecursion (λ n. n < length sheets)) (sym is) (every-filter _ (is_used sheets) full (every-left _ full (current ∷ spare) shelf.known)))
          ((every-right _ full (current ∷ spare) shelf.known).0, known);
      apart = λ n. (
          let f : ℕ → ℕ = λ m. cond (eqb m n) 1 0 in
          let a = sum_by-append f full' (current ∷ spare') in
          let b = sum_by-append f full (current ∷ spare) in
          let c = sum_by-cons f current spare' in
          let d = sum_by-cons f current spare in
          let e = ap (sum_by f) is in
          let g = sum_by-filter_both (is_unused sheets) (is_used sheets) (λ m. refl) f full in
          let h = counts n in
          let k = shelf.apart n in
          omega (arith, a, b, c, d, e, g, h, k));
      blank = λ n h. gone n h (is_blank (page_at sheets n)) refl;
      counted = shelf.counted ∙ ap (sum_by placed_nodes) (sym placed-retired);
      small = shelf.small;
      few = shelf.few;
    }
      where
        none-used : (n : ℕ) (ns : List ℕ) → is_used sheets n ≡ true → AllByRecursion (λ m. eqb m n ≡ false) (filter (is_used sheets) ns) → AllByRecursion (λ m. eqb m n ≡ false) ns
        none-used n [] u h = tt
        none-used n (m ∷ ms) u h = go (eqb m n) refl (is_used sheets m) refl h (none-used n ms u)
          where
            go : (b : Bool) → eqb m n ≡ b → (d : Bool) → is_used sheets m ≡ d → AllByRecursion (λ k. eqb k n ≡ false) (cond d (m ∷ filter (is_used sheets) ms) (filter (is_used sheets) ms))
                → (AllByRecursion (λ k. eqb k n ≡ false) (filter (is_used sheets) ms) → AllByRecursion (λ k. eqb k n ≡ false) ms) → AllByRecursion (λ k. eqb k n ≡ false) (m ∷ ms)
            go b e true k h rest = (h.0, rest h.1)
            go true e false k h rest = absurd (let q : true ≡ false = sym u ∙ ap (is_used sheets) (sym (apart-true m n e)) ∙ k in cc)
            go false e false k h rest = (e, rest h)

        gone : (n : ℕ) → list_any (λ m. eqb m n) (full' ++ current ∷ []) ≡ false → (b : Bool) → is_blank (page_at sheets n) ≡ b → (page_at sheets n).live ≡ []
        gone n h true e = blank-live (page_at sheets n) e
        gone n h false e =
            let each = none-any (λ m. eqb m n) (full' ++ current ∷ []) h in
            let front = none-used n full (ap not e) (subst (AllByRecursion (λ m. eqb m n ≡ false)) is (every-left _ full' (current ∷ []) each)) in
            shelf.blank n (any-none (λ m. eqb m n) (full ++ current ∷ []) (every-append _ full (current ∷ []) front (every-right _ full' (current ∷ []) each)))

pub mod-more : (a b r n : ℕ) → r ≡ a % 2 ^ 64 → n ≡ (r + b) % 2 ^ 64 → n ≡ (a + b) % 2 ^ 64
mod-more a b r n e f = omega (arith, e, f)

pub mod-small : (a n : ℕ) → n ≡ a % 2 ^ 64 → a < 2 ^ 63 → n ≡ a
mod-small a n e h = omega (arith, e, h)

-- ---- loops over sheets

map-map : {P K : Type 0} (n : ℕ) (xs : List (ℕ × Noted P K)) → placed_events (map (put_at n) xs) ≡ events_in xs
map-map n [] = refl
map-map n (x ∷ xs) = ap (λ ys. x.1.event ∷ ys) (map-map n xs)

pub pushed-known : (P : ℕ → Type 0) (b : Bool) (old new : List ℕ) (x : ℕ) → new ≡ cond b (old ++ x ∷ []) old → AllByRecursion P old → P x → AllByRecursion P new
pushed-known P true old new x e h p = subst (AllByRecursion P) (sym e) (every-append P old (x ∷ []) h (p, tt))
pushed-known P false old new x e h p = subst (AllByRecursion P) (sym e) h

pub pushed-count : (f : ℕ → ℕ) (b : Bool) (old new : List ℕ) (x : ℕ) → new ≡ cond b (old ++ x ∷ []) old → sum_by f new ≤ sum_by f old + f x
pushed-count f true old new x e = let a = ap (sum_by f) e in let c = sum_by_push f old x in omega (arith, a, c)
pushed-count f false old new x e = let a = ap (sum_by f) e in omega (arith, a)

filter-last : (f : ℕ → ℕ) (b : Bool) (xs : List ℕ) (x : ℕ) → sum_by f (xs ++ cond b (x ∷ []) []) ≡ sum_by f xs + cond b (f x) 0
filter-last f true xs x = sum_by_push f xs x
filter-last f false xs x = let a = ap (sum_by f) (append-nil xs) in omega (arith, a)

pub filter-counted : (f : ℕ → ℕ) (p : ℕ → Bool) (xs : List ℕ) (i : ℕ) (b : Bool) → i < length xs → p (get_or xs i 0) ≡ b → sum_by f (filter p (take (i + 1) xs)) ≡ sum_by f (filter p (take i xs)) + cond b (f (get_or xs i 0)) 0
filter-counted f p xs i b h e =
    ap (sum_by f) (filter_more p xs i 0 h) ∙ filter-last f (p (get_or xs i 0)) (filter p (take i xs)) (get_or xs i 0)
    ∙ ap (λ c. sum_by f (filter p (take i xs)) + cond c (f (get_or xs i 0)) 0) e

pub kept-yes : (a b c d e n : ℕ) → a ≤ b + c → b ≤ d + e → n ≡ e + c → a ≤ d + n
kept-yes a b c d e n h k l = omega (arith, h, k, l)

pub kept-no : (a b d e n : ℕ) → a ≡ b → b ≤ d + e → n ≡ e + 0 → a ≤ d + n
kept-no a b d e n g h k = omega (arith, g, h, k)

pub numbers-known : (P : ℕ → Type 0) (xs : List ℕ) (i : ℕ) → i < length xs → AllByRecursion P xs → P (get_or xs i 0)
numbers-known P xs i h all = every-get P xs i (get_or xs i 0) (slice_get-get_or xs i 0 h) all

pub lt-along : (i n a b : ℕ) → i < n → n ≡ a → b ≡ a → i < b
lt-along i n a b h e f = omega (arith, h, e, f)

pub le-along : (i n a : ℕ) → n ≤ i → n ≡ a → a ≤ i
le-along i n a h e = omega (arith, h, e)

pub map-step : {X : Type 0} (f : X → X) (xs : List X) (i n : ℕ) (d : X) → n ≡ suc i → i < length xs → slice_set (map f (take i xs) ++ drop i xs) i (f (get_or xs i d)) ≡ map f (take n xs) ++ drop n xs
map-step f [] i n d e h = absurd (omega (arith, h))
map-step f (x ∷ xs) zero n d e h = subst (λ m. f x ∷ xs ≡ map f (take m (x ∷ xs)) ++ drop m (x ∷ xs)) (sym e) refl
map-step f (x ∷ xs) (suc i) n d e h =
    subst (λ m. f x ∷ slice_set (map f (take i xs) ++ drop i xs) i (f (get_or xs i d)) ≡ map f (take m (x ∷ xs)) ++ drop m (x ∷ xs)) (sym e)
    (ap (λ ys. f x ∷ ys) (map-step f xs i (suc i) d refl (omega (arith, h))))

pub map-there : {X : Type 0} (f : X → X) (xs : List X) (i : ℕ) (d : X) → i < length xs → get_or (map f (take i xs) ++ drop i xs) i d ≡ get_or xs i d
map-there f [] i d h = absurd (omega (arith, h))
map-there f (x ∷ xs) zero d h = refl
map-there f (x ∷ xs) (suc i) d h = map-there f xs i d (omega (arith, h))

pub map-done : {X : Type 0} (f : X → X) (xs : List X) (i : ℕ) → length xs ≤ i → map f (take i xs) ++ drop i xs ≡ map f xs
map-done f xs i h = (λ j. map f (take_all i xs h j) ++ drop_all i xs h j) ∙ append-nil (map f xs)

module _ {P K : Type 0} where
  -- the sheet that a loop over numbers has come to
  module _ (sheets : List (Page P K)) (numbers : List ℕ) (i : ℕ) (page : Page P K) (h : i < length numbers) (known : AllByRecursion (λ n. n < length sheets) numbers) (e : page ≡ get_or sheets (get_or numbers i 0) page) where
    read-here : page ≡ page_at sheets (get_or numbers i 0)
    read-here = page-read sheets (get_or numbers i 0) page (numbers-known (λ n. n < length sheets) numbers i h known) e

    number-here : get_or numbers i 0 ≡ get_or numbers i (get_or numbers i 0)
    number-here = get_or_default numbers i 0 (get_or numbers i 0) h

    pub rows-more : (floor : Time) (olds rows new : List Row) → rows ≡ olds ++ flat_map (page_rows floor sheets) (take i numbers) → new ≡ rows ++ rows_below floor (events_in page.live)
        → new ≡ olds ++ flat_map (page_rows floor sheets) (take (i + 1) numbers)
    rows-more floor olds rows new before is =
        flat-more (page_rows floor sheets) numbers i (get_or numbers i 0) olds rows new h number-here before (is ∙ ap (λ (q : Page P K). rows ++ rows_below floor (events_in q.live)) read-here)

    stamp-here : (stamp : Stamp) (b : Bool) → b ≡ list_any (is_stamped stamp) (events_in page.live) → page_has_stamp stamp sheets (get_or numbers i 0) ≡ b
    stamp-here stamp b is = sym (is ∙ ap (λ (q : Page P K). list_any (is_stamped stamp) (events_in q.live)) read-here)

    pub stamp-found : (stamp : Stamp) (b : Bool) → b ≡ list_any (is_stamped stamp) (events_in page.live) → b ≡ true → true ≡ list_any (page_has_stamp stamp sheets) numbers
    stamp-found stamp b is so = any-found (page_has_stamp stamp sheets) numbers i (get_or numbers i 0) h number-here (stamp-here stamp b is ∙ so)

    pub stamp-more : (stamp : Stamp) (b : Bool) → b ≡ list_any (is_stamped stamp) (events_in page.live) → b ≡ false → list_any (page_has_stamp stamp sheets) (take i numbers) ≡ false
        → list_any (page_has_stamp stamp sheets) (take (i + 1) numbers) ≡ false
    stamp-more stamp b is so none = any-more (page_has_stamp stamp sheets) numbers i (get_or numbers i 0) h number-here none (stamp-here stamp b is ∙ so)

  pub sum-more : (sheets : List (Page P K)) (numbers : List ℕ) (i : ℕ) (page : Page P K) → i < length numbers → AllByRecursion (λ n. n < length sheets) numbers → page ≡ get_or sheets (get_or numbers i 0) page
      → sum_by placed_nodes (flat_map (placed_of sheets) (take (i + 1) numbers)) ≡ sum_by placed_nodes (flat_map (placed_of sheets) (take i numbers)) + sum_by nodes_at page.live
  sum-more sheets numbers i page h known e =
      let n = get_or numbers i 0 in
      let read = page-read sheets n page (numbers-known (λ n. n < length sheets) numbers i h known) e in
      ap (λ ns. sum_by placed_nodes (flat_map (placed_of sheets) ns)) (take_more numbers i 0 h)
      ∙ ap (sum_by placed_nodes) (flat_map-append (placed_of sheets) (take i numbers) (n ∷ []) ∙ ap (λ ys. flat_map (placed_of sheets) (take i numbers) ++ ys) (append-nil (placed_of sheets n)))
      ∙ sum_by-append placed_nodes (flat_map (placed_of sheets) (take i numbers)) (placed_of sheets n)
      ∙ ap (λ m. sum_by placed_nodes (flat_map (placed_of sheets) (take i numbers)) + m) (sum-put n (page_at sheets n).live ∙ ap (λ (q : Page P K). sum_by nodes_at q.live) (sym read))

  module _ (n i : ℕ) where
    -- what holds of each event at an index of a sheet holds of each at that position
    pub all-placed : (Q : Noted P K → Type 0) (sheets : List (Page P K)) (ns : List ℕ) → AllByRecursion (λ y. is_at i y ≡ true → Q y.1) (page_at sheets n).live
        → AllByRecursion (λ x. lies_at (record { sheet = n; index = i }) x ≡ true → Q x.1) (flat_map (placed_of sheets) ns)
    all-placed Q sheets ns h = every-flat_map _ (placed_of sheets) ns (every-all _ ns (λ m k. go m (eqb m n) refl))
      where
        go : (m : ℕ) (b : Bool) → eqb m n ≡ b → AllByRecursion (λ x. lies_at (record { sheet = n; index = i }) x ≡ true → Q x.1) (placed_of sheets m)
        go m true e =
            subst (λ a. AllByRecursion (λ x. lies_at (record { sheet = n; index = i }) x ≡ true → Q x.1) (placed_of sheets a)) (sym (apart-true m n e))
            (every-map (put_at n) _ (page_at sheets n).live (every-weaker _ _ (page_at sheets n).live (λ y q t. q (sym (at-same n i y) ∙ t)) h))
        go m false e =
            every-map (put_at m) _ (page_at sheets m).live (every-all _ (page_at sheets m).live (λ y k t. absurd (let f : false ≡ true = sym (ap (λ b. b && eqb y.0 i) e) ∙ t in cc)))

    -- a sheet where an event lies is known
    pub position-known : (sheets : List (Page P K)) (ns : List ℕ) (x : Position × Noted P K) → PassesAlone (lies_at (record { sheet = n; index = i })) x (flat_map (placed_of sheets) ns) → n < length sheets
    position-known sheets ns x a = go (cases_lt n (length sheets))
      where
        go : (n < length sheets) ⊎ (length sheets ≤ n) → n < length sheets
        go (inl h) = h
        go (inr h) = absurd (alone-none _ x _ a (none-placed n i sheets ns (subst (λ (q : Page P K). NonePasses (is_at i) q.live) (sym (get_or_past sheets n blank_page h)) tt)))

pub less-by : (n a b : ℕ) → a + b ≡ n → b ≤ n
less-by n a b e = omega (arith, e)

pub left-by : (n a b m : ℕ) → a + b ≡ n → m ≡ b → n - m ≡ a
left-by n a b m e f = omega (arith, e, f)

pub rows-placed : {P K : Type 0} (floor : Time) (sheets : List (Page P K)) (ns : List ℕ) → flat_map (page_rows floor sheets) ns ≡ rows_below floor (placed_events (flat_map (placed_of sheets) ns))
rows-placed floor sheets [] = refl
rows-placed floor sheets (n ∷ ns) =
    (λ j. page_rows floor sheets n ++ rows-placed floor sheets ns j)
    ∙ ap (λ es. rows_below floor es ++ rows_below floor (placed_events (flat_map (placed_of sheets) ns))) (sym (map-map n (page_at sheets n).live))
    ∙ sym (ap (rows_below floor) (map-append _ (placed_of sheets n) (flat_map (placed_of sheets) ns)) ∙ rows_below-append floor (placed_events (placed_of sheets n)) (placed_events (flat_map (placed_of sheets) ns)))

pub stamps-placed : {P K : Type 0} (stamp : Stamp) (sheets : List (Page P K)) (ns : List ℕ) → list_any (page_has_stamp stamp sheets) ns ≡ list_any (is_stamped stamp) (placed_events (flat_map (placed_of sheets) ns))
stamps-placed stamp sheets [] = refl
stamps-placed stamp sheets (n ∷ ns) =
    (λ j. page_has_stamp stamp sheets n || stamps-placed stamp sheets ns j)
    ∙ ap (λ es. list_any (is_stamped stamp) es || list_any (is_stamped stamp) (placed_events (flat_map (placed_of sheets) ns))) (sym (map-map n (page_at sheets n).live))
    ∙ sym (ap (list_any (is_stamped stamp)) (map-append _ (placed_of sheets n) (flat_map (placed_of sheets) ns)) ∙ any-append (is_stamped stamp) (placed_events (placed_of sheets n)) (placed_events (flat_map (placed_of sheets) ns)))

pub either-true : (a b : Bool) → b ≡ true → (a || (b || false)) ≡ true
either-true true b e = refl
either-true false true e = refl
either-true false false e = e

pub either-false : (a b : Bool) → b ≡ false → (a || (b || false)) ≡ a
either-false true b e = refl
either-false false true e = absurd (let k : true ≡ false = e in cc)
either-false false false e = refl

module _ {P K : Type 0} (sheets : List (Page P K)) (full : List ℕ) (current : ℕ) where
  pub rows-total : (floor : Time) → flat_map (page_rows floor sheets) full ++ page_rows floor sheets current ≡ rows_below floor (placed_events (placed_on sheets full current))
  rows-total floor =
      ap (λ rs. flat_map (page_rows floor sheets) full ++ rs) (sym (append-nil (page_rows floor sheets current)))
      ∙ sym (flat_map-append (page_rows floor sheets) full (current ∷ [])) ∙ rows-placed floor sheets (full ++ current ∷ [])

  pub stamps-total : (stamp : Stamp) → list_any (is_stamped stamp) (placed_events (placed_on sheets full current)) ≡ (list_any (page_has_stamp stamp sheets) full || (page_has_stamp stamp sheets current || false))
  stamps-total stamp = sym (stamps-placed stamp sheets (full ++ current ∷ [])) ∙ any-append (page_has_stamp stamp sheets) full (current ∷ [])

  -- how many nodes are needed after the events before a floor are forgotten
  pub forget-needs : (floor : Time) (spare : List ℕ) (needs : ℕ) → IsShelf sheets full current spare needs → (counted here : ℕ)
      → counted ≡ sum_by placed_nodes (flat_map (placed_of (map (page_below floor) sheets)) full) % 2 ^ 64 → here ≡ sum_by nodes_at (page_at (map (page_below floor) sheets) current).live
      → (counted + here) % 2 ^ 64 ≡ sum_by placed_nodes (filter (placed_stays floor) (placed_on sheets full current))
  forget-needs floor spare needs shelf counted here e f =
      let m = map (page_below floor) sheets in
      let total : sum_by placed_nodes (placed_on m full current) ≡ sum_by placed_nodes (flat_map (placed_of m) full) + here =
      ap (sum_by placed_nodes) (placed-parts m full current) ∙ sum_by-append placed_nodes (flat_map (placed_of m) full) (placed_of m current)
      ∙ ap (λ n. sum_by placed_nodes (flat_map (placed_of m) full) + n) (sum-put current (page_at m current).live ∙ sym f) in
      let filtered = ap (sum_by placed_nodes) (placed-filtered (placed_stays floor) sheets m (filtered-below floor sheets) (full ++ current ∷ [])) in
      let less = sum-filter placed_nodes (placed_stays floor) (placed_on sheets full current) in
      let c = shelf.counted in
      let s = shelf.small in
      let bound : sum_by placed_nodes (flat_map (placed_of m) full) + here < 2 ^ 63 = omega (arith, total, filtered, less, c, s) in
      mod-small (sum_by placed_nodes (flat_map (placed_of m) full) + here) _ (mod-more _ here counted _ e refl) bound ∙ sym total ∙ filtered

one-at-most : (b : Bool) → cond b 1 0 ≤ 1
one-at-most true = omega arith
one-at-most false = omega arith

-- a shelf with one sheet, which is blank
pub shelf-fresh : {P K : Type 0} → IsShelf {P = P} {K = K} (blank_page ∷ []) [] 0 [] 0
shelf-fresh {P} {K} = record {
  known = (omega arith, tt);
  apart = λ n. (let a = sum_by-cons (λ m. cond (eqb m n) 1 0) 0 [] in let b = one-at-most (eqb 0 n) in omega (arith, a, b));
  blank = λ n h. ap (λ (q : Page P K). q.live) (page-more [] n);
  counted = refl;
  small = omega arith;
  few = λ h. omega arith;
}

-- what follows in either case
pub match-then : {V : Type 0} (P P' : Type 0) (Q Q' : V → Type 0) (o : Option V) → (P → P') → ((v : V) → Q v → Q' v) → MatchOption o P Q → MatchOption o P' Q'
match-then P P' Q Q' None f g h = f h
match-then P P' Q Q' (Some v) f g h = g v h

pub itself : (n : ℕ) → n ≤ n
itself n = omega arith
