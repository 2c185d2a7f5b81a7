-- The making of a station and of its places keeps the rule.
use Rattle.std.proofs.Common.{◌≡◌, ◌≢◌, ◌⊎◌, ℕ, zero, suc, ◌+◌, ◌-◌, ◌<◌, List, [], ◌∷◌, ◌++◌, map, length, get_or, set, sym, refl, ap, ◌∙◌, subst, inl, inr, ⊎_elim, arith, length-set, length-append, Some, slice_get, slice_index_or, drop}
use Rattle.std.specs.List.{range_with_len, AllByRecursion}
use Rattle.std.proofs.lemmas.List.FromFn.{length-map-range_with_len}
use mathlib.Core.Logic.{dite}
use mathlib.Core.Option.{some, some-injective, some-ne-none}
use native.Mathlib.Decide.{ℕ_discrete}
use lib.ListN.{get_elem?, length-map}
use Rattle.atomic_table.specs.Table.{Splits}
use Rattle.atomic_table.specs.Table.{opening as tabled}
use Rattle.atomic_table.proofs.Lists.{at_set, set_else, at_snoc, at_longer, at_last}
use Rattle.vt_model.specs.declared.settings.Config.{Config}
use Rattle.vt_model.specs.promise.Simulation.{Simulation}
use Rattle.vt_steps.specs.promise.World.{opening_part, opening_world}
use Rattle.vt_steps.specs.inside.Cells.{inbox_of, Cell, in_inbox, content}
use Rattle.vt_steps.specs.inside.Marked.{Marked, own_steps}
use Rattle.vt_steps.specs.promise.Next.{run}
use Rattle.vt_steps.proofs.marks.MarkedRuns.{own-others}
use Rattle.vt_steps.proofs.steps.LocalLeads.{run-others_part}
use Rattle.vt_steps.proofs.lists.Indices.{get-map_range}
use Rattle.vt_places.specs.declared.slot.Slot.{Slot}
use Rattle.vt_places.specs.declared.view.View.{View}
use Rattle.vt_places.specs.inside.Hands.{empty_hand, holding}
use Rattle.vt_places.specs.inside.Slots.{cell_count, word_at, cell_at, held_in, IsSlotOf}
use Rattle.vt_places.specs.inside.Kept.{TableState, IsSeated, IsClaimed, Makes, Sits, IsTableRight, first_view, left_view, next_view}
use Rattle.vt_places.proofs.Cells.{not-empty}
use Rattle.vt_places.proofs.Growth.{grown-not, grown-before}
use Rattle.vt_key.proofs.ListLemmas.{every-weaker}

-- ---- lists

pub shorter : {X : Type 0} (l : List X) → 0 < length l → suc (length (drop 1 l)) ≡ length l
shorter [] h = absurd (omega arith)
shorter (y ∷ ys) h = refl

later : {X : Type 0} (l : List X) (i : ℕ) (x : X) → get_elem? (drop 1 l) i ≡ some x → get_elem? l (suc i) ≡ some x
later [] i x e = absurd (some-ne-none x (sym e))
later (y ∷ ys) i x e = e

head : {X : Type 0} (l : List X) (d : X) → 0 < length l → get_elem? l 0 ≡ some (slice_index_or l 0 d)
head [] d h = absurd (omega arith)
head (y ∷ ys) d h = refl

pub set-there : {X : Type 0} (xs : List X) (i : ℕ) (a b : X) → get_elem? xs i ≡ some a → get_elem? (set xs i b) i ≡ some b
set-there [] i a b e = absurd (some-ne-none a (sym e))
set-there (y ∷ ys) zero a b e = refl
set-there (y ∷ ys) (suc i) a b e = set-there ys i a b e

snoc-at : {X : Type 0} (l : List X) (a b : X) (j : ℕ) → get_elem? (l ++ a ∷ []) j ≡ some b → (get_elem? l j ≡ some b) ⊎ ((a ≡ b) × (j ≡ length l))
snoc-at [] a b zero e = inr (some-injective a b e, refl)
snoc-at [] a b (suc j) e = absurd (some-ne-none b (sym e))
snoc-at (x ∷ xs) a b zero e = inl e
snoc-at (x ∷ xs) a b (suc j) e = ⊎_elim inl (λ t. inr (t.0, ap suc t.1)) (snoc-at xs a b j e)

below-not : (made : ℕ) (ms : List Marked) → AllByRecursion (λ m. m.worker < made) ms → AllByRecursion (λ m. m.worker ≡ made → ⊥) ms
below-not made [] a = tt
below-not made (m ∷ ms) a = ((λ e. (let z = a.0 in omega arith)), below-not made ms a.1)

-- what stands at a place of the images of a range
range-at : {X : Type 0} (f : ℕ → X) (from n i : ℕ) (x : X) → get_elem? (map f (range_with_len from n)) i ≡ some x → x ≡ f (from + i)
range-at f from zero i x e = absurd (some-ne-none x (sym e))
range-at f from (suc n) zero x e = sym (some-injective (f from) x e) ∙ ap f (let z : from ≡ from + 0 = omega arith in z)
range-at f from (suc n) (suc i) x e = range-at f (from + 1) n i x e ∙ ap f (let z : (from + 1) + i ≡ from + suc i = omega arith in z)

module _ {S P : Type 0} (sim : Simulation S P) (config : Config) where
  -- the part of a worker at the opening
  opening-at : (q : ℕ) → q < sim.workers → slice_get (opening_world sim 0).parts q ≡ Some (opening_part sim 0 q)
  unfolding opening_world
  opening-at q less = get-map_range (opening_part sim 0) 0 sim.workers q less ∙ ap (λ k. Some (opening_part sim 0 k)) (let z : 0 + q ≡ q = omega arith in z)

  -- ---- one more place

  abbrev parted : TableState P → ℕ → View P → TableState P
  parted s id v = record { words = s.words; homes = s.homes; views = set s.views id (left_view v) ++ next_view v ∷ [] }

  abbrev Was : TableState P → ℕ → ℕ → View P → Type 0
  Was s made i a = ((u : View P) × (get_elem? s.views i ≡ some u) × (u.worker ≡ a.worker)) ⊎ ((i ≡ length s.views) × (a.worker ≡ made))

  abbrev WasHeld : TableState P → ℕ → View P → Type 0
  WasHeld s i a = ((u : View P) × (get_elem? s.views i ≡ some u) × (u.hand ≡ a.hand)) ⊎ (a.hand ≡ empty_hand)

  -- the seat that makes the others makes the next one
  pub splits : (id : ℕ) (v : View P) → 0 < length v.waiting → Splits (IsTableRight sim config) id v (left_view v) (next_view v)
  splits id v some_left s r at = record {
    log = r.log;
    made = r.made + 1;
    maker = r.maker;
    wide = r.wide;
    deep = r.deep;
    most = (let a = makes.all in omega arith);
    marks = every-weaker (λ m. m.worker < r.made) (λ m. m.worker < r.made + 1) r.log (λ m l. omega arith) r.marks;
    right = r.right;
    count = (let a = r.count in omega (arith, length-append (set s.views id (left_view v)) (next_view v ∷ []), length-set s.views id (left_view v)));
    maker_there = (let a = r.maker_there in omega arith);
    free = λ k l nz. (let f = r.free k l nz in record { slot = f.slot; home = f.home; cell = f.cell; right = f.right });
    taken = λ k l z.
        (let u = r.taken k l z in
        dite (ℕ_discrete u.seat id)
        (λ e. record {
          seat = id;
          view = left_view v;
          cell = u.cell;
          there = at_longer (set s.views id (left_view v)) _ id (left_view v) (set-there s.views id v (left_view v) at);
          hand = ap (λ (x : View P). x.hand) (some-injective v u.view (sym at ∙ (ap (get_elem? s.views) (sym e) ∙ u.there))) ∙ u.hand;
        })
        (λ ne. record { seat = u.seat; view = u.view; cell = u.cell; there = at_longer (set s.views id (left_view v)) _ u.seat u.view (set_else s.views id u.seat (left_view v) ne ∙ u.there); hand = u.hand }));
    empty = r.empty;
    each = λ j u e. ⊎_elim
        (λ (there : get_elem? (set s.views id (left_view v)) j ≡ some u). ⊎_elim
        (λ (x : (j ≡ id) × (left_view v ≡ u)). subst (λ (z : ℕ × View P). Sits sim (parted s id v) r.log (r.made + 1) r.maker z.0 z.1) (λ i. (sym x.0 i, x.1 i)) maker_sits)
        (λ (x : (j ≢ id) × (get_elem? s.views j ≡ some u)). other_sits j u x.0 (r.each j u x.1))
        (at_set s.views id j (left_view v) u there))
        (λ (new : (next_view v ≡ u) × (j ≡ length (set s.views id (left_view v)))). subst (Sits sim (parted s id v) r.log (r.made + 1) r.maker j) new.0 (new_sits j (new.1 ∙ length-set s.views id (left_view v))))
        (snoc-at (set s.views id (left_view v)) (next_view v) u j e);
    seated = λ q less. dite (ℕ_discrete q r.made)
        (λ e. record { seat = length (set s.views id (left_view v)); view = next_view v; there = at_last (set s.views id (left_view v)) (next_view v) (length (set s.views id (left_view v))) refl; worker = makes.next ∙ sym e })
        (λ ne. was_seated (r.seated q (omega arith)));
    apart = λ i j a b e f same. joint i j a b (was i a e) (was j b f) same;
    alone = λ i j a b k c d e f ha hb. both i j a b k c d (was_held i a e) (was_held j b f) ha hb;
  }
    where
      t : Sits sim s r.log r.made r.maker id v
      t = r.each id v at

      -- only the maker has others to make
      is_maker : id ≡ r.maker
      is_maker = dite (ℕ_discrete id r.maker) (λ e. e) (λ ne. absurd (let none = ap length ((r.each id v at).waits ne) in omega arith))

      makes : Makes sim r.made v
      makes = (r.each id v at).makes is_maker

      was_seated : {q : ℕ} → IsSeated s q → IsSeated (parted s id v) q
      was_seated p = dite (ℕ_discrete p.seat id)
          (λ e. record {
            seat = id;
            view = left_view v;
            there = at_longer (set s.views id (left_view v)) _ id (left_view v) (set-there s.views id v (left_view v) at);
            worker = ap (λ (x : View P). x.worker) (some-injective v p.view (sym at ∙ (ap (get_elem? s.views) (sym e) ∙ p.there))) ∙ p.worker;
          })
          (λ ne. record { seat = p.seat; view = p.view; there = at_longer (set s.views id (left_view v)) _ p.seat p.view (set_else s.views id p.seat (left_view v) ne ∙ p.there); worker = p.worker })

      claimed_as : (k : ℕ) (cell : Cell P) → IsClaimed sim s r.log k cell → IsClaimed sim (parted s id v) r.log k cell
      claimed_as k cell g = record { near = g.near; word = g.word; away = g.away; shows = g.shows }

      maker_sits : Sits sim (parted s id v) r.log (r.made + 1) r.maker id (left_view v)
      maker_sits = record {
        inside = (let l = t.inside in omega arith);
        part = t.part;
        mine = t.mine;
        grows = t.grows;
        seen = t.seen;
        holds = λ k cell e. claimed_as k cell (t.holds k cell e);
        makes = λ e. record {
          next = ap (λ (i : ℕ). i + 1) makes.next;
          all = (let a = makes.all in let b = shorter v.waiting some_left in omega arith);
          parts = λ i part e. makes.parts (suc i) part (later v.waiting i part e) ∙ ap (opening_part sim 0) (let z : r.made + suc i ≡ (r.made + 1) + i = omega arith in z);
        };
        waits = λ ne. absurd (ne is_maker);
      }

      other_sits : (j : ℕ) (u : View P) → j ≢ id → Sits sim s r.log r.made r.maker j u → Sits sim (parted s id v) r.log (r.made + 1) r.maker j u
      other_sits j u ne o = record {
        inside = (let l = o.inside in omega arith);
        part = o.part;
        mine = o.mine;
        grows = o.grows;
        seen = o.seen;
        holds = λ k cell e. claimed_as k cell (o.holds k cell e);
        makes = λ e. absurd (ne (e ∙ sym is_maker));
        waits = o.waits;
      }

      fresh : AllByRecursion (λ m. m.worker ≡ v.made → ⊥) r.log
      fresh = subst (λ (k : ℕ). AllByRecursion (λ m. m.worker ≡ k → ⊥) r.log) (sym makes.next) (below-not r.made r.log r.marks)

      new_sits : (j : ℕ) → j ≡ length s.views → Sits sim (parted s id v) r.log (r.made + 1) r.maker j (next_view v)
      new_sits j last = record {
        inside = (let a = makes.next in omega arith);
        part =
            run-others_part sim (opening_world sim 0) v.made r.log r.right fresh
            ∙ opening-at v.made (let a = makes.all in let b = makes.next in omega arith)
            ∙ ap (λ p. Some p) (sym (makes.parts 0 (slice_index_or v.waiting 0 v.part) (head v.waiting v.part some_left) ∙ ap (opening_part sim 0) (let a = makes.next in let z : r.made + 0 ≡ v.made = omega arith in z)));
        mine = own-others sim v.made (opening_world sim 0) r.log fresh;
        grows = grown-before v.made r.log fresh;
        seen = omega arith;
        holds = λ k cell e. absurd (not-empty empty_hand k cell refl e);
        makes = λ e. absurd (let a = r.maker_there in let b = r.count in omega arith);
        waits = λ ne. refl;
      }

      was : (i : ℕ) (a : View P) → get_elem? (set s.views id (left_view v) ++ next_view v ∷ []) i ≡ some a → Was s r.made i a
      was i a e = ⊎_elim
          (λ (there : get_elem? (set s.views id (left_view v)) i ≡ some a). ⊎_elim
          (λ (x : (i ≡ id) × (left_view v ≡ a)). inl (v, ap (get_elem? s.views) x.0 ∙ at, ap (λ (u : View P). u.worker) x.1))
          (λ (x : (i ≢ id) × (get_elem? s.views i ≡ some a)). inl (a, x.1, refl))
          (at_set s.views id i (left_view v) a there))
          (λ (new : (next_view v ≡ a) × (i ≡ length (set s.views id (left_view v)))). inr (new.1 ∙ length-set s.views id (left_view v), sym (ap (λ (u : View P). u.worker) new.0) ∙ makes.next))
          (snoc-at (set s.views id (left_view v)) (next_view v) a i e)

      inside_of : (i : ℕ) (a : View P) → ((u : View P) × (get_elem? s.views i ≡ some u) × (u.worker ≡ a.worker)) → a.worker < r.made
      inside_of i a x = subst (λ (k : ℕ). k < r.made) x.2 ((r.each i x.0 x.1).inside)

      joint : (i j : ℕ) (a b : View P) → Was s r.made i a → Was s r.made j b → a.worker ≡ b.worker → i ≡ j
      joint i j a b (inl x) (inl y) same = r.apart i j x.0 y.0 x.1 y.1 (x.2 ∙ (same ∙ sym y.2))
      joint i j a b (inr x) (inr y) same = x.0 ∙ sym y.0
      joint i j a b (inl x) (inr y) same = (let l = inside_of i a x in let m = y.1 in absurd (omega arith))
      joint i j a b (inr x) (inl y) same = (let l = inside_of j b y in let m = x.1 in absurd (omega arith))

      was_held : (i : ℕ) (a : View P) → get_elem? (set s.views id (left_view v) ++ next_view v ∷ []) i ≡ some a → WasHeld s i a
      was_held i a e = ⊎_elim
          (λ (there : get_elem? (set s.views id (left_view v)) i ≡ some a). ⊎_elim
          (λ (x : (i ≡ id) × (left_view v ≡ a)). inl (v, ap (get_elem? s.views) x.0 ∙ at, ap (λ (u : View P). u.hand) x.1))
          (λ (x : (i ≢ id) × (get_elem? s.views i ≡ some a)). inl (a, x.1, refl))
          (at_set s.views id i (left_view v) a there))
          (λ (new : next_view v ≡ a). inr (sym (ap (λ (u : View P). u.hand) new)))
          (at_snoc (set s.views id (left_view v)) (next_view v) a i e)

      both : (i j : ℕ) (a b : View P) (k : ℕ) (c d : Cell P) → WasHeld s i a → WasHeld s j b → a.hand ≡ holding k c → b.hand ≡ holding k d → i ≡ j
      both i j a b k c d (inl x) (inl y) ha hb = r.alone i j x.0 y.0 k c d x.1 y.1 (x.2 ∙ ha) (y.2 ∙ hb)
      both i j a b k c d (inr x) y ha hb = absurd (not-empty a.hand k c x ha)
      both i j a b k c d (inl x) (inr y) ha hb = absurd (not-empty b.hand k d y hb)

  -- ---- the first place

  -- all words are 0, and the slots hold what the cells of the opening world hold, whose inboxes are empty
  pub starts : (words : List ℕ) (slots : List (Slot P)) → 0 < sim.workers → length words ≡ word_at (cell_count sim.workers) → length slots ≡ cell_count sim.workers
      → ((k : ℕ) → get_or words k 0 ≡ 0)
      → ((k : ℕ) → k < sim.workers → content (opening_world sim 0) (inbox_of k) ≡ Some (in_inbox []))
      → ((k : ℕ) → k < cell_count sim.workers → (slot : Slot P) × (get_elem? (map some slots) k ≡ some (some slot)) × (content (opening_world sim 0) (cell_at sim.workers k) ≡ Some (held_in slot)) × IsSlotOf config k slot)
      → IsTableRight sim config (tabled words slots (first_view sim))
  unfolding run own_steps
  starts words slots some_worker wide deep blank_words empty full = record {
    log = [];
    made = 1;
    maker = 0;
    wide = wide;
    deep = length-map slots (λ (x : Slot P). some x) ∙ deep;
    most = omega arith;
    marks = tt;
    right = tt;
    count = refl;
    maker_there = omega arith;
    free = λ k l nz. (let f = full k l in record { slot = f.0; home = f.1; cell = f.2; right = f.3 });
    taken = λ k l z. absurd (let zero_word = blank_words (word_at k) in omega arith);
    empty = λ k l z. empty k l;
    each = λ j v e. (let x = only j v e in subst (λ (z : ℕ × View P). Sits sim (tabled words slots (first_view sim)) [] 1 0 z.0 z.1) (λ i. (sym x.0 i, x.1 i)) first_sits);
    seated = λ q less. record { seat = 0; view = first_view sim; there = refl; worker = omega arith };
    apart = λ i j a b e f _. (only i a e).0 ∙ sym (only j b f).0;
    alone = λ i j a b k c d e f _ _. (only i a e).0 ∙ sym (only j b f).0;
  }
    where
      only : (j : ℕ) (v : View P) → get_elem? (first_view sim ∷ []) j ≡ some v → (j ≡ 0) × (first_view sim ≡ v)
      only zero v e = (refl, some-injective (first_view sim) v e)
      only (suc j) v e = absurd (some-ne-none v (sym e))

      first_sits : Sits sim (tabled words slots (first_view sim)) [] 1 0 0 (first_view sim)
      first_sits = record {
        inside = omega arith;
        part = opening-at 0 some_worker;
        mine = refl;
        grows = grown-not 0 [];
        seen = omega arith;
        holds = λ k cell e. absurd (not-empty empty_hand k cell refl e);
        makes = λ e. record {
          next = refl;
          all = (let z = length-map-range_with_len (opening_part sim 0) 1 (sim.workers - 1) in omega arith);
          parts = λ i part e. range-at (opening_part sim 0) 1 (sim.workers - 1) i part e;
        };
        waits = λ ne. absurd (ne refl);
      }
