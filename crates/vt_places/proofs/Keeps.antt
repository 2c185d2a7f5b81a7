-- Each step on a station's table keeps the rule.
use Rattle.std.proofs.Common.{◌≡◌, ◌≢◌, ◌⊎◌, ℕ, zero, suc, ◌<◌, ◌≤◌, List, [], ◌∷◌, ◌++◌, length, get_or, set, sym, refl, ap, ◌∙◌, subst, inl, ⊎_elim, arith, le_refl, le_trans, length-set, get_or-set_other, get_or-set_same, Some, slice_get}
use Rattle.std.specs.List.{AllByRecursion}
use Rattle.std.proofs.lemmas.List.{map-append}
use mathlib.Core.Logic.{dite}
use mathlib.Core.Option.{Option as Maybe, none, some, some-injective, some-ne-none}
use native.Mathlib.Decide.{ℕ_discrete}
use lib.ListN.{get_elem?}
use lib.Seq.{set-get_or}
use Rattle.atomic_table.specs.Table.{Act, keeps, takes, gives, Valid, carried_after, stepped, Allows, rest, put_back}
use Rattle.atomic_table.proofs.Lists.{at_set, set_here, set_else, set_again}
use Rattle.vt_key.specs.promise.Times.{Time, TimeAtMost}
use Rattle.vt_model.specs.promise.Histories.{IsLawful}
use Rattle.vt_model.specs.declared.settings.Config.{Config}
use Rattle.vt_model.specs.promise.Simulation.{Simulation}
use Rattle.vt_steps.specs.declared.step.Step.{Step}
use Rattle.vt_steps.specs.promise.World.{Part, World, book_floor, opening_world}
use Rattle.vt_steps.specs.inside.Cells.{CellName, inbox_of, Cell, in_inbox, content}
use Rattle.vt_steps.specs.inside.Marked.{Marked, Made, answered, unmarked, marked, IsMarkedRight, own_steps_of, shown, DoesSo, Leads}
use Rattle.vt_steps.specs.promise.Next.{run}
use Rattle.vt_steps.proofs.book.ReachedBooks.{reached-falls}
use Rattle.vt_steps.proofs.marks.MarkedRuns.{each-marked, own-append, shown-append, shown-marked}
use Rattle.vt_places.specs.declared.slot.Slot.{Slot}
use Rattle.vt_places.specs.declared.view.View.{View}
use Rattle.vt_places.specs.inside.Hands.{empty_hand, holding}
use Rattle.vt_places.specs.inside.Slots.{cell_count, word_at, empty_word, claimed_word, cell_at, held_in, IsSlotOf}
use Rattle.vt_places.specs.inside.Kept.{TableState, Sat, HasGrown, IsClaimed, Sits, IsAtHome, IsHeld, IsTableRight, Rests}
use Rattle.vt_places.specs.inside.Calls.{IsShown, Known, Took, ShowsFloor}
use Rattle.vt_places.proofs.Growth.{grown-not, grown-more, own-kept}
use Rattle.vt_places.proofs.Cells.{not-empty, same-cell_held, same-found, inbox-name, names-apart, words-apart, holds-book}
use Rattle.vt_key.proofs.ListLemmas.{every-append, every-weaker}

-- what a load tells of the number that it found and the seat after it
abbrev pub Looked : {P : Type 0} → Sat P → (Sat P → Type 0) → ℕ → Sat P → Type 0
Looked m aim n after = (n ≡ empty_word → aim after) × (n ≢ empty_word → after ≡ m)

module _ {S P : Type 0} (sim : Simulation S P) (config : Config) where
  -- one word, one slot and one view are changed
  abbrev changed : TableState P → ℕ → ℕ → ℕ → Maybe (Slot P) → View P → TableState P
  changed s id k x h w = record { words = set s.words (word_at k) x; homes = set s.homes k h; views = set s.views id w }

  -- the rule after it, with another list of steps
  rebuilt : (s : TableState P) (r : IsTableRight sim config s) (id k x : ℕ) (h : Maybe (Slot P)) (v w : View P) (log : List Marked)
      → get_elem? s.views id ≡ some v → k < cell_count sim.workers → w.worker ≡ v.worker → AllByRecursion (λ m. m.worker < r.made) log → AllByRecursion (IsMarkedRight sim) log
      → ((q : ℕ) → q ≢ v.worker → (slice_get (shown sim log).parts q ≡ slice_get (shown sim r.log).parts q) × (own_steps_of sim q log ≡ own_steps_of sim q r.log) × ((former : List Marked) → HasGrown q former r.log → HasGrown q former log))
      → ((j : ℕ) → j < cell_count sim.workers → j ≢ k → content (shown sim log) (cell_at sim.workers j) ≡ content (shown sim r.log) (cell_at sim.workers j))
      → TimeAtMost (book_floor sim.end (shown sim r.log).book) (book_floor sim.end (shown sim log).book)
      → Sits sim (changed s id k x h w) log r.made r.maker id w
      → (x ≢ claimed_word → (slot : Slot P) × (h ≡ some slot) × (content (shown sim log) (cell_at sim.workers k) ≡ Some (held_in slot)) × IsSlotOf config k slot)
      → (x ≡ claimed_word → (c : Cell P) × (w.hand ≡ holding k c))
      → (x ≡ empty_word → k < sim.workers → content (shown sim log) (inbox_of k) ≡ Some (in_inbox []))
      → ((j : ℕ) (c : Cell P) → w.hand ≡ holding j c → j ≡ k)
      → ((j : ℕ) (c : Cell P) → v.hand ≡ holding j c → j ≡ k)
      → ((j : ℕ) (u : View P) (c : Cell P) → j ≢ id → get_elem? s.views j ≡ some u → u.hand ≡ holding k c → ⊥)
      → IsTableRight sim config (changed s id k x h w)
  rebuilt s r id k x h v w log at near same_worker marks right others cells more sits at_home held empty mine_w mine_v alone =
      let wide = r.wide in
      let deep = r.deep in
      let near_word : word_at k < length s.words = omega arith in
      let near_home : k < length s.homes = omega arith in
      let s' : TableState P = changed s id k x h w in
      record {
        log = log;
        made = r.made;
        maker = r.maker;
        wide = length-set s.words (word_at k) x ∙ r.wide;
        deep = length-set s.homes k h ∙ r.deep;
        most = r.most;
        marks = marks;
        right = right;
        count = length-set s.views id w ∙ r.count;
        maker_there = r.maker_there;
        free = λ j l nz. dite (ℕ_discrete j k)
            (λ e.
            (let here : x ≢ claimed_word = λ z. nz (ap (λ (i : ℕ). get_or (set s.words (word_at k) x) (word_at i) 0) e ∙ (get_or-set_same s.words (word_at k) x 0 near_word ∙ z)) in
            let t = at_home here in
            subst (λ i. IsAtHome sim config s' log i) (sym e)
            (record {
              slot = t.0;
              home = set_here s.homes k h near_home ∙ ap (λ (o : Maybe (Slot P)). some o) t.1;
              cell = t.2;
              right = t.3;
            })))
            (λ ne.
            (let t = r.free j l (λ z. nz (get_or-set_other s.words (word_at k) (word_at j) x 0 (words-apart j k ne) ∙ z)) in
            record { slot = t.slot; home = set_else s.homes k j h ne ∙ t.home; cell = cells j l ne ∙ t.cell; right = t.right }));
        taken = λ j l z. dite (ℕ_discrete j k)
            (λ e.
            (let here : x ≡ claimed_word = sym (get_or-set_same s.words (word_at k) x 0 near_word) ∙ (ap (λ (i : ℕ). get_or (set s.words (word_at k) x) (word_at i) 0) (sym e) ∙ z) in
            let t = held here in
            subst (λ i. IsHeld s' i) (sym e) (record { seat = id; view = w; cell = t.0; there = set_at s.views id v w at; hand = t.1 })))
            (λ ne.
            (let t = r.taken j l (sym (get_or-set_other s.words (word_at k) (word_at j) x 0 (words-apart j k ne)) ∙ z) in
            dite (ℕ_discrete t.seat id)
            (λ e. absurd (ne (mine_v j t.cell (ap (λ (u : View P). u.hand) (some-injective v t.view (sym at ∙ (ap (get_elem? s.views) (sym e) ∙ t.there))) ∙ t.hand))))
            (λ other. record { seat = t.seat; view = t.view; cell = t.cell; there = set_else s.views id t.seat w other ∙ t.there; hand = t.hand })));
        empty = λ j l z. dite (ℕ_discrete j k)
            (λ e.
            (let here : x ≡ empty_word = sym (get_or-set_same s.words (word_at k) x 0 near_word) ∙ (ap (λ (i : ℕ). get_or (set s.words (word_at k) x) (word_at i) 0) (sym e) ∙ z) in
            ap (λ (i : ℕ). content (shown sim log) (inbox_of i)) e ∙ empty here (subst (λ (i : ℕ). i < sim.workers) e l)))
            (λ ne.
            (let name = inbox-name sim.workers j l in
            ap (content (shown sim log)) (sym name) ∙ cells j (omega arith) ne ∙ ap (content (shown sim r.log)) name ∙ r.empty j l (sym (get_or-set_other s.words (word_at k) (word_at j) x 0 (words-apart j k ne)) ∙ z)));
        each = λ j u e. ⊎_elim
            (λ (t : (j ≡ id) × (w ≡ u)). subst (λ (z : ℕ × View P). Sits sim s' log r.made r.maker z.0 z.1) (λ i. (sym t.0 i, t.1 i)) sits)
            (λ (t : (j ≢ id) × (get_elem? s.views j ≡ some u)). other_sits j u t.0 t.1)
            (at_set s.views id j w u e);
        seated = λ q less.
            (let p = r.seated q less in
            dite (ℕ_discrete p.seat id)
            (λ e. record { seat = id; view = w; there = set_at s.views id v w at; worker = same_worker ∙ (ap (λ (u : View P). u.worker) (some-injective v p.view (sym at ∙ (ap (get_elem? s.views) (sym e) ∙ p.there))) ∙ p.worker) })
            (λ ne. record { seat = p.seat; view = p.view; there = set_else s.views id p.seat w ne ∙ p.there; worker = p.worker }));
        apart = λ i j a b e f same. (let p = was i a e in let q = was j b f in r.apart i j p.0 q.0 p.1 q.1 (p.2 ∙ (same ∙ sym q.2)));
        alone = λ i j a b kk c d e f ha hb. ⊎_elim
            (λ (t : (i ≡ id) × (w ≡ a)). ⊎_elim
            (λ (o : (j ≡ id) × (w ≡ b)). t.0 ∙ sym o.0)
            (λ (o : (j ≢ id) × (get_elem? s.views j ≡ some b)). absurd (alone j b d o.0 o.1 (hb ∙ ap (λ (y : ℕ). holding y d) (mine_w kk c (ap (λ (u : View P). u.hand) t.1 ∙ ha)))))
            (at_set s.views id j w b f))
            (λ (t : (i ≢ id) × (get_elem? s.views i ≡ some a)). ⊎_elim
            (λ (o : (j ≡ id) × (w ≡ b)). absurd (alone i a c t.0 t.1 (ha ∙ ap (λ (y : ℕ). holding y c) (mine_w kk d (ap (λ (u : View P). u.hand) o.1 ∙ hb)))))
            (λ (o : (j ≢ id) × (get_elem? s.views j ≡ some b)). r.alone i j a b kk c d t.1 o.1 ha hb)
            (at_set s.views id j w b f))
            (at_set s.views id i w a e);
      }
    where
      set_at : (vs : List (View P)) (i : ℕ) (a b : View P) → get_elem? vs i ≡ some a → get_elem? (set vs i b) i ≡ some b
      set_at [] i a b e = absurd (some-ne-none a (sym e))
      set_at (y ∷ ys) zero a b e = refl
      set_at (y ∷ ys) (suc i) a b e = set_at ys i a b e

      was : (i : ℕ) (a : View P) → get_elem? (set s.views id w) i ≡ some a → (u : View P) × (get_elem? s.views i ≡ some u) × (u.worker ≡ a.worker)
      was i a e = ⊎_elim
          (λ (t : (i ≡ id) × (w ≡ a)). (v, ap (get_elem? s.views) t.0 ∙ at, sym same_worker ∙ ap (λ (u : View P). u.worker) t.1))
          (λ (t : (i ≢ id) × (get_elem? s.views i ≡ some a)). (a, t.1, refl))
          (at_set s.views id i w a e)

      other_sits : (j : ℕ) (u : View P) → j ≢ id → get_elem? s.views j ≡ some u → Sits sim (changed s id k x h w) log r.made r.maker j u
      other_sits j u ne there =
          let t = r.each j u there in
          let far : u.worker ≢ v.worker = λ e. ne (r.apart j id u v there at e) in
          let o = others u.worker far in
          record {
            inside = t.inside;
            part = o.0 ∙ t.part;
            mine = o.1 ∙ t.mine;
            grows = o.2 u.log t.grows;
            seen = le_trans t.seen more;
            holds = λ i c hd.
                (let g = t.holds i c hd in
                let other : i ≢ k = λ e. alone j u c ne there (hd ∙ ap (λ (y : ℕ). holding y c) e) in
                record {
                  near = g.near;
                  word = get_or-set_other s.words (word_at k) (word_at i) x 0 (words-apart i k other) ∙ g.word;
                  away = set_else s.homes k i h other ∙ g.away;
                  shows = cells i g.near other ∙ g.shows;
                });
            makes = t.makes;
            waits = t.waits;
          }

  all_own : (made p : ℕ) (ms : List Marked) → made ≤ 1 → p < made → AllByRecursion (λ m. m.worker < made) ms → AllByRecursion (λ m. m.worker ≡ p) ms
  all_own made p [] one l a = tt
  all_own made p (m ∷ ms) one l a = let z = a.0 in (omega arith, all_own made p ms one l a.1)

  -- a step that writes what is there, and after which the seat has the view that it had, changes nothing
  unstepped : (s : TableState P) → IsTableRight sim config s → (id i x : ℕ) (v : View P) → get_elem? s.views id ≡ some v → get_or s.words i 0 ≡ x → IsTableRight sim config record { words = set s.words i x; homes = s.homes; views = set s.views id v }
  unstepped s r id i x v at is =
      let words : set s.words i x ≡ s.words = ap (set s.words i) (sym is) ∙ set-get_or s.words i 0 in
      subst (λ (y : List ℕ × List (View P)). IsTableRight sim config record { words = y.0; homes = s.homes; views = y.1 }) (λ j. (sym words j, sym (set_again s.views id v at) j)) r

  -- what the rule says of a seat and of what a cell holds
  abbrev known_there : (s : TableState P) (r : IsTableRight sim config s) (id k : ℕ) (v : View P) (cell : Cell P) → get_elem? s.views id ≡ some v → content (shown sim r.log) (cell_at sim.workers k) ≡ Some cell → Known sim v k cell
  known_there s r id k v cell at shows =
      let t = r.each id v at in
      record {
        log = r.log;
        right = r.right;
        within = (let a = t.inside in let b = r.most in omega arith);
        part = t.part;
        mine = t.mine;
        grows = t.grows;
        seen = t.seen;
        shows = shows;
        own = λ one. (let a = t.inside in let b = r.most in all_own r.made v.worker r.log (omega arith) t.inside r.marks);
      }

  -- what a claim tells of the number that it found and the seat after it
  abbrev pub Claimed : Sat P → ℕ → ℕ → Sat P → Type 0
  Claimed m k n after = (n ≢ claimed_word → Took sim config m k after) × (n ≡ claimed_word → (after ≡ m) × (1 < sim.workers))

  abbrev Steps : TableState P → ℕ → ℕ → Sat P → (ℕ → Sat P → Type 0) → ℕ → Type 0
  Steps s id i m then x = (w : View P) × (a : Act (Slot P)) × Valid s.homes m.1 a × IsTableRight sim config (stepped s i x id m.1 w a) × then (get_or s.words i 0) (w, carried_after m.1 a)

  -- a swap claims the cell, or finds it claimed by another seat and changes nothing
  pub claims : (slots id k : ℕ) (m : Sat P) → k < cell_count sim.workers → Rests m
      → Allows (IsTableRight sim config) slots id m (word_at k) (λ _. claimed_word) (Claimed m k)
  claims slots id k m near rests s r deep at small = dite (ℕ_discrete (get_or s.words (word_at k) 0) claimed_word) miss hit
    where
      hit : get_or s.words (word_at k) 0 ≢ claimed_word → Steps s id (word_at k) m (Claimed m k) claimed_word
      hit nz =
          let f = r.free k near nz in
          let c = f.slot in
          let t = r.each id m.0 at in
          let w : View P = record m.0 { hand = holding k (held_in c) } in (
            w,
            takes k c,
            f.home,
            rebuilt s r id k claimed_word none m.0 w r.log at near refl r.marks r.right (λ q _. (refl, refl, λ former g. g)) (λ j _ _. refl) (le_refl _)
                (record {
                  inside = t.inside;
                  part = t.part;
                  mine = t.mine;
                  grows = t.grows;
                  seen = t.seen;
                  holds = λ j d e.
                      (let is = same-cell_held k j (held_in c) d e in
                      let same = same-found k j (held_in c) d e in
                      let deep_is = r.deep in
                      let wide_is = r.wide in
                      subst (λ i. IsClaimed sim (changed s id k claimed_word none w) r.log i d) (sym is)
                      (record {
                        near = near;
                        word = get_or-set_same s.words (word_at k) claimed_word 0 (omega arith);
                        away = set_here s.homes k none (omega arith);
                        shows = f.cell ∙ ap (λ x. Some x) same;
                      }));
                  makes = λ e. (let g = t.makes e in record { next = g.next; all = g.all; parts = g.parts });
                  waits = t.waits;
                })
                (λ bad. absurd (bad refl)) (λ _. (held_in c, refl)) (λ bad _. absurd (omega arith)) (λ j d e. same-cell_held k j (held_in c) d e) (λ j d e. absurd (not-empty m.0.hand j d rests.0 e))
                (λ j u d ne there hd. nz ((r.each j u there).holds k d hd).word),
            (
              (λ _. record {
                slot = c;
                after_is = refl;
                right = f.right;
                known = known_there s r id k m.0 (held_in c) at f.cell;
              }),
              λ z. absurd (nz z),
            ),
          )

      -- where there is one worker there is no other seat
      others : get_or s.words (word_at k) 0 ≡ claimed_word → 1 < sim.workers
      others z =
          let t = r.taken k near z in
          let mine = r.each id m.0 at in
          let a = mine.inside in
          let b = r.most in
          dite (ℕ_discrete sim.workers 1)
          (λ one.
          (let theirs = r.each t.seat t.view t.there in
          let c = theirs.inside in
          let same : t.view.worker ≡ m.0.worker = omega arith in
          let is : t.seat ≡ id = r.apart t.seat id t.view m.0 t.there at same in
          absurd (not-empty m.0.hand k t.cell rests.0 (ap (λ (u : View P). u.hand) (some-injective m.0 t.view (sym at ∙ (ap (get_elem? s.views) (sym is) ∙ t.there))) ∙ t.hand))))
          (λ more. omega arith)

      miss : get_or s.words (word_at k) 0 ≡ claimed_word → Steps s id (word_at k) m (Claimed m k) claimed_word
      miss z = (
        m.0,
        keeps,
        tt,
        unstepped s r id (word_at k) claimed_word m.0 at z,
        ((λ ne. absurd (ne z)), λ _. (refl, others z)),
      )

  -- what a load tells that changes nothing
  abbrev pub Read : Sat P → Sat P → Type 0
  Read m after = (after ≡ m) × IsShown sim m.0

  -- a load of any word tells the place a list of steps after which the shown world has its part
  pub reads : (slots id i : ℕ) (m : Sat P) → Allows (IsTableRight sim config) slots id m i (λ n. n) (λ _ after. Read m after)
  reads slots id i m s r deep at small = (
    m.0,
    keeps,
    tt,
    unstepped s r id i (get_or s.words i 0) m.0 at refl,
    (refl, record { log = r.log; part = (r.each id m.0 at).part }),
  )

  -- ---- a release

  -- the list with one worker's steps behind it
  pub longer-others : (w q : ℕ) (log : List Marked) (steps : List Step) (name : CellName) (part new : Part P) (cell left : Cell P) (made : List Made) →
      q ≢ w → DoesSo sim w name steps (shown sim log) new left made →
      (slice_get (shown sim (log ++ marked w steps)).parts q ≡ slice_get (shown sim log).parts q) × (own_steps_of sim q (log ++ marked w steps) ≡ own_steps_of sim q log)
      × ((former : List Marked) → HasGrown q former log → HasGrown q former (log ++ marked w steps))
  longer-others w q log steps name part new cell left made ne does = (
    ap (λ (n : World P). slice_get n.parts q) (shown-marked sim log w steps) ∙ does.other_parts q ne,
    own-kept sim w q log steps ne,
    λ former g. grown-more w q former log steps ne g,
  )

  pub longer-floor : IsLawful sim → (log more : List Marked) → TimeAtMost (book_floor sim.end (shown sim log).book) (book_floor sim.end (shown sim (log ++ more)).book)
  longer-floor lawful log more =
      subst (λ (n : World P). TimeAtMost (book_floor sim.end (shown sim log).book) (book_floor sim.end n.book)) (sym (shown-append sim log more))
      (reached-falls sim lawful 0 (unmarked log) (unmarked more)).floor

  -- a floor that a cell shows is not above the floor of a world with that cell
  shown-floor : (world : World P) (name : CellName) (cell : Cell P) (t : Time) → content world name ≡ Some cell → ShowsFloor sim.end t cell → TimeAtMost t (book_floor sim.end world.book)
  shown-floor world name (Rattle.vt_steps.specs.inside.Cells.in_inbox mails) t holds shows = absurd shows
  shown-floor world name (Rattle.vt_steps.specs.inside.Cells.on_board board) t holds shows = absurd shows
  shown-floor world name (Rattle.vt_steps.specs.inside.Cells.in_book book) t holds shows = subst (λ b. TimeAtMost t (book_floor sim.end b)) (sym (holds-book world name book holds)) (omega (arith, shows))

  -- one worker's steps at a cell that nobody else has claimed and that is at home after them stand behind all others
  follows : IsLawful sim → (s : TableState P) (r : IsTableRight sim config s) (id k x : ℕ) (v : View P) (found : Cell P) (slot : Slot P) (steps : List Step) (new : Part P) (made : List Made) (left : List Marked) (seen : Time)
      → get_elem? s.views id ≡ some v → k < cell_count sim.workers → content (shown sim r.log) (cell_at sim.workers k) ≡ Some found → IsSlotOf config k slot
      → Leads sim v.worker (cell_at sim.workers k) v.part found steps new (held_in slot) made → HasGrown v.worker left (r.log ++ marked v.worker steps)
      → TimeAtMost seen v.seen ⊎ ShowsFloor sim.end seen (held_in slot)
      → x ≢ claimed_word → (x ≡ empty_word → k < sim.workers → held_in slot ≡ in_inbox [])
      → ((j : ℕ) (c : Cell P) → v.hand ≡ holding j c → j ≡ k)
      → ((j : ℕ) (u : View P) (c : Cell P) → j ≢ id → get_elem? s.views j ≡ some u → u.hand ≡ holding k c → ⊥)
      → IsTableRight sim config (changed s id k x (some slot) (record v { part = new; mine = v.mine ++ made; log = left; seen = seen; hand = empty_hand }))
  follows lawful s r id k x v found slot steps new made left seen at near shows right goes grown low home empty held alone =
      rebuilt s r id k x (some slot) v (record v { part = new; mine = v.mine ++ made; log = left; seen = seen; hand = empty_hand }) log at near refl marks rights
      (λ q ne. longer-others v.worker q r.log steps (cell_at sim.workers k) v.part new found (held_in slot) made ne did)
      (λ j l ne. ap (λ (n : World P). content n (cell_at sim.workers j)) whole ∙ did.other_cells (cell_at sim.workers j) (names-apart sim.workers k j near l ne))
      (longer-floor lawful r.log (marked v.worker steps))
      (record {
        inside = t.inside;
        part = ap (λ (n : World P). slice_get n.parts v.worker) whole ∙ did.part;
        mine = own-append sim v.worker (opening_world sim 0) r.log (marked v.worker steps)
            ∙ ((λ i. t.mine i ++ did.answers i) ∙ sym (map-append answered v.mine made));
        grows = grown;
        seen = ⊎_elim (λ l. le_trans l (le_trans t.seen (longer-floor lawful r.log (marked v.worker steps)))) (λ l. shown-floor (shown sim log) (cell_at sim.workers k) (held_in slot) seen now l) low;
        holds = λ j d e. absurd (not-empty empty_hand j d refl e);
        makes = λ e. (let g = t.makes e in record { next = g.next; all = g.all; parts = g.parts });
        waits = t.waits;
      })
      (λ _. (slot, refl, now, right)) (λ bad. absurd (home bad)) (λ e l. ap (content (shown sim log)) (sym (inbox-name sim.workers k l)) ∙ now ∙ ap (λ c. Some c) (empty e l))
      (λ j d e. absurd (not-empty empty_hand j d refl e)) held alone
    where
      log : List Marked
      log = r.log ++ marked v.worker steps

      t : Sits sim s r.log r.made r.maker id v
      t = r.each id v at

      whole : shown sim (r.log ++ marked v.worker steps) ≡ run sim (shown sim r.log) steps
      whole = shown-marked sim r.log v.worker steps

      did : DoesSo sim v.worker (cell_at sim.workers k) steps (shown sim r.log) new (held_in slot) made
      did = goes.does (shown sim r.log) (r.each id v at).part shows

      now : content (shown sim (r.log ++ marked v.worker steps)) (cell_at sim.workers k) ≡ Some (held_in slot)
      now = ap (λ (n : World P). content n (cell_at sim.workers k)) whole ∙ did.cell

      marks : AllByRecursion (λ x. x.worker < r.made) (r.log ++ marked v.worker steps)
      marks = every-append (λ x. x.worker < r.made) r.log (marked v.worker steps) r.marks
          (every-weaker (λ x. x.worker ≡ v.worker) (λ x. x.worker < r.made) (marked v.worker steps) (λ x is. subst (λ (n : ℕ). n < r.made) (sym is) t.inside) (each-marked v.worker steps))

      rights : AllByRecursion (IsMarkedRight sim) (r.log ++ marked v.worker steps)
      rights = every-append (IsMarkedRight sim) r.log (marked v.worker steps) r.right goes.own

  -- a store gives the cell back with what the worker's steps leave in it
  pub releases : IsLawful sim → (slots id k x : ℕ) (m : Sat P) (found : Cell P) (slot : Slot P) (steps : List Step) (new : Part P) (made : List Made) (left : List Marked → List Marked) (seen : Time) (aim : ℕ → Sat P → Type 0) → k < cell_count sim.workers
      → x ≢ claimed_word → (x ≡ empty_word → k < sim.workers → held_in slot ≡ in_inbox [])
      → m.1 ≡ (k, slot) ∷ [] → m.0.hand ≡ holding k found → IsSlotOf config k slot
      → Leads sim m.0.worker (cell_at sim.workers k) m.0.part found steps new (held_in slot) made
      → ((log : List Marked) → HasGrown m.0.worker m.0.log log → HasGrown m.0.worker (left log) (log ++ marked m.0.worker steps))
      → TimeAtMost seen m.0.seen ⊎ ShowsFloor sim.end seen (held_in slot)
      → ((n : ℕ) (known : Known sim m.0 k found) → aim n (record m.0 { part = new; mine = m.0.mine ++ made; log = left known.log; seen = seen; hand = empty_hand }, []))
      → Allows (IsTableRight sim config) slots id m (word_at k) (λ _. x) (λ _. aim x)
  releases lawful slots id k x m found slot steps new made left seen aim near home empty carried held right goes grown low want s r deep at small =
      let shows = ((r.each id m.0 at).holds k found held).shows in
      let w : View P = record m.0 { part = new; mine = m.0.mine ++ made; log = left r.log; seen = seen; hand = empty_hand } in
      let back : put_back s.homes m.1 ≡ set s.homes k (some slot) = ap (put_back s.homes) carried in (
        w,
        gives,
        tt,
        subst (λ (hs : List (Maybe (Slot P))). IsTableRight sim config record { words = set s.words (word_at k) x; homes = hs; views = set s.views id w }) (sym back)
            (follows lawful s r id k x m.0 found slot steps new made (left r.log) seen at near shows right goes (grown r.log (r.each id m.0 at).grows) low home empty
            (λ j d e. same-cell_held k j found d (sym held ∙ e)) (λ j u d ne there hd. ne (r.alone j id u m.0 k d found there at hd held))),
        subst (λ (l : List (ℕ × Slot P)). aim x (w, l)) (sym (ap rest carried)) (want x (known_there s r id k m.0 found at shows)),
      )

  -- a load that finds an inbox empty is where the worker's steps stand that find it empty and leave it so
  pub looks : IsLawful sim → (slots id k : ℕ) (m : Sat P) (steps : List Step) (new : Part P) (made : List Made) (aim : Sat P → Type 0) → k < sim.workers → Rests m
      → Leads sim m.0.worker (cell_at sim.workers k) m.0.part (in_inbox []) steps new (in_inbox []) made
      → ((known : Known sim m.0 k (in_inbox [])) → aim (record m.0 { part = new; mine = m.0.mine ++ made; log = known.log ++ marked m.0.worker steps; hand = empty_hand }, []))
      → Allows (IsTableRight sim config) slots id m (word_at k) (λ n. n) (Looked m aim)
  looks lawful slots id k m steps new made aim less rests goes want s r deep at small = dite (ℕ_discrete (get_or s.words (word_at k) 0) empty_word) hit miss
    where
      near : k < cell_count sim.workers
      near = omega arith

      hit : get_or s.words (word_at k) 0 ≡ empty_word → Steps s id (word_at k) m (Looked m aim) (get_or s.words (word_at k) 0)
      hit z =
          let free : get_or s.words (word_at k) 0 ≢ claimed_word = λ one. omega arith in
          let f = r.free k near free in
          let shows : content (shown sim r.log) (cell_at sim.workers k) ≡ Some (in_inbox []) = ap (content (shown sim r.log)) (inbox-name sim.workers k less) ∙ r.empty k less z in
          let found : Some (held_in f.slot) ≡ Some (in_inbox []) = sym f.cell ∙ shows in
          let is : held_in f.slot ≡ in_inbox [] = cc in
          let w : View P = record m.0 { part = new; mine = m.0.mine ++ made; log = r.log ++ marked m.0.worker steps; hand = empty_hand } in (
            w,
            keeps,
            tt,
            subst (λ (hs : List (Maybe (Slot P))). IsTableRight sim config record { words = set s.words (word_at k) (get_or s.words (word_at k) 0); homes = hs; views = set s.views id w }) (set_again s.homes k (some f.slot) f.home)
                (follows lawful s r id k (get_or s.words (word_at k) 0) m.0 (in_inbox []) f.slot steps new made (r.log ++ marked m.0.worker steps) m.0.seen at near shows f.right
                (subst (λ (c : Cell P). Leads sim m.0.worker (cell_at sim.workers k) m.0.part (in_inbox []) steps new c made) (sym is) goes)
                (grown-not m.0.worker (r.log ++ marked m.0.worker steps)) (inl (le_refl m.0.seen)) free (λ _ _. is) (λ j d e. absurd (not-empty m.0.hand j d rests.0 e))
                (λ j u d ne there hd. free ((r.each j u there).holds k d hd).word)),
            ((λ _. subst (λ (l : List (ℕ × Slot P)). aim (w, l)) (sym rests.1) (want (known_there s r id k m.0 (in_inbox []) at shows))), λ ne. absurd (ne z)),
          )

      miss : get_or s.words (word_at k) 0 ≢ empty_word → Steps s id (word_at k) m (Looked m aim) (get_or s.words (word_at k) 0)
      miss ne = (m.0, keeps, tt, unstepped s r id (word_at k) (get_or s.words (word_at k) 0) m.0 at refl, ((λ z. absurd (ne z)), λ _. refl))
