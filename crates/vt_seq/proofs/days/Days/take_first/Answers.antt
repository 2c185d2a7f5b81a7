use Rattle.std.proofs.Common.{◌≡◌, ◌<◌, ◌≤◌, ◌∙◌, ℕ, List, [], Bool, true, false, map, slice_get, slice_set, Some, length, sym, ap, subst, arith, Vec, Global}
use Rattle.std.proofs.lemmas.List.{map-set, length-map}
use Rattle.std.proofs.lemmas.Option.{slice_get_within, same_Some}
use Rattle.vt_seq.specs.declared.entry.Entry.{Entry}
use Rattle.vt_seq.specs.inside.Days.{is_used, entries_of_days, IsDayTaken}
use Rattle.vt_seq.proofs.CalendarLemmas.{day-there, marked-there, unmarked-empty, unmarked-none}
use Rattle.vt_seq.proofs.days.Days.take_first.Goals as goal

pub invariant_of-self : goal.invariant_of-self
invariant_of-self g c =
    (c.self.invariant.0, (λ clear. unmarked-none (map (λ (v : Vec (Entry _) Global). v.items) c.self.inside.days.items) (λ i h. c.in_default.ensures.nowhere i (let z : 0 ≤ i = omega arith in z) (subst (λ (ms : List Bool). slice_get ms i ≡ Some true) (sym c.self.invariant.0) h))), c.self.invariant.2)

pub returns-in_default-clause-nothing : goal.returns-in_default-clause-nothing
returns-in_default-clause-nothing g c =
    subst (λ (ds : List (List (Entry _))). entries_of_days ds ≡ []) c.self.view_is
    (unmarked-none (map (λ (v : Vec (Entry _) Global). v.items) c.self.inside.days.items) (λ i h. c.in_default.ensures.nowhere i (let z : 0 ≤ i = omega arith in z) (subst (λ (ms : List Bool). slice_get ms i ≡ Some true) (sym c.self.invariant.0) h)))

pub index_mut-requires : goal.index_mut-requires
index_mut-requires g c =
    let vs : List (Vec (Entry _) Global) = c.self.inside.days.items in
    let found = marked-there (map (λ (v : Vec (Entry _) Global). v.items) vs) c.in-Some.day (subst (λ (ms : List Bool). slice_get ms c.in-Some.day ≡ Some true) c.self.invariant.0 c.in-Some.ensures.marked.1) in
    let below : c.in-Some.day < length (map (λ (v : Vec (Entry _) Global). v.items) vs) = slice_get_within (map (λ (v : Vec (Entry _) Global). v.items) vs) c.in-Some.day found.0 found.1 in
    let same : length (map (λ (v : Vec (Entry _) Global). v.items) vs) ≡ length vs = length-map vs (λ (v : Vec (Entry _) Global). v.items) in
    omega (arith, below, same, c.self.inside.days.ok.0)

pub invariant_of-self-2 : goal.invariant_of-self-2
invariant_of-self-2 g c =
    let vs : List (Vec (Entry _) Global) = c.self.inside.days.items in
    let empty : c.replace-list.new.dest.items ≡ [] = ap (λ (v : Vec (Entry _) Global). v.items) c.replace-list.ensures.after ∙ c.new.ensures.items in
    let set : map (λ (v : Vec (Entry _) Global). v.items) (slice_set vs c.in-Some.day c.replace-list.new.dest) ≡ slice_set (map (λ (v : Vec (Entry _) Global). v.items) vs) c.in-Some.day [] = map-set (λ (v : Vec (Entry _) Global). v.items) vs c.in-Some.day c.replace-list.new.dest ∙ ap (slice_set (map (λ (v : Vec (Entry _) Global). v.items) vs) c.in-Some.day) empty in (
      c.set.ensures ∙ ap (λ (ms : List Bool). slice_set ms c.in-Some.day false) c.self.invariant.0 ∙ sym (map-set is_used (map (λ (v : Vec (Entry _) Global). v.items) vs) c.in-Some.day []) ∙ ap (map is_used) (sym set),
      (λ clear. let both : false ≡ true = sym c.if-self.false ∙ clear in absurd (cc)),
      c.self.invariant.2,
    )

pub returns-clause-taken : goal.returns-clause-taken
returns-clause-taken g c =
    let vs : List (Vec (Entry _) Global) = c.self.inside.days.items in
    let day : ℕ = c.in-Some.day in
    let old : Vec (Entry _) Global = c.index_mut.result.now in
    let list : Vec (Entry _) Global = c.replace.new.dest in
    let found = marked-there (map (λ (v : Vec (Entry _) Global). v.items) vs) day (subst (λ (ms : List Bool). slice_get ms day ≡ Some true) c.self.invariant.0 c.in-Some.ensures.marked.1) in
    let below : day < length (map (λ (v : Vec (Entry _) Global). v.items) vs) = slice_get_within (map (λ (v : Vec (Entry _) Global). v.items) vs) day found.0 found.1 in
    let within : day < length vs = subst (λ (n : ℕ). day < n) (length-map vs (λ (v : Vec (Entry _) Global). v.items)) below in
    let is : old ≡ list = sym (c.replace.ensures.after ∙ c.replace-list.ensures.value) in
    let there : slice_get (map (λ (v : Vec (Entry _) Global). v.items) vs) day ≡ Some list.items = day-there (λ (v : Vec (Entry _) Global). v.items) vs day old within ∙ ap (λ (v : Vec (Entry _) Global). Some v.items) (sym c.index_mut.ensures.value ∙ is) in
    let empty : c.replace-list.new.dest.items ≡ [] = ap (λ (v : Vec (Entry _) Global). v.items) c.replace-list.ensures.after ∙ c.new.ensures.items in
    let set : map (λ (v : Vec (Entry _) Global). v.items) (slice_set vs day c.replace-list.new.dest) ≡ slice_set (map (λ (v : Vec (Entry _) Global). v.items) vs) day [] = map-set (λ (v : Vec (Entry _) Global). v.items) vs day c.replace-list.new.dest ∙ ap (slice_set (map (λ (v : Vec (Entry _) Global). v.items) vs) day) empty in
    subst (λ (ds : List (List (Entry _))). IsDayTaken day list.items ds (map (λ (v : Vec (Entry _) Global). v.items) (slice_set vs day c.replace-list.new.dest))) c.self.view_is (record {
      there = there;
      used = ap is_used (same_Some list.items found.0 (sym there ∙ found.1)) ∙ found.2;
      first = λ i l less at. unmarked-empty (map (λ (v : Vec (Entry _) Global). v.items) vs) i l at (λ h. c.in-Some.ensures.first i (let z : 0 ≤ i = omega arith in z) less (subst (λ (ms : List Bool). slice_get ms i ≡ Some true) (sym c.self.invariant.0) h));
      is = set;
    })

pub returns-clause-bound : goal.returns-clause-bound
returns-clause-bound g c =
    let vs : List (Vec (Entry _) Global) = c.self.inside.days.items in
    let found = marked-there (map (λ (v : Vec (Entry _) Global). v.items) vs) c.in-Some.day (subst (λ (ms : List Bool). slice_get ms c.in-Some.day ≡ Some true) c.self.invariant.0 c.in-Some.ensures.marked.1) in
    let below : c.in-Some.day < length (map (λ (v : Vec (Entry _) Global). v.items) vs) = slice_get_within (map (λ (v : Vec (Entry _) Global). v.items) vs) c.in-Some.day found.0 found.1 in
    let same : length (map (λ (v : Vec (Entry _) Global). v.items) vs) ≡ length vs = length-map vs (λ (v : Vec (Entry _) Global). v.items) in
    omega (arith, below, same, c.self.inside.days.ok.0, c.self.inside.days.small)
