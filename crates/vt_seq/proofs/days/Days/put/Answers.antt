use Rattle.std.proofs.Common.{◌≡◌, ◌<◌, ◌∙◌, List, [], ◌∷◌, ◌++◌, Bool, true, map, slice_set, Some, length, IfOk, IfErr, sym, ap, subst, rules, Vec, Global}
use Rattle.std.proofs.lemmas.List.{map-set}
use Rattle.std.proofs.lemmas.Option.{same_Some}
use Rattle.vt_seq.specs.declared.entry.Entry.{Entry}
use Rattle.vt_seq.specs.inside.Days.{is_used, IsPut}
use Rattle.vt_seq.proofs.CalendarLemmas.{day-there, filled-used, items_of, put-more, put-new}
use Rattle.vt_seq.proofs.PlainLemmas.{true_false}
use Rattle.vt_seq.proofs.days.Days.put.Given.{Over}
use Rattle.vt_seq.proofs.days.Days.put.Goals as goal

-- the day has events: it has one more, or memory was refused
more : (g : Over) (c : goal.After-self-then-not-is_empty-1 g)
    → let old = items_of c.self.inside.days.items in let new = items_of (slice_set c.self.inside.days.items c.args.day c.push.new.list) in
    (map is_used new ≡ map is_used old) × IfOk c.push.result (λ _. IsPut c.args.day (record { event = c.args.event.now }) old new) × IfErr c.push.result (λ _. new ≡ old)
more g c =
    let vs : List (Vec (Entry _) Global) = c.self.inside.days.items in
    let old : Vec (Entry _) Global = c.index_mut.result.now in
    let seen : Vec (Entry _) Global = c.index.result.now in
    let x : Entry _ = record { event = c.args.event.now } in
    let within : c.args.day < length vs = search rules in
    let there = day-there (λ (v : Vec (Entry _) Global). v.items) vs c.args.day old within ∙ ap (λ (v : Vec (Entry _) Global). Some v.items) (sym c.index_mut.ensures.value) in
    let looked = day-there (λ (v : Vec (Entry _) Global). v.items) vs c.args.day seen within ∙ ap (λ (v : Vec (Entry _) Global). Some v.items) (sym c.index.ensures) in
    let some : length seen.items ≡ 0 → ⊥ = search rules in
    let used = filled-used old.items (λ none. some (ap length (same_Some seen.items old.items (sym looked ∙ there)) ∙ none)) in
    let set = map-set (λ (v : Vec (Entry _) Global). v.items) vs c.args.day c.push.new.list in
    subst (λ (new : List (List (Entry _))). (map is_used new ≡ map is_used (items_of vs)) × IfOk c.push.result (λ _. IsPut c.args.day x (items_of vs) new) × IfErr c.push.result (λ _. new ≡ items_of vs))
    (sym set) (put-more (items_of vs) c.args.day old.items c.push.new.list.items x c.push.result there used c.push.ensures.items)

-- the day has none: it has one now
first : (g : Over) (c : goal.After-set g)
    → let old = items_of c.self.inside.days.items in let new = items_of (slice_set c.self.inside.days.items c.args.day c.push-2.new.list) in
    (slice_set (map is_used old) c.args.day true ≡ map is_used new) × IsPut c.args.day (record { event = c.args.event.now }) old new
first g c =
    let vs : List (Vec (Entry _) Global) = c.self.inside.days.items in
    let seen : Vec (Entry _) Global = c.index.result.now in
    let x : Entry _ = record { event = c.args.event.now } in
    let within : c.args.day < length vs = search rules in
    let there = day-there (λ (v : Vec (Entry _) Global). v.items) vs c.args.day seen within ∙ ap (λ (v : Vec (Entry _) Global). Some v.items) (sym c.index.ensures) in
    let none : length seen.items ≡ 0 = search rules in
    let is : c.push-2.new.list.items ≡ x ∷ [] = c.in-Ok.ensures.items ∙ ap (λ (l : List (Entry _)). l ++ x ∷ []) c.empty_list-list.ensures.empty in
    let set = map-set (λ (v : Vec (Entry _) Global). v.items) vs c.args.day c.push-2.new.list in
    subst (λ (new : List (List (Entry _))). (slice_set (map is_used (items_of vs)) c.args.day true ≡ map is_used new) × IsPut c.args.day x (items_of vs) new)
    (sym set) (put-new (items_of vs) c.args.day seen.items c.push-2.new.list.items x there none is)

pub invariant_of-self : goal.invariant_of-self
invariant_of-self g c =
    (c.self.invariant.0 ∙ sym (more g c).0, (λ clear. true_false (sym clear)), c.self.invariant.2)

pub returns-then-not-is_empty-clause-put : goal.returns-then-not-is_empty-clause-put
returns-then-not-is_empty-clause-put g c =
    let vs : List (Vec (Entry _) Global) = c.self.inside.days.items in
    subst (λ (old : List (List (Entry _))). IfOk c.push.result (λ _. IsPut c.args.day (record { event = c.args.event.now }) old (items_of (slice_set vs c.args.day c.push.new.list)))) c.self.view_is (more g c).1

pub returns-then-not-is_empty-clause-kept : goal.returns-then-not-is_empty-clause-kept
returns-then-not-is_empty-clause-kept g c =
    let vs : List (Vec (Entry _) Global) = c.self.inside.days.items in
    subst (λ (old : List (List (Entry _))). IfErr c.push.result (λ _. items_of (slice_set vs c.args.day c.push.new.list) ≡ old)) c.self.view_is (more g c).2

pub invariant_of-self-2 : goal.invariant_of-self-2
invariant_of-self-2 g c =
    (c.set.ensures ∙ ap (λ (ms : List Bool). slice_set ms c.args.day true) c.self.invariant.0 ∙ (first g c).0, (λ clear. true_false (sym clear)), c.self.invariant.2)

pub returns-clause-put : goal.returns-clause-put
returns-clause-put g c =
    let vs : List (Vec (Entry _) Global) = c.self.inside.days.items in
    subst (λ (old : List (List (Entry _))). IsPut c.args.day (record { event = c.args.event.now }) old (items_of (slice_set vs c.args.day c.push-2.new.list))) c.self.view_is (first g c).1
