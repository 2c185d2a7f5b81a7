use Rattle.std.proofs.Common.{◌≡◌, ◌+◌, inr, List, length, drop, get_or, Option, Some, option_map, refl, ap, sym, subst, ◌∙◌}
use Rattle.std.specs.Option.{option_or, IsSome}
use Rattle.std.specs.String.{string_bytes}
use Rattle.std.proofs.lemmas.List.{at_drop_more}
use Rattle.vt_guest.specs.declared.loading.Set.{Set}
use Rattle.vt_guest.specs.declared.loading.ObjectFault.{ObjectFault}
use Rattle.vt_guest.specs.promise.Loading.{set_fault, sets_fault}
use Rattle.vt_guest.proofs.loading.set_all.Goals as goal

pub returns-in-Some-clause-refused : goal.returns-in-Some-clause-refused
returns-in-Some-clause-refused c =
    let symbols = c.args.symbols.now in
    let image = length c.args.image.now in
    let state = length c.args.state.now in
    let sets = c.args.sets.now in
    let i = c.sets.set-index in
    let set = c.set-item.result in
    let first = get_or sets i set in
    let fault : set_fault symbols image state first ≡ Some c.in-Some.fault =
    (λ j. set_fault symbols (sym c.sets.invariant.image_size j) (sym c.sets.invariant.state_size j) (sym c.set-item.is j)) ∙ sym c.set_one.ensures.fault ∙ c.in-Some.is in
    let next : sets_fault symbols image state (drop i sets) ≡ Some (string_bytes first.name, c.in-Some.fault) =
    at_drop_more (λ (ys : List Set). sets_fault symbols image state ys) sets i set c.sets-test.true
    ∙ ap (λ (o : Option ObjectFault). option_or (option_map (λ why. (string_bytes first.name, why)) o) (sets_fault symbols image state (drop (i + 1) sets))) fault in
    let whole : sets_fault symbols image state sets ≡ Some (string_bytes first.name, c.in-Some.fault) = sym c.sets.invariant.fault ∙ next in
    let named : string_bytes c.in_ok-clone-in-Some.field-0 ≡ string_bytes first.name = c.in_ok-clone-in-Some.ensures.cases ∙ ap (λ (s : Set). string_bytes s.name) c.set-item.is in
    inr (subst IsSome (sym whole) refl, (λ j. Some (named j, c.in-Some.fault)) ∙ sym whole)
