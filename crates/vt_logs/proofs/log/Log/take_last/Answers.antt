use Rattle.std.proofs.Common.{◌≡◌, ◌<◌, Some, None, slice_set, refl, sym, ◌∙◌, ap, subst}
use Rattle.std.specs.List.{filter}
use Rattle.std.specs.Option.{option_map}
use Rattle.std.proofs.lemmas.List.{get_or_read, length-set}
use Rattle.vt_logs.specs.inside.Events.{HeldLog, Logged, last_of, without_last}
use Rattle.vt_logs.specs.inside.Shelves.{placed_events}
use Rattle.vt_logs.specs.inside.Chains.{AreChained, IsChain, is_placed_of, anywhere}
use Rattle.vt_logs.proofs.ChainLemmas.{none-there, other-there, own-back, own-last, last-none, last-some, without-none, without-own, chained-pop, differ, agree}
use Rattle.vt_logs.proofs.log.Log.take_last.Goals as goal

pub returns-in_default : goal.returns-in_default
returns-in_default g c =
    let i = c.self.inside in
    let p = c.args.process in
    let known = subst (λ (v : HeldLog _ _). p < v.processes) (sym c.self.view_is) c.requires in
    let at = get_or_read i.lasts.items p c.index-position.result.now known c.index-position.ensures anywhere in
    let chain = subst (λ q. IsChain q (filter (is_placed_of p) i.shelf.placed)) (sym at) (c.self.invariant p known) in
    let none = none-there p c.index-position.result.now i.shelf.placed chain c.in_default.ensures in
    record {
      taken = sym (ap (option_map (λ (e : Logged _ _). e.entry)) (subst (λ (v : HeldLog _ _). last_of p v.events ≡ None) c.self.view_is (last-none p i.shelf.placed none)));
      left = subst (λ (v : HeldLog _ _). v.events ≡ without_last p v.events) c.self.view_is (without-none p i.shelf.placed none);
      processes = refl;
    }

pub returns-then-slot-process : goal.returns-then-slot-process
returns-then-slot-process g c =
    let i = c.self.inside in
    let p = c.args.process in
    let known = subst (λ (v : HeldLog _ _). p < v.processes) (sym c.self.view_is) c.requires in
    let at = get_or_read i.lasts.items p c.index-position.result.now known c.index-position.ensures anywhere in
    let chain = subst (λ q. IsChain q (filter (is_placed_of p) i.shelf.placed)) (sym at) (c.self.invariant p known) in
    let found = c.in-Some.ensures in
    let none = other-there p c.index-position.result.now i.shelf.placed chain found.0 found.1 (differ c.in-Some.slot.now.process found.0.event.process p found.2.process c.if-slot-process.true) in
    record {
      taken = sym (ap (option_map (λ (e : Logged _ _). e.entry)) (subst (λ (v : HeldLog _ _). last_of p v.events ≡ None) c.self.view_is (last-none p i.shelf.placed none)));
      left = subst (λ (v : HeldLog _ _). v.events ≡ without_last p v.events) c.self.view_is (without-none p i.shelf.placed none);
      processes = refl;
    }

pub invariant_of-self : goal.invariant_of-self
invariant_of-self g c =
    let i = c.self.inside in
    let p = c.args.process in
    let known = subst (λ (v : HeldLog _ _). p < v.processes) (sym c.self.view_is) c.requires in
    let at = get_or_read i.lasts.items p c.index-position.result.now known c.index-position.ensures anywhere in
    let found = c.in-Some.ensures in
    let own = sym found.2.process ∙ c.if-slot-process.false in
    subst (λ b. AreChained (slice_set i.lasts.items p b) c.take_out.new.self.placed) (sym found.2.before)
    (subst (AreChained (slice_set i.lasts.items p found.0.before)) (sym c.take_out.ensures) (chained-pop i.lasts.items i.shelf.placed p c.index-position.result.now found.0 known at own found.1 c.self.invariant))

pub returns : goal.returns
returns g c =
    let i = c.self.inside in
    let p = c.args.process in
    let q = c.index-position.result.now in
    let known = subst (λ (v : HeldLog _ _). p < v.processes) (sym c.self.view_is) c.requires in
    let at = get_or_read i.lasts.items p q known c.index-position.ensures anywhere in
    let chain = subst (λ q. IsChain q (filter (is_placed_of p) i.shelf.placed)) (sym at) (c.self.invariant p known) in
    let found = c.in-Some.ensures in
    let own = agree c.in-Some.slot.now.process found.0.event.process p found.2.process c.if-slot-process.false in
    let last = subst (λ (v : HeldLog _ _). last_of p v.events ≡ Some found.0.event) c.self.view_is (last-some p i.shelf.placed _ (q, found.0) (own-last p q i.shelf.placed chain found.0 found.1 own)) in
    record {
      taken = sym (ap (option_map (λ (e : Logged _ _). e.entry)) last ∙ ap Some (sym found.2.entry));
      left = ap placed_events c.take_out.ensures ∙ without-own p q i.shelf.placed found.0 found.1 own (own-back p q i.shelf.placed chain found.0 found.1 own) ∙ ap (λ (v : HeldLog _ _). without_last p v.events) c.self.view_is;
      processes = length-set i.lasts.items p c.in-Some.slot.now.before ∙ ap (λ (v : HeldLog _ _). v.processes) c.self.view_is;
    }
