use Rattle.std.proofs.Common.{◌≡◌, ◌<◌, Some, None, sym, subst}
use Rattle.std.specs.List.{filter}
use Rattle.std.proofs.lemmas.List.{get_or_read}
use Rattle.vt_logs.specs.inside.Events.{HeldLog, last_of}
use Rattle.vt_logs.specs.inside.Chains.{IsChain, is_placed_of, anywhere}
use Rattle.vt_logs.proofs.ChainLemmas.{none-there, other-there, own-last, last-none, last-some, differ, agree}
use Rattle.vt_logs.proofs.log.Log.last_slot.Goals as goal

pub returns-in_default : goal.returns-in_default
returns-in_default g c =
    let i = c.self.inside in
    let p = c.args.process in
    let known = subst (λ (v : HeldLog _ _). p < v.processes) (sym c.self.view_is) c.requires in
    let at = get_or_read i.lasts.items p c.index.result.now known c.index.ensures anywhere in
    let chain = subst (λ q. IsChain q (filter (is_placed_of p) i.shelf.placed)) (sym at) (c.self.invariant p known) in
    subst (λ (v : HeldLog _ _). last_of p v.events ≡ None) c.self.view_is
    (last-none p i.shelf.placed (none-there p c.index.result.now i.shelf.placed chain c.in_default.ensures))

pub returns-then-slot-process : goal.returns-then-slot-process
returns-then-slot-process g c =
    let i = c.self.inside in
    let p = c.args.process in
    let known = subst (λ (v : HeldLog _ _). p < v.processes) (sym c.self.view_is) c.requires in
    let at = get_or_read i.lasts.items p c.index.result.now known c.index.ensures anywhere in
    let chain = subst (λ q. IsChain q (filter (is_placed_of p) i.shelf.placed)) (sym at) (c.self.invariant p known) in
    let found = c.in-Some.ensures in
    subst (λ (v : HeldLog _ _). last_of p v.events ≡ None) c.self.view_is
    (last-none p i.shelf.placed (other-there p c.index.result.now i.shelf.placed chain found.0 found.1 (differ c.in-Some.slot.now.process found.0.event.process p found.2.process c.if-slot-process.true)))

pub returns : goal.returns
returns g c =
    let i = c.self.inside in
    let p = c.args.process in
    let known = subst (λ (v : HeldLog _ _). p < v.processes) (sym c.self.view_is) c.requires in
    let at = get_or_read i.lasts.items p c.index.result.now known c.index.ensures anywhere in
    let chain = subst (λ q. IsChain q (filter (is_placed_of p) i.shelf.placed)) (sym at) (c.self.invariant p known) in
    let found = c.in-Some.ensures in
    let own = agree c.in-Some.slot.now.process found.0.event.process p found.2.process c.if-slot-process.false in (
      found.0.event,
      subst (λ (v : HeldLog _ _). last_of p v.events ≡ Some found.0.event) c.self.view_is
          (last-some p i.shelf.placed _ (c.index.result.now, found.0) (own-last p c.index.result.now i.shelf.placed chain found.0 found.1 own)),
      found.2.entry,
    )
