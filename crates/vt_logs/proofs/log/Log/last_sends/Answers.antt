use Rattle.std.proofs.Common.{◌≡◌, ◌<◌, [], Some, None, MatchOption, sym, subst}
use Rattle.std.specs.List.{filter}
use Rattle.std.proofs.lemmas.List.{get_or_read}
use Rattle.vt_logs.specs.inside.Events.{HeldLog, last_of}
use Rattle.vt_logs.specs.inside.Chains.{IsChain, is_placed_of, anywhere}
use Rattle.vt_logs.proofs.ChainLemmas.{none-there, other-there, own-last, last-none, last-some, alone-has, sends-none, differ, agree}
use Rattle.vt_logs.proofs.log.Log.last_sends.Goals as goal

pub returns-in_default : goal.returns-in_default
returns-in_default g c =
    let i = c.self.inside in
    let p = c.args.process in
    let known = subst (λ (v : HeldLog _ _). p < v.processes) (sym c.self.view_is) c.requires in
    let at = get_or_read i.lasts.items p c.index-position.result.now known c.index-position.ensures anywhere in
    let chain = subst (λ q. IsChain q (filter (is_placed_of p) i.shelf.placed)) (sym at) (c.self.invariant p known) in
    let none = subst (λ (v : HeldLog _ _). last_of p v.events ≡ None) c.self.view_is (last-none p i.shelf.placed (none-there p c.index-position.result.now i.shelf.placed chain c.in_default.ensures)) in
    sends-none _ none

pub returns-then-slot-process : goal.returns-then-slot-process
returns-then-slot-process g c =
    let i = c.self.inside in
    let p = c.args.process in
    let known = subst (λ (v : HeldLog _ _). p < v.processes) (sym c.self.view_is) c.requires in
    let at = get_or_read i.lasts.items p c.index-position.result.now known c.index-position.ensures anywhere in
    let chain = subst (λ q. IsChain q (filter (is_placed_of p) i.shelf.placed)) (sym at) (c.self.invariant p known) in
    let found = c.in-Some.ensures in
    let none = subst (λ (v : HeldLog _ _). last_of p v.events ≡ None) c.self.view_is
    (last-none p i.shelf.placed (other-there p c.index-position.result.now i.shelf.placed chain found.0 found.1 (differ c.in-Some.slot.now.process found.0.event.process p found.2.process c.if-slot-process.true))) in
    sends-none _ none

pub returns : goal.returns
returns g c =
    let i = c.self.inside in
    let p = c.args.process in
    let q = c.index-position.result.now in
    let known = subst (λ (v : HeldLog _ _). p < v.processes) (sym c.self.view_is) c.requires in
    let at = get_or_read i.lasts.items p q known c.index-position.ensures anywhere in
    let chain = subst (λ q. IsChain q (filter (is_placed_of p) i.shelf.placed)) (sym at) (c.self.invariant p known) in
    let found = c.in-Some.ensures in
    let own = agree c.in-Some.slot.now.process found.0.event.process p found.2.process c.if-slot-process.false in
    let last = subst (λ (v : HeldLog _ _). last_of p v.events ≡ Some found.0.event) c.self.view_is (last-some p i.shelf.placed _ (q, found.0) (own-last p q i.shelf.placed chain found.0 found.1 own)) in
    subst (λ o. MatchOption o (c.sends_at.result.now ≡ []) (λ e. c.sends_at.result.now ≡ e.sends)) (sym last)
    (alone-has _ (λ x. c.sends_at.result.now ≡ x.1.event.sends) _ _ found.1 c.sends_at.ensures)
