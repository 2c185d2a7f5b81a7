use Rattle.std.proofs.Common.{sym, ◌∙◌, ap, subst}
use Rattle.std.specs.List.{filter}
use Rattle.vt_logs.specs.inside.Events.{HeldLog, is_above, AreInOrder}
use Rattle.vt_logs.specs.inside.Shelves.{placed_events}
use Rattle.vt_logs.specs.inside.Chains.{AreChained}
use Rattle.vt_logs.proofs.ShelfLemmas.{filter-map}
use Rattle.vt_logs.proofs.ChainLemmas.{chained-stays}
use Rattle.vt_logs.proofs.log.Log.forget.Goals as goal

pub invariant_of-self : goal.invariant_of-self
invariant_of-self g c =
    let i = c.self.inside in
    let order = subst (λ (v : HeldLog _ _). AreInOrder v.events) (sym c.self.view_is) c.requires in
    subst (AreChained i.lasts.items) (sym c.forget.ensures) (chained-stays c.args.floor i.lasts.items i.shelf.placed order c.self.invariant)

pub returns : goal.returns
returns g c =
    let i = c.self.inside in
    record {
      events = ap placed_events c.forget.ensures ∙ sym (filter-map _ (is_above c.args.floor) i.shelf.placed) ∙ ap (λ (v : HeldLog _ _). filter (is_above c.args.floor) v.events) c.self.view_is;
      processes = ap (λ (v : HeldLog _ _). v.processes) c.self.view_is;
    }
