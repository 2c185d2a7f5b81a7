use Rattle.std.proofs.Common.{◌<◌, [], ◌∷◌, ◌++◌, slice_set, refl, sym, ◌∙◌, ap, subst}
use Rattle.std.proofs.lemmas.List.{get_or_read, length-set, map-append}
use Rattle.vt_logs.specs.inside.Events.{HeldLog, Logged}
use Rattle.vt_logs.specs.inside.Sheets.{noted_event}
use Rattle.vt_logs.specs.inside.Shelves.{placed_events}
use Rattle.vt_logs.specs.inside.Chains.{AreChained, anywhere}
use Rattle.vt_logs.proofs.ChainLemmas.{chained-push}
use Rattle.vt_logs.proofs.log.Log.push.Goals as goal

pub invariant_of-self : goal.invariant_of-self
invariant_of-self g c =
    let i = c.self.inside in
    let p = c.args.process in
    let known = subst (λ (v : HeldLog _ _). p < v.processes) (sym c.self.view_is) c.requires.known in
    let before = get_or_read i.lasts.items p c.index-before.result.now known c.index-before.ensures anywhere in
    let x = noted_event p c.index-before.result.now c.args.entry c.args.sends.now c.args.records.now in
    subst (AreChained (slice_set i.lasts.items p c.push.result)) (sym c.push.ensures) (chained-push i.lasts.items i.shelf.placed p c.push.result x known refl before c.self.invariant)

pub returns : goal.returns
returns g c =
    let i = c.self.inside in
    let event : Logged _ _ = record { process = c.args.process; entry = c.args.entry; sends = c.args.sends.now; records = c.args.records.now } in
    record {
      events = ap placed_events c.push.ensures ∙ map-append _ i.shelf.placed _ ∙ ap (λ (v : HeldLog _ _). v.events ++ event ∷ []) c.self.view_is;
      processes = length-set i.lasts.items c.args.process c.push.result ∙ ap (λ (v : HeldLog _ _). v.processes) c.self.view_is;
    }
