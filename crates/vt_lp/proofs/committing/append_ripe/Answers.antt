use Rattle.std.proofs.Common.{rules, ◌≡◌, ◌<◌, ◌++◌, ◌∷◌, ◌∙◌, List, append_assoc, sym, ap}
use Rattle.vt_key.proofs.ResultLemmas.{if_refused}
use Rattle.vt_model.specs.declared.rows.Row.{Row}
use Rattle.vt_model.specs.promise.Simulation.{rows_of}
use Rattle.vt_past.specs.declared.event.PastEvent.{PastEvent}
use Rattle.vt_lp.specs.inside.Ripe.{rows_of_ripe}
use Rattle.vt_lp.proofs.RipeLemmas.{rows_on}
use Rattle.vt_lp.proofs.committing.append_ripe.Goals as goal

pub loop-event-preserved : goal.loop-event-preserved
loop-event-preserved g c =
    let event = c.in-Some.event.now in
    let rest = c.next.new.self in
    let rows = c.loop-event.rows.items in
    let told = c.loop-event.invariant in
    let early : event.key.time < c.args.floor = search rules in
    let next : c.loop-event.event-iterator ≡ event ∷ rest = search rules in
    let more : c.append_rows.new.rows.items ≡ rows ++ rows_of event.key event.records = search rules in (
      tt,
      tt,
      rows_on c.args.floor event rest rows early (ap (λ (es : List (PastEvent _ _)). rows ++ rows_of_ripe c.args.floor es) (sym next) ∙ told.2) more,
      (told.3.0 ++ rows_of event.key event.records, more ∙ ap (λ (rs : List Row). rs ++ rows_of event.key event.records) told.3.1 ∙ append_assoc c.args.rows.now.items told.3.0 (rows_of event.key event.records)),
    )

pub returns-in_err-append_rows-clause-rows : goal.returns-in_err-append_rows-clause-rows
returns-in_err-append_rows-clause-rows g c = if_refused _ _ c.from_residual.result c.from_residual.ensures.1
