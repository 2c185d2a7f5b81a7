use Rattle.std.proofs.Common.{◌≡◌, ℕ, ◌∙◌, Bool, true, false, not, refl, ap, sym, subst}
use Rattle.vt_model.specs.inside.Sends.{Outgoing}
use Rattle.vt_lookup.specs.inside.Undoing.{event_gives, state_undone}
use Rattle.vt_lookup.proofs.pair.Pair.look_at.Goals as goal

pub execute-left-requires-send-M-Payload : goal.execute-left-requires-send-M-Payload
execute-left-requires-send-M-Payload g c κs within = record { owned = c.type_bounds.send-M-Payload.owned; leaving = c.type_bounds.send-M-Payload.leaving }

pub execute-requires-send-M-Payload : goal.execute-requires-send-M-Payload
execute-requires-send-M-Payload g c κs within = record { owned = c.type_bounds.send-M-Payload.owned; leaving = c.type_bounds.send-M-Payload.leaving }

pub execute-requires-2-send-M-Payload : goal.execute-requires-2-send-M-Payload
execute-requires-2-send-M-Payload g c κs within = record { owned = c.type_bounds.send-M-Payload.owned; leaving = c.type_bounds.send-M-Payload.leaving }

pub differing-requires-send-M-Payload : goal.differing-requires-send-M-Payload
differing-requires-send-M-Payload g c κs within = record { owned = c.type_bounds.send-M-Payload.owned; leaving = c.type_bounds.send-M-Payload.leaving }

-- what isn't different is the same
same_of : (b differs : Bool) → differs ≡ not b → differs ≡ false → b ≡ true
same_of true differs is none = refl
same_of false differs is none = sym none ∙ is

pub returns-in-None : goal.returns-in-None
returns-in-None g c =
    let H = g.M.Model.handlers c.args.model.now in
    let e = c.args.event.now in
    let tried = c.args.self.now.tried in
    let steady = c.args.self.now.steady in
    let lps : c.new-again.result.lps ≡ c.args.config.lps = ap (λ (o : Outgoing _). o.lps) c.new-again.ensures.whole in
    let undone : c.undo.new.process.state ≡ state_undone H e (event_gives H c.args.config.lps e tried.state tried.stream) =
    c.undo.ensures
    ∙ (λ j. H.reverse e.dest e.key.time e.payload (c.execute-left.ensures.state j) (c.execute-left.ensures.bits j) (c.execute-left.ensures.kept j))
    ∙ ap (λ (n : ℕ). state_undone H e (event_gives H n e tried.state tried.stream)) lps in
    record { undone = subst (λ s. g.M.State.PartialEq.eq s steady.state ≡ true) undone (same_of _ _ c.ne.ensures c.if-ne.false) }
