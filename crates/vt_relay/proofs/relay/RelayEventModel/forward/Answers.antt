use Rattle.std.proofs.Common.{◌≡◌, ℕ, ◌∙◌, List, [], ◌∷◌, ap}
use Rattle.std.proofs.lemmas.List.{append-nil}
use Rattle.vt_model.specs.promise.Counts.{one_more}
use Rattle.vt_model.specs.promise.Sends.{SendRequest, RecordRequest}
use Rattle.vt_model.specs.inside.Sends.{Outgoing, with_requests}
use Rattle.vt_model.proofs.RequestLemmas.{no_requests, recorded_then_both}
use Rattle.vt_relay.specs.declared.relay.TheConstants.{CAME}
use Rattle.vt_relay.specs.inside.Relay.{passed}
use Rattle.vt_relay.proofs.relay.RelayEventModel.forward.Goals as goal

-- a record, and then the token that is passed on
pub returns-clause-out : goal.returns-clause-out
returns-clause-out c =
    let o = c.args.out.now in
    let m = c.args.self.now in
    let came : RecordRequest = record { kind = CAME; value = one_more c.args.state.now } in
    let lps : c.emit.new.self.lps ≡ o.lps = ap (λ (w : Outgoing ℕ). w.lps) c.emit.ensures in
    let sent : c.pass.new.out ≡ with_requests c.emit.new.self (passed m o.lps c.args.lp c.args.payload) [] =
    c.pass.ensures ∙ ap (λ (n : ℕ). with_requests c.emit.new.self (passed m n c.args.lp c.args.payload) []) lps in
    recorded_then_both o c.emit.new.self c.pass.new.out c.pass.new.out came (passed m o.lps c.args.lp c.args.payload) [] c.emit.ensures sent (no_requests c.pass.new.out)
    ∙ ap (λ (xs : List (SendRequest ℕ)). with_requests o xs (came ∷ [])) (append-nil (passed m o.lps c.args.lp c.args.payload))
