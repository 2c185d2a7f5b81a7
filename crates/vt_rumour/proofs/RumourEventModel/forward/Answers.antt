use Rattle.std.proofs.Common.{◌≡◌, ℕ, ◌∙◌, List, [], ◌∷◌, ap}
use Rattle.std.proofs.lemmas.List.{append-nil}
use Rattle.vt_model.specs.promise.Counts.{one_more}
use Rattle.vt_model.specs.promise.Sends.{SendRequest, RecordRequest}
use Rattle.vt_model.specs.inside.Sends.{Outgoing, with_requests}
use Rattle.vt_model.proofs.RequestLemmas.{no_requests, recorded_then_both}
use Rattle.vt_rumour.specs.declared.TheConstants.{HEARD}
use Rattle.vt_rumour.specs.inside.Rumour.{told}
use Rattle.vt_rumour.proofs.RumourEventModel.forward.Goals as goal

-- a record, and then what is told
pub returns-clause-out : goal.returns-clause-out
returns-clause-out c =
    let o = c.args.out.now in
    let m = c.args.self.now in
    let heard : RecordRequest = record { kind = HEARD; value = one_more c.args.state.now } in
    let lps : c.emit.new.self.lps ≡ o.lps = ap (λ (w : Outgoing ℕ). w.lps) c.emit.ensures in
    let passed : c.tell.new.out ≡ with_requests c.emit.new.self (told m o.lps c.args.payload) [] =
    c.tell.ensures ∙ ap (λ (n : ℕ). with_requests c.emit.new.self (told m n c.args.payload) []) lps in
    recorded_then_both o c.emit.new.self c.tell.new.out c.tell.new.out heard (told m o.lps c.args.payload) [] c.emit.ensures passed (no_requests c.tell.new.out)
    ∙ ap (λ (xs : List (SendRequest ℕ)). with_requests o xs (heard ∷ [])) (append-nil (told m o.lps c.args.payload))
