use Rattle.std.proofs.Common.{◌∙◌, ◌++◌, List, ℕ, ap, inl, inr, sym, append-nil}
use Rattle.std.proofs.KnownBytes.{Appends-trans}
use Rattle.std.proofs.lemmas.Result.{on_ok_weaker, on_err_weaker}
use Rattle.vt_key.proofs.ResultLemmas.{on_refused}
use Rattle.vt_text.proofs.TextLemmas.{on_err, held_stops, rest_stops}
use Rattle.vt_text.proofs.buffer.TextBuffer.put_bytes.Goals as goal

pub returns-clause-ok : goal.returns-clause-ok
returns-clause-ok g c =
    let text : List ℕ = c.args.self.now ++ c.args.bytes.now in
    on_ok_weaker c.write_bytes.result (λ h. record {
      sent = text;
      whole = sym (ap (λ (l : List ℕ). text ++ l) c.in_ok-flush.ensures.empty ∙ append-nil text);
      appends = Appends-trans _ _ _ c.args.self.now c.args.bytes.now c.in_ok-flush.ensures.ok h;
    }) c.write_bytes.ensures.ok

pub returns-in_err-flush-clause-ok : goal.returns-in_err-flush-clause-ok
returns-in_err-flush-clause-ok g c = on_refused _ _ c.from_residual.result c.from_residual.ensures.1

pub returns-in_err-flush-clause-err : goal.returns-in_err-flush-clause-err
returns-in_err-flush-clause-err g c =
    let e = c.in_err-flush.ensures in
    on_err c.from_residual.result (held_stops _ _ c.args.self.now _ c.args.bytes.now e.kept e.err)

pub returns-in_err-flush-clause-kept : goal.returns-in_err-flush-clause-kept
returns-in_err-flush-clause-kept g c = on_err c.from_residual.result (inl c.in_err-flush.ensures.kept)

pub returns-clause-err : goal.returns-clause-err
returns-clause-err g c =
    on_err_weaker c.write_bytes.result (rest_stops _ _ _ c.args.self.now _ c.args.bytes.now c.in_ok-flush.ensures.empty c.in_ok-flush.ensures.ok) c.write_bytes.ensures.err

pub returns-clause-kept : goal.returns-clause-kept
returns-clause-kept g c = on_err c.write_bytes.result (inr c.in_ok-flush.ensures.empty)
