use Rattle.std.proofs.Common.{◌≡◌, ◌++◌, ◌∷◌, [], List, ℕ, ap, ap₂}
use Rattle.std.proofs.lemmas.Result.{on_ok_weaker, on_err_weaker}
use Rattle.vt_text.proofs.TextLemmas.{begun, on_err}
use Rattle.vt_tasks.specs.promise.Refusals.{head_text, carried_text, refusal_text}
use Rattle.vt_tasks.proofs.RefusalLemmas.{name_stops, head_stops, carried_stops, end_stops, line_written, line_stops}
use Rattle.vt_tasks.proofs.refusal.print_refusal.Goals as goal

pub returns-in_err-put_bytes-clause-err : goal.returns-in_err-put_bytes-clause-err
returns-in_err-put_bytes-clause-err g c =
    let carried = carried_text c.args.fault in
    let line : ((c.as_bytes.result.now ++ head_text c.args.fault) ++ carried) ++ 10 ∷ [] ≡ refusal_text c.args.name.now c.args.fault = ap (λ (n : List ℕ). ((n ++ head_text c.args.fault) ++ carried) ++ 10 ∷ []) c.as_bytes.ensures.value in
    on_err c.from_residual.result (name_stops c.as_bytes.result.now (head_text c.args.fault) carried (10 ∷ []) _ line _ _ c.new-text.result c.new-text.ensures (begun _ _ _ _ c.in_err-put_bytes.ensures.err))

pub returns-in_err-put_bytes-2-clause-err : goal.returns-in_err-put_bytes-2-clause-err
returns-in_err-put_bytes-2-clause-err g c =
    let carried = carried_text c.args.fault in
    let line : ((c.as_bytes.result.now ++ c.head_of.result.now) ++ carried) ++ 10 ∷ [] ≡ refusal_text c.args.name.now c.args.fault = ap₂ (λ (n h : List ℕ). ((n ++ h) ++ carried) ++ 10 ∷ []) c.as_bytes.ensures.value c.head_of.ensures in
    on_err c.from_residual-in_err-put_bytes-2.result (head_stops c.as_bytes.result.now c.head_of.result.now carried (10 ∷ []) _ line _ _ c.new-text.result c.new-text.ensures _ c.in_ok-put_bytes.ensures.ok _ (begun _ _ _ _ c.in_err-put_bytes-2.ensures.err))

pub returns-in_err-put_carried-clause-err : goal.returns-in_err-put_carried-clause-err
returns-in_err-put_carried-clause-err g c =
    let carried = carried_text c.args.fault in
    let line : ((c.as_bytes.result.now ++ c.head_of.result.now) ++ carried) ++ 10 ∷ [] ≡ refusal_text c.args.name.now c.args.fault = ap₂ (λ (n h : List ℕ). ((n ++ h) ++ carried) ++ 10 ∷ []) c.as_bytes.ensures.value c.head_of.ensures in
    on_err c.from_residual-in_err-put_carried.result (carried_stops c.as_bytes.result.now c.head_of.result.now carried (10 ∷ []) _ line _ _ c.new-text.result c.new-text.ensures _ c.in_ok-put_bytes.ensures.ok _ _ c.in_ok-put_bytes-2.ensures.ok _ c.in_err-put_carried.ensures.err)

pub returns-in_err-put_bytes-3-clause-err : goal.returns-in_err-put_bytes-3-clause-err
returns-in_err-put_bytes-3-clause-err g c =
    let carried = carried_text c.args.fault in
    let line : ((c.as_bytes.result.now ++ c.head_of.result.now) ++ carried) ++ 10 ∷ [] ≡ refusal_text c.args.name.now c.args.fault = ap₂ (λ (n h : List ℕ). ((n ++ h) ++ carried) ++ 10 ∷ []) c.as_bytes.ensures.value c.head_of.ensures in
    on_err c.from_residual-in_err-put_bytes-3.result (end_stops c.as_bytes.result.now c.head_of.result.now carried (10 ∷ []) _ line _ _ c.new-text.result c.new-text.ensures _ c.in_ok-put_bytes.ensures.ok _ _ c.in_ok-put_bytes-2.ensures.ok _ _ c.in_ok-put_carried.ensures.ok _ (begun _ _ _ _ c.in_err-put_bytes-3.ensures.err))

pub returns-clause-ok : goal.returns-clause-ok
returns-clause-ok g c =
    let carried = carried_text c.args.fault in
    let line : ((c.as_bytes.result.now ++ c.head_of.result.now) ++ carried) ++ 10 ∷ [] ≡ refusal_text c.args.name.now c.args.fault = ap₂ (λ (n h : List ℕ). ((n ++ h) ++ carried) ++ 10 ∷ []) c.as_bytes.ensures.value c.head_of.ensures in
    on_ok_weaker c.flush.result (λ h. line_written c.as_bytes.result.now c.head_of.result.now carried (10 ∷ []) _ line _ _ c.new-text.result c.new-text.ensures _ c.in_ok-put_bytes.ensures.ok _ _ c.in_ok-put_bytes-2.ensures.ok _ _ c.in_ok-put_carried.ensures.ok _ _ c.in_ok-put_bytes-3.ensures.ok _ h) c.flush.ensures.ok

pub returns-clause-err : goal.returns-clause-err
returns-clause-err g c =
    let carried = carried_text c.args.fault in
    let line : ((c.as_bytes.result.now ++ c.head_of.result.now) ++ carried) ++ 10 ∷ [] ≡ refusal_text c.args.name.now c.args.fault = ap₂ (λ (n h : List ℕ). ((n ++ h) ++ carried) ++ 10 ∷ []) c.as_bytes.ensures.value c.head_of.ensures in
    on_err_weaker c.flush.result (λ h. line_stops c.as_bytes.result.now c.head_of.result.now carried (10 ∷ []) _ line _ _ c.new-text.result c.new-text.ensures _ c.in_ok-put_bytes.ensures.ok _ _ c.in_ok-put_bytes-2.ensures.ok _ _ c.in_ok-put_carried.ensures.ok _ _ c.in_ok-put_bytes-3.ensures.ok _ h) c.flush.ensures.err
