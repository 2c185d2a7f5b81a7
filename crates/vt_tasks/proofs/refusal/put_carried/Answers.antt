use Rattle.std.proofs.Common.{rules, ◌≡◌, ◌++◌, List, ℕ, subst}
use Rattle.std.proofs.lemmas.Result.{on_err_weaker}
use Rattle.vt_text.specs.promise.Writing.{AppendsBeginning}
use Rattle.vt_text.proofs.TextLemmas.{begun}
use Rattle.vt_tasks.specs.promise.Refusals.{carried_text}
use Rattle.vt_tasks.proofs.refusal.put_carried.Goals as goal

pub returns-in-BadOption-clause-err : goal.returns-in-BadOption-clause-err
returns-in-BadOption-clause-err g c =
    let carried : c.as_bytes.result.now ≡ carried_text c.args.fault = search rules in
    on_err_weaker c.put_bytes.result
    (λ h. subst (λ (l : List ℕ). AppendsBeginning (g.W.Write.contents c.args.writer.now) (g.W.Write.contents c.put_bytes.new.writer) (c.args.text.now ++ l)) carried (begun _ _ _ _ h))
    c.put_bytes.ensures.err
