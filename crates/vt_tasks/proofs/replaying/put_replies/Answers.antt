use Rattle.std.proofs.Common.{◌∙◌, refl}
use Rattle.vt_model.specs.promise.Simulation.{simulation_of}
use Rattle.vt_text.proofs.TextLemmas.{begun, on_err}
use Rattle.vt_tasks.proofs.ReplyLemmas.{step_there, puts_none, puts_more, puts_stop}
use Rattle.vt_tasks.proofs.replaying.put_replies.Goals as goal

pub loop-numbered-init : goal.loop-numbered-init
loop-numbered-init g c =
    let first = c.args.world.now in
    record {
      model = refl;
      config = refl;
      put = puts_none (simulation_of (g.M.Model.handlers first.model) first.config) first.world _ c.args.text.now;
    }

pub returns-in_err-put_reply-clause-err : goal.returns-in_err-put_reply-clause-err
returns-in_err-put_reply-clause-err g c =
    let inv = c.loop-numbered.invariant in
    let H = g.M.Model.handlers in
    let first = c.args.world.now in
    let new = c.step-answer.new.self in
    let is = step_there H _ c.step-answer.result first c.loop-numbered.world new inv.model inv.config c.step-answer.ensures.step in
    on_err c.from_residual.result
    (puts_stop (simulation_of (H first.model) first.config) c.args.steps.now c.loop-numbered.numbered-index _ c.loop-numbered-test.true c.step-answer.result first.world c.loop-numbered.world.world new.world is
    _ _ _ _ _ inv.put (begun _ _ _ _ c.in_err-put_reply.ensures.err))

pub loop-numbered-preserved : goal.loop-numbered-preserved
loop-numbered-preserved g c =
    let inv = c.loop-numbered.invariant in
    let H = g.M.Model.handlers in
    let first = c.args.world.now in
    let new = c.step-answer.new.self in
    let same = c.step-answer.ensures.same in
    let is = step_there H _ c.step-answer.result first c.loop-numbered.world new inv.model inv.config c.step-answer.ensures.step in
    record {
      model = same.0 ∙ inv.model;
      config = same.1 ∙ inv.config;
      put = puts_more (simulation_of (H first.model) first.config) c.args.steps.now c.loop-numbered.numbered-index _ c.loop-numbered-test.true c.step-answer.result first.world c.loop-numbered.world.world new.world is
          _ _ _ _ _ inv.put _ c.in_ok-put_reply.ensures.ok;
    }
