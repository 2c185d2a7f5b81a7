use Rattle.std.proofs.Common.{◌+◌, ◌∙◌, ap, arith}
use Rattle.vt_stream.specs.inside.Words.{Stream, word_of, moved}
use Rattle.vt_stream.proofs.DrawLemmas.{moved-moved, word_after}
use Rattle.vt_model.proofs.RequestLemmas.{recorded_then_sent}
use Rattle.vt_models.proofs.PholdSteps.{goes_far, stays_near}
use Rattle.vt_models.proofs.phold.PholdEventModel.forward.Goals as goal
use Rattle.vt_models.proofs.phold.PholdEventModel.forward.Goals.{then-below-from, else-below-from}

pub returns-clause-out : goal.returns-clause-out
returns-clause-out c =
    let m = c.args.self.now in
    let stream = c.args.draws.now.stream.now in
    let asked = recorded_then_sent _ _ _ _ _ c.emit.ensures c.send.ensures in
    elim c.if-below-from.branch [
      | then-below-from w ↦
          let second = word_after stream c.below.new.self.stream.now 1 c.below.ensures.stream in
          let third = word_after stream w.below-dest.new.self.stream.now 2 (w.below-dest.ensures.stream ∙ ap (λ (s : Stream). moved s 1) c.below.ensures.stream ∙ moved-moved stream 1 1) in
          asked ∙ goes_far m c.args.out.now.lps c.args.lp c.args.state.now (word_of stream) c.args.out.now c.if-below-from.dest (c.from-3.result + c.below-wait.result)
          (omega arith) (cc) (cc)
      | else-below-from w ↦
          let second = word_after stream c.below.new.self.stream.now 1 c.below.ensures.stream in
          asked ∙ stays_near m c.args.out.now.lps c.args.lp c.args.state.now (word_of stream) c.args.out.now c.if-below-from.dest (c.from-3.result + c.below-wait.result)
          (omega arith) (cc) (cc)
    ]
