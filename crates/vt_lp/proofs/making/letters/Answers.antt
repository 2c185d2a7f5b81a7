use Rattle.std.proofs.Common.{◌≡◌, ◌+◌, ◌∙◌, length, map, List, [], ◌∷◌, ◌++◌, take, ap, sym, arith, length-take}
use Rattle.std.proofs.lemmas.List.{take_more}
use Rattle.vt_model.specs.declared.sending.Sent.{Sent}
use Rattle.vt_steps.specs.promise.Letters.{stamped, signed}
use Rattle.vt_lp.proofs.Stamping.{event_of, letters-more}
use Rattle.vt_lp.proofs.making.letters.Goals as goal

pub loop-send-preserved : goal.loop-send-preserved
loop-send-preserved g c =
    let send = c.send-item.result in
    let before = take c.loop-send.send-index c.args.sends.now in
    let more : take (c.loop-send.send-index + 1) c.args.sends.now ≡ before ++ send ∷ [] =
    take_more c.args.sends.now c.loop-send.send-index send c.loop-send-test.true ∙ ap (λ (x : Sent _). before ++ x ∷ []) (sym c.send-item.is) in
    let there : length before ≡ c.loop-send.send-index = omega (arith, length-take c.loop-send.send-index c.args.sends.now, c.loop-send-test.true) in
    let at : c.loop-send.serial ≡ c.args.serial + length before = omega (arith, there, c.loop-send.invariant.next) in
    let made : c.in-Ok.letter ≡ signed c.args.sign (event_of c.args.worker c.loop-send.serial send) = c.in-Ok.ensures.made in
    record {
      made = c.push_back.ensures
          ∙ (λ j. c.loop-send.invariant.made j ++ made j ∷ [])
          ∙ sym (letters-more c.args.sign c.args.worker c.args.serial c.loop-send.serial before send at)
          ∙ ap (λ (xs : List (Sent _)). map (signed c.args.sign) (stamped c.args.worker c.args.serial xs)) (sym more);
      next = omega (arith, c.loop-send.invariant.next);
    }
