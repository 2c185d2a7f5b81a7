use Rattle.std.proofs.Common.{◌≡◌, ◌+◌, ◌∙◌, length, map, List, [], ◌∷◌, ◌++◌, append_assoc, take, ap, sym, arith, length-take}
use Rattle.std.proofs.lemmas.List.{take_more}
use Rattle.vt_key.specs.declared.letter.Letter.{Letter}
use Rattle.vt_model.specs.declared.sending.Sent.{Sent}
use Rattle.vt_steps.specs.promise.Letters.{stamped, signed}
use Rattle.vt_lp.proofs.Stamping.{event_of, letters-more}
use Rattle.vt_pool.proofs.letters.put_letters.Goals as goal

pub loop-send-preserved : goal.loop-send-preserved
loop-send-preserved g c =
    let send = c.send-item.result in
    let outbox = c.args.outbox.now in
    let before = take c.loop-send.send-index c.args.sends.now in
    let more : take (c.loop-send.send-index + 1) c.args.sends.now ≡ before ++ send ∷ [] =
    take_more c.args.sends.now c.loop-send.send-index send c.loop-send-test.true ∙ ap (λ (x : Sent _). before ++ x ∷ []) (sym c.send-item.is) in
    let there : length before ≡ c.loop-send.send-index = omega (arith, length-take c.loop-send.send-index c.args.sends.now, c.loop-send-test.true) in
    let at : c.loop-send.serial ≡ c.args.serial + length before = omega (arith, there, c.loop-send.invariant.next) in
    let made : c.put-node.result ≡ signed c.args.sign (event_of c.args.worker c.loop-send.serial send) = c.put-node.ensures.letter ∙ c.letter_of.ensures in
    let earlier = map (signed c.args.sign) (stamped c.args.worker c.args.serial before) in
    let letters = append_assoc outbox.letters earlier (signed c.args.sign (event_of c.args.worker c.loop-send.serial send) ∷ [])
    ∙ ap (λ (ls : List (Letter _)). outbox.letters ++ ls) (sym (letters-more c.args.sign c.args.worker c.args.serial c.loop-send.serial before send at))
    ∙ ap (λ (xs : List (Sent _)). outbox.letters ++ map (signed c.args.sign) (stamped c.args.worker c.args.serial xs)) (sym more) in
    record {
      made = c.push.ensures
          ∙ (λ j. record (c.loop-send.invariant.made j) { letters = (c.loop-send.invariant.made j).letters ++ made j ∷ [] })
          ∙ (λ j. record outbox { letters = letters j });
      next = omega (arith, c.loop-send.invariant.next);
      left = omega (arith, c.loop-send.invariant.left, c.put-node.ensures.taken);
    }
