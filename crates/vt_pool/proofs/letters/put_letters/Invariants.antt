use Rattle.std.proofs.Common.{◌≡◌, ◌+◌, ◌++◌, [], ◌∷◌, map, take}
use Rattle.vt_steps.specs.promise.Letters.{stamped, signed}
use Rattle.vt_pool.proofs.letters.put_letters.Given as goal

abbrev pub ghost-push : goal.ghost-push
ghost-push g a = a.self.now.letters ++ a.letter ∷ []

abbrev pub invariant-loop-send : goal.invariant-loop-send
invariant-loop-send g l = record {
  made : l.outbox ≡ record l.fn.outbox { letters = l.fn.outbox.letters ++ map (signed l.sign) (stamped l.worker l.initial.serial (take l.send-index l.sends)) };
  next : l.serial ≡ l.initial.serial + l.send-index;
  left : l.fn.kept ≡ l.kept + l.send-index;
}
