use Rattle.std.proofs.Common.{◌≡◌, ◌+◌, map, take}
use Rattle.vt_steps.specs.promise.Letters.{stamped, signed}
use Rattle.vt_lp.proofs.making.letters.Given as goal

abbrev pub invariant-loop-send : goal.invariant-loop-send
invariant-loop-send g l = record {
  made : l.letters ≡ map (signed l.sign) (stamped l.worker l.initial.serial (take l.send-index l.sends));
  next : l.serial ≡ l.initial.serial + l.send-index;
}
