use Rattle.std.proofs.Common.{◌≡◌, ◌+◌, ◌≤◌, ℕ, List, map, drop}
use Rattle.std.specs.List.{AllByRecursion}
use Rattle.vt_key.specs.promise.Queues.{letter_rank}
use Rattle.vt_key.specs.declared.letter.Letter.{Letter}
use Rattle.vt_key.specs.declared.letter.Sign.TheVariants.{Plus}
use Rattle.vt_steps.specs.promise.Letters.{stamped, signed}
use Rattle.vt_pool.specs.inside.Executing.{AreDelivered}
use Rattle.vt_pool.proofs.delivering.deliver.Given as goal

abbrev pub invariant-loop-send : goal.invariant-loop-send
invariant-loop-send g l = record {
  left : l.fn.kept ≡ l.kept + l.send-index;
  next : l.serial ≡ l.initial.serial + l.send-index;
  sorted : l.outbox.config ≡ l.fn.outbox.config;
  heard : AllByRecursion (λ (x : Letter _). (letter_rank x).stamp.worker ≡ l.worker → (letter_rank x).stamp.serial ≤ l.most) l.calendar;
  done : (pending left : List (Letter _)) (last : ℕ)
      → AreDelivered l.config l.worker l.until (map (signed Plus) (stamped l.worker l.serial (drop l.send-index l.sends))) l.calendar l.outbox.letters l.most pending left last
      → AreDelivered l.config l.worker l.until (map (signed Plus) (stamped l.worker l.initial.serial l.sends)) l.fn.calendar l.fn.outbox.letters l.fn.most pending left last;
}
