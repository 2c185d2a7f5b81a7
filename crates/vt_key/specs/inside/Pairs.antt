-- The number of a time tells its tick and its priority.
use Rattle.std.proofs.Common.{ℕ, ◌<◌, ◌≡◌, arith}
use Rattle.vt_key.specs.promise.Times.{at, ticks_of, priority_of}
use Rattle.vt_key.specs.declared.when.When.TheInside.{Inside}
use Rattle.vt_key.specs.declared.order.Key.TheInside as key

ticks_again : (tick priority : ℕ) → priority < 256 → ticks_of (at tick priority) ≡ tick
ticks_again tick priority h = omega (arith, h)

priority_again : (tick priority : ℕ) → priority < 256 → priority_of (at tick priority) ≡ priority
priority_again tick priority h = omega (arith, h)

-- the tick and the priority of a pair's number are the pair's
pub pair_again : (w : Inside) → w.priority < 256 → record { time = ticks_of (at w.time w.priority); priority = priority_of (at w.time w.priority) } ≡ w
pair_again w h = λ i. record { time = ticks_again w.time w.priority h i; priority = priority_again w.time w.priority h i }

-- and so are those of a key's number
pub key_again : (k : key.Inside) → k.priority < 256 → record { ticks = ticks_of (at k.ticks k.priority); number = k.number; source = k.source; priority = priority_of (at k.ticks k.priority) } ≡ k
key_again k h = λ i. record { ticks = ticks_again k.ticks k.priority h i; number = k.number; source = k.source; priority = priority_again k.ticks k.priority h i }
