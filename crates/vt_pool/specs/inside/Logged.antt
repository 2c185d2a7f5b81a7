-- What is logged of an event, as a past event.
use Rattle.std.specs.Prelude.{ℕ, ◌+◌, ◌≤◌, List, length, map}
use Rattle.std.specs.List.{AllByRecursion}
use Rattle.vt_key.specs.declared.letter.Sign.TheVariants.{Plus, Minus}
use Rattle.vt_steps.specs.promise.Letters.{stamped, signed}
use Rattle.vt_past.specs.inside.Events.{past_event}
use Rattle.vt_logs.specs.inside.Events.{Logged}
use Rattle.vt_pool.specs.inside.View.{Placed}

-- the past event of an executed event of worker w
abbrev pub placed : {P K : Type 0} → ℕ → Logged P K → Placed P K
placed w e = record {
  index = e.process;
  event = past_event (signed Plus e.entry.event) (record {
    kept = e.entry.kept;
    bits = e.entry.bits;
    drawn = e.entry.drawn;
    number = e.entry.number;
    anti_messages = map (signed Minus) (stamped w e.entry.serial e.sends);
  }) e.records;
}

-- what these events sent was made before this serial
abbrev pub AreMade : {P K : Type 0} → ℕ → List (Logged P K) → Type 0
AreMade serial es = AllByRecursion (λ e. e.entry.serial + length e.sends ≤ serial) es
