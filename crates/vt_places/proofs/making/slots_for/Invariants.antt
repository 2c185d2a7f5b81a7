use Rattle.std.proofs.Common.{◌≡◌, ℕ, [], length}
use Rattle.std.specs.List.{AllByRecursion}
use Rattle.vt_steps.specs.inside.Cells.{in_inbox}
use Rattle.vt_places.specs.inside.Slots.{held_in, IsSlotOf}
use Rattle.vt_places.proofs.making.slots_for.Given as goal

abbrev pub invariant-loop : goal.invariant-loop
invariant-loop g l = (length l.slots.items ≡ l.counter) × AllByRecursion (λ slot. (held_in slot ≡ in_inbox []) × ((k : ℕ) → IsSlotOf l.fn.config k slot)) l.slots.items
