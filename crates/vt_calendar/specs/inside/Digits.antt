-- The slots of times, by the digits of their ticks to the base of 256.
use Rattle.std.specs.Prelude.{ℕ, zero, suc, ◌+◌, ◌*◌, ◌/◌, ◌%◌, nat_eq, if◌then◌else◌}
use Rattle.vt_key.specs.promise.Times.{Time, ticks_of, priority_of}

-- the slot of a tick that isn't the present one: that of its highest digit that isn't the present tick's. Both stand without the digits below
-- the slot `first`, and have so many digits above the lowest that is left
unfoldable pub high_slot : ℕ → ℕ → ℕ → ℕ → ℕ
high_slot zero first tick present = first + tick
high_slot (suc digits) first tick present =
    if nat_eq (tick / 256) (present / 256) then first + tick % 256 else high_slot digits (first + 256) (tick / 256) (present / 256)

-- the slot of a time that is later than now: that of its priority in the present tick, or that of its tick
unfoldable pub slot_of : Time → Time → ℕ
slot_of now time =
    if nat_eq (ticks_of time) (ticks_of now) then priority_of time else high_slot 7 256 (ticks_of time) (ticks_of now)

-- the first slot whose letters stay in it when the present time goes back from now to an earlier one
unfoldable pub first_kept : Time → Time → ℕ
first_kept now back =
    if nat_eq (ticks_of now) (ticks_of back) then 0 else high_slot 7 256 (ticks_of now) (ticks_of back) / 256 * 256
