-- Virtual times. A time is a pair of a tick and a priority, and stands here as one number. The order of the numbers is the order
-- of the pairs: by the tick, then by the priority. Steps and the sequential run use this order alone. Sends, records and programs read
-- the tick and the priority.
use Rattle.std.specs.Prelude.{ℕ, ◌+◌, ◌-◌, ◌*◌, ◌/◌, ◌%◌, ◌<◌, ◌≤◌, Bool, nat_lt, nat_le, min}

-- a virtual time
abbrev pub Time : Type 0
Time = ℕ

-- the time of a tick and a priority below 256
abbrev pub at : ℕ → ℕ → Time
at tick priority = 256 * tick + priority

-- the tick of a time
abbrev pub ticks_of : Time → ℕ
ticks_of t = t / 256

-- the priority of a time
abbrev pub priority_of : Time → ℕ
priority_of t = t % 256

-- one time is before another
abbrev pub TimeBefore : Time → Time → Type 0
TimeBefore a b = a < b

-- whether one time is before another
abbrev pub time_before : Time → Time → Bool
time_before a b = nat_lt a b

-- how far a time is from the end, by which a run is shown to end
abbrev pub time_left : Time → Time → ℕ
time_left end t = end - t

-- one time is before another, or the two are one
abbrev pub TimeAtMost : Time → Time → Type 0
TimeAtMost a b = a ≤ b

-- whether one time is before another, or the two are one
abbrev pub time_at_most : Time → Time → Bool
time_at_most a b = nat_le a b

-- the earlier of two times
abbrev pub earlier : Time → Time → Time
earlier a b = min a b

-- the time of all starts: none is before it
abbrev pub opening_time : Time
opening_time = 0
