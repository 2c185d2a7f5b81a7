-- Which settings a run may have.
use Rattle.std.specs.Prelude.{ℕ, Bool, ◌&&◌, nat_le}
use Rattle.vt_key.specs.promise.Times.{Time, at}
use Rattle.vt_model.specs.declared.settings.Config.{Config}

-- the end of virtual time, which is a whole tick: every event of the run is before it
abbrev pub end_of : Config → Time
end_of c = at c.end 0

-- a number is in a range
abbrev pub is_between : ℕ → ℕ → ℕ → Bool
is_between least most n = nat_le least n && nat_le n most
