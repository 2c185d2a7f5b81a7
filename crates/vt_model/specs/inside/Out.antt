-- The fields of an `Out`.
use Rattle.std.specs.Prelude.{◌≡◌, ℕ, ◌+◌, ◌≤◌, List, [], Option, Some, None}
use Rattle.arrayvec.specs.ArrayVec.{ArrayVec}
use Rattle.vt_key.specs.promise.Times.{Time, TimeBefore, at, priority_of}
use Rattle.vt_key.specs.declared.limits.TheConstants.{MAX_END, MAX_COUNT}
use Rattle.vt_model.specs.declared.limits.TheConstants.{MAX_SENDS}
use Rattle.vt_model.specs.declared.sending.Sent.{Sent}

-- the sends that are held
abbrev pub sends_held : {P : Type 0} → Option (ArrayVec (Sent P)) → List (Sent P)
sends_held None = []
sends_held (Some v) = v.items

-- how the end, the time, the send numbers and the number of sends held go together
pub record IsOutInside (end now : Time) (first number held : ℕ) : Type 0 where
  pub below_end : TimeBefore now end
  pub in_time : end ≤ at MAX_END 0
  pub whole_end : priority_of end ≡ 0
  pub numbered : first ≤ MAX_COUNT
  pub rises : first ≤ number
  pub few : number ≤ first + MAX_SENDS
  pub fits : first + held ≤ number
