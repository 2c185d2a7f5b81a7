-- What the handlers of a model give, and the limits that they keep.
use Rattle.std.specs.Prelude.{◌≡◌, ℕ, ◌<◌, ◌≤◌, ◌^◌, List, [], length, All}
use Rattle.vt_key.specs.promise.Times.{Time, TimeBefore, at}
use Rattle.vt_key.specs.declared.limits.TheConstants.{MAX_PROCESSES, MAX_END, MAX_COUNT}
use Rattle.vt_model.specs.declared.limits.TheConstants.{MAX_DRAWS, MAX_SENDS, MAX_RECORDS}
use Rattle.vt_stream.specs.inside.Words.{Stream}
use Rattle.vt_model.specs.promise.Sends.{SendRequest, RecordRequest, receive_time}
use Rattle.vt_model.specs.inside.Sends.{Outgoing}

-- a request at a time to send to a known process, to be received later than that
pub record IsSendable {P : Type 0} (lps : ℕ) (now : Time) (request : SendRequest P) : Type 0 where
  pub known : request.dest < lps
  pub some_priority : request.priority < 256
  pub later : TimeBefore now (receive_time now request)

-- the limits of one handler
pub record IsWithinLimits {P : Type 0} (lps : ℕ) (now : Time) (drawn : ℕ) (send_requests : List (SendRequest P)) (record_requests : List RecordRequest) : Type 0 where
  pub few_words : drawn ≤ MAX_DRAWS
  pub few_sends : length send_requests ≤ MAX_SENDS
  pub few_records : length record_requests ≤ MAX_RECORDS
  pub sendable : All (IsSendable lps now) send_requests

-- words are below 2 ^ 32
abbrev pub AreWords : (ℕ → ℕ) → Type 0
AreWords words = (i : ℕ) → words i < 2 ^ 32

-- an out as `Out::new` gives it: for a known process and a time below the end, with nothing sent and nothing recorded
pub record IsFresh {P : Type 0} (o : Outgoing P) (p : ℕ) (t : Time) : Type 0 where
  pub lp : o.lp ≡ p
  pub time : o.time ≡ t
  pub number : o.number ≡ o.first
  pub sends : o.sends ≡ []
  pub records : o.records ≡ []
  pub known : p < o.lps
  pub few_processes : o.lps ≤ MAX_PROCESSES
  pub early : TimeBefore t o.end
  pub in_time : o.end ≤ at MAX_END 0
  pub numbered : o.first ≤ MAX_COUNT

-- draws as `Draws::new` gives them: nothing is drawn
pub record IsUndrawn (n : ℕ) (s : Stream) : Type 0 where
  pub drawn : n ≡ 0
  pub in_range : s.place < 2 ^ 64
