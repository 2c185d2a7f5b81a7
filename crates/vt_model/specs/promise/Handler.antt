-- What the handlers of a model give.
use Rattle.std.specs.Prelude.{ℕ, List}
use Rattle.vt_key.specs.promise.Times.{Time}
use Rattle.vt_model.specs.declared.flags.Bits.{Bits}
use Rattle.vt_model.specs.promise.Sends.{SendRequest, RecordRequest}

-- what a start gives: the first state, how many words it drew, and what it asks to be sent
pub record StartResult (S P : Type 0) : Type 0 where
  pub state : S
  pub drawn : ℕ
  pub send_requests : List (SendRequest P)

-- what an event gives: the next state, what is kept for the way back, the bits, how many words it drew, and what it asks
-- to be sent and recorded
pub record ForwardResult (S P K : Type 0) : Type 0 where
  pub state : S
  pub kept : K
  pub bits : Bits
  pub drawn : ℕ
  pub send_requests : List (SendRequest P)
  pub record_requests : List RecordRequest

-- the four handlers of a model as functions:
-- start, of the number of processes, the process and its words;
-- forward, of the number of processes, the process, the time, the payload, the state and the words;
-- reverse, of the process, the time, the payload, the state, the bits and what was kept;
-- finish, of the process and the state
pub record Handlers (S P K : Type 0) : Type 0 where
  pub start : ℕ → ℕ → (ℕ → ℕ) → StartResult S P
  pub forward : ℕ → ℕ → Time → P → S → (ℕ → ℕ) → ForwardResult S P K
  pub reverse : ℕ → Time → P → S → Bits → K → S
  pub finish : ℕ → S → ℕ
