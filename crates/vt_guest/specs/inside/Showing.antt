-- What a trap shows.
use Rattle.std.specs.Prelude.{◌≡◌, ℕ, [], ◌∷◌}
use Rattle.vt_model.specs.promise.Handler.{StartResult, ForwardResult}
use Rattle.vt_guest.specs.declared.trap.TheConstants.{TRAP}
use Rattle.vt_guest.specs.declared.process.Words.{Words}
use Rattle.vt_guest.specs.declared.process.Process.{Process}
use Rattle.vt_guest.specs.declared.guest.Guest.{Guest}
use Rattle.vt_guest.specs.promise.Handlers.{alarm}

-- an event that changes no state, sends nothing, and makes exactly the record of a trap
pub record IsTrapEvent {N : ℕ} (s : Process N) (value : ℕ) (gives : ForwardResult (Process N) Words (Process N)) : Type 0 where
  pub state : gives.state ≡ s
  pub sends : gives.send_requests ≡ []
  pub records : gives.record_requests ≡ record { kind = TRAP; value = value } ∷ []

-- a start that leaves the first state, marked with the value of a trap's record, and sends the alarm alone
pub record IsFailedStart {N : ℕ} (g : Guest N) (lp value : ℕ) (gives : StartResult (Process N) Words) : Type 0 where
  pub bytes : gives.state.bytes ≡ g.first
  pub marked : gives.state.failed ≡ value
  pub sends : gives.send_requests ≡ alarm lp ∷ []
