-- Sends to the processes that a table names, and that they are few.
use Rattle.std.specs.Prelude.{ℕ, ◌≤◌, ◌%◌, List, [], ◌∷◌, map, take}
use Rattle.std.proofs.Common.{arith, suc, zero}
use Rattle.vt_model.specs.inside.Handler.{IsSendable}
use Rattle.vt_model.specs.promise.Sends.{SendRequest}
use Rattle.vt_model.specs.inside.Within.{AreFew, none_few, one_few, both_few}

-- a send to the process that an entry names
abbrev pub entry_send : {P : Type 0} → ℕ → ℕ → ℕ → P → ℕ → SendRequest P
entry_send lps delay priority payload entry = record { dest = entry % lps; delay = delay; priority = priority; payload = payload }

-- a send to each of these entries
abbrev pub entry_sends : {P : Type 0} → ℕ → ℕ → ℕ → P → List ℕ → List (SendRequest P)
entry_sends lps delay priority payload entries = map (entry_send lps delay priority payload) entries

-- they are no more than the entries that are taken, and sendable where each of them is
taken_few : {P : Type 0} {lps now : ℕ} (delay priority : ℕ) (payload : P) (n : ℕ) (entries : List ℕ)
    → ((entry : ℕ) → IsSendable lps now (entry_send lps delay priority payload entry)) → AreFew lps now n (entry_sends lps delay priority payload (take n entries))
taken_few delay priority payload zero entries ok = none_few
taken_few delay priority payload (suc n) [] ok = none_few
taken_few delay priority payload (suc n) (e ∷ es) ok = both_few (one_few {most = 1} (ok e) (omega arith)) (taken_few delay priority payload n es ok) (omega arith)

pub entry_sends_few : {P : Type 0} {lps now most : ℕ} (delay priority : ℕ) (payload : P) (n : ℕ) (entries : List ℕ)
    → ((entry : ℕ) → IsSendable lps now (entry_send lps delay priority payload entry)) → n ≤ most → AreFew lps now most (entry_sends lps delay priority payload (take n entries))
entry_sends_few delay priority payload n entries ok fits =
    let few = taken_few delay priority payload n entries ok in
    record { few = omega (arith, few.few, fits); sendable = few.sendable }
