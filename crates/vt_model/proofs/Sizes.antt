-- Bounds on what an `Out` takes in memory, by the alignment and the size of its payloads.
use Rattle.std.proofs.Common.{◌≡◌, ℕ, zero, ◌+◌, ◌*◌, ◌-◌, ◌%◌, ◌^◌, ◌<◌, ◌≤◌, max, arith}
use Rattle.std.proofs.Math.Nat.{mod-lt}
use prog.Memory.{up}
use Rattle.vt_model.specs.declared.settings.Config.{Config}
use Rattle.vt_model.specs.promise.Settings.{end_of}

up_le : (k e b : ℕ) → 1 ≤ k → k ≤ 16 → e ≤ b → up k e ≤ b + 16
up_le k e b pos small low =
    let p : zero < k = omega arith in
    let m : (k - e % k) % k < k = mod-lt (k - e % k) p in
    omega (arith, m)

-- what a payload is aligned to, and where it is put in a `Sent`
record IsPayloadPlace (k : ℕ) : Type 0 where
  pub place : up k 28 ≤ 44
  pub whole : max 8 (max 4 (max k 1)) ≡ 8

payload_place : (k : ℕ) → 1 ≤ k → k ≤ 8 → IsPayloadPlace k
payload_place k low high = record {
  place = up_le k 28 28 low (omega (arith, high)) (omega arith);
  whole = omega (arith, high);
}

-- a `Sent` with a payload
abbrev sent_align : ℕ → ℕ
sent_align k = max 8 (max 4 (max k 1))

abbrev sent_size : ℕ → ℕ → ℕ
sent_size k s = up (sent_align k) (up k 28 + s)

-- the `ArrayVec` of 16 sends and of one more
abbrev list_align : ℕ → ℕ
list_align k = max (max (sent_align k) 1) (max 8 (max (sent_align k) 1))

abbrev list_size : ℕ → ℕ → ℕ
list_size k s =
    up (list_align k) 1
    + up (list_align k) (up (sent_align k) (up 8 (up (max (sent_align k) 1) 0 + up (max (sent_align k) 1) (up (sent_align k) 0 + 16 * sent_size k s)) + 8) + sent_size k s)

-- the `Option` of it
abbrev option_align : ℕ → ℕ
option_align k = max 1 (max (max (list_align k) 1) 1)

abbrev option_size : ℕ → ℕ → ℕ
option_size k s = max 1 (max (list_size k s) 1)

-- the `Out`
abbrev out_align : ℕ → ℕ
out_align k = max 4 (max 8 (max 4 (max 8 (max 8 (max 8 (max (option_align k) 8))))))

abbrev out_size : ℕ → ℕ → ℕ
out_size k s = up (out_align k) (up 8 (up (option_align k) 64 + up (option_align k) (option_size k s)) + 136)

-- it is what each call with an `Out` asks of its size
pub out_fits : (k s : ℕ) → (1 ≤ k) × (k ≤ 8) → s < 2 ^ 32 → out_size k s < 2 ^ 63
out_fits k s bounds small =
    let at = payload_place k bounds.0 bounds.1 in
    let whole = at.whole in let place = at.place in
    simp whole (omega (arith, place, small))

-- and this is all that an `Out` for the start of a process asks
pub first_out : (k s : ℕ) (c : Config) {lp tick : ℕ} → (1 ≤ k) × (k ≤ 8) → s < 2 ^ 32 → lp < c.lps → tick ≡ 0
    → (out_size k s < 2 ^ 63) × ((lp < c.lps) × ((tick < end_of c) × (0 ≤ 2 ^ 63)))
first_out k s c bounds small known first = (out_fits k s bounds small, (known, (omega (arith, c.some_time, first), omega arith)))
