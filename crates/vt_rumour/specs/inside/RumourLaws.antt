-- The laws of `Rumour`.
use Rattle.std.proofs.Common.{◌≡◌, ℕ, ◌-◌, ◌<◌, ◌^◌, arith}
use Rattle.std.specs.Prelude.{nat_eq}
use Rattle.std.proofs.Math.Nat.{mod-lt}
use Rattle.vt_model.specs.promise.Counts.{one_fewer}
use Rattle.vt_model.specs.inside.Counts.{fewer-more}
use Rattle.vt_model.specs.inside.Handler.{IsSendable, AreWords}
use Rattle.vt_model.specs.inside.Within.{IsStartWithin, IsEventWithin, none_few, one_few, either_few, few_within}
use Rattle.vt_parts.specs.inside.Sending.{entry_send, entry_sends_few}
use Rattle.vt_rumour.specs.declared.Rumour.{Rumour}
use Rattle.vt_rumour.specs.declared.TheConstants.{FRIENDS, TRAVEL}
use Rattle.vt_rumour.specs.inside.Rumour.{rumour_start, rumour_forward}

-- a rumour goes to a known process, and later
told_ok : (lps now rounds entry : ℕ) → 0 < lps → IsSendable lps now (entry_send lps TRAVEL 0 rounds entry)
told_ok lps now rounds entry some = record { known = mod-lt entry some; some_priority = omega arith; later = omega arith }

pub start_within : (m : Rumour) (lps lp : ℕ) (words : ℕ → ℕ) → lp < lps → AreWords words → IsStartWithin lps (rumour_start lp)
start_within m lps lp words known w =
    few_within (one_few (record { known = known; some_priority = omega arith; later = omega arith }) (omega arith)) (omega arith) (omega arith)

pub forward_within : (m : Rumour) (lps lp now p s : ℕ) (words : ℕ → ℕ) → lp < lps → AreWords words → IsEventWithin lps now (rumour_forward m lps p s)
forward_within m lps lp now p s words known w =
    few_within (either_few (nat_eq p 0) none_few (entry_sends_few TRAVEL 0 (p - 1) FRIENDS m.friends.items (λ entry. told_ok lps now (p - 1) entry (omega (arith, known))) (omega arith))) (omega arith) (omega arith)

pub start_state : (m : Rumour) (lps lp : ℕ) (words : ℕ → ℕ) → (rumour_start lp).state < 2 ^ 64
start_state m lps lp words = omega arith

pub forward_state : (m : Rumour) (lps lp now p s : ℕ) (words : ℕ → ℕ) → s < 2 ^ 64 → (rumour_forward m lps p s).state < 2 ^ 64
forward_state m lps lp now p s words fits = omega arith

pub undoes : (m : Rumour) (lps lp now p s : ℕ) (words : ℕ → ℕ) → s < 2 ^ 64 → one_fewer (rumour_forward m lps p s).state ≡ s
undoes m lps lp now p s words fits = fewer-more s fits
