-- The laws of `Hop`.
use Rattle.std.proofs.Common.{◌≡◌, ℕ, ◌+◌, ◌%◌, if◌then◌else◌, ◌^◌, ◌<◌, true, false, ◌&&◌, nat_eq, nat_lt, Some, None, refl, ap, ◌∙◌, arith}
use Rattle.std.proofs.lemmas.Nat.{xor_lt}
use Rattle.std.proofs.lemmas.Bool.{ltb-true}
use Rattle.std.proofs.Math.Nat.{mod-lt}
use Rattle.std.specs.Int.{w64, rotate_left, rotate_right}
use Rattle.vt_key.specs.promise.Times.{priority_of}
use Rattle.vt_model.specs.inside.Handler.{IsSendable, AreWords}
use Rattle.vt_model.specs.inside.Within.{IsStartWithin, IsEventWithin, none_few, one_few, either_few, few_within}
use Rattle.vt_models.specs.declared.hop.Hop.{Hop}
use Rattle.vt_models.specs.declared.hop.Token.{Token}
use Rattle.vt_models.specs.promise.Hop.{mixed, risen, onward, first_token, hop_start, hop_forward, hop_reverse}
use Rattle.vt_models.specs.inside.Rotation.{left_lt, right-left, xor-xor}

pub start_within : (m : Hop) (lps lp : ℕ) (words : ℕ → ℕ) → lp < lps → AreWords words → IsStartWithin lps (hop_start m lp)
start_within m lps lp words known w =
    let ok : IsSendable lps 0 (first_token m lp) = record { known = known; some_priority = omega arith; later = omega arith } in
    few_within (one_few ok (omega arith)) (omega arith) (omega arith)

-- wherever a token goes on to, it is a later time
onward_ok : (m : Hop) (lps lp now : ℕ) (p : Token) → lp < lps → IsSendable lps now (onward m lps lp p (risen m now))
onward_ok m lps lp now p known =
    let to : (lp + m.stride) % lps < lps = mod-lt (lp + m.stride) (omega arith) in
    elim (nat_lt 0 m.rise && nat_lt (priority_of now + m.rise) 256) as (λ b. nat_lt 0 m.rise && nat_lt (priority_of now + m.rise) 256 ≡ b → IsSendable lps now (onward m lps lp p (if b then Some (priority_of now + m.rise) else None))) [
      | true ↦ λ e.
          let some : 0 < m.rise = ltb-true 0 m.rise (grind (arith, e)) in
          let small : priority_of now + m.rise < 256 = ltb-true _ _ (grind (arith, e)) in
          record { known = to; some_priority = small; later = omega (arith, some) }
      | false ↦ λ e. record { known = to; some_priority = omega arith; later = omega (arith, m.some_delay) }
    ]
    refl

pub forward_within : (m : Hop) (lps lp now : ℕ) (p : Token) (s : ℕ) (words : ℕ → ℕ) → lp < lps → AreWords words → IsEventWithin lps now (hop_forward m lps lp now p s)
forward_within m lps lp now p s words known w =
    few_within (either_few (nat_eq p.left 0) none_few (one_few (onward_ok m lps lp now p known) (omega arith))) (omega arith) (omega arith)

pub forward_state : (m : Hop) (lps lp now : ℕ) (p : Token) (s : ℕ) (words : ℕ → ℕ) → s < 2 ^ 64 → mixed s p.tag < 2 ^ 64
forward_state m lps lp now p s words fits =
    let small : p.tag % 2 ^ 32 < 2 ^ 64 = omega arith in
    xor_lt 64 (rotate_left w64 s 8) (p.tag % 2 ^ 32) (left_lt s fits) small

pub undoes : (m : Hop) (lps lp now : ℕ) (p : Token) (s : ℕ) (words : ℕ → ℕ) → s < 2 ^ 64 → hop_reverse p (mixed s p.tag) ≡ s
undoes m lps lp now p s words fits =
    ap (λ (x : ℕ). rotate_right w64 x 8) (xor-xor (rotate_left w64 s 8) (p.tag % 2 ^ 32)) ∙ right-left s fits
