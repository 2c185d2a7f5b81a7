-- The laws of `Phold`.
use Rattle.std.proofs.Common.{◌≡◌, ℕ, suc, if◌then◌else◌, ◌^◌, ◌<◌, [], ◌∷◌, ◌++◌, map, true, false, refl, ap, ◌∙◌, arith}
use Rattle.std.proofs.lemmas.List.Elements.{All-map}
use Rattle.std.proofs.lemmas.List.{map-append}
use Rattle.std.proofs.lemmas.List.FromFn.{length-map-range_with_len}
use Rattle.std.specs.List.{range_with_len}
use Rattle.vt_model.specs.inside.Handler.{IsSendable, AreWords}
use Rattle.vt_model.specs.inside.Within.{AreFew, IsStartWithin, IsEventWithin, one_few, few_within}
use Rattle.vt_model.proofs.RunLemmas.{range-next}
use Rattle.vt_model.specs.promise.Counts.{one_more, one_fewer}
use Rattle.vt_model.specs.inside.Counts.{fewer-more}
use Rattle.vt_models.specs.declared.phold.Phold.{Phold}
use Rattle.vt_stream.specs.promise.Drawn.{scaled}
use Rattle.vt_stream.specs.inside.DrawnLaws.{scaled_below}
use Rattle.vt_models.specs.promise.Phold.{scheduled, first_events, phold_start, phold_forward, forward_remote, forward_local, is_remote}

scheduled_ok : (m : Phold) (lps now dest w : ℕ) → dest < lps → IsSendable lps now (scheduled m dest w)
scheduled_ok m lps now dest w known = record { known = known; some_priority = omega arith; later = omega (arith, m.some_lookahead) }

-- one scheduled more
pub first_events-suc : (m : Phold) (lp : ℕ) (words : ℕ → ℕ) (n : ℕ) → first_events m lp words (suc n) ≡ first_events m lp words n ++ scheduled m lp (words n) ∷ []
first_events-suc m lp words n = ap (map (λ (i : ℕ). scheduled m lp (words i))) (range-next n) ∙ map-append (λ (i : ℕ). scheduled m lp (words i)) (range_with_len 0 n) (n ∷ [])

pub first_events_few : (m : Phold) (lps now lp : ℕ) (words : ℕ → ℕ) (n : ℕ) → lp < lps → AreFew lps now n (first_events m lp words n)
first_events_few m lps now lp words n known = record {
  few = omega (arith, length-map-range_with_len (λ (i : ℕ). scheduled m lp (words i)) 0 n);
  sendable = All-map (IsSendable lps now) (λ (i : ℕ). scheduled m lp (words i)) (range_with_len 0 n) (λ k d at. scheduled_ok m lps now lp _ known);
}

pub start_within : (m : Phold) (lps lp : ℕ) (words : ℕ → ℕ) → lp < lps → AreWords words → IsStartWithin lps (phold_start m lp words)
start_within m lps lp words known w =
    let sends = first_events_few m lps 0 lp words m.population known in
    record { few_words = omega (arith, m.few_events); few_sends = omega (arith, m.few_events, sends.few); few_records = omega arith; sendable = sends.sendable }

pub forward_within : (m : Phold) (lps lp now : ℕ) (p : Unit {0}) (s : ℕ) (words : ℕ → ℕ) → lp < lps → AreWords words → IsEventWithin lps now (phold_forward m lps lp s words)
forward_within m lps lp now p s words known w =
    elim (is_remote m (words 0)) as (λ b. IsEventWithin lps now (if b then forward_remote m lps s words else forward_local m lp s words)) [
      | true ↦ few_within (one_few (scheduled_ok m lps now (scaled (words 1) lps) (words 2) (scaled_below (words 1) lps (w 1) (omega arith))) (omega arith)) (omega arith) (omega arith)
      | false ↦ few_within (one_few (scheduled_ok m lps now lp (words 1) known) (omega arith)) (omega arith) (omega arith)
    ]

-- wherever the next event goes, this one is counted
counts_one : (m : Phold) (lps lp s : ℕ) (words : ℕ → ℕ) → (phold_forward m lps lp s words).state ≡ one_more s
counts_one m lps lp s words =
    elim (is_remote m (words 0)) as (λ b. (if b then forward_remote m lps s words else forward_local m lp s words).state ≡ one_more s)
    [ true ↦ refl | false ↦ refl ]

pub forward_state : (m : Phold) (lps lp now : ℕ) (p : Unit {0}) (s : ℕ) (words : ℕ → ℕ) → s < 2 ^ 64 → (phold_forward m lps lp s words).state < 2 ^ 64
forward_state m lps lp now p s words fits = omega (arith, counts_one m lps lp s words)

pub undoes : (m : Phold) (lps lp now : ℕ) (p : Unit {0}) (s : ℕ) (words : ℕ → ℕ) → s < 2 ^ 64 → one_fewer (phold_forward m lps lp s words).state ≡ s
undoes m lps lp now p s words fits = ap one_fewer (counts_one m lps lp s words) ∙ fewer-more s fits
