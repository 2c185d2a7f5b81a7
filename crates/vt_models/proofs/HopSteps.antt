-- Steps of `Hop`'s handlers.
use Rattle.std.proofs.Common.{◌≡◌, ℕ, [], ◌∷◌, Bool, false, nat_eq, ap, arith, if◌then◌else◌}
use Rattle.vt_models.specs.declared.hop.Hop.{Hop}
use Rattle.vt_models.specs.declared.hop.Token.{Token}
use Rattle.vt_models.specs.promise.Hop.{risen, onward, next_hop}

-- a token with hops left goes on
pub next_hop_more : (m : Hop) (lps lp now : ℕ) (p : Token) → (p.left ≡ 0 → ⊥) → next_hop m lps lp now p ≡ onward m lps lp p (risen m now) ∷ []
next_hop_more m lps lp now p more =
    let e : nat_eq p.left 0 ≡ false = search (arith) in
    ap (λ (b : Bool). (if b then [] else (onward m lps lp p (risen m now) ∷ []))) e
