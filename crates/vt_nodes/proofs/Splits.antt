-- A list parted at an index.
use Rattle.std.proofs.Common.{◌≡◌, refl, sym, ap, ◌∙◌, arith}
use Rattle.std.specs.Prelude.{ℕ, zero, suc, ◌+◌, ◌≤◌, List, [], ◌∷◌, length, take, drop}
use Rattle.std.proofs.lemmas.List.{take_all, drop_all, length-drop}
use Rattle.vt_nodes.specs.inside.Linked.{advanced}

module _ {X : Type 0} where
  advanced-more : (x : X) (passed ahead : List X) → advanced (x ∷ passed, ahead) ≡ (x ∷ (advanced (passed, ahead)).0, (advanced (passed, ahead)).1)
  advanced-more x passed [] = refl
  advanced-more x passed (y ∷ ahead) = refl

  advanced-suc : (n : ℕ) (all : List X) → advanced (take n all, drop n all) ≡ (take (suc n) all, drop (suc n) all)
  advanced-suc zero [] = refl
  advanced-suc zero (x ∷ all) = refl
  advanced-suc (suc n) [] = refl
  advanced-suc (suc n) (x ∷ all) = advanced-more x (take n all) (drop n all) ∙ ap (λ c. (x ∷ c.0, c.1)) (advanced-suc n all)

  -- a position at index n, one item further
  pub advanced-at : (n : ℕ) (all : List X) (c : List X × List X) → c.0 ≡ take n all → c.1 ≡ drop n all → advanced c ≡ (take (n + 1) all, drop (n + 1) all)
  advanced-at n all c e f =
      let next : suc n ≡ n + 1 = omega arith in
      ap advanced (λ i. (e i, f i)) ∙ advanced-suc n all ∙ ap (λ k. (take k all, drop k all)) next

  -- past the end, every index parts a list in the same way
  pub parted-past : (k n : ℕ) (all : List X) → drop k all ≡ [] → k ≤ n → (take k all ≡ take n all) × (drop k all ≡ drop n all)
  parted-past k n all none less =
      let short : length all ≤ k = omega (arith, length-drop k all, ap length none) in
      (take_all k all short ∙ sym (take_all n all (omega arith)), none ∙ sym (drop_all n all (omega arith)))
