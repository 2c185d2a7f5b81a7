-- A walk that goes on while the next item fails a test.
use Rattle.std.proofs.Common.{Bool, true, false, not, if◌then◌else◌, ◌≡◌, refl, sym, ap, ◌∙◌, arith}
use Rattle.std.specs.Prelude.{◌<◌, List, [], ◌∷◌, ◌++◌, length, slice_get}
use Rattle.std.proofs.lemmas.List.{append-nil, append_assoc}
use Rattle.vt_nodes.specs.inside.First.{before_first, from_first, item_fails}
use Rattle.vt_nodes.specs.inside.Linked.{advanced}
use Rattle.vt_nodes.specs.inside.Lines.{first_item, begins_with}

-- a position among all items that the walk comes to
pub record IsReached {X : Type 0} (test : X → Bool) (all : List X) (at : List X × List X) : Type 0 where
  pub before : before_first test all ≡ at.0 ++ before_first test at.1
  pub from : from_first test all ≡ from_first test at.1
  pub whole : all ≡ at.0 ++ at.1

-- where the next item fails, the walk comes to the position behind it
pub further : {X : Type 0} (test : X → Bool) (all : List X) (at : List X × List X) → item_fails test (slice_get at.1 0) ≡ true → IsReached test all at → IsReached test all (advanced at) × (length (advanced at).1 < length at.1)
further test all (passed, []) fails reached = absurd (let h : false ≡ true = fails in cc)
further test all (passed, x ∷ ahead) fails reached = elim (test x) as (λ b. not b ≡ true → test x ≡ b → IsReached test all (passed ++ x ∷ [], ahead) × (length ahead < length (x ∷ ahead))) [
  | true ↦ λ h is. absurd (let k : false ≡ true = h in cc)
  | false ↦ λ h is. (
    record {
      before = reached.before ∙ ap (λ b. passed ++ (if b then [] else x ∷ before_first test ahead)) is ∙ sym (append_assoc passed (x ∷ []) (before_first test ahead));
      from = reached.from ∙ ap (λ b. if b then x ∷ ahead else from_first test ahead) is;
      whole = reached.whole ∙ sym (append_assoc passed (x ∷ []) ahead);
    },
    omega arith,
  )
] fails refl

-- where it doesn't fail, the walk has parted the items
pub parted : {X : Type 0} (test : X → Bool) (all : List X) (at : List X × List X) → item_fails test (slice_get at.1 0) ≡ false → IsReached test all at → (at.0 ≡ before_first test all) × (at.1 ≡ from_first test all)
parted test all (passed, []) stops reached = (sym (reached.before ∙ append-nil passed), sym reached.from)
parted test all (passed, x ∷ ahead) stops reached = elim (test x) as (λ b. not b ≡ false → test x ≡ b → (passed ≡ before_first test all) × (x ∷ ahead ≡ from_first test all)) [
  | true ↦ λ h is. (
    sym (reached.before ∙ ap (λ b. passed ++ (if b then [] else x ∷ before_first test ahead)) is ∙ append-nil passed),
    sym (reached.from ∙ ap (λ b. if b then x ∷ ahead else from_first test ahead) is),
  )
  | false ↦ λ h is. absurd (let k : true ≡ false = h in cc)
] stops refl

-- a list fails where its first item does
pub first-fails : {X : Type 0} (test : X → Bool) (lines : List (List X)) → item_fails test (first_item lines) ≡ item_fails (begins_with test) (slice_get lines 0)
first-fails test [] = refl
first-fails test ([] ∷ lines) = refl
first-fails test ((x ∷ xs) ∷ lines) = refl
