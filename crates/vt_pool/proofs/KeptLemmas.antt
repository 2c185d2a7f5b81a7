-- What else a worker keeps to: how many nodes its past events need, and from which serial on no message of a worker is held.
use Rattle.std.proofs.Common.{◌≡◌, ◌∙◌, ℕ, ◌+◌, ◌<◌, ◌≤◌, List, [], ◌∷◌, ◌++◌, length, sym, ap, subst, arith, inl, inr, Some, None, IfSome, slice_get, slice_set}
use Rattle.std.specs.List.{last_or, sum_by}
use Rattle.std.proofs.lemmas.Bool.Decides.{eqb_tells}
use Rattle.std.proofs.lemmas.List.Sums.{sum_by-append, sum_by-cons}
use Rattle.vt_key.specs.declared.order.Stamp.{Stamp}
use Rattle.vt_past.specs.declared.event.PastEvent.{PastEvent}
use Rattle.vt_steps.proofs.lists.Indices.{get-put_same, get-put_other}
use Rattle.vt_pool.specs.inside.View.{Placed, past_at, without_last_at}
use Rattle.vt_pool.specs.inside.Inside.{IsHeard, nodes_of}
use Rattle.vt_pool.proofs.InsideLemmas.{last-there}

-- ---- nodes

module _ {P K : Type 0} where
  -- an event more
  pub nodes-more : (i : ℕ) (event : PastEvent P K) (es : List (Placed P K)) → sum_by nodes_of (es ++ record { index = i; event = event } ∷ []) ≡ sum_by nodes_of es + (1 + length event.undo_entry.anti_messages)
  nodes-more i event es =
      let e : Placed P K = record { index = i; event = event } in
      let both : sum_by nodes_of (es ++ e ∷ []) ≡ sum_by nodes_of es + sum_by nodes_of (e ∷ []) = sum_by-append nodes_of es (e ∷ []) in
      let one = sum_by-cons nodes_of e [] in
      omega (arith, both, one)

  -- an event less
  pub nodes-less : (i : ℕ) (event : PastEvent P K) (es : List (Placed P K)) → last_or None (past_at i es) ≡ Some event
      → sum_by nodes_of es ≡ sum_by nodes_of (without_last_at i es) + (1 + length event.undo_entry.anti_messages)
  nodes-less i event es last =
      let e : Placed P K = record { index = i; event = event } in
      let t = last-there i event es last in
      let whole : sum_by nodes_of es ≡ sum_by nodes_of t.front + sum_by nodes_of (e ∷ t.back) = ap (sum_by nodes_of) t.whole ∙ sum_by-append nodes_of t.front (e ∷ t.back) in
      let left : sum_by nodes_of (without_last_at i es) ≡ sum_by nodes_of t.front + sum_by nodes_of t.back = ap (sum_by nodes_of) t.left ∙ sum_by-append nodes_of t.front t.back in
      let here = sum_by-cons nodes_of e t.back in
      omega (arith, whole, left, here)

-- ---- serials

-- a stamp of a greater serial than was noted is that of no message that is held
pub not-heard : (heard : List ℕ) (stamp other : Stamp) (most : ℕ) → slice_get heard stamp.worker ≡ Some most → most < stamp.serial → IsHeard heard other → stamp ≡ other → ⊥
not-heard heard stamp other most at late before same =
    let here : IsHeard heard stamp = subst (IsHeard heard) (sym same) before in
    let less : stamp.serial ≤ most = subst (λ o. IfSome o (λ n. stamp.serial ≤ n)) at here in
    omega (arith, less, late)

-- once it is noted, it is heard
pub now-heard : (heard : List ℕ) (stamp : Stamp) (most next : ℕ) → slice_get heard stamp.worker ≡ Some most → stamp.serial ≤ next → IsHeard (slice_set heard stamp.worker next) stamp
now-heard heard stamp most next at less = subst (λ o. IfSome o (λ n. stamp.serial ≤ n)) (sym (get-put_same heard stamp.worker most next at)) less

-- and what was heard still is
pub still-heard : (heard : List ℕ) (worker most next : ℕ) (stamp : Stamp) → slice_get heard worker ≡ Some most → most ≤ next → IsHeard heard stamp → IsHeard (slice_set heard worker next) stamp
still-heard heard worker most next stamp at more before =
    elim (eqb_tells stamp.worker worker) [
      | inl e ↦
          let was : stamp.serial ≤ most = subst (λ o. IfSome o (λ n. stamp.serial ≤ n)) (ap (slice_get heard) e.1 ∙ at) before in
          subst (λ o. IfSome o (λ n. stamp.serial ≤ n)) (sym (ap (slice_get (slice_set heard worker next)) e.1 ∙ get-put_same heard worker most next at)) (omega (arith, was, more))
      | inr e ↦ subst (λ o. IfSome o (λ n. stamp.serial ≤ n)) (sym (get-put_other heard worker stamp.worker next e.1)) before
    ]
