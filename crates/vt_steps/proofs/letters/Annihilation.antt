-- A message and its anti-message leave nothing.
use Rattle.std.proofs.Common.{◌≡◌, refl, true, false, cond, List, [], ◌∷◌, ◌∙◌, ap, Some, None}
use Rattle.std.specs.List.{find, list_any}
use Rattle.std.proofs.lemmas.Bool.{or_parts}
use Rattle.vt_key.specs.promise.Order.{rank_before}
use Rattle.vt_key.specs.promise.Queues.{has_stamp, insert_letter, without_first}
use Rattle.vt_key.specs.declared.order.Stamp.{Stamp}
use Rattle.vt_key.specs.declared.letter.Event.{Event}
use Rattle.vt_key.specs.declared.letter.Letter.{Letter}
use Rattle.vt_key.specs.declared.letter.Sign.{Sign}
use Rattle.vt_key.specs.declared.letter.Sign.TheVariants.{Plus, Minus}
use Rattle.vt_steps.specs.promise.Letters.{signed}
use Rattle.vt_steps.specs.promise.World.{LogicalProcess, entry_rank}
use Rattle.vt_steps.specs.promise.ProcessSteps.{ProcessEffect, holds, are_opposite, with_letter, accept_process, cancel_process}
use Rattle.vt_steps.specs.inside.Laws.{IsFreeOf, unchanged, Annihilate}
use Rattle.vt_key.proofs.OrderLemmas.{same-stamp_same, same-key_same}
use Rattle.vt_steps.proofs.steps.Changes.{unless_has}

module _ {P : Type 0} (stamp : Stamp) where
  -- a letter put among letters of other stamps is the one that is found
  find-inserted : (letter : Letter P) (xs : List (Letter P)) → has_stamp stamp letter ≡ true → list_any (has_stamp stamp) xs ≡ false →
      find (has_stamp stamp) (insert_letter letter xs) ≡ Some letter
  find-inserted letter [] own free = ap (λ b. cond b (Some letter) None) own
  find-inserted letter (x ∷ xs) own free =
      let other = or_parts (has_stamp stamp x) (list_any (has_stamp stamp) xs) free in
      elim (rank_before letter.event.rank x.event.rank) as (λ b. find (has_stamp stamp) (cond b (letter ∷ x ∷ xs) (x ∷ insert_letter letter xs)) ≡ Some letter) [
        | true ↦ ap (λ b. cond b (Some letter) (find (has_stamp stamp) (x ∷ xs))) own
        | false ↦ ap (λ b. cond b (Some x) (find (has_stamp stamp) (insert_letter letter xs))) other.0 ∙ find-inserted letter xs own other.1
      ]

  -- and taken out again it leaves them as they were
  without-inserted : (letter : Letter P) (xs : List (Letter P)) → has_stamp stamp letter ≡ true → list_any (has_stamp stamp) xs ≡ false →
      without_first (has_stamp stamp) (insert_letter letter xs) ≡ xs
  without-inserted letter [] own free = ap (λ b. cond b [] (letter ∷ [])) own
  without-inserted letter (x ∷ xs) own free =
      let other = or_parts (has_stamp stamp x) (list_any (has_stamp stamp) xs) free in
      elim (rank_before letter.event.rank x.event.rank) as (λ b. without_first (has_stamp stamp) (cond b (letter ∷ x ∷ xs) (x ∷ insert_letter letter xs)) ≡ x ∷ xs) [
        | true ↦ ap (λ b. cond b (x ∷ xs) (letter ∷ without_first (has_stamp stamp) (x ∷ xs))) own
        | false ↦
            ap (λ b. cond b (insert_letter letter xs) (x ∷ without_first (has_stamp stamp) (insert_letter letter xs))) other.0
            ∙ ap (λ ys. x ∷ ys) (without-inserted letter xs own other.1)
      ]

module _ {P : Type 0} (event : Event P) (process : LogicalProcess P) (free : IsFreeOf event.rank.stamp process) where
  -- the process with both letters
  with_both : LogicalProcess P
  with_both = record process {
    pending = insert_letter (signed Plus event) process.pending;
    waiting = insert_letter (signed Minus event) process.waiting;
  }

  cancel-both : cancel_process event.rank.stamp with_both ≡ Some (unchanged process)
  unfolding cancel_process with_both
  cancel-both =
      let stamp = event.rank.stamp in
      let waits = find-inserted stamp (signed Minus event) process.waiting (same-stamp_same stamp) free.waiting in
      let pends = find-inserted stamp (signed Plus event) process.pending (same-stamp_same stamp) free.pending in
      let opposite = ap (λ o. are_opposite o (find (has_stamp stamp) with_both.pending)) waits ∙ ap (λ o. are_opposite (Some (signed Minus event)) o) pends ∙ same-key_same event.rank.key in
      ap (λ b. cond b (Some (record {
        process = record process { pending = without_first (has_stamp stamp) with_both.pending; waiting = without_first (has_stamp stamp) with_both.waiting };
        letters = [];
        serials = 0;
      })) None) opposite
      ∙ ap (λ (xs : List (Letter P)). Some (unchanged (record process { pending = xs; waiting = without_first (has_stamp stamp) with_both.waiting })))
      (without-inserted stamp (signed Plus event) process.pending (same-stamp_same stamp) free.pending)
      ∙ ap (λ (xs : List (Letter P)). Some (unchanged (record process { waiting = xs })))
      (without-inserted stamp (signed Minus event) process.waiting (same-stamp_same stamp) free.waiting)

  -- whichever of the two came first
  either_first : (first second : Sign) → with_letter (with_letter process first (signed first event)) second (signed second event) ≡ with_both →
      (with_one both : ProcessEffect P) → accept_process (signed first event) process ≡ Some with_one → accept_process (signed second event) with_one.process ≡ Some both →
      cancel_process event.rank.stamp both.process ≡ Some (unchanged process)
  unfolding accept_process
  either_first first second together with_one both came followed =
      let one = unless_has (holds entry_rank process.pending process.waiting process.past first event.rank) _ with_one came in
      let two = unless_has (holds entry_rank with_one.process.pending with_one.process.waiting with_one.process.past second event.rank) _ both followed in
      let is : both.process ≡ with_both = ap (λ e. e.process) two.1 ∙ ap (λ (e : ProcessEffect P). with_letter e.process second (signed second event)) one.1 ∙ together in
      ap (λ q. cancel_process event.rank.stamp q) is ∙ cancel-both

pub annihilate : {P : Type 0} (event : Event P) (process : LogicalProcess P) → IsFreeOf event.rank.stamp process → Annihilate event process
unfolding with_both
annihilate event process free = record { message_first = either_first event process free Plus Minus refl; anti_message_first = either_first event process free Minus Plus refl }
