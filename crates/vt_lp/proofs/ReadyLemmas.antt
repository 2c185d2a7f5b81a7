-- What the rank of the last past event tells: whether it has to be undone, and which past events a rank can have.
use Rattle.std.proofs.Common.{◌≡◌, true, false, ◌||◌, List, [], ◌∷◌, Option, Some, None, refl, ◌∙◌, ap}
use Rattle.std.specs.List.{last_or, list_any}
use Rattle.vt_steps.specs.promise.ProcessSteps.{must_undo}
use Rattle.vt_key.specs.promise.Order.{rank_same}
use Rattle.vt_key.specs.inside.Order.{RankBefore}
use Rattle.vt_key.specs.declared.order.Rank.{Rank}
use Rattle.vt_key.specs.declared.letter.Letter.{Letter}
use Rattle.vt_key.proofs.OrderLemmas.{rank-transitive, rank_before-true}
use Rattle.vt_past.specs.declared.event.PastEvent.{PastEvent}
use Rattle.vt_past.specs.inside.Events.{rank_of_last, last_rank}
use Rattle.vt_lp.specs.inside.Guards.{may_come_after}
use Rattle.vt_lp.specs.inside.Held.{IsRisingPast}
use Rattle.vt_lp.specs.inside.Past.{must_undo_last}
use Rattle.vt_pending.proofs.Holding.{before-differs}

module _ {P K : Type 0} where
  -- whether the last past event has to be undone, by its rank
  undo-by : (pending waiting : List (Letter P)) (last : Option (PastEvent P K)) (rank : Rank) → Some rank ≡ rank_of_last last → must_undo_last pending waiting last ≡ must_undo pending waiting rank
  undo-by pending waiting None rank is = absurd (let e : Some rank ≡ None = is in cc)
  undo-by pending waiting (Some last) rank is = let same : last.letter.event.rank ≡ rank = cc in ap (must_undo pending waiting) same

  undo-none : (pending waiting : List (Letter P)) (last : Option (PastEvent P K)) → None ≡ rank_of_last last → must_undo_last pending waiting last ≡ false
  undo-none pending waiting None is = refl
  undo-none pending waiting (Some last) is = absurd (let e : None ≡ Some last.letter.event.rank = is in cc)

  pub undo-told : (pending waiting : List (Letter P)) (past : List (PastEvent P K)) (rank : Rank) → Some rank ≡ last_rank past → must_undo_last pending waiting (last_or None past) ≡ must_undo pending waiting rank
  undo-told pending waiting past rank is = undo-by pending waiting (last_or None past) rank is

  pub undo-nobody : (pending waiting : List (Letter P)) (past : List (PastEvent P K)) → None ≡ last_rank past → must_undo_last pending waiting (last_or None past) ≡ false
  undo-nobody pending waiting past is = undo-none pending waiting (last_or None past) is

  -- ---- events before a rank

  -- where the last of rising events may be followed by a rank, none has it
  pub none-is : (rank : Rank) (past : List (PastEvent P K)) → IsRisingPast past → may_come_after (last_or None past) rank ≡ true → list_any (λ e. rank_same e.letter.event.rank rank) past ≡ false
  none-is rank [] rises after = refl
  none-is rank (e ∷ []) rises after = ap (λ b. b || false) (before-differs e.letter.event.rank rank (rank_before-true e.letter.event.rank rank after))
  none-is rank (e ∷ d ∷ ds) rises after =
      ap (λ b. b || list_any (λ (x : PastEvent P K). rank_same x.letter.event.rank rank) (d ∷ ds)) (before-differs e.letter.event.rank rank (all-before rank e d ds rises.0.0 rises.1 after))
      ∙ none-is rank (d ∷ ds) rises.1 after
    where
      all-before : (rank : Rank) (e d : PastEvent P K) (ds : List (PastEvent P K)) → RankBefore e.letter.event.rank d.letter.event.rank → IsRisingPast (d ∷ ds) →
          may_come_after (last_or (Some d) ds) rank ≡ true → RankBefore e.letter.event.rank rank
      all-before rank e d [] before rises after = rank-transitive e.letter.event.rank d.letter.event.rank rank before (rank_before-true d.letter.event.rank rank after)
      all-before rank e d (c ∷ cs) before rises after =
          rank-transitive e.letter.event.rank d.letter.event.rank rank before (all-before rank d c cs rises.0.0 rises.1 after)
