-- Events that aren't before a letter are undone one by one.
use Rattle.std.proofs.Common.{◌≡◌, ◌∙◌, ◌⊎◌, ℕ, ◌<◌, Bool, true, false, not, List, ◌∷◌, length, refl, sym, ap, subst, arith, inl, inr, Option, Some, None, slice_get}
use Rattle.std.specs.List.{last_or}
use Rattle.std.specs.Option.{option_map_or}
use Rattle.std.proofs.lemmas.List.{length-append}
use Rattle.vt_key.specs.promise.Order.{rank_before}
use Rattle.vt_key.specs.inside.Order.{RankBefore}
use Rattle.vt_key.specs.promise.Queues.{insert_letter, letter_rank}
use Rattle.vt_key.specs.promise.Lists.{Among}
use Rattle.vt_key.specs.declared.order.Rank.{Rank}
use Rattle.vt_key.specs.declared.letter.Letter.{Letter}
use Rattle.vt_key.proofs.ListLemmas.{every-among, among-insert_ordered}
use Rattle.vt_key.proofs.OrderLemmas.{rank-total, before-rank_before, rank_before-true}
use Rattle.vt_model.specs.promise.Handler.{Handlers}
use Rattle.vt_model.specs.promise.Simulation.{Triple}
use Rattle.vt_steps.specs.declared.step.Step.TheVariants.{Undo}
use Rattle.vt_past.specs.declared.event.PastEvent.{PastEvent}
use Rattle.vt_lp.specs.inside.Past.{must_undo_last}
use Rattle.vt_lp.specs.inside.Held.{way_back}
use Rattle.vt_pool.specs.inside.View.{Placed, past_at, without_last_at, letters_to, number_at}
use Rattle.vt_pool.specs.inside.Inside.{IsWorkersEvent, IsStampedApart, IsStockInside}
use Rattle.vt_pool.specs.inside.Share.{HeldShare, HeldPool, with_pool, seen, PoolLeadsTo}
use Rattle.vt_pool.specs.inside.Pool.{pool_after_undo, with_waiting}
use Rattle.vt_pool.proofs.LeadLemmas.{leads-nothing, leads-step, leads-both}
use Rattle.vt_pool.proofs.StepLemmas.{undo-done}
use Rattle.vt_pool.proofs.GuardLemmas.{forced-by_message, forced-by_anti_message}
use Rattle.vt_pool.proofs.InsideLemmas.{last-there, every-last_there}

module _ {S P K : Type 0} (handlers : Handlers S P K) where
  -- nothing is done
  pub pool-nothing : (pool : HeldPool S P K) → PoolLeadsTo handlers pool pool
  pool-nothing pool rest = leads-nothing handlers (seen (with_pool rest pool))

  pub pool-both : (old mid new : HeldPool S P K) → PoolLeadsTo handlers old mid → PoolLeadsTo handlers mid new → PoolLeadsTo handlers old new
  pool-both old mid new first second rest = leads-both handlers (seen (with_pool rest old)) (seen (with_pool rest mid)) (seen (with_pool rest new)) (first rest) (second rest)

-- what a last past event that isn't before a rank is
pub ends-with : {P K : Type 0} (rank : Rank) (o : Option (PastEvent P K)) → option_map_or (λ (e : PastEvent P K). not (rank_before e.letter.event.rank rank)) o false ≡ true
    → (e : PastEvent P K) × (o ≡ Some e) × (rank_before e.letter.event.rank rank ≡ false)
ends-with rank None is = absurd (let k : false ≡ true = is in cc)
ends-with rank (Some e) is = (e, refl, turned (rank_before e.letter.event.rank rank) is)
  where
    turned : (b : Bool) → not b ≡ true → b ≡ false
    turned true h = absurd (let k : false ≡ true = h in cc)
    turned false h = refl

-- and one that is
pub ends-before : {P K : Type 0} (rank : Rank) (o : Option (PastEvent P K)) → option_map_or (λ (e : PastEvent P K). not (rank_before e.letter.event.rank rank)) o false ≡ false
    → (e : PastEvent P K) → o ≡ Some e → RankBefore e.letter.event.rank rank
ends-before rank None is e at = absurd (let k : None ≡ Some e = at in cc)
ends-before rank (Some d) is e at =
    let k : Some d ≡ Some e = at in
    let same : d ≡ e = cc in
    subst (λ (x : PastEvent _ _). RankBefore x.letter.event.rank rank) same (rank_before-true d.letter.event.rank rank (turned (rank_before d.letter.event.rank rank) is))
  where
    turned : (b : Bool) → not b ≡ false → b ≡ true
    turned true h = refl
    turned false h = absurd (let k : true ≡ false = h in cc)

module _ {S P K : Type 0} (handlers : Handlers S P K) (pool : HeldPool S P K) (known : pool.worker < pool.config.workers) (inside : IsStockInside pool.config pool.worker pool.stock)
    (letter : Letter P) (waits : List (Letter P)) (index : ℕ) (dest : letter.event.dest ≡ number_at pool.config pool.worker index) (forces : Among letter pool.stock.pending ⊎ Among letter waits) where
  -- an event that isn't before the letter has to be undone
  forced : (event : PastEvent P K) → last_or None (past_at index pool.stock.past) ≡ Some event → rank_before event.letter.event.rank (letter_rank letter) ≡ false
      → must_undo_last (letters_to (number_at pool.config pool.worker index) pool.stock.pending) (letters_to (number_at pool.config pool.worker index) waits) (Some event) ≡ true
  forced event last late = elim forces [
    | inl pends ↦
        let apart : IsStampedApart pool.stock.pending (record { index = index; event = event }) =
        every-last_there index event pool.stock.past (last-there index event pool.stock.past last) (IsStampedApart pool.stock.pending) inside.apart in
        let other = every-among _ pool.stock.pending letter apart pends in
        let before : RankBefore (letter_rank letter) event.letter.event.rank = elim (rank-total (letter_rank letter) event.letter.event.rank) [
          | inl h ↦ h
          | inr h ↦ elim h [
            | inl e ↦ absurd (other (ap (λ (r : Rank). r.stamp) e))
            | inr k ↦ absurd (let e : true ≡ false = sym (before-rank_before event.letter.event.rank (letter_rank letter) k) ∙ late in cc)
          ]
        ] in
        forced-by_message (number_at pool.config pool.worker index) event pool.stock.pending waits letter pends dest before
    | inr waiting ↦ forced-by_anti_message (number_at pool.config pool.worker index) event pool.stock.pending waits letter waiting dest late
  ]

  -- its undo is a step
  pub undo-forced : (triple : Triple S) (event : PastEvent P K) → slice_get pool.stock.triples index ≡ Some triple → last_or None (past_at index pool.stock.past) ≡ Some event
      → rank_before event.letter.event.rank (letter_rank letter) ≡ false → PoolLeadsTo handlers (with_waiting waits pool) (with_waiting waits (pool_after_undo handlers index event triple pool))
  undo-forced triple event at last late rest =
      let old : HeldShare S P K = with_pool rest (with_waiting waits pool) in
      let new : HeldShare S P K = with_pool rest (with_waiting waits (pool_after_undo handlers index event triple pool)) in
      let mine = every-last_there index event pool.stock.past (last-there index event pool.stock.past last) (IsWorkersEvent pool.config pool.worker) inside.own_past in
      leads-step handlers (seen old) (seen new) (Undo (number_at pool.config pool.worker index)) refl refl
      (λ part s. undo-done handlers (seen old) old.stock refl known part s index triple (way_back handlers (number_at pool.config pool.worker index) event triple) event new.outbox
      mine.known at last mine.own inside.pending_rises (forced event last late) refl refl)

-- the letter is still pending
pub still-pending : {P : Type 0} (letter other : Letter P) (letters : List (Letter P)) → Among letter letters → Among letter (insert_letter other letters)
still-pending letter other letters among = among-insert_ordered (λ (a b : Letter _). rank_before (letter_rank a) (letter_rank b)) other letters letter (inr among)

-- without the last past event of a process there are fewer
pub fewer-past : {P K : Type 0} (i : ℕ) (event : PastEvent P K) (es : List (Placed P K)) → last_or None (past_at i es) ≡ Some event → length (without_last_at i es) < length es
fewer-past i event es last =
    let t = last-there i event es last in
    let whole = ap length t.whole ∙ length-append t.front (record { index = i; event = event } ∷ t.back) in
    let left = ap length t.left ∙ length-append t.front t.back in
    omega (arith, whole, left)
