-- How many letters Home and Undo may still send home: Undo lowers it.
use Rattle.std.proofs.Common.{◌≡◌, ◌⊎◌, ℕ, ◌<◌, ap, arith, inl, inr, Some, None}
use Rattle.std.specs.List.{last_or}
use Rattle.std.proofs.lemmas.List.{length-append}
use Rattle.vt_key.specs.declared.order.Rank.{Rank}
use Rattle.vt_model.specs.promise.Handler.{Handlers}
use Rattle.vt_model.specs.promise.Simulation.{Triple}
use Rattle.vt_past.specs.declared.event.PastEvent.{PastEvent}
use Rattle.vt_pool.specs.inside.View.{past_at}
use Rattle.vt_pool.specs.inside.Share.{HeldPool}
use Rattle.vt_pool.specs.inside.Pool.{HasCancelled, pool_after_undo, weight_of}
use Rattle.vt_pool.proofs.KeptLemmas.{nodes-less}

-- Undo lowers it
pub undone-weight : {S P K : Type 0} (handlers : Handlers S P K) (i : ℕ) (event : PastEvent P K) (triple : Triple S) (pool : HeldPool S P K) → last_or None (past_at i pool.stock.past) ≡ Some event
    → weight_of (pool_after_undo handlers i event triple pool) < weight_of pool
undone-weight handlers i event triple pool last =
    let sent = length-append pool.outbox event.undo_entry.anti_messages in
    let nodes = nodes-less i event pool.stock.past last in
    omega (arith, sent, nodes)

-- Cancel leaves it
pub cancelled-weight : {S P K : Type 0} (old new : HeldPool S P K) (rank : Rank) (dest : ℕ) → (new ≡ old) ⊎ HasCancelled rank dest old new → weight_of new ≡ weight_of old
cancelled-weight old new rank dest done = elim done [
  | inl same ↦ ap weight_of same
  | inr x ↦ ap weight_of x.left
]
