-- A commit, on what a log has: its rows, and what is left of it.
use Rattle.std.proofs.Common.{◌≡◌, ◌∙◌, ℕ, Bool, true, false, not, if◌then◌else◌, List, [], ◌∷◌, ◌++◌, map, refl, sym, ap, arith}
use Rattle.std.specs.List.{filter, flat_map}
use Rattle.std.proofs.lemmas.Bool.{eqb-true}
use Rattle.std.proofs.lemmas.List.Filters.{sum_by-filter_both}
use Rattle.vt_key.specs.promise.Times.{Time, TimeAtMost}
use Rattle.vt_key.specs.inside.Order.{RankBefore}
use Rattle.vt_key.proofs.ListLemmas.{every-filter, every-weaker, rising-filter, rising-unmap, rising-weaker, filter-among}
use Rattle.vt_model.specs.declared.rows.Row.{Row}
use Rattle.vt_model.specs.declared.settings.Config.{Config}
use Rattle.vt_steps.proofs.letters.RankTimes.{rank-order-time}
use Rattle.vt_stream.specs.inside.Words.{Stream}
use Rattle.vt_outbox.specs.inside.Outbox.{HeldOutbox}
use Rattle.vt_logs.specs.inside.Events.{Logged, is_of, is_below, is_above, events_of, event_rows, rows_below, time_of, AreInOrder}
use Rattle.vt_pool.specs.inside.View.{Placed, Stock}
use Rattle.vt_pool.specs.inside.Inside.{AreRisingPasts, AreSettled, ComesAfter, IsHeard, IsStampedApart, IsWorkersEvent, nodes_of, placed_rank, IsStockInside, IsPoolInside}
use Rattle.vt_pool.specs.inside.Forgotten.{is_placed_ripe, unripe_placed, placed_rows, rows_of_placed, forgotten_in}
use Rattle.vt_pool.specs.inside.Logged.{placed}

-- ---- what a log has

module _ {P K : Type 0} (w : ℕ) where
  module _ (floor : Time) where
    -- what isn't before a floor
    pub placed-above : (es : List (Logged P K)) → map (placed w) (filter (is_above floor) es) ≡ unripe_placed floor (map (placed w) es)
    placed-above [] = refl
    placed-above (e ∷ es) =
        let rest = filter (is_above floor) es in
        let left = unripe_placed floor (map (placed w) es) in
        elim (is_below floor e) as (λ b. map (placed w) (if not b then e ∷ rest else rest) ≡ (if not b then placed w e ∷ left else left)) [
          | true ↦ placed-above es
          | false ↦ ap (λ (ds : List (Placed P K)). placed w e ∷ ds) (placed-above es)
        ]

    -- the rows of what is before it
    pub rows-placed : (es : List (Logged P K)) → rows_below floor es ≡ rows_of_placed floor (map (placed w) es)
    rows-placed [] = refl
    rows-placed (e ∷ es) =
        let rest = filter (is_below floor) es in
        let left = filter (is_placed_ripe floor) (map (placed w) es) in
        elim (is_below floor e) as (λ b. flat_map event_rows (if b then e ∷ rest else rest) ≡ flat_map placed_rows (if b then placed w e ∷ left else left)) [
          | true ↦ ap (λ (rs : List Row). event_rows e ++ rs) (rows-placed es)
          | false ↦ rows-placed es
        ]

  -- the times of each process's events rise, since their ranks do
  pub in-order : (es : List (Logged P K)) → AreRisingPasts (map (placed w) es) → AreInOrder es
  in-order es rises p =
      let ranks = λ (d e : Logged P K). (placed w d).index ≡ (placed w e).index → RankBefore (placed_rank (placed w d)) (placed_rank (placed w e)) in
      rising-weaker ranks (λ (d e : Logged P K). TimeAtMost (time_of d) (time_of e)) (events_of p es)
      (λ d e there also before.
      let mine : d.process ≡ p = eqb-true d.process p (filter-among (is_of p) d es there).1 in
      let other : e.process ≡ p = eqb-true e.process p (filter-among (is_of p) e es also).1 in
      rank-order-time (placed_rank (placed w d)) (placed_rank (placed w e)) (before (mine ∙ sym other)))
      (rising-filter ranks (is_of p) es (rising-unmap (placed w) (λ (d e : Placed P K). d.index ≡ e.index → RankBefore (placed_rank d) (placed_rank e)) es rises))

-- ---- how what is left fits

-- a past event stays, since it isn't before a floor
abbrev stays : {P K : Type 0} → Time → Placed P K → Bool
stays floor e = not (is_placed_ripe floor e)

-- what is pending is still after all that is past
pub forgotten-settled : {S P K : Type 0} (floor : Time) (stock : Stock S P K) → AreSettled stock → AreSettled (forgotten_in floor stock)
forgotten-settled {P = P} {K = K} floor stock settled =
    every-weaker (ComesAfter stock.past) (ComesAfter (unripe_placed floor stock.past)) stock.pending
    (λ letter after. every-filter (λ (e : Placed P K). e.event.letter.event.dest ≡ letter.event.dest → RankBefore (placed_rank e) letter.event.rank) (λ (e : Placed P K). not (is_placed_ripe floor e)) stock.past after) settled

module _ {S P K : Type 0} {config : Config} {w : ℕ} {stock : Stock S P K} (floor : Time) where
  stock-forgotten : IsStockInside config w stock → IsStockInside config w (forgotten_in floor stock)
  stock-forgotten h = record {
    all_there = h.all_there;
    few_sends = h.few_sends;
    own_pending = h.own_pending;
    own_waiting = h.own_waiting;
    own_past = every-filter (IsWorkersEvent config w) (stays floor) stock.past h.own_past;
    pending_rises = h.pending_rises;
    waiting_rises = h.waiting_rises;
    pasts_rise = rising-filter (λ (d e : Placed P K). d.index ≡ e.index → RankBefore (placed_rank d) (placed_rank e)) (stays floor) stock.past h.pasts_rise;
    pending_stamps = h.pending_stamps;
    waiting_stamps = h.waiting_stamps;
    past_stamps = rising-filter (λ (d e : Placed P K). (placed_rank d).stamp ≡ (placed_rank e).stamp → ⊥) (stays floor) stock.past h.past_stamps;
    apart = every-filter (IsStampedApart stock.pending) (stays floor) stock.past h.apart;
  }

  pub pool-forgotten : {streams : List Stream} {outbox : HeldOutbox P} {serial : ℕ} {reached : Time} {heard : List ℕ} {kept : ℕ}
      → IsPoolInside config w stock streams outbox serial reached heard kept → IsPoolInside config w (forgotten_in floor stock) streams outbox serial reached heard kept
  pool-forgotten {reached = reached} {heard = heard} h =
      let both = sum_by-filter_both (stays floor) (λ (e : Placed P K). not (stays floor e)) (λ e. refl) nodes_of stock.past in
      let enough = h.enough in
      record {
        known = h.known;
        inside = stock-forgotten h.inside;
        own_streams = h.own_streams;
        reached_all = every-filter (λ (e : Placed P K). TimeAtMost (placed_rank e).key.time reached) (stays floor) stock.past h.reached_all;
        heard_each = h.heard_each;
        heard_pending = h.heard_pending;
        heard_past = every-filter (λ (e : Placed P K). IsHeard heard (placed_rank e).stamp) (stays floor) stock.past h.heard_past;
        enough = omega (arith, both, enough);
        sendable = h.sendable;
        by_worker = h.by_worker;
        few_made = h.few_made;
      }
