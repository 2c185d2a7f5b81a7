-- How the fields of a pool go together with another outbox and other nodes.
use Rattle.std.proofs.Common.{◌≡◌, ℕ, ◌≤◌, List}
use Rattle.std.specs.List.{sum_by}
use Rattle.vt_key.specs.promise.Times.{Time}
use Rattle.vt_stream.specs.inside.Words.{Stream}
use Rattle.vt_model.specs.declared.settings.Config.{Config}
use Rattle.vt_lp.specs.inside.Held.{AllWithinRun}
use Rattle.vt_outbox.specs.inside.Outbox.{HeldOutbox}
use Rattle.vt_pool.specs.inside.View.{Stock}
use Rattle.vt_pool.specs.inside.Inside.{nodes_of, IsPoolInside}

module _ {S P K : Type 0} {config : Config} {w : ℕ} {stock : Stock S P K} {streams : List Stream} {outbox : HeldOutbox P} {serial : ℕ} {reached : Time} {heard : List ℕ} {kept : ℕ} where
  pub pool-with : (letters : HeldOutbox P) (nodes : ℕ) → AllWithinRun config letters.letters → letters.config ≡ config → sum_by nodes_of stock.past ≤ nodes
      → IsPoolInside config w stock streams outbox serial reached heard kept → IsPoolInside config w stock streams letters serial reached heard nodes
  pool-with letters nodes within by enough h = record {
    known = h.known;
    inside = h.inside;
    own_streams = h.own_streams;
    reached_all = h.reached_all;
    heard_each = h.heard_each;
    heard_pending = h.heard_pending;
    heard_past = h.heard_past;
    enough = enough;
    sendable = within;
    by_worker = by;
    few_made = h.few_made;
  }

  -- with other nodes alone
  pub pool-nodes : (nodes : ℕ) → sum_by nodes_of stock.past ≤ nodes → IsPoolInside config w stock streams outbox serial reached heard kept → IsPoolInside config w stock streams outbox serial reached heard nodes
  pool-nodes nodes enough h = pool-with outbox nodes h.sendable h.by_worker enough h
