-- A pool of processes after a step.
use Rattle.std.specs.Prelude.{◌≡◌, ℕ, ◌+◌, ◌++◌, ◌||◌, Bool, false, List, Some, find, length}
use Rattle.std.specs.List.{list_any, sum_by}
use Rattle.vt_key.specs.promise.Order.{stamp_same}
use Rattle.vt_key.specs.promise.Queues.{has_rank, has_stamp, letter_rank}
use Rattle.vt_key.specs.declared.order.Stamp.{Stamp}
use Rattle.vt_key.specs.declared.letter.Sign.{Sign}
use Rattle.vt_key.specs.declared.letter.Sign.TheVariants.{Plus, Minus}
use Rattle.vt_key.specs.declared.order.Rank.{Rank}
use Rattle.vt_key.specs.declared.letter.Letter.{Letter}
use Rattle.vt_model.specs.promise.Handler.{Handlers}
use Rattle.vt_model.specs.promise.Simulation.{Triple}
use Rattle.vt_past.specs.declared.event.PastEvent.{PastEvent}
use Rattle.vt_lp.specs.inside.Held.{way_back}
use Rattle.vt_pool.specs.inside.View.{Stock, number_at}
use Rattle.vt_pool.specs.inside.Steps.{undone_in, cancelled_in, received_in}
use Rattle.vt_pool.specs.inside.Inside.{IsWorkersLetter, IsHeard, placed_rank, nodes_of}
use Rattle.vt_pool.specs.inside.Share.{HeldPool}

-- the pool after Undo of this past event, the last one of the process at an index
abbrev pub pool_after_undo : {S P K : Type 0} → Handlers S P K → ℕ → PastEvent P K → Triple S → HeldPool S P K → HeldPool S P K
pool_after_undo handlers i event triple pool =
    record pool { stock = undone_in i event (way_back handlers (number_at pool.config pool.worker i) event triple) pool.stock; outbox = pool.outbox ++ event.undo_entry.anti_messages }

-- the pool where these anti-messages wait
abbrev pub with_waiting : {S P K : Type 0} → List (Letter P) → HeldPool S P K → HeldPool S P K
with_waiting waits pool = record pool { stock = record pool.stock { waiting = waits } }

-- the pool where these messages are pending
abbrev pub with_pending : {S P K : Type 0} → List (Letter P) → HeldPool S P K → HeldPool S P K
with_pending letters pool = record pool { stock = record pool.stock { pending = letters } }

-- the pending message and the waiting anti-message of a rank, which are both for this process, are gone
pub record HasCancelled {S P K : Type 0} (rank : Rank) (dest : ℕ) (old new : HeldPool S P K) : Type 0 where
  pub message : Letter P
  pub anti_message : Letter P
  pub pending : find (has_rank rank) old.stock.pending ≡ Some message
  pub waiting : find (has_rank rank) old.stock.waiting ≡ Some anti_message
  pub message_dest : message.event.dest ≡ dest
  pub anti_message_dest : anti_message.event.dest ≡ dest
  pub left : new ≡ record old { stock = cancelled_in rank old.stock }

-- ---- a letter that comes

-- some message that is pending or past, or some anti-message that waits, has this stamp
abbrev pub holds_stamp : {S P K : Type 0} → Sign → Stamp → Stock S P K → Bool
holds_stamp Plus stamp stock = list_any (has_stamp stamp) stock.pending || list_any (λ e. stamp_same (placed_rank e).stamp stamp) stock.past
holds_stamp Minus stamp stock = list_any (has_stamp stamp) stock.waiting

-- a letter may come: it is for a process of the worker, before the end of the run; no letter of its sign that is held has its
-- stamp; and the serial of a message is noted
pub record MayCome {S P K : Type 0} (pool : HeldPool S P K) (letter : Letter P) : Type 0 where
  pub mine : IsWorkersLetter pool.config pool.worker letter.sign letter
  pub new : holds_stamp letter.sign (letter_rank letter).stamp pool.stock ≡ false
  pub heard : letter.sign ≡ Plus → IsHeard pool.heard (letter_rank letter).stamp

-- the pool once a letter came: a message is pending, an anti-message waits
abbrev pub with_letter : {S P K : Type 0} → Letter P → HeldPool S P K → HeldPool S P K
with_letter letter pool = record pool { stock = received_in letter.sign letter pool.stock }

-- how many letters Home and Undo may still send home: those of the outbox, and one for each node that the undo of all past events takes
abbrev pub weight_of : {S P K : Type 0} → HeldPool S P K → ℕ
weight_of pool = length pool.outbox + sum_by nodes_of pool.stock.past
