-- How what a worker keeps of all its processes together fits.
use Rattle.std.specs.Prelude.{◌≡◌, ℕ, ◌+◌, ◌-◌, ◌/◌, ◌%◌, ◌<◌, ◌≤◌, List, [], ◌∷◌, length, IfSome, slice_get}
use Rattle.std.specs.List.{AllByRecursion, sum_by}
use Rattle.vt_key.specs.promise.Times.{Time, TimeAtMost}
use Rattle.vt_key.specs.inside.Order.{RankBefore}
use Rattle.vt_key.specs.promise.Lists.{IsRisingBy}
use Rattle.vt_key.specs.promise.Queues.{letter_rank}
use Rattle.vt_key.specs.inside.Queues.{IsRising}
use Rattle.vt_key.specs.declared.limits.TheConstants.{MAX_COUNT}
use Rattle.vt_key.specs.declared.order.Rank.{Rank}
use Rattle.vt_key.specs.declared.order.Stamp.{Stamp}
use Rattle.vt_key.specs.declared.letter.Letter.{Letter}
use Rattle.vt_key.specs.declared.letter.Sign.{Sign}
use Rattle.vt_key.specs.declared.letter.Sign.TheVariants.{Plus, Minus}
use Rattle.vt_stream.specs.inside.Words.{Stream}
use Rattle.vt_model.specs.declared.settings.Config.{Config}
use Rattle.vt_model.specs.inside.Process.{IsProcessStream}
use Rattle.vt_model.specs.promise.Settings.{end_of}
use Rattle.vt_lp.specs.inside.Held.{AllWithinRun, IsOwnEvent, IsWithinRun}
use Rattle.vt_outbox.specs.inside.Outbox.{HeldOutbox}
use Rattle.vt_pool.specs.inside.View.{Placed, Stock, number_at, HaveOwnStamps}

-- a letter of this sign for a process of worker w, before the end of the run
pub record IsWorkersLetter {P : Type 0} (config : Config) (w : ℕ) (sign : Sign) (letter : Letter P) : Type 0 where
  pub within : IsWithinRun config.lps (end_of config) letter
  pub own : letter.event.dest % config.workers ≡ w
  pub signed : letter.sign ≡ sign

-- a past event of the process at its index of worker w
pub record IsWorkersEvent {P K : Type 0} (config : Config) (w : ℕ) (e : Placed P K) : Type 0 where
  pub known : number_at config w e.index < config.lps
  pub own : IsOwnEvent config (number_at config w e.index) e.event

-- the streams are those of the processes of worker w from an index on
abbrev pub AreOwnStreams : Config → ℕ → ℕ → List Stream → Type 0
AreOwnStreams config w base [] = Unit {0}
AreOwnStreams config w base (stream ∷ streams) = IsProcessStream config.seed (number_at config w base) stream × AreOwnStreams config w (base + 1) streams

module _ {P K : Type 0} where
  -- the rank of a past event
  abbrev pub placed_rank : Placed P K → Rank
  placed_rank e = e.event.letter.event.rank

  -- the past events of each process rise
  abbrev pub AreRisingPasts : List (Placed P K) → Type 0
  AreRisingPasts = IsRisingBy (λ d e. d.index ≡ e.index → RankBefore (placed_rank d) (placed_rank e))

  -- no two past events have one stamp
  abbrev pub PastsHaveOwnStamps : List (Placed P K) → Type 0
  PastsHaveOwnStamps = IsRisingBy (λ d e. (placed_rank d).stamp ≡ (placed_rank e).stamp → ⊥)

  -- no letter has the stamp of this past event
  abbrev pub IsStampedApart : List (Letter P) → Placed P K → Type 0
  IsStampedApart letters e = AllByRecursion (λ letter. (letter_rank letter).stamp ≡ (placed_rank e).stamp → ⊥) letters

  -- a letter is after each past event of its process
  abbrev pub ComesAfter : List (Placed P K) → Letter P → Type 0
  ComesAfter past letter = AllByRecursion (λ e. e.event.letter.event.dest ≡ letter.event.dest → RankBefore (placed_rank e) (letter_rank letter)) past

  -- how many nodes the undo of an event takes: one for its letter, and one for each anti-message
  abbrev pub nodes_of : Placed P K → ℕ
  nodes_of e = 1 + length e.event.undo_entry.anti_messages

-- a stamp has no greater serial than was noted of its worker
abbrev pub IsHeard : List ℕ → Stamp → Type 0
IsHeard heard stamp = IfSome (slice_get heard stamp.worker) (λ most. stamp.serial ≤ most)

-- each pending letter is after all past events of its process: so it is between calls
abbrev pub AreSettled : {S P K : Type 0} → Stock S P K → Type 0
AreSettled stock = AllByRecursion (ComesAfter stock.past) stock.pending

-- what is kept of the processes fits
pub record IsStockInside {S P K : Type 0} (config : Config) (w : ℕ) (stock : Stock S P K) : Type 0 where
  pub all_there : length stock.triples ≡ (config.lps + (config.workers - 1) - w) / config.workers
  pub few_sends : AllByRecursion (λ triple. triple.number ≤ MAX_COUNT) stock.triples
  pub own_pending : AllByRecursion (IsWorkersLetter config w Plus) stock.pending
  pub own_waiting : AllByRecursion (IsWorkersLetter config w Minus) stock.waiting
  pub own_past : AllByRecursion (IsWorkersEvent config w) stock.past
  pub pending_rises : IsRising stock.pending
  pub waiting_rises : IsRising stock.waiting
  pub pasts_rise : AreRisingPasts stock.past
  pub pending_stamps : HaveOwnStamps stock.pending
  pub waiting_stamps : HaveOwnStamps stock.waiting
  pub past_stamps : PastsHaveOwnStamps stock.past
  pub apart : AllByRecursion (IsStampedApart stock.pending) stock.past

-- how the fields of a pool go together: what is kept of the processes fits; no past event is after this time; no message
-- that is pending or past has a greater serial than was noted of its worker; and enough nodes are kept to undo all that is past
pub record IsPoolInside {S P K : Type 0} (config : Config) (w : ℕ) (stock : Stock S P K) (streams : List Stream) (outbox : HeldOutbox P)
    (serial : ℕ) (reached : Time) (heard : List ℕ) (kept : ℕ) : Type 0 where
  pub known : w < config.workers
  pub inside : IsStockInside config w stock
  pub own_streams : AreOwnStreams config w 0 streams
  pub reached_all : AllByRecursion (λ e. TimeAtMost (placed_rank e).key.time reached) stock.past
  pub heard_each : length heard ≡ config.workers
  pub heard_pending : AllByRecursion (λ letter. IsHeard heard (letter_rank letter).stamp) stock.pending
  pub heard_past : AllByRecursion (λ e. IsHeard heard (placed_rank e).stamp) stock.past
  pub enough : sum_by nodes_of stock.past ≤ kept
  pub sendable : AllWithinRun config outbox.letters
  pub by_worker : outbox.config ≡ config
  pub few_made : serial ≤ MAX_COUNT
