-- A worker that keeps all its processes together, as its own functions see it, and as contracts see it.
use Rattle.std.specs.Prelude.{◌≡◌, ℕ, ◌⊎◌, List}
use Rattle.std.specs.List.{AllByRecursion}
use Rattle.vt_key.specs.promise.Times.{Time}
use Rattle.vt_key.specs.promise.Queues.{letter_rank}
use Rattle.vt_key.specs.declared.order.Rank.{Rank}
use Rattle.vt_key.specs.declared.letter.Letter.{Letter}
use Rattle.vt_key.specs.declared.letter.Mail.{Mail}
use Rattle.vt_key.specs.declared.letter.Colour.{Colour}
use Rattle.vt_model.specs.declared.settings.Config.{Config}
use Rattle.vt_model.specs.promise.Handler.{Handlers}
use Rattle.vt_steps.specs.promise.Letters.{Counts}
use Rattle.vt_kernel.specs.inside.Held.{HeldWorker}
use Rattle.vt_pool.specs.inside.View.{Stock, processes_in}
use Rattle.vt_pool.specs.inside.Steps.{LeadsTo}
use Rattle.vt_pool.specs.inside.Inside.{ComesAfter}

-- what contracts see of a worker, with what is kept of its processes in place of these
pub record HeldShare (S P K : Type 0) : Type 0 where
  pub worker : ℕ
  pub config : Config
  pub stock : Stock S P K
  pub outbox : List (Letter P)
  pub arrived : List (Mail P)
  pub colour : Colour
  pub sent : Counts
  pub got : Counts
  pub red_minimum : Time
  pub floor : Time
  pub serial : ℕ

-- what a pool of processes has of it
pub record HeldPool (S P K : Type 0) : Type 0 where
  pub worker : ℕ
  pub config : Config
  pub stock : Stock S P K
  pub outbox : List (Letter P)
  pub serial : ℕ
  pub heard : List ℕ

module _ {S P K : Type 0} where
  -- a worker with this pool
  abbrev pub with_pool : HeldShare S P K → HeldPool S P K → HeldShare S P K
  with_pool rest pool = record rest { worker = pool.worker; config = pool.config; stock = pool.stock; outbox = pool.outbox; serial = pool.serial }

  -- the worker that contracts see
  abbrev pub seen : HeldShare S P K → HeldWorker S P K
  seen share = record {
    worker = share.worker;
    config = share.config;
    processes = processes_in share.config share.worker share.stock;
    outbox = share.outbox;
    arrived = share.arrived;
    colour = share.colour;
    sent = share.sent;
    got = share.got;
    red_minimum = share.red_minimum;
    floor = share.floor;
    serial = share.serial;
  }

  -- each pending letter but those of a rank is after all past events of its process
  abbrev pub AreSettledBut : Rank → Stock S P K → Type 0
  AreSettledBut rank stock = AllByRecursion (λ letter. (letter_rank letter ≡ rank) ⊎ ComesAfter stock.past letter) stock.pending

-- steps of a worker lead from one value of its pool to another, whatever else it has
abbrev pub PoolLeadsTo : {S P K : Type 0} → Handlers S P K → HeldPool S P K → HeldPool S P K → Type 0
PoolLeadsTo {S} {P} {K} handlers old new = (rest : HeldShare S P K) → LeadsTo handlers (seen (with_pool rest old)) (seen (with_pool rest new))
