-- What a worker keeps in memory, and which parts of a world it stands for.
use Rattle.std.specs.Prelude.{◌≡◌, ℕ, nat_eq, if◌then◌else◌, ◌+◌, ◌-◌, ◌*◌, ◌/◌, ◌%◌, ◌<◌, ◌≤◌, List, [], ◌∷◌, map, length, All, Option, None, slice_get}
use Rattle.vt_key.specs.promise.Times.{Time}
use Rattle.vt_key.specs.declared.limits.TheConstants.{MAX_COUNT}
use Rattle.vt_key.specs.declared.letter.Letter.{Letter}
use Rattle.vt_key.specs.declared.letter.Mail.{Mail}
use Rattle.vt_key.specs.declared.letter.Colour.{Colour}
use Rattle.vt_model.specs.declared.settings.Config.{Config}
use Rattle.vt_model.specs.promise.Handler.{Handlers}
use Rattle.vt_model.specs.promise.Simulation.{simulation_of}
use Rattle.vt_model.specs.promise.Settings.{end_of}
use Rattle.vt_steps.specs.promise.Letters.{Counts}
use Rattle.vt_steps.specs.promise.World.{Part}
use Rattle.vt_steps.specs.inside.StandsFor.{PartMemory, StandsForPart}
use Rattle.vt_lp.specs.inside.Held.{HeldProcess, process_memory, AllWithinRun, IsWithinRun}
use Rattle.vt_outbox.specs.inside.Outbox.{HeldOutbox}

-- what a contract sees of a worker: its number and the config, and all that a part of a world has, with its processes as they
-- are in memory. Process p is at index p / workers. It stays flat, with no part inside: contracts of some 70 calls name its fields
pub record HeldWorker (S P K : Type 0) : Type 0 where
  pub worker : ℕ
  pub config : Config
  pub processes : List (HeldProcess S P K)
  pub outbox : List (Letter P)
  pub arrived : List (Mail P)
  pub colour : Colour
  pub sent : Counts
  pub got : Counts
  pub red_minimum : Time
  pub floor : Time
  pub serial : ℕ

module _ {S P K : Type 0} (handlers : Handlers S P K) where
  -- what a worker is as memory of a world's part
  abbrev pub part_memory : HeldWorker S P K → PartMemory S P
  part_memory held = record {
    processes = map (process_memory handlers) held.processes;
    outbox = held.outbox;
    arrived = held.arrived;
    colour = held.colour;
    sent = held.sent;
    got = held.got;
    red_minimum = held.red_minimum;
    floor = held.floor;
    serial = held.serial;
  }

  -- the worker stands for this part of a world
  abbrev pub StandsFor : HeldWorker S P K → Part P → Type 0
  StandsFor held part = StandsForPart (simulation_of handlers held.config) held.worker (part_memory held) part

-- what is made of the states of these processes
abbrev pub held_values : {S P K : Type 0} → Handlers S P K → List (HeldProcess S P K) → List ℕ
held_values handlers held = map (λ process. handlers.finish process.lp process.triple.state) held

-- p is a process of worker w
pub record IsProcessOf (config : Config) (w p : ℕ) : Type 0 where
  pub known : p < config.lps
  pub own : p % config.workers ≡ w

-- process p of a worker; None where it is not one of its processes
abbrev pub process_of : {S P K : Type 0} → HeldWorker S P K → ℕ → Option (HeldProcess S P K)
process_of held p = if nat_eq (p % held.config.workers) held.worker then slice_get held.processes (p / held.config.workers) else None

-- ---- what a worker keeps to

module _ {P : Type 0} where
  -- mail that a process of worker w receives before the end of the run
  pub record IsOwnMail (config : Config) (w : ℕ) (mail : Mail P) : Type 0 where
    pub within : IsWithinRun config.lps (end_of config) mail.letter
    pub own : mail.letter.event.dest % config.workers ≡ w

  -- each of these is mail that a process of worker w receives before the end of the run
  abbrev pub AllOwnMail : Config → ℕ → List (Mail P) → Type 0
  AllOwnMail config w mails = All (IsOwnMail config w) mails

module _ {S P K : Type 0} where
  -- the processes of worker w from this index on
  abbrev pub AreProcesses : Config → ℕ → ℕ → List (HeldProcess S P K) → Type 0
  AreProcesses config w index [] = Unit {0}
  AreProcesses config w index (held ∷ rest) =
      (held.lp ≡ index * config.workers + w) × (held.config ≡ config) × AreProcesses config w (index + 1) rest

-- both counts are within their limit
pub record AreCounted (counts : Counts) : Type 0 where
  pub white : counts.white ≤ MAX_COUNT
  pub red : counts.red ≤ MAX_COUNT

-- how the fields of a worker go together
pub record IsWorkerInside {S P K : Type 0} (config : Config) (w : ℕ) (processes : List (HeldProcess S P K)) (outbox : HeldOutbox P)
    (arrived : List (Mail P)) (sent got : Counts) (serial : ℕ) : Type 0 where
  pub known : w < config.workers
  pub all_there : length processes ≡ (config.lps + (config.workers - 1) - w) / config.workers
  pub own_processes : AreProcesses config w 0 processes
  pub sendable : AllWithinRun config outbox.letters
  pub by_worker : outbox.config ≡ config
  pub own_mail : AllOwnMail config w arrived
  pub few_sent : AreCounted sent
  pub few_got : AreCounted got
  pub few_made : serial ≤ MAX_COUNT
