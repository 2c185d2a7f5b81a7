-- What a logical process with rollback keeps in memory, and which processes of a world it stands for.
use Rattle.std.specs.Prelude.{◌≡◌, ℕ, ◌+◌, ◌-◌, ◌%◌, ◌^◌, ◌<◌, ◌≤◌, false, List, [], map, All}
use Rattle.std.specs.List.{AllByRecursion}
use Rattle.vt_key.specs.promise.Times.{Time, TimeBefore}
use Rattle.vt_key.specs.inside.Order.{RankBefore}
use Rattle.vt_key.specs.declared.limits.TheConstants.{MAX_COUNT}
use Rattle.vt_key.specs.declared.letter.Event.{Event}
use Rattle.vt_key.specs.declared.letter.Letter.{Letter}
use Rattle.vt_key.specs.declared.letter.Sign.{Sign}
use Rattle.vt_key.specs.declared.letter.Sign.TheVariants.{Plus, Minus}
use Rattle.vt_key.specs.promise.Lists.{IsRisingBy}
use Rattle.vt_stream.specs.inside.Words.{Stream}
use Rattle.vt_model.specs.declared.limits.TheConstants.{MAX_DRAWS}
use Rattle.vt_model.specs.declared.settings.Config.{Config}
use Rattle.vt_model.specs.promise.Handler.{Handlers}
use Rattle.vt_model.specs.inside.Process.{IsProcessStream}
use Rattle.vt_model.specs.promise.Simulation.{Triple, simulation_of, rows_of}
use Rattle.vt_model.specs.promise.Settings.{end_of}
use Rattle.vt_steps.specs.promise.World.{LogicalProcess}
use Rattle.vt_steps.specs.inside.StandsFor.{Remembered, ProcessMemory, StandsForProcess}
use Rattle.vt_key.specs.inside.Queues.{holds_rank}
use Rattle.vt_past.specs.declared.event.PastEvent.{PastEvent}

-- the events of these past events, in their order
abbrev pub executed_events : {P K : Type 0} → List (PastEvent P K) → List (Event P)
executed_events past = map (λ e. e.letter.event) past

-- what a contract sees of a process: its number and the config, where it stands, and its past, pending and waiting
pub record HeldProcess (S P K : Type 0) : Type 0 where
  pub lp : ℕ
  pub config : Config
  pub triple : Triple S
  pub past : List (PastEvent P K)
  pub pending : List (Letter P)
  pub waiting : List (Letter P)

module _ {S P K : Type 0} (handlers : Handlers S P K) where
  -- where a process stands once this event is undone: the state by reverse, the send number as it was before the event, and
  -- the drawn words given back
  abbrev pub way_back : ℕ → PastEvent P K → Triple S → Triple S
  way_back p e now = record {
    state = handlers.reverse p e.letter.event.rank.key.time e.letter.event.payload now.state e.undo_entry.bits e.undo_entry.kept;
    number = e.undo_entry.number;
    place = (now.place + (2 ^ 64 - e.undo_entry.drawn)) % 2 ^ 64;
  }

  -- what a past event is as memory of a world's entry
  abbrev pub remembered : ℕ → PastEvent P K → Remembered S P
  remembered p e = record {
    event = e.letter.event;
    sent = map (λ letter. letter.event) e.undo_entry.anti_messages;
    rows = rows_of e.letter.event.rank.key e.records;
    back = way_back p e;
  }

  -- what a process is as memory of a world's process
  abbrev pub process_memory : HeldProcess S P K → ProcessMemory S P
  process_memory held = record {
    triple = held.triple;
    past = map (remembered held.lp) held.past;
    pending = held.pending;
    waiting = held.waiting;
  }

  -- the process stands for this process of a world
  abbrev pub StandsFor : HeldProcess S P K → LogicalProcess P → Type 0
  StandsFor held process = StandsForProcess (simulation_of handlers held.config) held.lp (process_memory held) process

-- the process that has executed nothing and that no letter has reached
abbrev pub opening_process : {P : Type 0} → LogicalProcess P
opening_process = record { done = []; past = []; pending = []; waiting = [] }

-- ---- what a process keeps to

-- a letter that some process of the run receives before its end
pub record IsWithinRun {P : Type 0} (lps : ℕ) (end : Time) (letter : Letter P) : Type 0 where
  pub known : letter.event.dest < lps
  pub soon : TimeBefore letter.event.rank.key.time end

-- each of these letters is one that some process of the run receives before its end
abbrev pub AllWithinRun : {P : Type 0} → Config → List (Letter P) → Type 0
AllWithinRun config letters = All (IsWithinRun config.lps (end_of config)) letters

-- a letter of this sign for process p, before the end of the run
pub record IsOwnLetter {P : Type 0} (p : ℕ) (end : Time) (sign : Sign) (letter : Letter P) : Type 0 where
  pub dest : letter.event.dest ≡ p
  pub soon : TimeBefore letter.event.rank.key.time end
  pub signed : letter.sign ≡ sign

-- an anti-message that is ready to be sent
pub record IsReady {P : Type 0} (lps : ℕ) (end : Time) (letter : Letter P) : Type 0 where
  pub within : IsWithinRun lps end letter
  pub minus : letter.sign ≡ Minus

-- a past event of process p
pub record IsOwnEvent {P K : Type 0} (config : Config) (p : ℕ) (e : PastEvent P K) : Type 0 where
  pub own : IsOwnLetter p (end_of config) Plus e.letter
  pub few : e.undo_entry.drawn ≤ MAX_DRAWS
  pub numbered : e.undo_entry.number ≤ MAX_COUNT
  pub ready : All (IsReady config.lps (end_of config)) e.undo_entry.anti_messages

module _ {P K : Type 0} where
  -- the ranks of past events rise strictly: each is after this one's
  abbrev pub AllAfter : PastEvent P K → List (PastEvent P K) → Type 0
  AllAfter e = AllByRecursion (λ d. RankBefore e.letter.event.rank d.letter.event.rank)

  abbrev pub IsRisingPast : List (PastEvent P K) → Type 0
  IsRisingPast = IsRisingBy (λ d e. RankBefore d.letter.event.rank e.letter.event.rank)

  -- a past event is not pending too
  abbrev pub IsNotPending : List (Letter P) → PastEvent P K → Type 0
  IsNotPending pending e = holds_rank e.letter.event.rank pending ≡ false

-- how the fields of a process go together
pub record IsProcessInside {P K : Type 0} (config : Config) (p number : ℕ) (stream : Stream) (past : List (PastEvent P K))
    (pending waiting : List (Letter P)) : Type 0 where
  pub known : p < config.lps
  pub few_sends : number ≤ MAX_COUNT
  pub own_stream : IsProcessStream config.seed p stream
  pub own_pending : All (IsOwnLetter p (end_of config) Plus) pending
  pub own_waiting : All (IsOwnLetter p (end_of config) Minus) waiting
  pub own_past : All (IsOwnEvent config p) past
  pub rising : IsRisingPast past
  pub apart : All (IsNotPending pending) past
