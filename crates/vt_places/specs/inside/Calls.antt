-- What the calls of a station answer and leave.
use Rattle.std.specs.Prelude.{◌≡◌, ℕ, ◌^◌, ◌<◌, ◌≤◌, ◌⊎◌, true, false, List, [], ◌∷◌, ◌++◌, map, length, drop, Option, Some, Result, Ok, Err, slice_get, IfSome}
use Rattle.std.specs.Result.{IsErrAnd}
use Rattle.std.specs.List.{AllByRecursion}
use Rattle.vt_key.specs.promise.Times.{Time, TimeAtMost, TimeBefore}
use Rattle.vt_key.specs.declared.fault.Fault.{Fault}
use Rattle.vt_key.specs.declared.fault.Fault.TheVariants.{Memory, NotLawful, Busy, Closed, Exhausted}
use Rattle.vt_key.specs.declared.letter.Mail.{Mail}
use Rattle.vt_model.specs.declared.rows.Record.{Record}
use Rattle.vt_model.specs.declared.settings.Config.{Config}
use Rattle.vt_model.specs.promise.Handler.{Handlers}
use Rattle.vt_model.specs.promise.Histories.{IsLawful}
use Rattle.vt_model.specs.promise.Simulation.{Simulation, simulation_of}
use Rattle.vt_model.specs.promise.Sequential.{seq_records}
use Rattle.vt_steps.specs.declared.step.Step.{Step}
use Rattle.vt_steps.specs.declared.step.Step.TheVariants.{Send, Cut, Report, Commit, Close}
use Rattle.vt_steps.specs.declared.step.Reply.{Reply}
use Rattle.vt_steps.specs.declared.step.Reply.TheVariants.{Done}
use Rattle.vt_steps.specs.promise.World.{Part, World, book_floor}
use Rattle.vt_steps.specs.promise.Letters.{is_empty}
use Rattle.vt_steps.specs.promise.PartSteps.{part_after_send}
use Rattle.vt_steps.specs.promise.CellSteps.{may_send}
use Rattle.vt_steps.specs.promise.Next.{next, run, reached}
use Rattle.vt_steps.specs.inside.Cells.{Cell, in_inbox, in_book, content, cell_of, act, local_steps}
use Rattle.vt_steps.specs.inside.Laws.{IsAny}
use Rattle.vt_steps.specs.inside.Marked.{Marked, marked, answered, made_done, IsMarkedRight, own_steps_of, shown, has_cut_since, has_closed}
use Rattle.vt_kernel.specs.inside.Held.{HeldWorker, StandsFor}
use Rattle.vt_kernel.specs.inside.Guards.{IsSendRefusal}
use Rattle.vt_kernel.specs.promise.Refusals.{PassesIn, IsStepRefusal}
use Rattle.vt_kernel.specs.inside.Steps.{IsTooMuchMail}
use Rattle.vt_cells.specs.inside.Calls.{Acts, rounds_of}
use Rattle.vt_places.specs.declared.slot.Slot.{Slot}
use Rattle.vt_places.specs.declared.view.View.{View}
use Rattle.vt_places.specs.inside.Hands.{Hand, empty_hand, holding}
use Rattle.vt_places.specs.inside.Slots.{cell_at, held_in, IsSlotOf}
use Rattle.vt_places.specs.inside.Kept.{Sat, HasGrown}

-- ---- what changes of a view

module _ {P : Type 0} where
  -- it is the place of the same worker
  pub record IsSamePlace (v w : View P) : Type 0 where
    pub worker : w.worker ≡ v.worker
    pub made : w.made ≡ v.made
    pub waiting : w.waiting ≡ v.waiting

  -- its part and its own steps are as they were
  pub record HasSameSteps (v w : View P) : Type 0 where
    pub same : IsSamePlace v w
    pub part : w.part ≡ v.part
    pub mine : w.mine ≡ v.mine
    pub log : w.log ≡ v.log

  -- nothing but what it was shown is another, and it holds no cell
  pub record Unvisited (v : View P) (seen : Time) (w : View P) : Type 0 where
    pub steps : HasSameSteps v w
    pub floor : w.seen ≡ seen
    pub rests : w.hand ≡ empty_hand

-- ---- cells

module _ {S P : Type 0} (sim : Simulation S P) where
  -- a list of steps after which the shown world has the place's part: what a load tells
  pub record IsShown (v : View P) : Type 0 where
    pub log : List Marked
    pub part : slice_get (shown sim log).parts v.worker ≡ Some v.part

  -- a list of steps in which the place's are its own, which has grown at its end alone since the place left it, and that shows its
  -- part and this in cell k: what a claim tells
  pub record Known (v : View P) (k : ℕ) (cell : Cell P) : Type 0 where
    pub log : List Marked
    pub right : AllByRecursion (IsMarkedRight sim) log
    pub within : v.worker < sim.workers
    pub part : slice_get (shown sim log).parts v.worker ≡ Some v.part
    pub mine : own_steps_of sim v.worker log ≡ map answered v.mine
    pub grows : HasGrown v.worker v.log log
    pub seen : TimeAtMost v.seen (book_floor sim.end (shown sim log).book)
    pub shows : content (shown sim log) (cell_at sim.workers k) ≡ Some cell
    -- where there is one worker all steps are its own
    pub own : sim.workers ≡ 1 → AllByRecursion (λ m. m.worker ≡ v.worker) log

  -- a step of the place at its cell, after local steps that led to this part: the cell held one thing after a list of steps in which
  -- the place's are its own. The step is lawful, is answered so, and leaves the place's part and what the cell holds now. The list
  -- that the place leaves is that one with local steps and step right behind it
  pub record IsDoneAt (v : View P) (steps : List Step) (part : Part P) (step : Step) (reply : Reply) (w : View P) : Type 0 where
    pub cell : ℕ
    pub about : IsAny (cell_of sim step) (cell_at sim.workers cell)
    pub found : Cell P
    pub now : Cell P
    pub known : Known v cell found
    pub gives : act sim step part found ≡ record { part = w.part; cell = now; answer = Ok reply }
    pub log : w.log ≡ known.log ++ marked v.worker (steps ++ step ∷ [])

  -- a close is one more of the place's own steps, and its part stays
  pub record Closes (v : View P) (seen : Time) (w : View P) : Type 0 where
    pub same : IsSamePlace v w
    pub part : w.part ≡ v.part
    pub mine : w.mine ≡ v.mine ++ record { step = Close; reply = Done } ∷ []
    pub at : IsDoneAt v [] v.part Close Done w
    pub floor : w.seen ≡ seen
    pub rests : w.hand ≡ empty_hand

  module _ (config : Config) where
    -- the seat has claimed cell k
    pub record Took (m : Sat P) (k : ℕ) (after : Sat P) : Type 0 where
      pub slot : Slot P
      pub after_is : after ≡ (record m.0 { hand = holding k (held_in slot) }, (k, slot) ∷ m.1)
      pub right : IsSlotOf config k slot
      pub known : Known m.0 k (held_in slot)

-- ---- kernels

module _ {S P K : Type 0} (handlers : Handlers S P K) (config : Config) where
  -- a kernel of the place's worker: local steps lead from the part of the place to one that it stands for
  pub record Reaches (v : View P) (k : HeldWorker S P K) : Type 0 where
    pub worker : k.worker ≡ v.worker
    pub config_is : k.config ≡ config
    pub steps : List Step
    pub part : Part P
    pub led : local_steps (simulation_of handlers config) v.worker steps v.part ≡ Some part
    pub stands : StandsFor handlers k part

  -- local steps that lead to the kernel as it was lent, and then one step with its reply, after which the kernel is as it was
  -- left: they are the place's own steps from now on, and it has the part after them. The step does this to the part that the
  -- kernel stood for, whichever it was, and to what its cell held
  pub record Visits (v : View P) (before : HeldWorker S P K) (step : Step) (reply : Reply) (left : HeldWorker S P K) (w : View P) : Type 0 where
    pub steps : List Step
    pub part : Part P
    pub led : local_steps (simulation_of handlers config) v.worker steps v.part ≡ Some part
    pub stood : StandsFor handlers before part
    pub mine : w.mine ≡ v.mine ++ (made_done steps ++ record { step = step; reply = reply } ∷ [])
    pub at : IsDoneAt (simulation_of handlers config) v steps part step reply w
    pub does : Acts handlers config step reply before at.found left at.now
    pub stands : StandsFor handlers left w.part
    -- no counter that the step raises is past its limit
    pub within : PassesIn (simulation_of handlers config) step w.part (rounds_of at.now) → ⊥

  -- the same, and the place holds nothing and was shown this floor
  pub record Visited (v : View P) (before : HeldWorker S P K) (step : Step) (reply : Reply) (left : HeldWorker S P K) (seen : Time) (w : View P) : Type 0 where
    pub visits : Visits v before step reply left w
    pub same : IsSamePlace v w
    pub floor : w.seen ≡ seen
    pub rests : w.hand ≡ empty_hand

-- the seat holds cell k alone, which held one thing when it was claimed, and holds another now
pub record Holding {P : Type 0} (config : Config) (m : Sat P) (k : ℕ) (found now : Cell P) : Type 0 where
  pub slot : Slot P
  pub hand : m.0.hand ≡ holding k found
  pub carried : m.1 ≡ (k, slot) ∷ []
  pub now_is : held_in slot ≡ now
  pub right : IsSlotOf config k slot

-- the seat has claimed cell k, and holds what this reads of the shown world. Its place is as it was
pub record TookThere {S P : Type 0} (sim : Simulation S P) (config : Config) (there : World P → Cell P) (m : Sat P) (k : ℕ) (after : Sat P) : Type 0 where
  pub lawful : IsLawful sim
  pub cell : Cell P
  pub known : Known sim m.0 k cell
  pub holds : Holding config after k (there (shown sim known.log)) (there (shown sim known.log))
  pub place : (hand : Hand P) × (after.0 ≡ record m.0 { hand = hand })

-- the floor that a place is shown by this cell: it is the book, and has this floor
abbrev pub ShowsFloor : {P : Type 0} → Time → Time → Cell P → Type 0
ShowsFloor end t (in_book book) = t ≡ book_floor end book
ShowsFloor end t _ = ⊥

abbrev pub MaySee : {P : Type 0} → Time → Option Time → Cell P → Type 0
MaySee end seen cell = IfSome seen (λ t. ShowsFloor end t cell)

-- ---- refusals of calls

-- a seat after a call that was refused: part, own steps and what was shown are as they were
abbrev pub Stays : {P : Type 0} → View P → View P → Type 0
Stays v w = HasSameSteps v w × (w.seen ≡ v.seen)

module _ {S P : Type 0} (sim : Simulation S P) where
  -- why a post from worker w to v is refused: the send is not lawful, or its count would pass the limit; or neither, and the
  -- cell was claimed by another place, of which there is one; or none of these, and memory was refused
  abbrev pub IsPostRefusal : ℕ → ℕ → Part P → Fault → Type 0
  IsPostRefusal w v part fault =
      IsSendRefusal sim w v part fault
      ⊎ ((fault ≡ Busy) × (1 < sim.workers) × (may_send sim.workers w v part.outbox ≡ true) × (PassesIn sim (Send w v) (part_after_send sim v part) 0 → ⊥))

  -- why a fetch is refused: what arrived before is not accepted yet; or it is, and the cell was claimed by another place; or
  -- the mail in the worker's inbox, after a list of steps in which the place's are its own, would take a count past its limit
  abbrev pub IsFetchRefusal : View P → Part P → Fault → Type 0
  IsFetchRefusal v part fault =
      ((fault ≡ NotLawful) × (is_empty part.arrived ≡ false))
      ⊎ ((is_empty part.arrived ≡ true)
      × (((fault ≡ Busy) × (1 < sim.workers))
      ⊎ ((fault ≡ Exhausted) × ((mails : List (Mail P)) × Known sim v v.worker (in_inbox mails) × IsTooMuchMail part.got mails))))

-- ---- refusals that are found in a claimed cell

module _ {S P : Type 0} (sim : Simulation S P) where
  -- a step is refused by a world that cells and places showed: there is a list of steps in which the place's are its own, which has
  -- grown at its end alone since the place left it, and after it and local steps of the place the step is refused so. Where there is
  -- one worker that list is the place's own steps
  pub record IsRefusedByShown (v : View P) (step : Step) (fault : Fault) : Type 0 where
    pub log : List Marked
    pub right : AllByRecursion (IsMarkedRight sim) log
    pub part : slice_get (shown sim log).parts v.worker ≡ Some v.part
    pub mine : own_steps_of sim v.worker log ≡ map answered v.mine
    pub grows : HasGrown v.worker v.log log
    pub own : sim.workers ≡ 1 → AllByRecursion (λ m. m.worker ≡ v.worker) log
    pub steps : List Step
    pub before : Part P
    pub led : local_steps sim v.worker steps v.part ≡ Some before
    pub refused : IsStepRefusal sim step (run sim (shown sim log) steps) fault

  -- why a cut is refused: the board was claimed by another place; or the worker has cut since it was last told of an
  -- announcement; or one more round would be too many
  abbrev pub IsCutRefusal : View P → Fault → Type 0
  IsCutRefusal v fault =
      ((fault ≡ Busy) × (1 < sim.workers))
      ⊎ (IsRefusedByShown v (Cut v.worker) fault × (((fault ≡ NotLawful) × (has_cut_since false (map answered v.mine) ≡ true)) ⊎ (fault ≡ Exhausted)))

  -- why a report is refused: the board was claimed by another place; or the report is not lawful
  abbrev pub IsReportRefusal : View P → Fault → Type 0
  IsReportRefusal v fault = ((fault ≡ Busy) × (1 < sim.workers)) ⊎ (IsRefusedByShown v (Report v.worker) fault × (fault ≡ NotLawful))

  -- why a commit is refused: the book was claimed by another place; or it is closed, and then the worker's floor is the end of
  -- the run; or memory was refused
  abbrev pub IsCommitRefusal : View P → Fault → Type 0
  IsCommitRefusal v fault =
      ((fault ≡ Busy) × (1 < sim.workers))
      ⊎ (IsRefusedByShown v (Commit v.worker) fault × (((fault ≡ Closed) × (v.part.floor ≡ sim.end)) ⊎ (fault ≡ Memory)))

  -- why a close is refused: the book was claimed by another place; or it is closed, and then the worker's floor is the end of
  -- the run; or its floor is not the end, and then the place was not shown the end
  abbrev pub IsCloseRefusal : View P → Fault → Type 0
  IsCloseRefusal v fault =
      ((fault ≡ Busy) × (1 < sim.workers))
      ⊎ (IsRefusedByShown v Close fault × (((fault ≡ Closed) × (v.part.floor ≡ sim.end)) ⊎ ((fault ≡ NotLawful) × TimeBefore v.seen sim.end)))

module _ {S P : Type 0} (sim : Simulation S P) where
  -- the definitions refuse a step so after the place's own steps and these local steps
  abbrev pub IsRefusedAfter : View P → List Step → Step → Fault → Type 0
  IsRefusedAfter v steps step fault = (next sim (run sim (reached sim 0 (map (λ m. m.step) v.mine)) steps) step).answer ≡ Err fault

  -- where there is one worker: what they refuse is refused so, and as not lawful or as closed nothing else is
  abbrev pub IsRefusedAlone : {X : Type 0} → View P → List Step → Step → Result X Fault → Type 0
  IsRefusedAlone v steps step result =
      sim.workers ≡ 1 → (fault : Fault) → (IsRefusedAfter v steps step fault → result ≡ Err fault)
      × ((fault ≡ NotLawful) ⊎ (fault ≡ Closed) → result ≡ Err fault → IsRefusedAfter v steps step fault)

module _ {S P K X : Type 0} (handlers : Handlers S P K) (config : Config) where
  -- the same after the local steps that lead to a kernel of the place's worker
  abbrev pub RefusesAlone : View P → HeldWorker S P K → Step → Result X Fault → Type 0
  RefusesAlone v k step result = (reaches : Reaches handlers config v k) → IsRefusedAlone (simulation_of handlers config) v reaches.steps step result

-- ---- what the book shows

module _ {S P : Type 0} (sim : Simulation S P) where
  -- a floor that the book had after a step of the place: there is a list of steps in which the place's are its own, which has grown
  -- at its end alone since the place left it, local steps of the place, and then that step, which left this floor. The place was
  -- shown none above it
  pub record IsFloorLeft (v : View P) (step : Step) (floor : Time) : Type 0 where
    pub log : List Marked
    pub right : AllByRecursion (IsMarkedRight sim) log
    pub mine : own_steps_of sim v.worker log ≡ map answered v.mine
    pub grows : HasGrown v.worker v.log log
    pub own : sim.workers ≡ 1 → AllByRecursion (λ m. m.worker ≡ v.worker) log
    pub steps : List Step
    pub before : Part P
    pub led : local_steps sim v.worker steps v.part ≡ Some before
    pub floor_is : floor ≡ book_floor sim.end (next sim (run sim (shown sim log) steps) step).world.book
    pub rises : TimeAtMost v.seen floor

  -- records that a place is shown: the sequential run's before a floor of the book after some list of steps in which the place's
  -- are its own, which has grown at its end alone since the place left it. The place was shown none above it, and where it has
  -- closed the book it is the end of the run
  pub record AreRecordsShown (v : View P) (floor : Time) (records : List Record) : Type 0 where
    pub log : List Marked
    pub right : AllByRecursion (IsMarkedRight sim) log
    pub mine : own_steps_of sim v.worker log ≡ map answered v.mine
    pub grows : HasGrown v.worker v.log log
    pub own : sim.workers ≡ 1 → AllByRecursion (λ m. m.worker ≡ v.worker) log
    pub floor_is : floor ≡ book_floor sim.end (shown sim log).book
    pub records_are : records ≡ seq_records sim floor
    pub rises : TimeAtMost v.seen floor
    pub closed : has_closed (map answered v.mine) ≡ true → floor ≡ sim.end

  -- records that are handed out behind the first so many: with these, all that the place is shown. They can be counted
  pub record AreHandedOut (v : View P) (floor : Time) (from : ℕ) (records : List Record) : Type 0 where
    pub all : List Record
    pub shown : AreRecordsShown v floor all
    pub beginning : from ≤ length all
    pub few : length all < 2 ^ 64
    pub rest : records ≡ drop from all

  -- why a call that shows records is refused: the book was claimed by another place, or has handed records out; or memory was refused
  abbrev pub IsRecordsRefusal : Fault → Type 0
  IsRecordsRefusal fault = ((fault ≡ Busy) × (1 < sim.workers)) ⊎ (fault ≡ Memory)

  -- why a call that hands records out is refused: there is one worker; or the book was claimed by another place, or has not handed
  -- out so many; or the sequential run has more of them than can be counted
  abbrev pub IsHandOutRefusal : Fault → Type 0
  IsHandOutRefusal fault =
      ((fault ≡ NotLawful) × (sim.workers ≡ 1)) ⊎ ((fault ≡ Busy) × (1 < sim.workers)) ⊎ ((fault ≡ Exhausted) × ((t : Time) × (2 ^ 64 ≤ length (seq_records sim t))))

-- a place that has closed the book is refused, as busy or as closed
abbrev pub IsRefusedOnceClosed : {X P : Type 0} → View P → Result X Fault → Type 0
IsRefusedOnceClosed v result = has_closed (map answered v.mine) ≡ true → IsErrAnd result (λ fault. (fault ≡ Busy) ⊎ (fault ≡ Closed))
