-- What a call does that makes a step of a worker, and why it is refused, whatever part the worker stands for.
-- ---- local steps
use Rattle.std.specs.Prelude.{◌≡◌, ◌+◌, ◌<◌, ◌⊎◌, ℕ, true, false, not, List, length, Option, None, Result, IfOk, IfErr}
use Rattle.std.specs.List.{filter}
use Rattle.vt_key.specs.promise.Times.{earlier}
use Rattle.vt_key.specs.declared.limits.TheConstants.{MAX_COUNT}
use Rattle.vt_key.specs.declared.letter.Letter.{Letter}
use Rattle.vt_key.specs.declared.letter.Mail.{Mail}
use Rattle.vt_key.specs.declared.letter.Colour.TheVariants.{White, Red}
use Rattle.vt_key.specs.declared.fault.Fault.{Fault}
use Rattle.vt_key.specs.declared.fault.Fault.TheVariants.{NotLawful, Exhausted}
use Rattle.vt_model.specs.promise.Handler.{Handlers}
use Rattle.vt_model.specs.promise.Simulation.{simulation_of}
use Rattle.vt_model.specs.promise.Settings.{end_of}
use Rattle.vt_steps.specs.declared.step.Step.{Step}
use Rattle.vt_steps.specs.declared.step.Step.TheVariants.{Execute, Accept}
use Rattle.vt_steps.specs.promise.Letters.{Counts, is_empty, least_time, raised, count_colour}
use Rattle.vt_steps.specs.promise.World.{Part}
use Rattle.vt_steps.specs.promise.PartSteps.{is_for}
use Rattle.vt_steps.specs.inside.Cells.{local_step}
use Rattle.vt_kernel.specs.inside.Held.{HeldWorker, StandsFor}
use Rattle.vt_kernel.specs.inside.Guards.{IsDone, IsExecuteRefusal, IsAcceptRefusal}

-- what a local step makes of a worker's part
abbrev pub part_after : {S P K : Type 0} → Handlers S P K → HeldWorker S P K → Step → Part P → Option (Part P)
part_after handlers held = local_step (simulation_of handlers held.config) held.worker

module _ {S P K V E : Type 0} (handlers : Handlers S P K) where
  -- a call that is answered Ok did this step: it was lawful, and the worker stands for the part after it
  abbrev pub DoesStep : HeldWorker S P K → HeldWorker S P K → Step → Result V E → Type 0
  DoesStep old new step result = (part : Part P) → StandsFor handlers old part → IfOk result (λ done. IsDone handlers new (part_after handlers old step part))

  -- a call is refused only where this step isn't lawful
  abbrev pub RefusesStep : HeldWorker S P K → Step → Result V E → Type 0
  RefusesStep old step result = (part : Part P) → StandsFor handlers old part → IfErr result (λ fault. part_after handlers old step part ≡ None)

module _ {S P K V : Type 0} (handlers : Handlers S P K) where
  -- why a call is refused that is to execute process p
  abbrev pub RefusesExecute : HeldWorker S P K → ℕ → Result V Fault → Type 0
  RefusesExecute old p result =
      (part : Part P) → StandsFor handlers old part → IfErr result (λ fault. IsExecuteRefusal (simulation_of handlers old.config) p (part_after handlers old (Execute p) part) fault)

  -- why a call is refused that is to accept the letter at index i
  abbrev pub RefusesAccept : HeldWorker S P K → ℕ → Result V Fault → Type 0
  RefusesAccept old i result =
      (part : Part P) → StandsFor handlers old part → IfErr result (λ fault. IsAcceptRefusal (part_after handlers old (Accept old.worker i) part) fault)

-- ---- mail

-- the letters of a worker's outbox that are for processes of worker v
abbrev pub outbox_for : {S P K : Type 0} → ℕ → HeldWorker S P K → List (Letter P)
outbox_for v held = filter (is_for held.config.workers v) held.outbox

-- a worker after a send to worker v
abbrev pub held_after_send : {S P K : Type 0} → ℕ → HeldWorker S P K → HeldWorker S P K
held_after_send v held = record held {
  outbox = filter (λ letter. not (is_for held.config.workers v letter)) held.outbox;
  sent = raised held.sent held.colour (length (outbox_for v held));
  red_minimum = earlier held.red_minimum (least_time (end_of held.config) (outbox_for v held));
}

-- a worker after a fetch of this mail
abbrev pub held_after_fetch : {S P K : Type 0} → List (Mail P) → HeldWorker S P K → HeldWorker S P K
held_after_fetch mails held = record held { arrived = mails; got = raised (raised held.got White (count_colour White mails)) Red (count_colour Red mails) }

-- with this mail a count of mail got is past its limit
abbrev pub IsTooMuchMail : {P : Type 0} → Counts → List (Mail P) → Type 0
IsTooMuchMail got mails = (MAX_COUNT < got.white + count_colour White mails) ⊎ (MAX_COUNT < got.red + count_colour Red mails)

-- why mail isn't taken out of an inbox, by what arrived before and was got before
abbrev pub IsTakeRefusal : {P : Type 0} → List (Mail P) → Counts → List (Mail P) → Fault → Type 0
IsTakeRefusal arrived got mails fault =
    ((fault ≡ NotLawful) × (is_empty arrived ≡ false)) ⊎ ((fault ≡ Exhausted) × (is_empty arrived ≡ true) × IsTooMuchMail got mails)
