-- Home and Accept: a letter leaves the outbox or the mail that has arrived, and reaches its process.
use Rattle.std.proofs.Common.{◌≡◌, ℕ, suc, ◌/◌, ◌%◌, inl, inr, Bool, true, false, nat_eq, List, [], take, drop, refl, sym, ◌∙◌, ap, subst, Some, None, slice_get, slice_set, if◌then◌else◌}
use Rattle.std.specs.List.{All, find, remove}
use Rattle.vt_key.specs.promise.Queues.{without_first}
use Rattle.std.proofs.lemmas.List.Elements.{All-from_recursion, recursion_from_All, All-append, All-take, All-drop}
use Rattle.std.specs.Option.{option_map, option_and_then}
use Rattle.std.proofs.lemmas.Bool.Decides.{eqb_tells}
use Rattle.vt_key.proofs.ListLemmas.{every-find, every-without_first, find-passes}
use Rattle.vt_key.specs.declared.letter.Letter.{Letter}
use Rattle.vt_key.specs.declared.letter.Mail.{Mail}
use Rattle.vt_model.specs.declared.settings.Config.{Config}
use Rattle.vt_model.specs.promise.Handler.{Handlers}
use Rattle.vt_model.specs.promise.Simulation.{simulation_of}
use Rattle.vt_model.specs.promise.Settings.{end_of}
use Rattle.vt_steps.specs.declared.step.Step.TheVariants as step
use Rattle.vt_steps.specs.promise.Letters.{Counts}
use Rattle.vt_steps.specs.promise.World.{LogicalProcess, Part}
use Rattle.vt_steps.specs.promise.ProcessSteps.{accept_process}
use Rattle.vt_steps.specs.promise.PartSteps.{at_process, with_effect, is_for, home, accept, deliver}
use Rattle.vt_steps.specs.inside.Cells.{local_step}
use Rattle.vt_lp.specs.inside.Held.{HeldProcess, IsWithinRun, StandsFor as ProcessStandsFor}
use Rattle.vt_lp.specs.inside.Guards.{holds_letter, IsDone as ProcessIsDone}
use Rattle.vt_lp.proofs.AcceptLemmas.{accepted, accept-by}
use Rattle.vt_outbox.specs.inside.Outbox.{HeldOutbox}
use Rattle.vt_kernel.specs.inside.Held.{HeldWorker, StandsFor, AreProcesses, IsWorkerInside}
use Rattle.vt_kernel.specs.inside.Guards.{IsDone}
use Rattle.vt_kernel.proofs.OwnSteps.{at_own, own, own-step}
use Rattle.vt_kernel.proofs.LocalLemmas.{IsOwnIndex, found-at, changed-done, changed-refused}

-- and has what all have
pub find-all : {X : Type 0} (Q : X → Type 0) (test : X → Bool) (xs : List X) (x : X) → All Q xs → find test xs ≡ Some x → Q x
find-all Q test xs x h is = every-find Q test xs x is (recursion_from_All Q xs h)

-- those that are left have it too
pub without-all : {X : Type 0} (Q : X → Type 0) (test : X → Bool) (xs : List X) → All Q xs → All Q (without_first test xs)
without-all Q test xs h = All-from_recursion Q (without_first test xs) (every-without_first Q test xs (recursion_from_All Q xs h))

-- a letter for this worker, by the test
pub for-worker : (workers w dest : ℕ) → nat_eq (dest % workers) w ≡ true → dest % workers ≡ w
for-worker workers w dest is = elim (eqb_tells (dest % workers) w) [ inl e ↦ e.1 | inr e ↦ absurd (let k : true ≡ false = sym is ∙ e.0 in cc) ]

-- a worker is itself
same-worker : (w : ℕ) → nat_eq w w ≡ true
same-worker w = elim (eqb_tells w w) [ inl e ↦ e.0 | inr e ↦ absurd (e.1 refl) ]

module _ {S P K : Type 0} (handlers : Handlers S P K) (held : HeldWorker S P K) (are : AreProcesses held.config held.worker 0 held.processes) (part : Part P) (h : StandsFor handlers held part) where
  -- the same was taken from the outbox, or from the mail, of both
  left-stands : (letters : List (Letter P) → List (Letter P)) (mails : List (Mail P) → List (Mail P))
      → StandsFor handlers (record held { outbox = letters held.outbox; arrived = mails held.arrived }) (record part { outbox = letters part.outbox; arrived = mails part.arrived })
  left-stands letters mails = record {
    processes = h.processes;
    outbox = ap letters h.outbox;
    arrived = ap mails h.arrived;
    colour = h.colour;
    sent = h.sent;
    got = h.got;
    red_minimum = h.red_minimum;
    floor = h.floor;
    serial = h.serial;
  }

  -- the worker and its part without the first letter for one of its processes
  abbrev letter-left : HeldWorker S P K
  letter-left = record held { outbox = without_first (is_for (simulation_of handlers held.config).workers held.worker) held.outbox }

  abbrev part-letter-left : Part P
  part-letter-left = record part { outbox = without_first (is_for (simulation_of handlers held.config).workers held.worker) part.outbox }

  letter-left-stands : StandsFor handlers letter-left part-letter-left
  letter-left-stands = left-stands (without_first (is_for (simulation_of handlers held.config).workers held.worker)) (λ ms. ms)

  -- Home, where its letter was found
  home-is : {letter : Letter P} → find (is_for (simulation_of handlers held.config).workers held.worker) held.outbox ≡ Some letter → letter.event.dest % held.config.workers ≡ held.worker
      → local_step (simulation_of handlers held.config) held.worker (step.Home held.worker) part
      ≡ at_own (simulation_of handlers held.config) held.worker letter.event.dest (at_process (accept_process letter) (letter.event.dest / held.config.workers) part-letter-left)
  home-is {letter} there own_letter =
      ap (λ (b : Bool). if b then home (simulation_of handlers held.config) held.worker part else None) (same-worker held.worker)
      ∙ ap (option_and_then (deliver (simulation_of handlers held.config) part-letter-left)) (ap (find (is_for (simulation_of handlers held.config).workers held.worker)) h.outbox ∙ there)
      ∙ sym (own (simulation_of handlers held.config) held.worker letter.event.dest (at_process (accept_process letter) (letter.event.dest / held.config.workers) part-letter-left) own_letter)

  pub home-done : {letter : Letter P} {index : ℕ} {q : HeldProcess S P K} (new : HeldProcess S P K) → find (is_for (simulation_of handlers held.config).workers held.worker) held.outbox ≡ Some letter
      → IsOwnIndex held.config held.worker letter.event.dest index → slice_get held.processes index ≡ Some q → (new.lp ≡ q.lp) × (new.config ≡ q.config)
      → ((process : LogicalProcess P) → ProcessStandsFor handlers q process → ProcessIsDone handlers new (accept_process letter process) [] [] 0 0)
      → IsDone handlers (record letter-left { processes = slice_set held.processes index new }) (local_step (simulation_of handlers held.config) held.worker (step.Home held.worker) part)
  home-done {letter} {index} new there own_index at same done =
      subst (IsDone handlers (record letter-left { processes = slice_set held.processes index new })) (sym (home-is there own_index.1))
      (changed-done handlers letter-left are part-letter-left letter-left-stands new (accept_process letter) own_index at same done)

  pub home-refused : {letter : Letter P} {index : ℕ} {q : HeldProcess S P K} → find (is_for (simulation_of handlers held.config).workers held.worker) held.outbox ≡ Some letter
      → IsOwnIndex held.config held.worker letter.event.dest index → slice_get held.processes index ≡ Some q
      → ((process : LogicalProcess P) → ProcessStandsFor handlers q process → accept_process letter process ≡ None)
      → local_step (simulation_of handlers held.config) held.worker (step.Home held.worker) part ≡ None
  home-refused {letter} there own_index at none =
      home-is there own_index.1 ∙ changed-refused handlers letter-left are part-letter-left letter-left-stands (accept_process letter) own_index at none

  pub home-nothing : find (is_for (simulation_of handlers held.config).workers held.worker) held.outbox ≡ None
      → local_step (simulation_of handlers held.config) held.worker (step.Home held.worker) part ≡ None
  home-nothing none =
      ap (λ (b : Bool). if b then home (simulation_of handlers held.config) held.worker part else None) (same-worker held.worker)
      ∙ ap (option_and_then (deliver (simulation_of handlers held.config) part-letter-left)) (ap (find (is_for (simulation_of handlers held.config).workers held.worker)) h.outbox ∙ none)

  -- ---- Accept at index i

  module _ (i : ℕ) where
    -- the worker and its part without the mail there
    abbrev mail-left : HeldWorker S P K
    mail-left = record held { arrived = remove held.arrived i }

    abbrev part-mail-left : Part P
    part-mail-left = record part { arrived = remove part.arrived i }

    mail-left-stands : StandsFor handlers mail-left part-mail-left
    mail-left-stands = left-stands (λ ls. ls) (λ ms. remove ms i)

    -- Accept, where there is mail
    accept-is : {mail : Mail P} → slice_get held.arrived i ≡ Some mail → mail.letter.event.dest % held.config.workers ≡ held.worker
        → local_step (simulation_of handlers held.config) held.worker (step.Accept held.worker i) part
        ≡ at_own (simulation_of handlers held.config) held.worker mail.letter.event.dest (at_process (accept_process mail.letter) (mail.letter.event.dest / held.config.workers) part-mail-left)
    accept-is {mail} there own_letter =
        ap (λ (b : Bool). if b then accept (simulation_of handlers held.config) i part else None) (same-worker held.worker)
        ∙ ap (option_and_then (λ (mail : Mail P). deliver (simulation_of handlers held.config) part-mail-left mail.letter)) (ap (λ ms. slice_get ms i) h.arrived ∙ there)
        ∙ sym (own (simulation_of handlers held.config) held.worker mail.letter.event.dest (at_process (accept_process mail.letter) (mail.letter.event.dest / held.config.workers) part-mail-left) own_letter)

    pub accept-done : {mail : Mail P} {index : ℕ} {q : HeldProcess S P K} (new : HeldProcess S P K) → slice_get held.arrived i ≡ Some mail
        → IsOwnIndex held.config held.worker mail.letter.event.dest index → slice_get held.processes index ≡ Some q → (new.lp ≡ q.lp) × (new.config ≡ q.config)
        → ((process : LogicalProcess P) → ProcessStandsFor handlers q process → ProcessIsDone handlers new (accept_process mail.letter process) [] [] 0 0)
        → IsDone handlers (record mail-left { processes = slice_set held.processes index new }) (local_step (simulation_of handlers held.config) held.worker (step.Accept held.worker i) part)
    accept-done {mail} {index} new there own_index at same done =
        subst (IsDone handlers (record mail-left { processes = slice_set held.processes index new })) (sym (accept-is there own_index.1))
        (changed-done handlers mail-left are part-mail-left mail-left-stands new (accept_process mail.letter) own_index at same done)

    pub accept-refused : {mail : Mail P} {index : ℕ} {q : HeldProcess S P K} → slice_get held.arrived i ≡ Some mail
        → IsOwnIndex held.config held.worker mail.letter.event.dest index → slice_get held.processes index ≡ Some q
        → ((process : LogicalProcess P) → ProcessStandsFor handlers q process → accept_process mail.letter process ≡ None)
        → local_step (simulation_of handlers held.config) held.worker (step.Accept held.worker i) part ≡ None
    accept-refused {mail} there own_index at none =
        accept-is there own_index.1 ∙ changed-refused handlers mail-left are part-mail-left mail-left-stands (accept_process mail.letter) own_index at none

    -- of a letter that its process does not hold it is lawful
    pub accept-lawful : {mail : Mail P} {index : ℕ} {q : HeldProcess S P K} → slice_get held.arrived i ≡ Some mail
        → IsOwnIndex held.config held.worker mail.letter.event.dest index → slice_get held.processes index ≡ Some q
        → holds_letter q.pending q.waiting q.past mail.letter.sign mail.letter.event.rank ≡ false
        → (new : Part P) × (local_step (simulation_of handlers held.config) held.worker (step.Accept held.worker i) part ≡ Some new)
    accept-lawful {mail} {index} {q} there own_index at new =
        let f = found-at handlers mail-left are part-mail-left mail-left-stands own_index at in (
          with_effect part-mail-left (mail.letter.event.dest / held.config.workers) (accepted handlers f.process mail.letter.sign mail.letter),
          accept-is there own_index.1
              ∙ own-step (simulation_of handlers held.config) held.worker mail.letter.event.dest (accept_process mail.letter) part-mail-left f.process own_index.1 f.there
              ∙ ap (option_map (with_effect part-mail-left (mail.letter.event.dest / held.config.workers))) (accept-by handlers q f.process mail.letter false new f.stands),
        )

    pub accept-nothing : slice_get held.arrived i ≡ None → local_step (simulation_of handlers held.config) held.worker (step.Accept held.worker i) part ≡ None
    accept-nothing none =
        ap (λ (b : Bool). if b then accept (simulation_of handlers held.config) i part else None) (same-worker held.worker)
        ∙ ap (option_and_then (λ (mail : Mail P). deliver (simulation_of handlers held.config) part-mail-left mail.letter)) (ap (λ ms. slice_get ms i) h.arrived ∙ none)

-- a letter that was found in the outbox is for one of the worker's processes, before the end of the run
pub found-in : {S P K : Type 0} {config : Config} {w : ℕ} {processes : List (HeldProcess S P K)} {outbox : HeldOutbox P} {arrived : List (Mail P)} {sent got : Counts} {serial : ℕ}
    → IsWorkerInside config w processes outbox arrived sent got serial → (letter : Letter P) → find (λ (l : Letter P). nat_eq (l.event.dest % config.workers) w) outbox.letters ≡ Some letter
    → (letter.event.dest % config.workers ≡ w) × IsWithinRun config.lps (end_of config) letter
found-in {config = config} {w = w} {outbox = outbox} h letter is = (
  for-worker config.workers w letter.event.dest (find-passes (λ l. nat_eq (l.event.dest % config.workers) w) outbox.letters letter is),
  find-all (IsWithinRun config.lps (end_of config)) (λ l. nat_eq (l.event.dest % config.workers) w) outbox.letters letter h.sendable is,
)

-- what all have, those have that are left when one is removed
pub removed-all : {X : Type 0} (Q : X → Type 0) (xs : List X) (i : ℕ) → All Q xs → All Q (remove xs i)
removed-all Q xs i h = All-append Q (take i xs) (drop (suc i) xs) (All-take Q i xs h) (All-drop Q (suc i) xs h)
