-- Undo and Cancel at one process, as often as one of them is lawful.
use Rattle.std.specs.Prelude.{◌≡◌, ℕ, ◌+◌, ◌%◌, ◌^◌, List, [], ◌∷◌, ◌++◌, Some, None}
use Rattle.vt_key.specs.declared.order.Stamp.{Stamp}
use Rattle.vt_key.specs.declared.letter.Letter.{Letter}
use Rattle.vt_model.specs.promise.Handler.{Handlers}
use Rattle.vt_steps.specs.declared.step.Step.{Step}
use Rattle.vt_steps.specs.declared.step.Step.TheVariants.{Undo, Cancel}
use Rattle.vt_steps.specs.promise.World.{LogicalProcess}
use Rattle.vt_steps.specs.promise.ProcessSteps.{ProcessEffect, undo_process, cancel_process}
use Rattle.vt_lp.specs.inside.Held.{HeldProcess, StandsFor}
use Rattle.vt_kernel.specs.inside.Local.{count_undos}

module _ {P : Type 0} where
  -- one effect and then another
  abbrev pub and_then : ProcessEffect P → ProcessEffect P → ProcessEffect P
  and_then first second = record { process = second.process; letters = first.letters ++ second.letters; serials = first.serials + second.serials }

  -- nothing is done
  abbrev pub nothing_done : LogicalProcess P → ProcessEffect P
  nothing_done process = record { process = process; letters = []; serials = 0 }

  -- these steps, each lawful, lead a process to this effect, from one that is there already
  pub data LedTo (p : ℕ) (process : LogicalProcess P) : List Step → ProcessEffect P → Type 0 where
    not_moved : LedTo p process [] (nothing_done process)
    undone : (steps : List Step) (so_far effect : ProcessEffect P) → LedTo p process steps so_far → undo_process so_far.process ≡ Some effect
        → LedTo p process (steps ++ Undo p ∷ []) (and_then so_far effect)
    cancelled : (stamp : Stamp) (steps : List Step) (so_far effect : ProcessEffect P) → LedTo p process steps so_far → cancel_process stamp so_far.process ≡ Some effect
        → LedTo p process (steps ++ Cancel p stamp ∷ []) (and_then so_far effect)

module _ {S P K : Type 0} (handlers : Handlers S P K) where
  -- Undo and Cancel at a process, each lawful, lead to one that this value stands for; their letters went to the back of the
  -- outbox, and they took no serial; so many of them were Undo, modulo 2^64
  pub record IsLed (process : LogicalProcess P) (new : HeldProcess S P K) (outbox new_outbox : List (Letter P)) (undone : ℕ) : Type 0 where
    pub steps : List Step
    pub effect : ProcessEffect P
    pub led : LedTo new.lp process steps effect
    pub stands : StandsFor handlers new effect.process
    pub letters : new_outbox ≡ outbox ++ effect.letters
    pub serials : effect.serials ≡ 0
    pub counted : undone ≡ count_undos steps % 2 ^ 64

  -- Undo and Cancel lead to a process that this value stands for, and neither is lawful there any more
  pub record IsSettledTo (process : LogicalProcess P) (new : HeldProcess S P K) (outbox new_outbox : List (Letter P)) (undone : ℕ) : Type 0 where
    pub led : IsLed process new outbox new_outbox undone
    pub no_undo : undo_process led.effect.process ≡ None
    pub no_cancel : (stamp : Stamp) → cancel_process stamp led.effect.process ≡ None
