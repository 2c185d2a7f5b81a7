-- The worker whose part each step reads and changes.
use Rattle.std.specs.Prelude.{ℕ, Option, Some, None}
use Rattle.vt_model.specs.promise.Simulation.{Simulation}
use Rattle.vt_steps.specs.declared.step.Step.{Step}
use Rattle.vt_steps.specs.promise.Actions.{Action, on_part, at_inbox, at_board, at_book, on_book, action_of}

-- the worker whose part it is about
abbrev pub action_worker : {P : Type 0} → Action P → Option ℕ
action_worker (on_part w step) = Some w
action_worker (at_inbox w v step) = Some w
action_worker (at_board w step) = Some w
action_worker (at_book w step) = Some w
action_worker (on_book step) = None

-- the worker whose part a step reads and changes; Close is about no part
abbrev pub worker_of : {S P : Type 0} → Simulation S P → Step → Option ℕ
worker_of sim step = action_worker (action_of sim step)
