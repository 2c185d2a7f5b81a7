-- A commit at the claimed book, while the kernel still keeps what is committed.
use Rattle.std.specs.Prelude.{◌≡◌, ℕ, List, [], ◌∷◌, ◌++◌, Some}
use Rattle.vt_key.specs.promise.Times.{Time}
use Rattle.vt_model.specs.declared.settings.Config.{Config}
use Rattle.vt_model.specs.promise.Handler.{Handlers}
use Rattle.vt_model.specs.promise.Simulation.{simulation_of}
use Rattle.vt_model.specs.promise.Settings.{end_of}
use Rattle.vt_steps.specs.declared.step.Step.{Step}
use Rattle.vt_steps.specs.declared.step.Step.TheVariants.{Commit}
use Rattle.vt_steps.specs.declared.step.Reply.TheVariants.{Done}
use Rattle.vt_steps.specs.promise.World.{Part}
use Rattle.vt_steps.specs.inside.Marked.{made_done}
use Rattle.vt_steps.specs.promise.PartSteps.{part_after_commit}
use Rattle.vt_steps.specs.inside.Cells.{local_steps}
use Rattle.vt_kernel.specs.inside.Held.{HeldWorker, StandsFor}
use Rattle.vt_cells.specs.inside.Calls.{CommitsTo}
use Rattle.vt_places.specs.declared.view.View.{View}
use Rattle.vt_places.specs.inside.Hands.{empty_hand}
use Rattle.vt_places.specs.inside.Calls.{IsSamePlace, IsDoneAt, ShowsFloor}

module _ {S P K : Type 0} (handlers : Handlers S P K) (config : Config) where
  -- local steps that lead to the kernel as it was lent, and then a commit: they are the place's own steps from now on, its part is
  -- without what was committed, it holds nothing, and it was shown the floor of the book as it is now
  pub record Commits (v : View P) (worker : ℕ) (k : HeldWorker S P K) (seen : Time) (w : View P) : Type 0 where
    pub steps : List Step
    pub part : Part P
    pub led : local_steps (simulation_of handlers config) v.worker steps v.part ≡ Some part
    pub stood : StandsFor handlers k part
    pub mine : w.mine ≡ v.mine ++ (made_done steps ++ record { step = Commit worker; reply = Done } ∷ [])
    pub gone : w.part ≡ part_after_commit part
    pub at : IsDoneAt (simulation_of handlers config) v steps part (Commit worker) Done w
    pub commits : CommitsTo handlers config worker k at.found at.now
    pub shows : ShowsFloor (end_of config) seen at.now
    pub same : IsSamePlace v w
    pub floor : w.seen ≡ seen
    pub rests : w.hand ≡ empty_hand
