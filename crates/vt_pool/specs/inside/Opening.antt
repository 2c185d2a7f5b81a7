-- A pool at the opening, and the rest of its worker.
use Rattle.std.specs.Prelude.{◌≡◌, ℕ, ◌+◌, ◌≤◌, List, [], ◌∷◌}
use Rattle.vt_key.specs.promise.Times.{opening_time}
use Rattle.vt_key.specs.declared.limits.TheConstants.{MAX_COUNT}
use Rattle.vt_key.specs.declared.letter.Colour.TheVariants.{White}
use Rattle.vt_model.specs.declared.settings.Config.{Config}
use Rattle.vt_model.specs.promise.Handler.{Handlers}
use Rattle.vt_model.specs.inside.Process.{triple_at, IsProcessStream}
use Rattle.vt_model.specs.declared.process.Process.{Process}
use Rattle.vt_model.specs.promise.Settings.{end_of}
use Rattle.vt_model.specs.promise.Simulation.{simulation_of}
use Rattle.vt_steps.specs.promise.World.{opening_part}
use Rattle.vt_kernel.specs.inside.Held.{StandsFor}
use Rattle.vt_pool.specs.inside.View.{number_at}
use Rattle.vt_pool.specs.inside.Steps.{IsLedFrom}
use Rattle.vt_pool.specs.inside.Share.{HeldShare, HeldPool, with_pool, seen}

module _ {S P K : Type 0} where
  -- nothing arrived yet, and nothing was sent or got
  pub record IsRestAtOpening (config : Config) (rest : HeldShare S P K) : Type 0 where
    pub arrived : rest.arrived ≡ []
    pub colour : rest.colour ≡ White
    pub sent : rest.sent ≡ record { white = 0; red = 0 }
    pub got : rest.got ≡ record { white = 0; red = 0 }
    pub red_minimum : rest.red_minimum ≡ end_of config
    pub floor : rest.floor ≡ opening_time

  module _ (handlers : Handlers S P K) (config : Config) (w : ℕ) (pool : HeldPool S P K) where
    -- worker w stands for its part at the opening
    abbrev pub StandsForOpening : Type 0
    StandsForOpening = (rest : HeldShare S P K) → IsRestAtOpening config rest → StandsFor handlers (seen (with_pool rest pool)) (opening_part (simulation_of handlers config) 0 w)

    -- steps of worker w alone lead from its part at the opening to one that it stands for
    abbrev pub IsLedFromOpening : Type 0
    IsLedFromOpening = (rest : HeldShare S P K) → IsRestAtOpening config rest → IsLedFrom handlers (seen (with_pool rest pool)) (opening_part (simulation_of handlers config) 0 w) (seen (with_pool rest pool))

module _ {M S P K : Type 0} (handlers : Handlers S P K) (config : Config) where
  -- a process as its start left it
  pub record IsStarted (p : ℕ) (process : Process M S P K) : Type 0 where
    pub triple : triple_at process.state process.number process.stream ≡ ((simulation_of handlers config).start p).triple
    pub stream : IsProcessStream config.seed p process.stream
    pub few : process.number ≤ MAX_COUNT

  -- the processes of worker w from an index on, as their starts left them
  abbrev pub AreStarted : ℕ → ℕ → List (Process M S P K) → Type 0
  AreStarted w base [] = Unit {0}
  AreStarted w base (process ∷ processes) = IsStarted (number_at config w base) process × AreStarted w (base + 1) processes
