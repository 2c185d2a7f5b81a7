-- How a run goes on.
use Rattle.std.proofs.Common.{◌≡◌, ℕ, zero, suc, nat_eq, if◌then◌else◌, Option, Some, None, sym, ap, ◌∙◌}
use Rattle.vt_riscv.specs.declared.layout.TheConstants.{RETURN}
use Rattle.vt_riscv.specs.declared.code.Code.{Code}
use Rattle.vt_riscv.specs.promise.Machines.{Machine}
use Rattle.vt_riscv.specs.declared.machine.Stop.{Stop}
use Rattle.vt_riscv.specs.declared.machine.Stop.TheVariants.{Ended, Spent}
use Rattle.vt_riscv.specs.promise.Steps.{step_of, followed, run_of}

module _ {N : ℕ} (code : Code) where
  -- a run goes on as its first step says
  pub run-step : (left fuel : ℕ) (m n : Machine N) (stop : Option Stop) → left ≡ suc fuel → stop ≡ (step_of code m).stop → n ≡ (step_of code m).machine
      → run_of code left m ≡ followed (run_of code fuel) fuel n stop
  unfolding run_of
  run-step left fuel m n stop more to there = ap (λ (k : ℕ). run_of code k m) more ∙ (λ j. followed (run_of code fuel) fuel (sym there j) (sym to j))

  -- a run goes on behind a step that doesn't stop it
  pub run-on : (left fuel : ℕ) (m n : Machine N) (stop : Option Stop) → left ≡ suc fuel → stop ≡ (step_of code m).stop → n ≡ (step_of code m).machine → stop ≡ None
      → run_of code left m ≡ run_of code fuel n
  run-on left fuel m n stop more to there on = run-step left fuel m n stop more to there ∙ ap (followed (run_of code fuel) fuel n) on

  -- a run stops where its first step does
  pub run-stop : (left fuel : ℕ) (m n : Machine N) (stop : Option Stop) (why : Stop) → left ≡ suc fuel → stop ≡ (step_of code m).stop → n ≡ (step_of code m).machine → stop ≡ Some why
      → run_of code left m ≡ record { outcome = record { stop = why; left = fuel }; machine = n }
  run-stop left fuel m n stop why more to there off = run-step left fuel m n stop more to there ∙ ap (followed (run_of code fuel) fuel n) off

  -- a run ends where no step is left
  pub run-none : (left : ℕ) (m : Machine N) → left ≡ zero
      → run_of code left m ≡ record { outcome = record { stop = if nat_eq m.pc RETURN then Ended else Spent; left = 0 }; machine = m }
  unfolding run_of
  run-none left m none = ap (λ (k : ℕ). run_of code k m) none
