use Rattle.std.proofs.Common.{◌≡◌, ◌∙◌, ℕ, suc, ◌+◌, ◌*◌, ◌<◌, ◌≤◌, true, false, length, refl, sym, ap, arith}
use Rattle.std.proofs.lemmas.List.{length-append}
use Rattle.std.proofs.Math.Nat.{suc-mul}
use Rattle.vt_key.specs.declared.limits.TheConstants.{MAX_COUNT}
use Rattle.vt_model.specs.promise.Simulation.{simulation_of}
use Rattle.vt_steps.specs.promise.World.{process_at, start_sends}
use Rattle.vt_kernel.proofs.MakeLemmas.{started_sends, started-more, started-fits, index-left, indices-done, few-sent}
use Rattle.vt_kernel.proofs.making.starts_fit.Goals as goal

pub returns-then-serial : goal.returns-then-serial
returns-then-serial g c =
    let model = c.args.model.now in
    let config = c.args.config in
    let sim = simulation_of (g.M.Model.handlers model) config in
    let few = few-sent (g.M.Model.handlers model) config (g.met.M.Model.start_within model) (g.met.M.Model.forward_within model) c.args.w c.requires.known in
    let fits : c.args.serial + length (start_sends sim c.args.w) ≤ MAX_COUNT = omega (arith, few, config.few_processes, config.few_workers, c.if-serial.true) in
    (λ _. fits, λ _. refl)

pub returns-then-sent-serial : goal.returns-then-sent-serial
returns-then-sent-serial g c =
    let inv = c.loop-p.invariant in
    let config = c.args.config in
    let sim = simulation_of (g.M.Model.handlers c.args.model.now) config in
    let w = c.args.w in
    let n : ℕ = inv.0 in
    let left = index-left config.lps config.workers w n c.loop-p.p c.requires.known inv.1 c.loop-p-test.true in
    let fits = started-fits sim w n left in
    let here : length (sim.start (process_at sim w n)).sends ≡ length (sim.start c.loop-p.p).sends = ap (λ (k : ℕ). length (sim.start k).sends) (sym inv.1) in
    let over : MAX_COUNT < c.args.serial + length (start_sends sim w) = omega (arith, fits, here, inv.3, inv.4, c.count_started-sent.ensures, c.if-sent-serial.true) in
    (λ e. absurd (let h : false ≡ true = e in cc), λ e. absurd (omega (arith, e, over)))

pub loop-p-preserved : goal.loop-p-preserved
loop-p-preserved g c =
    let inv = c.loop-p.invariant in
    let config = c.args.config in
    let sim = simulation_of (g.M.Model.handlers c.args.model.now) config in
    let w = c.args.w in
    let n : ℕ = inv.0 in
    let p = c.loop-p.p in
    let row : suc n * config.workers ≡ n * config.workers + config.workers = suc-mul n config.workers in
    let total : length (started_sends sim w (suc n)) ≡ length (started_sends sim w n) + length (sim.start (process_at sim w n)).sends =
    ap length (started-more sim w n) ∙ length-append (started_sends sim w n) (sim.start (process_at sim w n)).sends in
    let here : length (sim.start (process_at sim w n)).sends ≡ length (sim.start p).sends = ap (λ (k : ℕ). length (sim.start k).sends) (sym inv.1) in
    (suc n, omega (arith, row, inv.1), omega (arith, c.loop-p-test.true), omega (arith, inv.3, total, here, c.count_started-sent.ensures), omega (arith, inv.4, c.if-sent-serial.false))

pub returns : goal.returns
returns g c =
    let inv = c.loop-p.invariant in
    let config = c.args.config in
    let sim = simulation_of (g.M.Model.handlers c.args.model.now) config in
    let done = indices-done config.lps config.workers c.args.w inv.0 c.loop-p.p c.requires.known inv.1 c.loop-p-test.false inv.2 in
    let all : length (started_sends sim c.args.w inv.0) ≡ length (start_sends sim c.args.w) = ap (λ (k : ℕ). length (started_sends sim c.args.w k)) done in
    (λ _. omega (arith, inv.3, inv.4, all), λ _. refl)
