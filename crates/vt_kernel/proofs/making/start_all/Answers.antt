use Rattle.std.proofs.Common.{rules, ◌≡◌, ◌∙◌, ℕ, suc, ◌+◌, ◌*◌, ◌%◌, ◌<◌, List, ◌∷◌, [], ◌++◌, length, map, sym, ap, subst, arith, inl, inr}
use Rattle.std.specs.List.{All}
use Rattle.std.proofs.lemmas.List.{length_push, map-append, length-append}
use Rattle.std.proofs.lemmas.List.Elements.{All-push}
use Rattle.std.proofs.Math.Nat.{suc-mul}
use Rattle.vt_key.specs.declared.fault.Fault.{Fault}
use Rattle.vt_key.specs.declared.fault.Fault.TheVariants.{Memory}
use Rattle.vt_key.specs.declared.letter.Sign.TheVariants.{Plus}
use Rattle.vt_model.specs.promise.Simulation.{simulation_of}
use Rattle.vt_steps.specs.promise.Letters.{stamped, signed}
use Rattle.vt_steps.specs.promise.World.{process_at}
use Rattle.vt_lp.specs.inside.Held.{HeldProcess, StandsFor as ProcessStandsFor, opening_process}
use Rattle.vt_kernel.specs.inside.Held.{AreProcesses}
use Rattle.vt_kernel.proofs.MakeLemmas.{started_sends, started-more, started-fits, index-left, indices-done, index-own, stamped-append, are-push}
use Rattle.vt_key.proofs.ResultLemmas.{if_err}
use Rattle.vt_kernel.proofs.making.start_all.Goals as goal

pub loop-p-preserved : goal.loop-p-preserved
loop-p-preserved g c =
    let inv = c.loop-p.invariant in
    let config = c.args.config in
    let handlers = g.M.Model.handlers c.args.model.now in
    let sim = simulation_of handlers config in
    let w = c.args.w in
    let s = c.args.serial.now in
    let items = c.loop-p.processes.items in
    let n : ℕ = length items in
    let p = c.loop-p.p in
    let q : HeldProcess _ _ _ = c.in_ok-process.process in
    let pushed : c.push.new.self.items ≡ items ++ q ∷ [] = c.in-Ok.ensures.items in
    let longer : length (items ++ q ∷ []) ≡ length items + 1 = length_push items q in
    let counted : length c.push.new.self.items ≡ length (items ++ q ∷ []) = ap length pushed in
    let len : length c.push.new.self.items ≡ suc n = omega (arith, counted, longer) in
    let here : process_at sim w n ≡ p = sym inv.at in
    let own : p % config.workers ≡ w = index-own config.workers w n p c.requires.known inv.at in
    let before = started_sends sim w n in
    let sends = (sim.start p).sends in
    let more : started_sends sim w (suc n) ≡ before ++ sends = started-more sim w n ∙ ap (λ (k : ℕ). before ++ (sim.start k).sends) here in
    let row : suc n * config.workers ≡ n * config.workers + config.workers = suc-mul n config.workers in
    let next : p + config.workers ≡ suc n * config.workers + w = omega (arith, row, inv.at) in
    let plain : n ≡ 0 + n = omega arith in
    let made = c.in_ok-process.ensures.made in
    record {
      at = next ∙ ap (λ (k : ℕ). k * config.workers + w) (sym len);
      near = omega (arith, c.loop-p-test.true);
      processes = subst (AreProcesses config w 0) (sym pushed) (are-push config w 0 items q inv.processes (made.0 ∙ inv.at ∙ ap (λ (k : ℕ). k * config.workers + w) plain) made.1);
      started = subst (All (λ (held : HeldProcess _ _ _). ProcessStandsFor handlers held opening_process)) (sym pushed)
          (All-push (λ (held : HeldProcess _ _ _). ProcessStandsFor handlers held opening_process) items q inv.started c.in_ok-process.ensures.stands);
      outbox = c.in_ok-process.ensures.outbox
          ∙ (λ j. inv.outbox j ++ map (signed Plus) (stamped (own j) (inv.serial j) sends))
          ∙ sym (map-append (signed Plus) (stamped w s before) (stamped w (s + length before) sends))
          ∙ ap (map (signed Plus)) (sym (stamped-append w s before sends))
          ∙ ap (λ (xs : List _). map (signed Plus) (stamped w s xs)) (sym more)
          ∙ ap (λ (k : ℕ). map (signed Plus) (stamped w s (started_sends sim w k))) (sym len);
      serial = (let total : length (started_sends sim w (suc n)) ≡ length before + length sends = ap length more ∙ length-append before sends in
          let all : length (started_sends sim w (length c.push.new.self.items)) ≡ length (started_sends sim w (suc n)) = ap (λ (k : ℕ). length (started_sends sim w k)) len in
          omega (arith, c.in_ok-process.ensures.serial, inv.serial, total, all));
      within = c.in_ok-process.ensures.within inv.within;
    }

pub returns-in_err-process-clause-refused : goal.returns-in_err-process-clause-refused
returns-in_err-process-clause-refused g c =
    let inv = c.loop-p.invariant in
    let config = c.args.config in
    let sim = simulation_of (g.M.Model.handlers c.args.model.now) config in
    let w = c.args.w in
    let n : ℕ = length c.loop-p.processes.items in
    let p = c.loop-p.p in
    let less : p < config.lps = c.loop-p-test.true in
    let left = index-left config.lps config.workers w n p c.requires.known inv.at less in
    let fits = started-fits sim w n left in
    let here : length (sim.start (process_at sim w n)).sends ≡ length (sim.start p).sends = ap (λ (k : ℕ). length (sim.start k).sends) (sym inv.at) in
    let memory : c.in_err-process.field-0.0 ≡ Memory = elim c.in_err-process.ensures.refused [
      | inl unknown ↦ absurd (omega (arith, unknown.1, less))
      | inr known ↦ elim known.1 [
        | inl full ↦ absurd (omega (arith, full.1, fits, here, inv.serial, c.requires.fits))
        | inr refused ↦ refused.0
      ]
    ] in
    if_err (λ (fault : Fault). fault ≡ Memory) c.from_residual.result c.in_err-process.field-0.0 (search rules) memory

pub returns-clause-count : goal.returns-clause-count
returns-clause-count g c =
    let inv = c.loop-p.invariant in
    indices-done c.args.config.lps c.args.config.workers c.args.w (length c.loop-p.processes.items) c.loop-p.p c.requires.known inv.at c.loop-p-test.false inv.near

pub returns-clause-outbox : goal.returns-clause-outbox
returns-clause-outbox g c =
    let inv = c.loop-p.invariant in
    let sim = simulation_of (g.M.Model.handlers c.args.model.now) c.args.config in
    let done = indices-done c.args.config.lps c.args.config.workers c.args.w (length c.loop-p.processes.items) c.loop-p.p c.requires.known inv.at c.loop-p-test.false inv.near in
    inv.outbox ∙ ap (λ (k : ℕ). map (signed Plus) (stamped c.args.w c.args.serial.now (started_sends sim c.args.w k))) done

pub returns-clause-serial : goal.returns-clause-serial
returns-clause-serial g c =
    let inv = c.loop-p.invariant in
    let sim = simulation_of (g.M.Model.handlers c.args.model.now) c.args.config in
    let done = indices-done c.args.config.lps c.args.config.workers c.args.w (length c.loop-p.processes.items) c.loop-p.p c.requires.known inv.at c.loop-p-test.false inv.near in
    inv.serial ∙ ap (λ (k : ℕ). c.args.serial.now + length (started_sends sim c.args.w k)) done
