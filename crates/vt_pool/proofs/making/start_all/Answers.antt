use Rattle.std.proofs.Common.{◌≡◌, ◌∙◌, ℕ, suc, ◌+◌, ◌*◌, ◌%◌, List, ◌∷◌, [], ◌++◌, length, map, sym, ap, subst, arith}
use Rattle.std.proofs.lemmas.List.{length_push, map-append, length-append}
use Rattle.std.proofs.lemmas.List.Elements.{All-append}
use Rattle.std.proofs.Math.Nat.{suc-mul}
use Rattle.vt_key.specs.declared.letter.Sign.TheVariants.{Plus}
use Rattle.vt_model.specs.declared.process.Process.{Process}
use Rattle.vt_model.specs.promise.Settings.{end_of}
use Rattle.vt_model.specs.promise.Simulation.{simulation_of}
use Rattle.vt_steps.specs.promise.Letters.{stamped, signed}
use Rattle.vt_steps.specs.promise.World.{process_at}
use Rattle.vt_lp.specs.inside.Held.{AllWithinRun, IsWithinRun}
use Rattle.vt_outbox.specs.inside.Outbox.{HeldOutbox}
use Rattle.vt_kernel.proofs.MakeLemmas.{started_sends, started-more, indices-done, index-own, stamped-append, few-sent}
use Rattle.vt_pool.specs.inside.View.{number_at}
use Rattle.vt_pool.specs.inside.Opening.{AreStarted, IsStarted}
use Rattle.vt_pool.proofs.OpeningLemmas as opening
use Rattle.vt_pool.proofs.making.start_all.Goals as goal

pub loop-p-preserved : goal.loop-p-preserved
loop-p-preserved g c =
    let inv = c.loop-p.invariant in
    let config = c.args.config in
    let handlers = g.M.Model.handlers c.args.model.now in
    let sim = simulation_of handlers config in
    let w = c.args.w in
    let items = c.loop-p.processes.items in
    let n : ℕ = length items in
    let p = c.loop-p.p in
    let q : Process _ _ _ _ = c.in-Ok.started.0 in
    let pushed : c.push.new.self.items ≡ items ++ q ∷ [] = c.in-Ok-push.ensures.items in
    let longer : length (items ++ q ∷ []) ≡ length items + 1 = length_push items q in
    let counted : length c.push.new.self.items ≡ length (items ++ q ∷ []) = ap length pushed in
    let len : length c.push.new.self.items ≡ suc n = omega (arith, counted, longer) in
    let here : process_at sim w n ≡ p = sym inv.at in
    let own : p % config.workers ≡ w = index-own config.workers w n p c.requires.known inv.at in
    let before = started_sends sim w n in
    let sends = (sim.start p).sends in
    let more : started_sends sim w (suc n) ≡ before ++ sends = started-more sim w n ∙ ap (λ (k : ℕ). before ++ (sim.start k).sends) here in
    let row : suc n * config.workers ≡ n * config.workers + config.workers = suc-mul n config.workers in
    let next : p + config.workers ≡ suc n * config.workers + w = omega (arith, row, inv.at) in
    let plain : p ≡ number_at config w (0 + n) = (let same : n ≡ 0 + n = omega arith in inv.at ∙ ap (number_at config w) same) in
    let made = c.in-Ok.ensures in
    let from : length before ≡ 0 + length before = omega arith in
    let letters : c.put.new.self.letters ≡ map (signed Plus) (stamped w 0 (started_sends sim w (length c.push.new.self.items))) =
    ap (λ (o : HeldOutbox _). o.letters) c.put.ensures
    ∙ (λ j. (inv.outbox j).letters ++ made.messages j)
    ∙ (λ j. map (signed Plus) (stamped w 0 before) ++ map (signed Plus) (stamped (own j) ((inv.serial ∙ from) j) sends))
    ∙ sym (map-append (signed Plus) (stamped w 0 before) (stamped w (0 + length before) sends))
    ∙ ap (map (signed Plus)) (sym (stamped-append w 0 before sends))
    ∙ ap (λ (xs : List _). map (signed Plus) (stamped w 0 xs)) (sym more)
    ∙ ap (λ (k : ℕ). map (signed Plus) (stamped w 0 (started_sends sim w k))) (sym len) in
    let of : c.put.new.self.config ≡ config = ap (λ (o : HeldOutbox _). o.config) c.put.ensures ∙ ap (λ (o : HeldOutbox _). o.config) inv.outbox in
    record {
      at = next ∙ ap (λ (k : ℕ). k * config.workers + w) (sym len);
      near = omega (arith, c.loop-p-test.true);
      started = subst (AreStarted handlers config w 0) (sym pushed)
          (opening.started-more handlers config w 0 items q inv.started (subst (λ k. IsStarted handlers config k q) plain (record { triple = made.triple; stream = made.stream; few = made.numbered })));
      outbox = λ j. record { config = of j; letters = letters j };
      serial = (let total : length (started_sends sim w (suc n)) ≡ length before + length sends = ap length more ∙ length-append before sends in
          let all : length (started_sends sim w (length c.push.new.self.items)) ≡ length (started_sends sim w (suc n)) = ap (λ (k : ℕ). length (started_sends sim w k)) len in
          omega (arith, c.len.ensures, made.all, made.counted, inv.serial, total, all));
      within = subst (AllWithinRun config) (sym (ap (λ (o : HeldOutbox _). o.letters) c.put.ensures)) (All-append (IsWithinRun config.lps (end_of config)) c.loop-p.outbox.letters c.in-Ok.started.1 inv.within made.within);
    }

pub overflow_add-serial : goal.overflow_add-serial
overflow_add-serial g c = omega (arith, c.len.ensures, c.in-Ok.ensures.all, c.in-Ok.ensures.counted)

pub returns-clause-count : goal.returns-clause-count
returns-clause-count g c =
    let inv = c.loop-p.invariant in
    indices-done c.args.config.lps c.args.config.workers c.args.w (length c.loop-p.processes.items) c.loop-p.p c.requires.known inv.at c.loop-p-test.false inv.near

pub returns-clause-outbox : goal.returns-clause-outbox
returns-clause-outbox g c =
    let inv = c.loop-p.invariant in
    let config = c.args.config in
    let sim = simulation_of (g.M.Model.handlers c.args.model.now) config in
    let done = indices-done config.lps config.workers c.args.w (length c.loop-p.processes.items) c.loop-p.p c.requires.known inv.at c.loop-p-test.false inv.near in
    inv.outbox ∙ (λ j. record { config = config; letters = map (signed Plus) (stamped c.args.w 0 (started_sends sim c.args.w (done j))) })

pub returns-clause-serial : goal.returns-clause-serial
returns-clause-serial g c =
    let inv = c.loop-p.invariant in
    let sim = simulation_of (g.M.Model.handlers c.args.model.now) c.args.config in
    let done = indices-done c.args.config.lps c.args.config.workers c.args.w (length c.loop-p.processes.items) c.loop-p.p c.requires.known inv.at c.loop-p-test.false inv.near in
    inv.serial ∙ ap (λ (k : ℕ). length (started_sends sim c.args.w k)) done

pub returns-clause-few : goal.returns-clause-few
returns-clause-few g c =
    let inv = c.loop-p.invariant in
    let model = c.args.model.now in
    let config = c.args.config in
    let sim = simulation_of (g.M.Model.handlers model) config in
    let done = indices-done config.lps config.workers c.args.w (length c.loop-p.processes.items) c.loop-p.p c.requires.known inv.at c.loop-p-test.false inv.near in
    let all = inv.serial ∙ ap (λ (k : ℕ). length (started_sends sim c.args.w k)) done in
    let few = few-sent (g.M.Model.handlers model) config (g.met.M.Model.start_within model) (g.met.M.Model.forward_within model) c.args.w c.requires.known in
    omega (arith, all, few, config.few_processes, config.few_workers)
