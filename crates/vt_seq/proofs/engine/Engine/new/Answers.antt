use Rattle.std.proofs.Common.{slice_index_or, refl}
use Rattle.vt_model.specs.promise.Simulation.{simulation_of}
use Rattle.vt_model.specs.promise.Histories.{IsLawful}
use Rattle.vt_model.specs.declared.settings.Config.{Config}
use Rattle.vt_model.proofs.LawLemmas.{lawful_of}
use Rattle.vt_seq.proofs.StepLemmas.{among-at, taken}
use Rattle.vt_seq.proofs.engine.Engine.new.Given.{Over}
use Rattle.vt_seq.proofs.engine.Engine.new.Goals as goal

-- the model's laws make its simulation lawful
lawful : (g : Over) (m : _) (config : Config) → IsLawful (simulation_of (g.M.Model.handlers m) config)
lawful g m config = lawful_of (g.M.Model.handlers m) config (g.met.M.Model.start_within m) (g.met.M.Model.forward_within m)

pub invariant_of-result : goal.invariant_of-result
invariant_of-result g c =
    let h = c.in-Ok-start_all.ensures in
    let pending = c.start_all.new.pending in
    let processes = c.start_all.new.processes.items in
    record {
      within_run = λ k d l. let t = taken _ (lawful g c.args.model.now c.args.config) 0 pending processes h.stands (slice_index_or pending k d) (among-at pending k d l) in record { known = t.0; soon = t.1 };
      all_there = h.all_there;
      numbered = h.numbered;
      streams = h.streams;
      stands = ∣ (0, h.stands) ∣₁;
    }

pub start_all-requires-clause-no_pending : goal.start_all-requires-clause-no_pending
start_all-requires-clause-no_pending g c κs within = c.in-Ok.ensures.empty

pub start_all-requires-clause-no_processes : goal.start_all-requires-clause-no_processes
start_all-requires-clause-no_processes g c κs within = c.in-Ok-with_capacity.ensures.items

pub returns : goal.returns
returns g c = record { model = refl; config = refl; stands = c.in-Ok-start_all.ensures.stands; refused = tt }

pub returns-in_default : goal.returns-in_default
returns-in_default g c = record { model = tt; config = tt; stands = tt; refused = refl }

pub returns-in_default-with_capacity : goal.returns-in_default-with_capacity
returns-in_default-with_capacity g c = record { model = tt; config = tt; stands = tt; refused = refl }

pub returns-in_default-start_all : goal.returns-in_default-start_all
returns-in_default-start_all g c = record { model = tt; config = tt; stands = tt; refused = refl }
