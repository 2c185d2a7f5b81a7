use Rattle.std.proofs.Common.{ℕ, suc, ◌<◌, ◌≤◌, List, length, slice_index_or, sym, subst, refl, inl, inr}
use Rattle.std.proofs.Math.Logic.{∥∥₁_map, ∥∥₁_elim}
use Rattle.std.proofs.Props.{props}
use base.Stored.{Coded-set}
use Rattle.vt_key.specs.declared.limits.TheConstants.{MAX_COUNT}
use Rattle.vt_model.specs.declared.process.Process.{Process}
use Rattle.vt_model.specs.declared.sending.Sent.{Sent}
use Rattle.vt_model.specs.declared.settings.Config.{Config}
use Rattle.vt_model.specs.promise.Histories.{IsLawful}
use Rattle.vt_model.specs.inside.Process.{IsProcessStream}
use Rattle.vt_model.specs.promise.Settings.{end_of}
use Rattle.vt_model.specs.promise.Simulation.{simulation_of}
use Rattle.vt_model.proofs.LawLemmas.{lawful_of}
use Rattle.vt_model.proofs.Sizes.{out_fits}
use Rattle.vt_seq.specs.inside.Queue.{IsWithinRun}
use Rattle.vt_seq.proofs.StepLemmas.{first_within, next_of, seated_state, stands_step, stays_at, refused_next, unmoved, numbers_below_next, taken_next, falls, none_there, either_way, set_same, set_all}
use Rattle.vt_seq.proofs.GivenLemmas.{adds_nothing, adds_step}
use Rattle.vt_seq.proofs.PlainLemmas.{items_count, none_told, some_told, true_false}
use Rattle.vt_seq.proofs.engine.Engine.step.Given.{Over}
use Rattle.vt_seq.proofs.engine.Engine.step.Goals as goal

-- the model's laws make its simulation lawful
lawful : (g : Over) (m : _) (config : Config) → IsLawful (simulation_of (g.M.Model.handlers m) config)
lawful g m config = lawful_of (g.M.Model.handlers m) config (g.met.M.Model.start_within m) (g.met.M.Model.forward_within m)

pub first-requires : goal.first-requires
first-requires g c κs within a there = within a there

pub index_mut-requires : goal.index_mut-requires
index_mut-requires g c =
    let s = c.args.self.now in subst (λ (k : ℕ). c.in-Some.event.dest < k) (sym s.all_there) (first_within s.pending c.in-Some.ensures s.within_run).known

pub advance-requires-send-M-Payload : goal.advance-requires-send-M-Payload
advance-requires-send-M-Payload g c = λ _ _. c.type_bounds.send-M-Payload

pub advance-requires-after_bounds : goal.advance-requires-after_bounds
advance-requires-after_bounds g c κs within =
    let s = c.args.self.now in
    let e = c.in-Some.event in
    let p = c.index_mut.result.now in
    let next = next_of c.in-Some.ensures c.index_mut.ensures.value s.within_run (items_count s.processes s.all_there) in
    let numbered = subst (λ (o : Process _ _ _ _). o.number ≤ MAX_COUNT) next.at (s.numbered e.dest p next.known) in
    let stream = subst (λ (o : Process _ _ _ _). IsProcessStream s.config.seed e.dest o.stream) next.at (s.streams e.dest p next.known) in (
      out_fits _ _ g.met.M.Model.payload_align g.met.M.Model.payload_size,
      (
        next.known,
        (
          next.soon,
          (
            numbered,
            (
              stream,
              (
                next.some,
                λ d m source. ∥∥₁_elim s.stands (Prim.hlevel props) (λ x. numbers_below_next _ (lawful g s.model.now s.config) x.0 x.1 next d m source),
              ),
            ),
          ),
        ),
      ),
    )

pub invariant_of-self-2 : goal.invariant_of-self-2
invariant_of-self-2 g c =
    let s = c.args.self.now in
    let m = s.model.now in
    let e = c.in-Some.event in
    let p = c.index_mut.result.now in
    let q = c.advance.new.process in
    let a = c.advance.ensures in
    let next = next_of c.in-Some.ensures c.index_mut.ensures.value s.within_run (items_count s.processes s.all_there) in
    let inside : e.dest < length s.processes.items = subst (λ (k : ℕ). e.dest < k) (sym next.there) next.known in
    record {
      within_run = λ k d l.
          either_way c.advance.result a.done a.pending a.records a.records
          (λ done. taken_next _ (lawful g m s.config) q next done s.within_run k d l)
          (λ pending records more. subst (λ (xs : List (Sent _)). k < length xs → IsWithinRun s.config.lps (end_of s.config) (slice_index_or xs k d)) (sym pending) (s.within_run k d) l);
      all_there = s.all_there;
      numbered = set_all (λ (r : ℕ) (o : Process _ _ _ _). o.number ≤ MAX_COUNT) s.config.lps s.processes.items e.dest q inside a.numbered s.numbered;
      streams = set_all (λ (r : ℕ) (o : Process _ _ _ _). IsProcessStream s.config.seed r o.stream) s.config.lps s.processes.items e.dest q inside a.stream s.streams;
      stands = ∥∥₁_map s.stands (λ x.
          let state = seated_state (g.M.Model.handlers m) s.config (g.M.Model.IsState m) (g.met.M.Model.start_state m) (g.met.M.Model.forward_state m) x.0 x.1 next in
          either_way c.advance.result a.done a.pending a.records (a.process state)
          (λ done. (suc x.0, stands_step _ (lawful g m s.config) x.0 q x.1 next done))
          (λ pending records process. (x.0, unmoved _ x.0 q x.1 next pending process)));
    }

pub invariant_of-self : goal.invariant_of-self
invariant_of-self g c =
    let s = c.args.self.now in
    record { within_run = s.within_run; all_there = s.all_there; numbered = s.numbered; streams = s.streams; stands = s.stands }

pub returns-in_default : goal.returns-in_default
returns-in_default g c =
    let s = c.args.self.now in
    let none = none_there s.pending c.in_default.ensures in
    record {
      model = refl;
      config = refl;
      more = none_told s.pending none;
      idle_pending = λ is. refl;
      idle_processes = λ is. refl;
      none_added = λ is. refl;
      steps = λ n st. stays_at _ (lawful g s.model.now s.config) n none st;
      adds = λ n st. adds_nothing _ (lawful g s.model.now s.config) n c.args.records.now.items none st;
      falls = λ is. true_false (sym is);
      pending = tt;
      records = tt;
      processes = tt;
      refused = λ n st. tt;
      faults = tt;
    }

pub returns-in-Ok : goal.returns-in-Ok
returns-in-Ok g c =
    let s = c.args.self.now in
    let q = c.advance.new.process in
    let next = next_of c.in-Some.ensures c.index_mut.ensures.value s.within_run (items_count s.processes s.all_there) in
    record {
      model = refl;
      config = refl;
      more = some_told s.pending next.some;
      idle_pending = λ is. true_false is;
      idle_processes = λ is. true_false is;
      none_added = λ is. true_false is;
      steps = λ n st. stands_step _ (lawful g s.model.now s.config) n q st next c.in-Ok.ensures.done;
      adds = λ n st. adds_step _ (lawful g s.model.now s.config) n q st next c.in-Ok.ensures.done;
      falls = λ is. falls _ (lawful g s.model.now s.config) q next c.in-Ok.ensures.done;
      pending = tt;
      records = tt;
      processes = tt;
      refused = λ n st. tt;
      faults = tt;
    }

pub returns-in-Err : goal.returns-in-Err
returns-in-Err g c =
    let s = c.args.self.now in
    let m = s.model.now in
    let next = next_of c.in-Some.ensures c.index_mut.ensures.value s.within_run (items_count s.processes s.all_there) in
    record {
      model = refl;
      config = refl;
      more = tt;
      idle_pending = tt;
      idle_processes = tt;
      none_added = tt;
      steps = λ n st. tt;
      adds = λ n st. tt;
      falls = tt;
      pending = c.in-Err.ensures.pending;
      records = c.in-Err.ensures.records;
      processes = ∥∥₁_elim s.stands (Prim.hlevel (props, Coded-set g.row.M-State.coded)) (λ x.
          set_same s.processes.items c.in-Some.event.dest c.index_mut.result.now c.advance.new.process next.at
          (c.in-Err.ensures.process (seated_state (g.M.Model.handlers m) s.config (g.M.Model.IsState m) (g.met.M.Model.start_state m) (g.met.M.Model.forward_state m) x.0 x.1 next)));
      refused = λ n st. refused_next _ (lawful g s.model.now s.config) n st next s.numbered c.in-Err.ensures.refused;
      faults = elim c.in-Err.ensures.refused [ inl h ↦ inr h.0 | inr h ↦ inl h.0 ];
    }
