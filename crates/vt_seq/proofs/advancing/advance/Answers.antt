use Rattle.std.proofs.Common.{subst, ◌∙◌, ◌++◌, List, [], drop, map, ap, sym}
use Rattle.vt_model.specs.promise.Settings.{end_of}
use Rattle.vt_model.specs.inside.Handler.{IsFresh}
use Rattle.vt_model.specs.declared.rows.Record.{Record}
use Rattle.vt_model.specs.declared.rows.Row.{Row}
use Rattle.vt_model.specs.declared.sending.Sent.{Sent}
use Rattle.vt_model.specs.inside.Process.{triple_at}
use Rattle.vt_model.specs.promise.Simulation.{simulation_of}
use Rattle.vt_model.proofs.LawLemmas.{lawful_of}
use Rattle.vt_seq.specs.inside.Queue.{all_inserted, HaveNewKeys}
use Rattle.vt_seq.proofs.InsertedLemmas.{are_new}
use Rattle.vt_seq.proofs.StepLemmas.{drop-among}
use Rattle.vt_model.proofs.Sizes.{out_fits}
use Rattle.vt_model.proofs.RowLemmas.{told_rows}
use Rattle.vt_seq.proofs.advancing.advance.Goals as goal

pub number-requires : goal.number-requires
number-requires g c = out_fits _ _ g.met.M.Model.payload_align g.met.M.Model.payload_size

pub execute_into-kept-requires-send-M-Payload : goal.execute_into-kept-requires-send-M-Payload
execute_into-kept-requires-send-M-Payload g c = λ _ _. c.type_bounds.send-M-Payload

pub execute_into-kept-requires-after_bounds : goal.execute_into-kept-requires-after_bounds
execute_into-kept-requires-after_bounds g c κs within =
    let config = c.args.config in let event = c.args.event.now in let number = c.args.process.now.number in
    let fresh = subst (IsFresh c.renew.new.self event.dest) c.when.ensures c.renew.ensures.fresh in
    let whole = c.renew.ensures.whole ∙ (λ j. record { lps = config.lps; end = end_of config; lp = event.dest; time = c.when.ensures j; first = number; number = number; sends = []; records = [] }) in
    (out_fits _ _ g.met.M.Model.payload_align g.met.M.Model.payload_size, (c.requires.known, (c.requires.stream, (fresh, whole))))

pub join-requires : goal.join-requires
join-requires g c =
    let model = c.args.model.now in
    let config = c.args.config in
    let event = c.args.event.now in
    let sim = simulation_of (g.M.Model.handlers model) config in
    let lawful = lawful_of (g.M.Model.handlers model) config (g.met.M.Model.start_within model) (g.met.M.Model.forward_within model) in
    let p = c.args.process.now in
    let t = triple_at p.state p.number p.stream in
    let fired = sim.fire event.dest t event in
    let events = c.args.pending.now in
    let new : HaveNewKeys fired.sends (drop 1 events) = are_new event.dest p.number fired.triple.number fired.sends (drop 1 events) (lawful.numbered event.dest t event c.requires.known) (λ d m source. c.requires.earlier d (drop-among d events m) source) in
    (out_fits _ _ g.met.M.Model.payload_align g.met.M.Model.payload_size, (c.requires.some, subst (λ (es : List (Sent _)). HaveNewKeys es (drop 1 events)) (sym c.execute_into-kept.ensures.fires.sends) new))

pub returns-in-Ok-clause-done : goal.returns-in-Ok-clause-done
returns-in-Ok-clause-done g c =
    let f = c.execute_into-kept.ensures.fires in
    record {
      triple = (λ j. record { state = c.execute_into-kept.new.self.state; number = c.execute_into-kept.ensures.number j; place = c.execute_into-kept.new.self.stream.place }) ∙ f.triple;
      pending = c.in-Ok.ensures.pending ∙ ap (λ (es : List (Sent _)). all_inserted es (drop 1 c.args.pending.now)) f.sends;
      records = c.in-Ok.ensures.records ∙ ap (λ (xs : List Record). c.args.records.now.items ++ xs) (sym (told_rows c.args.event.now.key c.execute_into-kept.new.out.records) ∙ ap (map (λ (r : Row). r.rec)) f.rows);
    }
