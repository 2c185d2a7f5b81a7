use Rattle.std.proofs.Common.{◌≡◌, ◌∙◌, ℕ, List, [], map, length, ap, sym, subst}
use Rattle.vt_key.specs.declared.letter.Letter.{Letter}
use Rattle.vt_key.specs.declared.letter.Sign.TheVariants.{Plus}
use Rattle.vt_model.specs.declared.sending.Sent.{Sent}
use Rattle.vt_model.specs.promise.Simulation.{simulation_of}
use Rattle.vt_model.proofs.LawLemmas.{lawful_of}
use Rattle.vt_model.specs.promise.Settings.{end_of}
use Rattle.vt_steps.specs.promise.Letters.{stamped, signed}
use Rattle.vt_lp.specs.inside.Held.{AllWithinRun}
use Rattle.vt_model.proofs.Sizes.{out_fits, first_out}
use Rattle.vt_lp.proofs.Stamping.{length-letters, letters-within}
use Rattle.vt_lp.proofs.starting.start.Goals as goal

pub new-out-requires : goal.new-out-requires
new-out-requires g c = first_out _ _ c.args.config g.met.M.Model.payload_align g.met.M.Model.payload_size c.requires.known c.tick.ensures

pub sends-requires : goal.sends-requires
sends-requires g c = out_fits _ _ g.met.M.Model.payload_align g.met.M.Model.payload_size

pub sends-requires-2 : goal.sends-requires-2
sends-requires-2 g c = out_fits _ _ g.met.M.Model.payload_align g.met.M.Model.payload_size

pub start-process-requires-after_bounds : goal.start-process-requires-after_bounds
start-process-requires-after_bounds g c κs within =
    (out_fits _ _ g.met.M.Model.payload_align g.met.M.Model.payload_size, (c.requires.known, c.new-out.ensures.whole ∙ ap (λ (t : ℕ). record { lps = c.args.config.lps; end = (end_of c.args.config); lp = c.args.lp; time = t; first = 0; number = 0; sends = []; records = [] }) c.tick.ensures))

pub returns-in-Ok-clause-all : goal.returns-in-Ok-clause-all
returns-in-Ok-clause-all g c =
    ap length c.in-Ok.ensures.letters ∙ length-letters Plus c.owner-worker.result c.args.serial _ ∙ ap length (c.sends-2.ensures ∙ c.start-process.ensures.sends)

pub returns-in-Ok-clause-within : goal.returns-in-Ok-clause-within
returns-in-Ok-clause-within g c =
    let config = c.args.config in
    let sim = simulation_of (g.M.Model.handlers c.args.model.now) config in
    let lawful = lawful_of (g.M.Model.handlers c.args.model.now) config (g.met.M.Model.start_within c.args.model.now) (g.met.M.Model.forward_within c.args.model.now) in
    let made : c.in-Ok.messages ≡ map (signed Plus) (stamped c.owner-worker.result c.args.serial (sim.start c.args.lp).sends) =
    c.in-Ok.ensures.letters ∙ ap (λ (xs : List (Sent _)). map (signed Plus) (stamped c.owner-worker.result c.args.serial xs)) (c.sends-2.ensures ∙ c.start-process.ensures.sends) in
    subst (λ (xs : List (Letter _)). AllWithinRun config xs) (sym made)
    (letters-within config.lps (end_of config) Plus c.owner-worker.result c.args.serial (sim.start c.args.lp).sends
    (λ d m. lawful.known_start c.args.lp d c.requires.known m) (λ d m. lawful.ends_start c.args.lp d c.requires.known m))

pub returns-in-Ok-clause-triple : goal.returns-in-Ok-clause-triple
returns-in-Ok-clause-triple g c = c.start-process.ensures.triple

pub returns-in-Ok-clause-messages : goal.returns-in-Ok-clause-messages
returns-in-Ok-clause-messages g c =
    c.in-Ok.ensures.letters ∙ (λ j. map (signed Plus) (stamped (c.owner-worker.ensures.value j) c.args.serial ((c.sends-2.ensures ∙ c.start-process.ensures.sends) j)))

pub returns-in-Ok-clause-stream : goal.returns-in-Ok-clause-stream
returns-in-Ok-clause-stream g c = c.start-process.ensures.stream
