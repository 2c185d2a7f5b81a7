use Rattle.std.proofs.Common.{◌≡◌, List, sym, subst, ◌<◌, ◌∙◌, [], ap, arith, rules}
use Rattle.vt_stream.specs.inside.Words.{word_of}
use Rattle.vt_model.specs.inside.Handler.{IsFresh}
use Rattle.vt_model.specs.inside.Sends.{Outgoing, with_requests}
use Rattle.vt_model.specs.promise.Simulation.{words_at}
use Rattle.vt_stream.proofs.WordLemmas.{word_below}
use Rattle.vt_model.specs.declared.sending.Sent.{Sent}
use Rattle.vt_model.specs.promise.Simulation.{simulation_of}
use Rattle.vt_model.proofs.LawLemmas.{lawful_of}
use Rattle.vt_model.specs.promise.Settings.{end_of}
use Rattle.vt_seq.specs.inside.Queue.{all_inserted, HaveNewKeys}
use Rattle.vt_seq.proofs.InsertedLemmas.{are_new}
use Rattle.vt_seq.proofs.StartLemmas.{started_so}
use Rattle.vt_model.proofs.Sizes.{out_fits, first_out}
use Rattle.vt_seq.proofs.advancing.start_process.Goals as goal

pub new-out-requires : goal.new-out-requires
new-out-requires g c = first_out _ _ c.args.config g.met.M.Model.payload_align g.met.M.Model.payload_size c.requires.known c.tick.ensures

pub start-state-requires : goal.start-state-requires
start-state-requires g c =
    (out_fits _ _ g.met.M.Model.payload_align g.met.M.Model.payload_size, (c.new-draws.ensures.undrawn, subst (IsFresh c.new-out.result c.args.p) c.tick.ensures c.new-out.ensures.fresh))

pub number-number-requires : goal.number-number-requires
number-number-requires g c = out_fits _ _ g.met.M.Model.payload_align g.met.M.Model.payload_size

pub sends-requires : goal.sends-requires
sends-requires g c = out_fits _ _ g.met.M.Model.payload_align g.met.M.Model.payload_size

pub returns-clause-numbered : goal.returns-clause-numbered
returns-clause-numbered g c =
    let w = g.met.M.Model.start_within c.args.model.now c.new-out.result.lps c.args.p (word_of c.new-draws.result.stream.now)
    (rw c.new-out.ensures.whole c.requires.known) (λ i. word_below _ _ _) in
    let number : c.start-state.new.out.number ≡ (with_requests c.new-out.result ((g.M.Model.handlers c.args.model.now).start c.new-out.result.lps c.args.p (word_of c.new-draws.result.stream.now)).send_requests []).number = ap (λ (o : Outgoing g.row.M-Payload.Denot). o.number) c.start-state.ensures.out in
    let first : c.new-out.result.number ≡ 0 = ap (λ (o : Outgoing g.row.M-Payload.Denot). o.number) c.new-out.ensures.whole in
    omega (arith, w.few_sends, number, first, c.number-number.ensures)

pub insert_all-requires : goal.insert_all-requires
insert_all-requires g c =
    let w = g.met.M.Model.start_within c.args.model.now c.args.config.lps c.args.p (words_at c.args.config.seed c.args.p 0)
    c.requires.known (λ i. word_below _ _ _) in
    let r = started_so c.args.config.seed (end_of c.args.config) c.args.config.lps c.args.p (g.M.Model.handlers c.args.model.now).start
    c.new-draws.ensures.stream c.new-stream.ensures c.new-out.ensures.whole c.tick.ensures
    c.start-state.ensures.state c.start-state.ensures.stream c.start-state.ensures.out w.few_words in
    let model = c.args.model.now in
    let config = c.args.config in
    let sim = simulation_of (g.M.Model.handlers model) config in
    let lawful = lawful_of (g.M.Model.handlers model) config (g.met.M.Model.start_within model) (g.met.M.Model.forward_within model) in
    let fired = sim.start c.args.p in
    subst (λ (es : List (Sent _)). HaveNewKeys es c.args.pending.now) (sym (c.sends.ensures ∙ r.sends))
    (are_new c.args.p 0 fired.triple.number fired.sends c.args.pending.now (lawful.numbered_start c.args.p c.requires.known)
    (λ d a source. let less : d.key.source < c.args.p = c.requires.others d a in absurd (omega (arith, less, source))))

pub returns-clause-done : goal.returns-clause-done
returns-clause-done g c =
    let w = g.met.M.Model.start_within c.args.model.now c.args.config.lps c.args.p (words_at c.args.config.seed c.args.p 0)
    c.requires.known (λ i. word_below _ _ _) in
    let r = started_so c.args.config.seed (end_of c.args.config) c.args.config.lps c.args.p (g.M.Model.handlers c.args.model.now).start
    c.new-draws.ensures.stream c.new-stream.ensures c.new-out.ensures.whole c.tick.ensures
    c.start-state.ensures.state c.start-state.ensures.stream c.start-state.ensures.out w.few_words in
    record {
      triple = search (rules, r.triple, c.number-number.ensures);
      pending = c.in_ok-insert_all.ensures.events ∙ ap (λ (es : List (Sent _)). all_inserted es c.args.pending.now) (c.sends.ensures ∙ r.sends);
    }
