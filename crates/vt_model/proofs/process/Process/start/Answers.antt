use Rattle.std.proofs.Common.{◌≡◌, ◌∙◌, [], ap, arith, rules}
use Rattle.vt_stream.specs.promise.Words.{seed_key}
use Rattle.vt_stream.specs.inside.Words.{Stream, word_of, moved}
use Rattle.vt_stream.proofs.WordLemmas.{word_below}
use Rattle.vt_model.specs.inside.Sends.{Outgoing, with_requests}
use Rattle.vt_model.specs.promise.Simulation.{words_at}
use Rattle.vt_model.proofs.FireLemmas.{starts}
use Rattle.vt_model.proofs.process.Process.start.Goals as goal
use Rattle.vt_model.specs.promise.Settings.{end_of}

pub returns-clause-triple : goal.returns-clause-triple
returns-clause-triple g c =
    let gives = (g.M.Model.handlers c.args.model.now).start in
    let w = g.met.M.Model.start_within c.args.model.now c.args.config.lps c.args.lp (words_at c.args.config.seed c.args.lp 0) c.requires.known (λ i. word_below _ _ _) in
    let out = c.requires.fresh in
    let r = starts c.args.config.seed (end_of c.args.config) c.args.config.lps c.args.lp (gives c.args.config.lps c.args.lp) c.new-draws.result.stream.now c.start-state.new.draws.stream.now c.args.out.now c.start-state.new.out c.start-state.result
    (c.new-draws.ensures.stream ∙ c.new-stream.ensures) out
    (c.start-state.ensures.state ∙ (λ j. (gives (out j).lps c.args.lp (word_of c.new-draws.result.stream.now)).state))
    (c.start-state.ensures.stream ∙ (λ j. moved c.new-draws.result.stream.now (gives (out j).lps c.args.lp (word_of c.new-draws.result.stream.now)).drawn))
    w.few_words
    (c.start-state.ensures.out ∙ (λ j. with_requests c.args.out.now (gives (out j).lps c.args.lp (word_of c.new-draws.result.stream.now)).send_requests [])) in
    let same : c.stream-2-1.given.0 ≡ c.start-state.new.draws.stream.now = search (rules, c.stream-2-1, c.start-state.ensures.same_reference, c.new-draws.ensures.same_reference) in
    (λ j. record { state = c.start-state.result; number = c.number.ensures j; place = (same j).place }) ∙ r.triple

pub returns-clause-sends : goal.returns-clause-sends
returns-clause-sends g c =
    let gives = (g.M.Model.handlers c.args.model.now).start in
    let w = g.met.M.Model.start_within c.args.model.now c.args.config.lps c.args.lp (words_at c.args.config.seed c.args.lp 0) c.requires.known (λ i. word_below _ _ _) in
    let out = c.requires.fresh in
    (starts c.args.config.seed (end_of c.args.config) c.args.config.lps c.args.lp (gives c.args.config.lps c.args.lp) c.new-draws.result.stream.now c.start-state.new.draws.stream.now c.args.out.now c.start-state.new.out c.start-state.result
    (c.new-draws.ensures.stream ∙ c.new-stream.ensures) out
    (c.start-state.ensures.state ∙ (λ j. (gives (out j).lps c.args.lp (word_of c.new-draws.result.stream.now)).state))
    (c.start-state.ensures.stream ∙ (λ j. moved c.new-draws.result.stream.now (gives (out j).lps c.args.lp (word_of c.new-draws.result.stream.now)).drawn))
    w.few_words
    (c.start-state.ensures.out ∙ (λ j. with_requests c.args.out.now (gives (out j).lps c.args.lp (word_of c.new-draws.result.stream.now)).send_requests []))).sends

pub returns-clause-out : goal.returns-clause-out
returns-clause-out g c =
    let gives = (g.M.Model.handlers c.args.model.now).start in
    c.start-state.ensures.out
    ∙ (λ j. with_requests c.args.out.now (gives (c.requires.fresh j).lps c.args.lp (word_of ((c.new-draws.ensures.stream ∙ c.new-stream.ensures) j))).send_requests [])

pub returns-clause-stream : goal.returns-clause-stream
returns-clause-stream g c =
    let key : c.start-state.new.draws.stream.now.key ≡ seed_key c.args.config.seed =
    ap (λ (v : Stream). v.key) c.start-state.ensures.stream ∙ ap (λ (v : Stream). v.key) (c.new-draws.ensures.stream ∙ c.new-stream.ensures) in
    let process : c.start-state.new.draws.stream.now.process ≡ c.args.lp =
    ap (λ (v : Stream). v.process) c.start-state.ensures.stream ∙ ap (λ (v : Stream). v.process) (c.new-draws.ensures.stream ∙ c.new-stream.ensures) in
    let same : c.stream-2-1.given.0 ≡ c.start-state.new.draws.stream.now = search (rules, c.stream-2-1, c.start-state.ensures.same_reference, c.new-draws.ensures.same_reference) in
    record { key = ap (λ (v : Stream). v.key) same ∙ key; process = ap (λ (v : Stream). v.process) same ∙ process }

pub returns-clause-few : goal.returns-clause-few
returns-clause-few g c =
    let w = g.met.M.Model.start_within c.args.model.now c.args.out.now.lps c.args.lp (word_of c.new-draws.result.stream.now) (rw c.requires.fresh c.requires.known) (λ i. word_below _ _ _) in
    let number : c.start-state.new.out.number ≡ (with_requests c.args.out.now ((g.M.Model.handlers c.args.model.now).start c.args.out.now.lps c.args.lp (word_of c.new-draws.result.stream.now)).send_requests []).number =
    ap (λ (o : Outgoing g.row.M-Payload.Denot). o.number) c.start-state.ensures.out in
    let first : c.args.out.now.number ≡ 0 = ap (λ (o : Outgoing g.row.M-Payload.Denot). o.number) c.requires.fresh in
    omega (arith, w.few_sends, number, first, c.number.ensures)
