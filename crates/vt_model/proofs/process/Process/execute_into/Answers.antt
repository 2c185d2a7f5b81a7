use Rattle.std.proofs.Common.{◌<◌, ◌∙◌, sym, arith, refl, subst}
use Rattle.vt_stream.specs.inside.Words.{word_of, moved}
use Rattle.vt_model.specs.inside.Sends.{with_requests}
use Rattle.vt_model.proofs.FireLemmas.{fires}
use Rattle.vt_stream.proofs.WordLemmas.{word_below}
use Rattle.vt_model.proofs.process.Process.execute_into.Goals as goal
use Rattle.vt_model.specs.promise.Settings.{end_of}

pub returns-clause-fires : goal.returns-clause-fires
returns-clause-fires g c =
    let out = c.requires.whole in
    let at = c.new-draws.ensures.stream in
    let gives = (g.M.Model.handlers c.args.model.now).forward in
    fires c.args.config.seed (end_of c.args.config) c.args.config.lps c.args.event.dest _ c.args.event
    ((g.M.Model.handlers c.args.model.now).forward c.args.config.lps c.args.event.dest c.args.event.key.time c.args.event.payload c.args.self.now.state)
    c.args.self.now.stream c.forward-kept.new.draws.stream.now c.args.out.now c.forward-kept.new.out c.forward-kept.new.state
    c.requires.stream.key c.requires.stream.process refl c.requires.whole
    (c.forward-kept.ensures.state ∙ (λ j. (gives (out j).lps c.args.event.dest (c.when.ensures j) c.args.event.payload c.args.self.now.state (word_of (at j))).state))
    (c.forward-kept.ensures.stream ∙ (λ j. moved (at j) (gives (out j).lps c.args.event.dest (c.when.ensures j) c.args.event.payload c.args.self.now.state (word_of (at j))).drawn))
    (c.forward-kept.ensures.out ∙ (λ j. with_requests c.args.out.now (gives (out j).lps c.args.event.dest (c.when.ensures j) c.args.event.payload c.args.self.now.state (word_of (at j))).send_requests (gives (out j).lps c.args.event.dest (c.when.ensures j) c.args.event.payload c.args.self.now.state (word_of (at j))).record_requests))

pub returns-clause-few : goal.returns-clause-few
returns-clause-few g c =
    let known : c.args.event.dest < c.args.out.now.lps = rw c.requires.whole c.requires.known in
    let w = g.met.M.Model.forward_within c.args.model.now c.args.out.now.lps c.args.event.dest c.when.result c.args.event.payload c.args.self.now.state (word_of c.new-draws.result.stream.now)
    known (λ i. word_below _ _ _) in
    omega (arith, w.few_words, c.forward-kept.ensures.drawn, c.drawn-drawn.ensures)

pub returns-clause-undoes : goal.returns-clause-undoes
returns-clause-undoes g c ok =
    (λ j. (g.M.Model.handlers c.args.model.now).reverse c.args.event.dest (sym c.when.ensures j) c.args.event.payload (c.forward-kept.ensures.state j) (c.forward-kept.ensures.bits j) (c.forward-kept.ensures.kept j))
    ∙ g.met.M.Model.undoes c.args.model.now c.args.out.now.lps c.args.event.dest c.when.result c.args.event.payload c.args.self.now.state (word_of c.new-draws.result.stream.now) ok

pub returns-clause-state : goal.returns-clause-state
returns-clause-state g c ok =
    subst (g.M.Model.IsState c.args.model.now) (sym c.forward-kept.ensures.state)
    (g.met.M.Model.forward_state c.args.model.now c.args.out.now.lps c.args.event.dest c.when.result c.args.event.payload c.args.self.now.state (word_of c.new-draws.result.stream.now) ok)
