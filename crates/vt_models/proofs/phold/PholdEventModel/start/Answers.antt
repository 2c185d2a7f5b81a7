use Rattle.std.proofs.Common.{◌≡◌, ◌+◌, List, [], ◌∷◌, ◌++◌, ◌∙◌, length, sym, ap, arith, rules, refl, add-one, lit<}
use Rattle.vt_model.specs.promise.Sends.{SendRequest}
use Rattle.vt_model.specs.inside.Sends.{Outgoing, with_requests}
use Rattle.vt_stream.specs.inside.Words.{Stream, word_of, moved}
use Rattle.vt_models.specs.promise.Phold.{scheduled, first_events}
use Rattle.vt_models.specs.inside.PholdLaws.{first_events_few, first_events-suc}
use Rattle.vt_stream.proofs.DrawLemmas.{moved-zero, moved-moved, word_after}
use Rattle.vt_model.proofs.RequestLemmas.{no_requests, sent_after}
use Rattle.vt_models.proofs.phold.PholdEventModel.start.Goals as goal

pub events-init : goal.events-init
events-init c = record {
  drawn = c.requires.undrawn.drawn;
  same_reference = refl;
  stream = moved-zero c.args.draws.now.stream.now c.requires.undrawn.in_range;
  out = no_requests c.args.out.now;
}

pub send-requires : goal.send-requires
send-requires c =
    let words = word_of c.args.draws.now.stream.now in
    let many = (first_events_few c.args.self.now c.args.out.now.lps 0 c.args.lp words c.events._event c.requires.fresh.known).few in
    let lps : c.events.out.lps ≡ c.args.out.now.lps = ap (λ (o : Outgoing (Unit {0})). o.lps) c.events.invariant.out in
    let first : c.events.out.first ≡ c.args.out.now.first = ap (λ (o : Outgoing (Unit {0})). o.first) c.events.invariant.out in
    let number : c.events.out.number ≡ c.args.out.now.number + length (first_events c.args.self.now c.args.lp words c.events._event) = ap (λ (o : Outgoing (Unit {0})). o.number) c.events.invariant.out in
    let few = c.args.self.now.few_events in
    let later = c.args.self.now.some_lookahead in
    (lit< tt, (omega (arith, c.requires.fresh.known), (omega arith, omega (arith, c.requires.fresh.number))))

pub events-preserved : goal.events-preserved
events-preserved c =
    let stream = c.args.draws.now.stream.now in
    let words = word_of stream in
    let drawn = word_after stream c.events.draws.stream.now c.events._event c.events.invariant.stream in
    let delay : c.from-in-events.result + c.below-wait.result ≡ (scheduled c.args.self.now c.args.lp (words c.events._event)).delay = cc in
    let longer : first_events c.args.self.now c.args.lp words (c.events._event + 1) ≡ first_events c.args.self.now c.args.lp words c.events._event ++ scheduled c.args.self.now c.args.lp (words c.events._event) ∷ []
    = rw add-one (first_events-suc c.args.self.now c.args.lp words c.events._event) in
    let sent : with_requests c.events.out (record { dest = c.args.lp; delay = c.from-in-events.result + c.below-wait.result; priority = 0; payload = tt } ∷ []) [] ≡ with_requests c.events.out (scheduled c.args.self.now c.args.lp (words c.events._event) ∷ []) []
    = λ j. with_requests c.events.out (record { dest = c.args.lp; delay = delay j; priority = 0; payload = tt } ∷ []) [] in
    record {
      drawn = omega arith;
      same_reference = search rules;
      stream = c.below-wait.ensures.stream ∙ ap (λ (s : Stream). moved s 1) c.events.invariant.stream ∙ moved-moved stream c.events._event 1;
      out = sent_after c.args.out.now c.events.out c.send.new.self (first_events c.args.self.now c.args.lp words c.events._event) [] (scheduled c.args.self.now c.args.lp (words c.events._event)) c.events.invariant.out (c.send.ensures ∙ sent) ∙ ap (λ (xs : List (SendRequest (Unit {0}))). with_requests c.args.out.now xs []) (sym longer);
    }
