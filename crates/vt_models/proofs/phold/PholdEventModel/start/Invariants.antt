use Rattle.std.proofs.Common.{◌≡◌, []}
use Rattle.vt_stream.specs.inside.Words.{word_of, moved}
use Rattle.vt_model.specs.inside.Sends.{with_requests}
use Rattle.vt_models.specs.promise.Phold.{first_events}
use Rattle.vt_models.proofs.phold.PholdEventModel.start.Given as goal

abbrev pub invariant-events : goal.invariant-events
invariant-events l = record {
  drawn : l.draws.drawn ≡ l._event;
  same_reference : l.draws.stream.ghost_name ≡ l.fn.draws.stream.ghost_name;
  stream : l.draws.stream.now ≡ moved l.fn.draws.stream.now l._event;
  out : l.out ≡ with_requests l.fn.out (first_events l.self l.lp (word_of l.fn.draws.stream.now) l._event) [];
}
