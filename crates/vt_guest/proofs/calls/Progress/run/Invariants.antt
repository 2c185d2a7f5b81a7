use Rattle.std.proofs.Common.{◌≡◌, List, []}
use Rattle.vt_stream.specs.inside.Words.{word_of, moved}
use Rattle.vt_model.specs.promise.Sends.{SendRequest, RecordRequest}
use Rattle.vt_model.specs.inside.Sends.{with_requests}
use Rattle.vt_guest.specs.declared.process.Words.{Words}
use Rattle.vt_guest.specs.inside.Progresses.{handling_of}
use Rattle.vt_guest.specs.promise.Handling.{handled}
use Rattle.vt_guest.proofs.calls.Progress.run.Given as goal

abbrev pub invariant-calls : goal.invariant-calls
invariant-calls g l = record {
  sends : List (SendRequest Words);
  notes : List RecordRequest;
  same_run : handled l.code l.host (word_of l.fn.draws.stream.now) l.calls (handling_of g.row.SIZE l.self l.state) sends notes ≡ handled l.code l.host (word_of l.fn.draws.stream.now) l.fn.self.left (handling_of g.row.SIZE l.fn.self l.fn.state) [] [];
  out : l.out ≡ with_requests l.fn.out sends notes;
  drawn : l.draws.drawn ≡ l.self.drawn;
  same_reference : l.draws.stream.ghost_name ≡ l.fn.draws.stream.ghost_name;
  stream : l.draws.stream.now ≡ moved l.fn.draws.stream.now l.self.drawn;
}

abbrev pub decreases-calls : goal.decreases-calls
decreases-calls g l = l.calls
