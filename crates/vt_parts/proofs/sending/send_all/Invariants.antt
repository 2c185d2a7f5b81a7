use Rattle.std.proofs.Common.{◌≡◌, [], take}
use Rattle.vt_model.specs.inside.Sends.{with_requests}
use Rattle.vt_parts.specs.inside.Sending.{entry_sends}
use Rattle.vt_parts.proofs.sending.send_all.Given as goal

abbrev pub invariant-entries : goal.invariant-entries
invariant-entries g l = l.out ≡ with_requests l.fn.out (entry_sends l.fn.out.lps l.fn.delay l.fn.priority l.fn.payload (take l.entry-index l.entries)) []
