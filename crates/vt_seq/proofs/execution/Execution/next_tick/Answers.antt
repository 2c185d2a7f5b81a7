use Rattle.std.proofs.Common.{rules, ◌≡◌, ◌≤◌, Some, slice_get, subst}
use Rattle.std.specs.Option.{option_map}
use Rattle.vt_key.specs.promise.Times.{ticks_of}
use Rattle.vt_key.specs.promise.Lists.{Among}
use Rattle.vt_model.specs.declared.sending.Sent.{Sent}
use Rattle.vt_seq.specs.inside.Standing.{Standing}
use Rattle.vt_seq.proofs.ProgressLemmas.{first_tick, rising_of}
use Rattle.vt_seq.proofs.execution.Execution.next_tick.Goals as goal

pub returns-in-Some-clause-least : goal.returns-in-Some-clause-least
returns-in-Some-clause-least g c =
    let e = c.self.inside.engine in
    let is : Some c.ticks.result ≡ option_map (λ (d : Sent _). ticks_of d.key.time) (slice_get e.pending 0) = search rules in
    subst (λ (v : Standing _ _ _). (d : Sent _) → Among d v.pending → c.ticks.result ≤ ticks_of d.key.time)
    c.self.view_is (first_tick e.pending (rising_of e.stands) (Some c.ticks.result) is)
