use Rattle.std.proofs.Common.{◌∙◌, ◌++◌, List, ℕ, ap, subst}
use Rattle.std.proofs.lemmas.Result.{on_ok_weaker}
use Rattle.std.specs.Io.KnownBytes.{Appends}
use Rattle.vt_model.proofs.LawLemmas.{lawful_of}
use Rattle.vt_model.specs.promise.Simulation.{Simulation, simulation_of}
use Rattle.vt_steps.specs.promise.World.{World}
use Rattle.vt_key.proofs.ResultLemmas.{if_err}
use Rattle.vt_text.specs.promise.Writing.{AppendsBeginning}
use Rattle.vt_world.specs.promise.Answers.{PassesAtStart}
use Rattle.vt_tasks.specs.promise.Replays.{IsReplayText, IsRepliesText}
use Rattle.vt_tasks.specs.inside.Replays.{StopsReplay}
use Rattle.vt_tasks.specs.inside.Replying.{PutsReplies, StopsReplies, shown_of}
use Rattle.vt_tasks.proofs.ReplayLemmas.{both, output_stops, lines_written, replay_begun, replay_written, replies_begun, show_stops}
use Rattle.vt_tasks.proofs.replaying.print_replay.Goals as goal

pub returns-in_err-put_replies-clause-err : goal.returns-in_err-put_replies-clause-err
returns-in_err-put_replies-clause-err g c =
    let H = g.M.Model.handlers in
    let a = c.args in
    let o = a.options.now in
    let made = c.in_ok-world.ensures.made in
    let sim = simulation_of (H a.model.now) o.config in
    let stops = subst (λ (x : Simulation _ _ × World _). StopsReplies x.0 x.1 a.steps.now (g.O.Write.contents a.out.now) (g.O.Write.contents c.put_replies.new.out) c.new-text.result)
    (λ i. (simulation_of (H (made.0 i)) (made.1 i), c.in_ok-world.ensures.opening i)) c.in_err-put_replies.ensures.err in
    if_err (StopsReplay (IsReplayText sim o.text o.serial a.steps.now) (IsRepliesText sim o.serial a.steps.now) (PassesAtStart sim o.serial) _ _) c.from_residual-in_err-put_replies.result c.in_err-put_replies.field-0.0 c.from_residual-in_err-put_replies.ensures.1
    (output_stops o.text sim o.serial a.steps.now _ _ c.in_err-put_replies.field-0.0 c.in_err-put_replies.ensures.fault (replies_begun o.text sim o.serial a.steps.now _ _ c.new-text.result c.new-text.ensures stops))

pub returns : goal.returns
returns g c =
    let H = g.M.Model.handlers in
    let a = c.args in
    let o = a.options.now in
    let made = c.in_ok-world.ensures.made in
    let same = c.in_ok-put_replies.ensures.same in
    let end = c.put_replies.new.world.world in
    let out = g.O.Write.contents c.put_replies.new.out in
    let new = g.O.Write.contents c.show.new.out in
    let held = c.put_replies.new.text in
    let sim = simulation_of (H a.model.now) o.config in
    let lawful = lawful_of (H a.model.now) o.config (g.met.M.Model.start_within a.model.now) (g.met.M.Model.forward_within a.model.now) in
    let put = subst (λ (x : Simulation _ _ × World _). PutsReplies x.0 x.1 a.steps.now end (g.O.Write.contents a.out.now) out c.new-text.result held)
    (λ i. (simulation_of (H (made.0 i)) (made.1 i), c.in_ok-world.ensures.opening i)) c.in_ok-put_replies.ensures.ok in
    let its = ap (λ (s : Simulation _ _). held ++ shown_of s o.text end) (λ i. simulation_of (H ((same.0 ∙ made.0) i)) ((same.1 ∙ made.1) i)) in
    record {
      ok = on_ok_weaker c.show.result (λ h. replay_written o.text sim o.serial a.steps.now lawful end _ _ c.new-text.result held c.new-text.ensures put new (subst (λ (x : List ℕ). Appends out new x) its h)) c.show.ensures.ok;
      err = both c.show.result
          (λ fault is h. show_stops o.text sim o.serial a.steps.now _ _ _ _ fault is
          (replay_begun o.text sim o.serial a.steps.now lawful end _ _ c.new-text.result held c.new-text.ensures put new (subst (λ (x : List ℕ). AppendsBeginning out new x) its h))
          (lines_written o.text sim o.serial a.steps.now lawful end _ _ c.new-text.result held c.new-text.ensures put new))
          c.show.ensures.fault c.show.ensures.err;
    }
