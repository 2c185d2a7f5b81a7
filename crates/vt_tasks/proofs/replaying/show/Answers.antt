use Rattle.std.proofs.Common.{◌≡◌, ◌∙◌, ap}
use Rattle.std.proofs.lemmas.Result.{on_err_weaker}
use Rattle.vt_key.specs.promise.Times.{Time}
use Rattle.vt_model.specs.promise.Settings.{end_of}
use Rattle.vt_model.specs.promise.Simulation.{simulation_of}
use Rattle.vt_steps.specs.promise.World.{book_floor, least}
use Rattle.vt_step_text.specs.promise.Replies.{state_text}
use Rattle.vt_text.proofs.TextLemmas.{begun, on_err, of_longer}
use Rattle.vt_tasks.specs.inside.Replying.{shown_of}
use Rattle.vt_tasks.proofs.ReplayLemmas.{state_some, gathered_alone, shown_in_part, shown_flushed}
use Rattle.vt_tasks.proofs.replaying.show.Given.{Over}
use Rattle.vt_tasks.proofs.replaying.show.Goals.{After-put_state}
use Rattle.vt_tasks.proofs.replaying.show.Goals as goal

pub returns-in_err-flush-clause-err : goal.returns-in_err-flush-clause-err
returns-in_err-flush-clause-err g c =
    on_err c.from_residual.result (of_longer _ _ c.args.text.now (shown_of (simulation_of (g.M.Model.handlers c.args.world.now.model) c.args.world.now.config) c.args.version c.args.world.now.world) c.in_err-flush.ensures.err)

pub returns-in_err-records-clause-err : goal.returns-in_err-records-clause-err
returns-in_err-records-clause-err g c =
    on_err c.from_residual-in_err-records.result
    (gathered_alone _ _ c.args.text.now (shown_of (simulation_of (g.M.Model.handlers c.args.world.now.model) c.args.world.now.config) c.args.version c.args.world.now.world) c.in_ok-flush.ensures.ok (state_some _ _ _ _ _))

-- what is put is what the world shows
shown : (g : Over) (c : After-put_state g) → state_text c.args.version c.announced.result c.floor.result c.least.result c.as_slice.result.now ≡ shown_of (simulation_of (g.M.Model.handlers c.args.world.now.model) c.args.world.now.config) c.args.version c.args.world.now.world
shown g c =
    let now = c.args.world.now in
    let floor = book_floor (end_of now.config) now.world.book in
    let items = c.as_slice.result.now in
    ap (λ (t : Time). state_text c.args.version t c.floor.result c.least.result items) c.announced.ensures.value
    ∙ ap (λ (t : Time). state_text c.args.version now.world.board.announced t c.least.result items) c.floor.ensures.value
    ∙ ap (λ (t : Time). state_text c.args.version now.world.board.announced floor t items) c.least.ensures.value
    ∙ ap (λ (rs : _). state_text c.args.version now.world.board.announced floor (least (end_of now.config) now.world) rs) (c.as_slice.ensures.value ∙ c.in_ok-records.ensures.records)

pub returns-in_err-put_state-clause-err : goal.returns-in_err-put_state-clause-err
returns-in_err-put_state-clause-err g c =
    let is = shown g (goal.at.returns-in_err-put_state-clause-err g c).After-put_state in
    on_err c.from_residual-in_err-put_state.result
    (rw (← is) (shown_in_part _ _ _ c.args.text.now c.in_ok-flush.ensures.ok c.flush.new.self (state_text c.args.version c.announced.result c.floor.result c.least.result c.as_slice.result.now) c.in_ok-flush.ensures.empty (begun _ _ _ _ c.in_err-put_state.ensures.err)))

pub returns-clause-err : goal.returns-clause-err
returns-clause-err g c =
    let is = shown g (goal.at.returns-clause-err g c).After-put_state in
    on_err_weaker c.flush-2.result
    (λ h. rw (← is) (shown_flushed _ _ _ _ c.args.text.now c.flush.new.self _ (state_text c.args.version c.announced.result c.floor.result c.least.result c.as_slice.result.now) c.in_ok-flush.ensures.ok c.in_ok-flush.ensures.empty c.in_ok-put_state.ensures.ok h))
    c.flush-2.ensures.err
