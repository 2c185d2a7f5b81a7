use Rattle.std.proofs.Common.{◌∙◌, [], length, sym, ap, subst}
use Rattle.std.proofs.lemmas.List.{length-replicate}
use Rattle.vt_model.specs.promise.Simulation.{simulation_of}
use Rattle.vt_steps.specs.promise.World.{opening_board}
use Rattle.vt_board.specs.inside.BoardOfRun.{BoardOfRun}
use Rattle.vt_world.specs.inside.Held.{held_world, AreInboxes, StandsForWorld}
use Rattle.vt_world.proofs.MakingLemmas.{inboxes-empty, stands-opening, reached-opening, reached-none}
use Rattle.vt_world.proofs.making.open.Goals as goal

pub invariant_of-memory : goal.invariant_of-memory
invariant_of-memory g c =
    let config = c.args.config in
    let handlers = g.M.Model.handlers c.args.model.now in
    let made = c.in_ok-kernels.ensures in
    let board = ap (λ (r : BoardOfRun). r.board) c.new.ensures ∙ ap (opening_board config.workers) c.end.ensures in
    record {
      all_workers = made.count;
      own_workers = made.workers;
      all_inboxes = ap length c.in_ok-inboxes.ensures.empty ∙ length-replicate config.workers [];
      own_inboxes = subst (AreInboxes config 0) (sym c.in_ok-inboxes.ensures.empty) (inboxes-empty _ config 0 config.workers);
      same_board_end = ap (λ (r : BoardOfRun). r.end) c.new.ensures ∙ c.end.ensures;
      same_book_end = c.new-2.ensures.end ∙ c.end-2.ensures;
      is_reached = reached-opening handlers c.args.model.now config c.args.serial c.in_ok-kernels.kernels.items c.in_ok-inboxes.inboxes.items c.new.result.board c.new-2.result.book
          made.opening c.in_ok-inboxes.ensures.empty board c.new-2.ensures.book;
    }

pub invariant_of-result : goal.invariant_of-result
invariant_of-result g c =
    let config = c.args.config in
    let handlers = g.M.Model.handlers c.args.model.now in
    let memory = held_world c.args.model.now config c.in_ok-kernels.kernels.items c.in_ok-inboxes.inboxes.items c.new.result.board c.new-2.result.book in
    subst (StandsForWorld handlers memory) (sym (reached-none (simulation_of handlers config) c.args.serial c.picked.result.items c.picked.ensures))
    (stands-opening handlers c.args.model.now config c.args.serial c.in_ok-kernels.kernels.items c.in_ok-inboxes.inboxes.items c.new.result.board c.new-2.result.book
    c.in_ok-kernels.ensures.opening c.in_ok-inboxes.ensures.empty (ap (λ (r : BoardOfRun). r.board) c.new.ensures ∙ ap (opening_board config.workers) c.end.ensures) c.new-2.ensures.book)

pub returns-clause-opening : goal.returns-clause-opening
returns-clause-opening g c = reached-none (simulation_of (g.M.Model.handlers c.args.model.now) c.args.config) c.args.serial c.picked.result.items c.picked.ensures
