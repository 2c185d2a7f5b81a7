use Rattle.std.proofs.Common.{◌≡◌, ◌+◌, ◌≤◌, true, List, Bool, length, slice_get, slice_set, subst, sym, ap, ◌∙◌, arith}
use Rattle.std.proofs.lemmas.List.{length-set}
use Rattle.vt_key.specs.promise.Times.{TimeAtMost}
use Rattle.vt_steps.specs.promise.BoardSteps.{is_clear}
use Rattle.vt_board.specs.inside.BoardOfRun.{BoardOfRun, most_summed}
use Rattle.vt_board.proofs.Sums.{summed}
use Rattle.vt_board.proofs.board.Board.add.Goals as goal

pub invariant_of-self : goal.invariant_of-self
invariant_of-self c =
    let held = c.self.invariant in
    let clear : is_clear (slice_get c.self.inside.has_reported c.args.w) ≡ true =
    subst (λ (run : BoardOfRun). is_clear (slice_get run.board.has_reported c.args.w) ≡ true) (sym c.self.view_is) c.requires.first in
    let not_past : TimeAtMost c.self.inside.announced c.args.least =
    subst (λ (run : BoardOfRun). TimeAtMost run.board.announced c.args.least) (sym c.self.view_is) c.requires.not_past in
    let is : c.insert.new.self ≡ slice_set c.self.inside.has_reported c.args.w true = c.insert.ensures in
    record {
      announced = omega (arith, held.announced, not_past, c.earlier-self-inside.ensures);
      least = omega (arith, held.least, c.earlier-self-inside.ensures);
      few_workers = held.few_workers;
      same_workers = ap length is ∙ length-set c.self.inside.has_reported c.args.w true ∙ held.same_workers;
      sent = subst (λ (flags : List Bool). c.self.inside.sent + c.from.result ≤ most_summed flags) (sym is)
          (summed c.self.inside.has_reported c.args.w c.self.inside.sent c.from.result clear held.sent (omega arith));
      got = subst (λ (flags : List Bool). c.self.inside.got + c.from-2.result ≤ most_summed flags) (sym is)
          (summed c.self.inside.has_reported c.args.w c.self.inside.got c.from-2.result clear held.got (omega arith));
      rounds = held.rounds;
    }
