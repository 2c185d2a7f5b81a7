use Rattle.std.proofs.Common.{◌≡◌, ◌<◌, ◌≤◌, Bool, true, List, length, take, slice_set, sym, subst, arith}
use Rattle.vt_board.proofs.Flags.{set-first}
use Rattle.vt_board.proofs.worker_set.WorkerSet.insert.Goals as goal

pub returns : goal.returns
returns c =
    let all : c.self.inside.workers ≤ length c.self.inside.flags = omega arith in
    let within : c.args.w < length (take c.self.inside.workers c.self.inside.flags) = subst (λ (flags : List Bool). c.args.w < length flags) (sym c.self.view_is) c.requires in
    subst (λ (flags : List Bool). take c.self.inside.workers (slice_set c.self.inside.flags c.args.w true) ≡ slice_set flags c.args.w true) c.self.view_is
    (set-first c.self.inside.flags c.self.inside.workers c.args.w all within)
