use Rattle.std.proofs.Common.{ℕ, take, replicate, ap, ◌∙◌}
use Rattle.std.proofs.lemmas.List.{take-replicate}
use Rattle.vt_key.specs.promise.Times.{opening_time}
use Rattle.vt_key.specs.declared.limits.TheConstants.{MAX_WORKERS}
use Rattle.vt_book.proofs.floors.Floors.new.Goals as goal

pub returns : goal.returns
returns c =
    ap (λ (t : ℕ). take c.args.workers (replicate MAX_WORKERS t)) c.tick.ensures
    ∙ take-replicate c.args.workers MAX_WORKERS opening_time c.requires
