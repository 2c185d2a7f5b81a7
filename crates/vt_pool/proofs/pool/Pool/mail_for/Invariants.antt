use Rattle.std.proofs.Common.{not}
use Rattle.std.specs.List.{filter}
use Rattle.vt_steps.specs.promise.PartSteps.{is_for}
use Rattle.vt_pool.proofs.pool.Pool.mail_for.Given as goal

abbrev pub ghost-take_for : goal.ghost-take_for
ghost-take_for g a = filter (λ letter. not (is_for a.self.now.config.workers a.v letter)) a.self.now.letters
