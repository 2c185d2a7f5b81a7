use Rattle.vt_steps.specs.promise.PartSteps.{is_for}
use Rattle.vt_key.specs.promise.Queues.{without_first}
use Rattle.vt_kernel.proofs.kernel.Kernel.home.Given as goal

abbrev pub ghost-pop_for : goal.ghost-pop_for
ghost-pop_for g a = without_first (is_for a.self.now.config.workers a.v) a.self.now.letters

abbrev pub ghost-put_back : goal.ghost-put_back
ghost-put_back g a = a.before.now.value.letters
