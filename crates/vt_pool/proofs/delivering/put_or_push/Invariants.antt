use Rattle.std.proofs.Common.{◌++◌, [], ◌∷◌}
use Rattle.vt_pool.proofs.delivering.put_or_push.Given as goal

abbrev pub ghost-push : goal.ghost-push
ghost-push g a = a.self.now.letters ++ a.letter ∷ []
