use Rattle.std.proofs.Common.{◌∙◌, ap}
use Rattle.vt_model.specs.promise.Settings.{end_of}
use Rattle.vt_kernel.proofs.PartLemmas.{stands-cut}
use Rattle.vt_share.proofs.share.Share.turn.Goals as goal

pub returns-clause-stands : goal.returns-clause-stands
returns-clause-stands g c handlers part s =
    stands-cut c.self.view_is handlers c.args.announced part s _ c.other-self-inside.ensures _ (c.end-self-inside.ensures ∙ ap end_of c.config.ensures)
