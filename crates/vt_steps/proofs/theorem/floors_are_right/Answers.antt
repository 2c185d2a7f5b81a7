use Rattle.vt_steps.specs.promise.Next.{reached}
use Rattle.vt_steps.proofs.book.ReachedBooks.{reached-accounted, reached-falls}
use Rattle.vt_steps.proofs.book.Records.{floors-right}
use Rattle.vt_steps.proofs.theorem.floors_are_right.Goals as goal

pub returns : goal.returns
returns g c =
    let lawful = c.requires.1.1 in
    record {
      right = λ serial steps. floors-right g.sim lawful (reached g.sim serial steps) (reached-accounted g.sim lawful serial steps);
      later = λ serial steps more. reached-falls g.sim lawful serial steps more;
    }
