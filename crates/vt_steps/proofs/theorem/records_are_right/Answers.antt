use Rattle.vt_steps.specs.promise.Next.{reached}
use Rattle.vt_steps.proofs.book.EachOnce.{book-once}
use Rattle.vt_steps.proofs.book.ReachedBooks.{reached-accounted}
use Rattle.vt_steps.proofs.book.Records.{records-right}
use Rattle.vt_steps.proofs.theorem.records_are_right.Goals as goal

pub returns : goal.returns
returns g c =
    let lawful = c.requires.1.1 in
    record {
      right = λ serial steps. records-right g.sim lawful (reached g.sim serial steps) (reached-accounted g.sim lawful serial steps);
      once = λ serial steps. book-once g.sim lawful serial steps;
    }
