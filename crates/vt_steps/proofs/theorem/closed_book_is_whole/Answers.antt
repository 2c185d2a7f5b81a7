use Rattle.vt_steps.specs.promise.Next.{reached}
use Rattle.vt_steps.proofs.book.ReachedBooks.{closed-finals, closed-takes_nothing, closed-whole}
use Rattle.vt_steps.proofs.theorem.closed_book_is_whole.Goals as goal

pub returns : goal.returns
returns g c =
    record {
      whole = λ serial steps shut. closed-whole g.sim c.requires.1.1 serial steps shut;
      finals = λ serial steps shut. closed-finals g.sim c.requires.1.1 serial steps shut;
      stays = λ serial steps more shut. closed-takes_nothing g.sim (reached g.sim serial steps) more shut;
    }
