use Rattle.std.proofs.Common.{◌≡◌, ◌∷◌, [], ◌++◌, ap, ◌∙◌}
use Rattle.std.proofs.lemmas.Option.{get_or_from_slice_get}
use Rattle.vt_model.specs.declared.rows.Row.{Row}
use Rattle.vt_book.proofs.RunLemmas.{begins}
use Rattle.vt_book.proofs.run.Run.show_first.Goals as goal

pub returns-clause-shown : goal.returns-clause-shown
returns-clause-shown c =
    let run = c.args.self.now in
    let row : Row = c.index-row.result.now in
    let it = begins run c.requires.some in
    let same : row ≡ it.row = c.index-row.ensures ∙ get_or_from_slice_get run.rows.items run.begin it.row row it.first in
    record {
      row = it.row;
      first = it.first;
      taken = it.rest;
      records = c.push_reserved.ensures.items ∙ ap (λ (r : Row). c.args.shown.now.items ++ r.rec ∷ []) same;
    }
