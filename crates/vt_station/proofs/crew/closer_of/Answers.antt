use Rattle.std.proofs.Common.{◌≡◌, refl, sym, ◌∙◌, ap, length, arith, inl, inr, Some, slice_index_or}
use Rattle.std.specs.List.{slice_get}
use Rattle.std.proofs.lemmas.Bool.{ltb-true, cases_lt}
use Rattle.std.proofs.lemmas.Option.{slice_get_read, get_or_from_slice_get}
use Rattle.vt_station.specs.inside.Crew.{AtJob}
use Rattle.vt_station.proofs.crew.closer_of.Goals as goal

pub returns-then-has_closed_book-clause-some : goal.returns-then-has_closed_book-clause-some
returns-then-has_closed_book-clause-some g c =
    let lookup = c.in-Some.ensures.lookup in
    let jobs = c.args.jobs.now in (
      c.in-Some.job.now,
      slice_get_read jobs (length jobs) c.loop-i.i c.in-Some.job.now refl (ltb-true c.loop-i.i (length jobs) (sym lookup.0)) lookup.1,
      ap (λ (j : AtJob g.row.M.Denot). j.outcome) (sym c.job.view_is) ∙ c.has_closed_book.ensures.closed c.if-has_closed_book.true,
    )

pub returns-then-has_closed_book-clause-first : goal.returns-then-has_closed_book-clause-first
returns-then-has_closed_book-clause-first g c = c.loop-i.invariant

pub loop-i-preserved : goal.loop-i-preserved
loop-i-preserved g c = λ k d below closed.
    let lookup = c.in-Some.ensures.lookup in
    let jobs = c.args.jobs.now in
    let i = c.loop-i.i in
    let job = c.in-Some.job.now in
    let read : slice_get jobs i ≡ Some job = slice_get_read jobs (length jobs) i job refl (ltb-true i (length jobs) (sym lookup.0)) lookup.1 in
    elim (cases_lt k i) [
      | inl before ↦ c.loop-i.invariant k d before closed
      | inr after ↦
          let here : k ≡ i = omega (arith, below, after) in
          let same : slice_index_or jobs i d ≡ job = get_or_from_slice_get jobs i job d read in
          c.has_closed_book.ensures.open c.if-has_closed_book.false
          (ap (λ (j : AtJob g.row.M.Denot). j.outcome) (c.job.view_is ∙ sym same) ∙ ap (λ n. (slice_index_or jobs n d).outcome) (sym here) ∙ closed)
    ]
