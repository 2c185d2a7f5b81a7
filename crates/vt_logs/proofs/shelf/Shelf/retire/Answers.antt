use Rattle.std.proofs.Common.{◌<◌, ◌≤◌, ◌+◌, ◌∷◌, eqb, length, sym, ◌∙◌, ap, subst}
use Rattle.std.specs.List.{filter, count_by, AllByRecursion}
use Rattle.vt_key.proofs.ListLemmas.{every-left, every-right}
use Rattle.vt_logs.specs.inside.Shelves.{has_room_on, is_used, is_unused}
use Rattle.vt_logs.proofs.ShelfLemmas.{placed-retired, shelf-retired}
use Rattle.vt_logs.proofs.shelf.Shelf.retire.Goals as goal

pub keep_unused-requires : goal.keep_unused-requires
keep_unused-requires g c =
    let i = c.self.inside in
    let known = c.self.invariant.known in
    record {
      known = subst (λ qs. AllByRecursion (λ n. n < length qs) c.as_slice-2.result.now) (sym c.as_slice.ensures.value)
          (subst (AllByRecursion (λ n. n < length i.sheets.items)) (sym c.as_slice-2.ensures.value) (every-left _ i.full.items (i.current ∷ i.spare.items) known));
      spare_known = subst (λ qs. AllByRecursion (λ n. n < length qs) i.spare.items) (sym c.as_slice.ensures.value) (every-right _ i.full.items (i.current ∷ i.spare.items) known).1;
    }

pub invariant_of-self : goal.invariant_of-self
invariant_of-self g c =
    let i = c.self.inside in
    let is = c.drop_unused.ensures ∙ ap (λ qs. filter (is_used qs) i.full.items) c.as_slice-3.ensures.value in
    let known = subst (λ qs. AllByRecursion (λ n. n < length qs) c.keep_unused.new.spare.items) c.as_slice.ensures.value c.keep_unused.ensures.known in
    shelf-retired i.sheets.items i.full.items c.drop_unused.new.numbers.items i.current i.spare.items c.keep_unused.new.spare.items i.needs c.self.invariant is known
    (λ n. subst (λ qs. count_by (λ m. eqb m n) c.keep_unused.new.spare.items ≤ count_by (λ m. eqb m n) i.spare.items + count_by (λ m. eqb m n) (filter (is_unused qs) i.full.items)) c.as_slice.ensures.value
    (subst (λ ns. count_by (λ m. eqb m n) c.keep_unused.new.spare.items ≤ count_by (λ m. eqb m n) i.spare.items + count_by (λ m. eqb m n) (filter (is_unused c.as_slice.result.now) ns)) c.as_slice-2.ensures.value (c.keep_unused.ensures.counts n)))

pub returns : goal.returns
returns g c =
    let i = c.self.inside in
    let is = c.drop_unused.ensures ∙ ap (λ qs. filter (is_used qs) i.full.items) c.as_slice-3.ensures.value in
    let known = subst (λ qs. AllByRecursion (λ n. n < length qs) c.keep_unused.new.spare.items) c.as_slice.ensures.value c.keep_unused.ensures.known in
    let same = placed-retired i.sheets.items i.full.items c.drop_unused.new.numbers.items i.current i.spare.items c.keep_unused.new.spare.items i.needs c.self.invariant is known
    (λ n. subst (λ qs. count_by (λ m. eqb m n) c.keep_unused.new.spare.items ≤ count_by (λ m. eqb m n) i.spare.items + count_by (λ m. eqb m n) (filter (is_unused qs) i.full.items)) c.as_slice.ensures.value
    (subst (λ ns. count_by (λ m. eqb m n) c.keep_unused.new.spare.items ≤ count_by (λ m. eqb m n) i.spare.items + count_by (λ m. eqb m n) (filter (is_unused c.as_slice.result.now) ns)) c.as_slice-2.ensures.value (c.keep_unused.ensures.counts n))) in
    (λ j. record { placed = same j; has_room = has_room_on i.sheets.items i.current }) ∙ c.self.view_is
