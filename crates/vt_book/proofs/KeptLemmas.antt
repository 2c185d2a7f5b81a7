-- What a book keeps: how the first rows are taken out, and what is kept after a hand-in.
use Rattle.std.proofs.Common.{◌≡◌, ℕ, ◌+◌, ◌≤◌, true, false, ◌&&◌, cond, List, [], ◌∷◌, ◌++◌, refl, sym, ◌∙◌, ap, arith, Option, Some, None, slice_get}
use Rattle.std.specs.List.{sum_by, list_all}
use Rattle.std.proofs.lemmas.Bool.Decides.{nat_tests}
use Rattle.std.proofs.lemmas.List.{map-append}
use Rattle.std.proofs.lemmas.List.Elements.{filter-append}
use Rattle.std.proofs.lemmas.List.Sums.{sum_by-append}
use Rattle.std.proofs.lemmas.Bool.{and_parts}
use Rattle.vt_key.specs.promise.Times.{Time, time_before, time_at_most}
use Rattle.vt_model.specs.declared.rows.Record.{Record}
use Rattle.vt_model.specs.declared.rows.Row.{Row}
use Rattle.vt_model.specs.promise.Sequential.{rows_before, records_of}
use Rattle.vt_steps.specs.promise.BookSteps.{may_commit}
use Rattle.vt_steps.specs.promise.Rows.{rows_in_order}
use Rattle.vt_steps.specs.inside.Rows.{AreSameRows}
use Rattle.vt_steps.specs.promise.Letters.{least_of}
use Rattle.vt_book.specs.inside.Books.{is_within, are_within}
use Rattle.vt_book.specs.inside.Kept.{IsKept}
use Rattle.vt_steps.proofs.time.Floors.{floor-at}
use Rattle.vt_book.proofs.RowLists.{same-before, same-none, one-order, every-before, late-rows, order-apart, before-twice}

-- ---- a lawful hand-in

-- rows from a floor on are not before a time that is not after it
late-within : (t handed_in floor : Time) (rows : List Row) → t ≤ handed_in → list_all (is_within handed_in floor) rows ≡ true → rows_before t rows ≡ []
late-within t handed_in floor [] le h = refl
late-within t handed_in floor (r ∷ rs) le h =
    let both = and_parts (is_within handed_in floor r) (list_all (is_within handed_in floor) rs) h in
    let from = (and_parts (time_at_most handed_in r.key.time) (time_before r.key.time floor) both.0).0 in
    let no : time_before r.key.time t ≡ false = grind (arith, nat_tests) in
    ap (λ b. cond b (r ∷ rows_before t rs) (rows_before t rs)) no ∙ late-within t handed_in floor rs le both.1

-- what a lawful hand-in is
pub record IsLawful (end : Time) (floors : List Time) (w : ℕ) (rows : List Row) (floor : Time) : Type 0 where
  pub handed_in : Time
  pub at : slice_get floors w ≡ Some handed_in
  pub rising : handed_in ≤ floor
  pub late : rows_before (least_of end floors) rows ≡ []

pub lawful : (end : Time) (floors : List Time) (w : ℕ) (rows : List Row) (floor : Time) → (may_commit (slice_get floors w) floor && (time_at_most floor end && are_within (slice_get floors w) floor rows)) ≡ true → IsLawful end floors w rows floor
lawful end floors w rows floor h = known (slice_get floors w) refl h
  where
    known : (at : Option Time) → slice_get floors w ≡ at → (may_commit at floor && (time_at_most floor end && are_within at floor rows)) ≡ true → IsLawful end floors w rows floor
    known None is k = absurd (let no : false ≡ true = k in cc)
    known (Some handed_in) is k =
        let both = and_parts (time_at_most handed_in floor) _ k in
        let rises = both.0 in
        record {
          handed_in = handed_in;
          at = is;
          rising = (let l : handed_in ≤ floor = grind (arith, nat_tests) in l);
          late = late-within (least_of end floors) handed_in floor rows (floor-at end floors w handed_in is) (and_parts (time_at_most floor end) _ both.1).1;
        }

-- ---- what is kept after it

module _ (floor later : Time) (history rows : List Row) (shown : List Record) (waiting all rest : List Row) (rises : floor ≤ later) (kept : IsKept floor history shown waiting)
    (late : rows_before floor rows ≡ []) (whole : AreSameRows all (waiting ++ rows)) where
  -- no row that waits is before the floor
  late-waiting : rows_before floor waiting ≡ []
  late-waiting = same-none (rows_before floor waiting) (λ f. (
      let a = same-before floor history (rows_before floor history ++ waiting) kept.all_there f in
      let b : sum_by f (rows_before floor (rows_before floor history ++ waiting)) ≡ sum_by f (rows_before floor history) + sum_by f (rows_before floor waiting) =
      ap (sum_by f) (filter-append _ (rows_before floor history) waiting ∙ ap (λ rs. rs ++ rows_before floor waiting) (before-twice floor floor history (omega arith))) ∙ sum_by-append f (rows_before floor history) (rows_before floor waiting) in
      omega arith))

  -- nor any of those with the new rows
  late-all : rows_before floor all ≡ []
  late-all = same-none (rows_before floor all) (λ f. same-before floor all (waiting ++ rows) whole f ∙ ap (sum_by f) (filter-append _ waiting rows ∙ ap (λ rs. rs ++ rows_before floor rows) late-waiting ∙ late))

  -- the rows handed in are those that were shown, and these
  same-all : AreSameRows (history ++ rows) (rows_before floor history ++ all)
  same-all f =
      let a = kept.all_there f in
      let b = whole f in
      let c = sum_by-append f history rows in
      let d = sum_by-append f (rows_before floor history) waiting in
      let e = sum_by-append f waiting rows in
      let g = sum_by-append f (rows_before floor history) all in
      omega arith

  -- so those before the later floor are those that were shown, and these before the later floor
  same-early : AreSameRows (rows_before later (history ++ rows)) (rows_before floor history ++ rows_before later all)
  same-early f =
      same-before later (history ++ rows) (rows_before floor history ++ all) same-all f
      ∙ ap (sum_by f) (filter-append _ (rows_before floor history) all ∙ ap (λ rs. rs ++ rows_before later all) (before-twice floor later history rises))

  -- in order: first those that were shown
  in-two : rows_in_order (rows_before later (history ++ rows)) ≡ rows_in_order (rows_before floor history) ++ rows_in_order (rows_before later all)
  in-two =
      one-order (rows_before later (history ++ rows)) (rows_before floor history ++ rows_before later all) same-early
      ∙ order-apart floor history (rows_before later all) (every-before _ later all (late-rows floor all late-all))

  pub kept-after : (shown' : List Record) → shown' ≡ shown ++ records_of (rows_in_order (rows_before later all)) → AreSameRows all (rows_before later all ++ rest) → IsKept later (history ++ rows) shown' rest
  kept-after shown' is left = record {
    in_order = is ∙ ap (λ rs. rs ++ records_of (rows_in_order (rows_before later all))) kept.in_order
        ∙ sym (map-append _ (rows_in_order (rows_before floor history)) (rows_in_order (rows_before later all))) ∙ ap records_of (sym in-two);
    all_there = λ f. (
        let a = same-all f in
        let b = sum_by-append f (rows_before floor history) all in
        let c = left f in
        let d = sum_by-append f (rows_before later all) rest in
        let e = same-early f in
        let g = sum_by-append f (rows_before floor history) (rows_before later all) in
        let k = sum_by-append f (rows_before later (history ++ rows)) rest in
        omega arith);
  }
