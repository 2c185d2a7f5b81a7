-- Rows that go from those that wait to the shown records.
use Rattle.std.proofs.Common.{◌≡◌, true, cond, List, [], ◌∷◌, ◌++◌, refl, sym, ap, ◌∙◌, arith, append-nil, append_assoc}
use Rattle.std.specs.List.{sum_by}
use Rattle.std.proofs.lemmas.List.Sums.{sum_by-cons, sum_by-append}
use Rattle.vt_key.specs.promise.Times.{Time, time_before}
use Rattle.vt_model.specs.declared.rows.Record.{Record}
use Rattle.vt_model.specs.declared.rows.Row.{Row}
use Rattle.vt_model.specs.promise.Sequential.{rows_before, records_of}
use Rattle.vt_steps.specs.promise.Rows.{rows_in_order}
use Rattle.vt_steps.specs.inside.Rows.{NoneBefore, AreSameRows}
use Rattle.vt_book.specs.inside.Runs.{AreMoved}
use Rattle.vt_book.proofs.RowLists.{same-before, one-order, first-in-order, every-before}

-- none
pub moved-none : (time : Time) (shown : List Record) (rows : List Row) → AreMoved time shown rows shown rows
moved-none time shown rows = record {
  records = refl;
  same = λ f. (let a = sum_by-append f rows (rows_before time rows) in let b = sum_by-append f (rows_before time rows) rows in omega arith);
}

-- one that is before the time and before which no other is
pub moved-one : (time : Time) (shown : List Record) (row : Row) (rest : List Row) → time_before row.key.time time ≡ true → NoneBefore row rest → AreMoved time shown (row ∷ rest) (shown ++ row.rec ∷ []) rest
moved-one time shown row rest early first =
    let front : rows_before time (row ∷ rest) ≡ row ∷ rows_before time rest = ap (λ b. cond b (row ∷ rows_before time rest) (rows_before time rest)) early in
    record {
      records = append_assoc shown (row.rec ∷ []) (records_of (rows_in_order (rows_before time rest)))
          ∙ ap (λ (rs : List Row). shown ++ records_of rs) (sym (ap rows_in_order front ∙ first-in-order row (rows_before time rest) (every-before _ time rest first)));
      same = λ f. (
          let a = sum_by-append f (row ∷ rest) (rows_before time rest) in
          let b = sum_by-cons f row rest in
          let c = sum_by-append f (rows_before time (row ∷ rest)) rest in
          let d = ap (sum_by f) front in
          let e = sum_by-cons f row (rows_before time rest) in
          omega arith);
    }

-- some, and then others
pub moved-then : (time : Time) (shown : List Record) (rows : List Row) (shown' : List Record) (rows' : List Row) (shown'' : List Record) (rows'' : List Row)
    → AreMoved time shown rows shown' rows' → AreMoved time shown' rows' shown'' rows'' → AreMoved time shown rows shown'' rows''
moved-then time shown rows shown' rows' shown'' rows'' h k = record {
  records = k.records ∙ h.records;
  same = λ f. (
      let a = h.same f in
      let b = k.same f in
      let c = sum_by-append f rows (rows_before time rows') in
      let d = sum_by-append f (rows_before time rows) rows' in
      let e = sum_by-append f rows' (rows_before time rows'') in
      let g = sum_by-append f (rows_before time rows') rows'' in
      let m = sum_by-append f rows (rows_before time rows'') in
      let n = sum_by-append f (rows_before time rows) rows'' in
      omega arith);
}

-- so it is with the same rows
pub moved-same : (time : Time) (shown : List Record) (rows us : List Row) (shown' : List Record) (rows' vs : List Row)
    → AreSameRows rows us → AreSameRows rows' vs → AreMoved time shown us shown' vs → AreMoved time shown rows shown' rows'
moved-same time shown rows us shown' rows' vs h k moved =
    let early = one-order (rows_before time rows) (rows_before time us) (same-before time rows us h) in
    let late = one-order (rows_before time rows') (rows_before time vs) (same-before time rows' vs k) in
    record {
      records = ap (λ (rs : List Row). shown' ++ records_of rs) late ∙ moved.records ∙ ap (λ (rs : List Row). shown ++ records_of rs) (sym early);
      same = λ f. (
          let a = moved.same f in
          let b = h f in
          let c = k f in
          let d = same-before time rows us h f in
          let e = same-before time rows' vs k f in
          let g = sum_by-append f rows (rows_before time rows') in
          let m = sum_by-append f us (rows_before time vs) in
          let n = sum_by-append f (rows_before time rows) rows' in
          let o = sum_by-append f (rows_before time us) vs in
          omega arith);
    }

-- where none is left before the time, all that are before it went
pub moved-left : (time : Time) (shown : List Record) (rows : List Row) (shown' : List Record) (rows' : List Row) → AreMoved time shown rows shown' rows' → rows_before time rows' ≡ []
    → AreSameRows rows (rows_before time rows ++ rows')
moved-left time shown rows shown' rows' h none f = sym (ap (λ (rs : List Row). sum_by f (rows ++ rs)) none ∙ ap (sum_by f) (append-nil rows)) ∙ h.same f
