use Rattle.std.proofs.Common.{◌+◌, ◌<◌, ◌≤◌, true, false, cond, eqb, length, get_or, sym, ◌∙◌, ap, subst}
use Rattle.std.specs.List.{filter, count_by, AllByRecursion}
use Rattle.std.specs.Result.{is_ok}
use Rattle.std.proofs.lemmas.List.{take_all}
use Rattle.vt_logs.specs.inside.Shelves.{is_unused}
use Rattle.vt_logs.proofs.ShelfLemmas.{pushed-known, pushed-count, filter-counted, kept-yes, kept-no, numbers-known}
use Rattle.vt_logs.proofs.shelf.keep_unused.Goals.{then-is_unused, else-is_unused}
use Rattle.vt_logs.proofs.shelf.keep_unused.Goals as goal

pub loop-number-preserved : goal.loop-number-preserved
loop-number-preserved g c =
    let i = c.loop-number.number-index in
    let numbers = c.args.numbers.now in
    let x = get_or numbers i 0 in
    let p = is_unused c.args.sheets.now in
    elim c.if-is_unused.branch [
      | then-is_unused w ↦ (
          let e = ap (λ v. v.items) w.spare-is ∙ w.push.ensures.items in (
            pushed-known (λ n. n < length c.args.sheets.now) (is_ok w.push.result) c.loop-number.spare.items _ x e c.loop-number.invariant.0 (numbers-known (λ n. n < length c.args.sheets.now) numbers i c.loop-number-test.true c.requires.known),
            λ n. kept-yes _ _ (cond (eqb x n) 1 0) _ _ _ (pushed-count (λ m. cond (eqb m n) 1 0) (is_ok w.push.result) c.loop-number.spare.items _ x e) (c.loop-number.invariant.1 n)
                (filter-counted (λ m. cond (eqb m n) 1 0) p numbers i true c.loop-number-test.true (sym c.is_unused.ensures ∙ w.if-is_unused.true)),
          ))
      | else-is_unused w ↦ (
          let e = ap (λ v. v.items) w.spare-is in (
            subst (AllByRecursion (λ n. n < length c.args.sheets.now)) (sym e) c.loop-number.invariant.0,
            λ n. kept-no _ _ _ _ _ (ap (count_by (λ m. eqb m n)) e) (c.loop-number.invariant.1 n)
                (filter-counted (λ m. cond (eqb m n) 1 0) p numbers i false c.loop-number-test.true (sym c.is_unused.ensures ∙ w.if-is_unused.false)),
          ))
    ]

pub returns-clause-counts : goal.returns-clause-counts
returns-clause-counts g c = λ n.
    subst (λ ns. count_by (λ m. eqb m n) c.loop-number.spare.items ≤ count_by (λ m. eqb m n) c.args.spare.now.items + count_by (λ m. eqb m n) (filter (is_unused c.args.sheets.now) ns))
    (take_all c.loop-number.number-index c.args.numbers.now c.loop-number-test.false) (c.loop-number.invariant.1 n)
