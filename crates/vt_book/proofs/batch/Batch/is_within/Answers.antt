use Rattle.std.proofs.Common.{◌≡◌, ◌-◌, ◌&&◌, true, false, List, length, sym, ap, ◌∙◌, arith, Some, None, slice_get}
use Rattle.std.specs.Cmp.Rules.{comparing}
use Rattle.std.specs.List.{list_all}
use Rattle.std.proofs.lemmas.Bool.Decides.{nat_tests}
use Rattle.vt_key.specs.promise.Times.{time_before, time_at_most}
use Rattle.vt_model.specs.declared.rows.Row.{Row}
use Rattle.vt_book.specs.inside.Books.{is_within}
use Rattle.vt_book.proofs.WithinLemmas.{within-none, within-ends, within-same}
use Rattle.vt_book.proofs.batch.Batch.is_within.Goals.{After-le}
use Rattle.vt_book.proofs.batch.Batch.is_within.Goals as goal

pub returns-in_default : goal.returns-in_default
returns-in_default c =
    let is : None ≡ slice_get c.self.inside.rows.items 0 = c.in_default.ensures.value ∙ ap (λ (rows : List Row). slice_get rows 0) c.deref.ensures.value in
    sym (within-same c.args.from c.args.to c.self.inside.told.items c.self.inside.rows.items c.args.self.now c.self.invariant.same c.self.view_is ∙ within-none c.args.from c.args.to c.self.inside.rows.items is)

-- rows lie between the times where the first and the last do
ends : (c : After-le) → list_all (is_within c.args.from c.args.to) c.args.self.now ≡ (time_at_most c.args.from c.in-Some.first.now.key.time && time_before c.in-Some-last.last.now.key.time c.args.to)
ends c =
    within-same c.args.from c.args.to c.self.inside.told.items c.self.inside.rows.items c.args.self.now c.self.invariant.same c.self.view_is
    ∙ within-ends c.args.from c.args.to c.self.inside.rows.items c.in-Some.first.now c.in-Some-last.last.now c.self.invariant.rising
    (c.in-Some.ensures.value ∙ ap (λ (rows : List Row). slice_get rows 0) c.deref.ensures.value)
    (c.in-Some-last.ensures.value ∙ ap (λ (rows : List Row). slice_get rows (length rows - 1)) c.deref-2.ensures.value)

pub returns-then-le : goal.returns-then-le
returns-then-le c =
    let last = c.in-Some-last.last.now in
    let low : time_at_most c.args.from c.in-Some.first.now.key.time ≡ true = (let w = c.when.ensures in let e = c.le.ensures in let is = c.if-le.true in grind (arith, nat_tests, comparing)) in
    let high : c.lt.result ≡ time_before last.key.time c.args.to = (let w = c.when-then-le.ensures in let e = c.lt.ensures in grind (arith, nat_tests, comparing)) in
    high ∙ sym (ends (goal.at.returns-then-le c).After-le ∙ ap (λ b. b && time_before last.key.time c.args.to) low)

pub returns-else-le : goal.returns-else-le
returns-else-le c =
    let last = c.in-Some-last.last.now in
    let low : time_at_most c.args.from c.in-Some.first.now.key.time ≡ false = (let w = c.when.ensures in let e = c.le.ensures in let is = c.if-le.false in grind (arith, nat_tests, comparing)) in
    c.if-le.false ∙ sym (ends (goal.at.returns-else-le c).After-le ∙ ap (λ b. b && time_before last.key.time c.args.to) low)
