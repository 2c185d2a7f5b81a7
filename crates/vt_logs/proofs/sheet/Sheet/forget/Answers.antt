use Rattle.std.proofs.Common.{◌≡◌, true, false, sym, ◌∙◌, ap, subst}
use Rattle.std.specs.List.{filter, AllByRecursion}
use Rattle.vt_key.proofs.ListLemmas.{filter-passes}
use Rattle.vt_logs.specs.inside.Sheets.{Page, stays}
use Rattle.vt_logs.proofs.SheetLemmas.{all-stay, none-stay, lt-so, lt-not}
use Rattle.vt_logs.proofs.sheet.Sheet.forget.Goals as goal

pub begin_at-requires : goal.begin_at-requires
begin_at-requires g c =
    let e = ap (λ (v : Page _ _). v.live) c.trim.ensures ∙ ap (λ (v : Page _ _). v.live) c.mark_below.ensures in
    subst (AllByRecursion (λ x. stays c.args.floor x ≡ true)) (sym e) (filter-passes (stays c.args.floor) c.args.self.now.live)

pub returns-then-lt : goal.returns-then-lt
returns-then-lt g c =
    let i = c.self.inside in
    let e = none-stay c.args.floor i.earliest i.latest _ (lt-so c.lt.result i.latest c.args.floor c.lt.ensures c.if-lt.true) c.self.invariant.0.dated ∙ ap (λ (v : Page _ _). filter (stays c.args.floor) v.live) c.self.view_is in
    c.clear.ensures ∙ (λ j. record { live = e j; has_room = false })

pub returns-else-lt-2 : goal.returns-else-lt-2
returns-else-lt-2 g c =
    let i = c.self.inside in
    let e = all-stay c.args.floor i.earliest i.latest _ (lt-not c.lt-else-lt.result i.earliest c.args.floor c.lt-else-lt.ensures c.if-lt-2.false) c.self.invariant.0.dated ∙ ap (λ (v : Page _ _). filter (stays c.args.floor) v.live) c.self.view_is in
    λ j. record { live = e j; has_room = false }
