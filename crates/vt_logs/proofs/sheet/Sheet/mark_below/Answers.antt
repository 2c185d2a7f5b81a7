use Rattle.std.proofs.Common.{◌≡◌, ◌<◌, ◌≤◌, true, false, length, refl, ◌∙◌, ap, subst}
use Rattle.std.specs.List.{filter, AllByRecursion}
use Rattle.vt_logs.specs.inside.Sheets.{Page, is_at, is_elsewhere, stays}
use Rattle.vt_logs.proofs.PresentLemmas.{stays-none, stays-more, stays-all}
use Rattle.vt_logs.proofs.SheetLemmas.{live-high}
use Rattle.vt_logs.proofs.sheet.Sheet.mark_below.Goals.{then-is_below, else-is_below}
use Rattle.vt_logs.proofs.sheet.Sheet.mark_below.Goals as goal

pub loop-index-init : goal.loop-index-init
loop-index-init g c = (ap (λ (v : Page _ _). v.live) c.self.view_is ∙ stays-none (stays c.args.floor) _, refl)

pub loop-index-preserved : goal.loop-index-preserved
loop-index-preserved g c =
    let keeps = stays c.args.floor in
    elim c.if-is_below.branch [
      | then-is_below w ↦ (
        ap (λ (v : Page _ _). v.live) (w.self-is ∙ w.mark.ensures) ∙ ap (filter (is_elsewhere c.loop-index.index)) c.loop-index.invariant.0
            ∙ stays-more keeps true c.loop-index.index c.args.self.now.live (subst (AllByRecursion (λ x. is_at c.loop-index.index x ≡ true → keeps x ≡ false)) c.loop-index.invariant.0 w.if-is_below.ensures),
        ap (λ (v : Page _ _). v.has_room) (w.self-is ∙ w.mark.ensures),
      )
      | else-is_below w ↦ (
        ap (λ (v : Page _ _). v.live) w.self-is ∙ c.loop-index.invariant.0
            ∙ stays-more keeps false c.loop-index.index c.args.self.now.live (subst (AllByRecursion (λ x. is_at c.loop-index.index x ≡ true → keeps x ≡ true)) c.loop-index.invariant.0 w.if-is_below.ensures),
        ap (λ (v : Page _ _). v.has_room) w.self-is ∙ c.loop-index.invariant.1,
      )
    ]

pub returns : goal.returns
returns g c =
    let keeps = stays c.args.floor in
    let i = c.self.inside in
    let late : length i.slots.items ≤ c.loop-index.index = subst (λ n. n ≤ c.loop-index.index) (c.len-index-end.ensures ∙ i.slots.ok.0) c.loop-index-test.false in
    let high = subst (λ (v : Page _ _). AllByRecursion (λ x. x.0 < c.loop-index.index) v.live) c.self.view_is (live-high i.sends.items i.records.items i.slots.items c.loop-index.index late) in
    let e = c.loop-index.invariant.0 ∙ stays-all keeps c.loop-index.index c.args.self.now.live high in
    λ j. record { live = e j; has_room = c.loop-index.invariant.1 j }
