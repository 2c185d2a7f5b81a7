use Rattle.std.proofs.Common.{◌≡◌, true, false, sym, subst}
use Rattle.std.specs.List.{AllByRecursion}
use Rattle.vt_logs.specs.inside.Sheets.{Page, stays}
use Rattle.vt_logs.proofs.SheetLemmas.{dated-staying}
use Rattle.vt_logs.proofs.sheet.Sheet.begin_at.Goals as goal

pub invariant_of-self : goal.invariant_of-self
invariant_of-self g c =
    let i = c.self.inside in
    let sheet = c.self.invariant.0 in
    let staying = subst (λ (v : Page _ _). AllByRecursion (λ x. stays c.args.time x ≡ true) v.live) (sym c.self.view_is) c.requires in (
      record { sent = sheet.sent; recorded = sheet.recorded; few = sheet.few; dated = dated-staying c.args.time i.earliest i.latest _ sheet.dated staying; counted = sheet.counted },
      λ e. (let h : false ≡ true = e in cc),
    )
