use Rattle.std.proofs.Common.{◌≡◌, true, false, refl, ap}
use Rattle.vt_logs.specs.inside.Sheets.{Page}
use Rattle.vt_logs.proofs.SheetLemmas.{live-along, sheet-along}
use Rattle.vt_logs.proofs.sheet.Sheet.make_room.Goals as goal

pub invariant_of-self : goal.invariant_of-self
invariant_of-self g c = (c.self.invariant.0, λ e. (let h : false ≡ true = e in cc))

pub returns-then-len-ge-MOST-clause-same : goal.returns-then-len-ge-MOST-clause-same
returns-then-len-ge-MOST-clause-same g c = ap (λ (v : Page _ _). v.live) c.self.view_is

pub invariant_of-self-in_default : goal.invariant_of-self-in_default
invariant_of-self-in_default g c = (sheet-along c.in_default.ensures.items refl refl c.self.invariant.0, λ e. (let h : false ≡ true = e in cc))

pub returns-in_default-clause-same : goal.returns-in_default-clause-same
returns-in_default-clause-same g c =
    live-along c.in_default.ensures.items refl refl (ap (λ (v : Page _ _). v.live) c.self.view_is)

pub invariant_of-self-in_default-reserve : goal.invariant_of-self-in_default-reserve
invariant_of-self-in_default-reserve g c = (sheet-along c.in-Ok.ensures.items c.in_default-reserve.ensures.items refl c.self.invariant.0, λ e. (let h : false ≡ true = e in cc))

pub returns-in_default-reserve-clause-same : goal.returns-in_default-reserve-clause-same
returns-in_default-reserve-clause-same g c =
    live-along c.in-Ok.ensures.items c.in_default-reserve.ensures.items refl (ap (λ (v : Page _ _). v.live) c.self.view_is)

pub invariant_of-self-in_default-reserve-2 : goal.invariant_of-self-in_default-reserve-2
invariant_of-self-in_default-reserve-2 g c = (sheet-along c.in-Ok.ensures.items c.in-Ok-reserve.ensures.items c.in_default-reserve-2.ensures.items c.self.invariant.0, λ e. (let h : false ≡ true = e in cc))

pub returns-in_default-reserve-2-clause-same : goal.returns-in_default-reserve-2-clause-same
returns-in_default-reserve-2-clause-same g c =
    live-along c.in-Ok.ensures.items c.in-Ok-reserve.ensures.items c.in_default-reserve-2.ensures.items (ap (λ (v : Page _ _). v.live) c.self.view_is)

pub returns-clause-same : goal.returns-clause-same
returns-clause-same g c =
    live-along c.in-Ok.ensures.items c.in-Ok-reserve.ensures.items c.in-Ok-reserve-2.ensures.items (ap (λ (v : Page _ _). v.live) c.self.view_is)
