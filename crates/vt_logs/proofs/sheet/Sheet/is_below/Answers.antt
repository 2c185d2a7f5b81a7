use Rattle.std.proofs.Common.{not, sym, ◌∙◌, ap}
use Rattle.vt_key.specs.promise.Times.{time_before}
use Rattle.vt_logs.proofs.PresentLemmas.{alone-all, none-all, lt-is}
use Rattle.vt_logs.proofs.sheet.Sheet.is_below.Goals as goal

pub returns-in-Some : goal.returns-in-Some
returns-in-Some g c =
    let x = c.in-Some.ensures in
    alone-all _ _ _ _ x.1
    (ap not (ap (λ e. time_before e.event.rank.key.time c.args.floor) (sym x.2.entry) ∙ ap (λ t. time_before t c.args.floor) (sym c.when.ensures) ∙ lt-is c.lt.result c.when.result c.args.floor c.lt.ensures))

pub returns-in-None : goal.returns-in-None
returns-in-None g c = none-all _ _ _ c.in-None.ensures
