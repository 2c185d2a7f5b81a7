use Rattle.std.proofs.Common.{◌≤◌, length, subst, sym}
use Rattle.vt_model.specs.declared.limits.TheConstants.{MAX_RECORDS}
use Rattle.vt_logs.proofs.SheetLemmas.{few-there}
use Rattle.vt_logs.proofs.sheet.append_rows_at.Goals as goal

pub append_rows_of-requires : goal.append_rows_of-requires
append_rows_of-requires g c =
    subst (λ rs. length rs ≤ MAX_RECORDS) (sym c.range-own.ensures) (few-there c.args.slot.now.first_record c.args.slot.now.record_count c.args.records.now c.requires.few)
