use Rattle.std.proofs.Common.{◌≡◌, length, rules}
use Rattle.std.proofs.lemmas.List.{nil_from_length}
use Rattle.vt_seq.proofs.calendar.Calendar.settle.Goals as goal

pub open-requires : goal.open-requires
open-requires g c =
    let it = c.args.self.now in
    let zero : length it.present.items ≡ 0 = search rules in
    nil_from_length it.present.items zero
