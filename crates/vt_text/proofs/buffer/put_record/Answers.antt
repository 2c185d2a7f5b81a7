use Rattle.std.proofs.Common.{◌≡◌, ◌+◌, ◌-◌, ap, sym, arith}
use Rattle.std.proofs.lemmas.List.{drop-set}
use Rattle.vt_text.specs.promise.Records.{record_text}
use Rattle.vt_text.proofs.buffer.put_record.Goals as goal

pub returns-in-One-clause-written : goal.returns-in-One-clause-written
returns-in-One-clause-written c =
    let tail = c.put_tail-tail in
    let a : tail.result - 1 + 1 ≡ tail.result = omega arith in
    rw (c.put_number.ensures.written, drop-set tail.new.text (tail.result - 1) _ (omega arith), a, tail.ensures.written)
    (sym (ap (λ version. record_text version c.args.item.now) c.in-One.is))

pub returns-in-Two-clause-written : goal.returns-in-Two-clause-written
returns-in-Two-clause-written c =
    let tail = c.put_tail-tail in
    let priority = c.put_number-priority in
    let a : tail.result - 1 + 1 ≡ tail.result = omega arith in
    let b : priority.result - 1 + 1 ≡ priority.result = omega arith in
    rw (c.put_number-in-Two.ensures.written, drop-set priority.new.text (priority.result - 1) _ (omega arith), b, priority.ensures.written, drop-set tail.new.text (tail.result - 1) _ (omega arith), a, tail.ensures.written, c.from.ensures)
    (sym (ap (λ version. record_text version c.args.item.now) c.in-Two.is))
