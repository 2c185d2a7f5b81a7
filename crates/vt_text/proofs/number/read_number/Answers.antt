use Rattle.std.proofs.Common.{◌≡◌, ◌<◌, ◌∙◌, Some, sym, ap, arith, length, take, true}
use Rattle.std.proofs.lemmas.List.{take_all}
use Rattle.std.specs.Char.{is_ascii_digit}
use Rattle.std.specs.List.{list_all}
use Rattle.vt_text.specs.promise.Numbers.{decimal_value}
use Rattle.vt_text.proofs.NumberLemmas.{first_digits, too_large, a_number, not_empty}
use Rattle.vt_text.proofs.number.read_number.Goals as goal

pub returns-in_err-checked_mul : goal.returns-in_err-checked_mul
returns-in_err-checked_mul c =
    let l = c.loop-byte in
    let most = first_digits c.args.text.now l.byte-index c.loop-byte-test.true in
    c.from_residual.ensures ∙ sym (too_large c.args.text.now (omega (arith, most, l.invariant.number, c.in_err-checked_mul.ensures)))

pub returns-in_err-value : goal.returns-in_err-value
returns-in_err-value c =
    let l = c.loop-byte in
    let most = first_digits c.args.text.now l.byte-index c.loop-byte-test.true in
    let product = c.in_ok-checked_mul.ensures in
    c.from_residual-in_err-value.ensures
    ∙ sym (too_large c.args.text.now (omega (arith, most, l.invariant.number, product.1, c.from.ensures, c.in_err-value.ensures)))

pub returns : goal.returns
returns c =
    let l = c.loop-byte in
    let text = c.args.text.now in
    let whole : take l.byte-index text ≡ text = take_all l.byte-index text c.loop-byte-test.false in
    let number : l.value ≡ decimal_value text = l.invariant.number ∙ ap decimal_value whole in
    let digits : list_all is_ascii_digit text ≡ true = rw (← whole) l.invariant.digits in
    let some : 0 < length text = not_empty text c.if-is_empty.ensures in
    ap Some number ∙ sym (a_number text some (omega arith) digits (rw number at l.invariant.fits))
