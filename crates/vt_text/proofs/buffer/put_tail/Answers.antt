use Rattle.std.proofs.Common.{◌≡◌, ◌+◌, ◌-◌, List, ℕ, ◌++◌, ◌∷◌, ap, rules, arith}
use Rattle.std.specs.Fmt.{decimal}
use Rattle.std.proofs.lemmas.List.{drop-set, drop_all}
use Rattle.vt_text.specs.declared.buffer.TheConstants.{RECORD_LEN}
use Rattle.vt_text.proofs.buffer.put_tail.Goals as goal

pub returns-clause-written : goal.returns-clause-written
returns-clause-written c =
    let value = c.put_number-value in
    let kind = c.put_number-kind in
    let item = c.args.item.now in
    let a : value.result - 1 + 1 ≡ value.result = omega arith in
    let b : kind.result - 1 + 1 ≡ kind.result = omega arith in
    rw (c.put_number.ensures.written, drop-set kind.new.text (kind.result - 1) _ (omega arith), b, kind.ensures.written, drop-set value.new.text (value.result - 1) _ (omega arith), a, value.ensures.written, c.from-2.ensures, c.from.ensures)
    (rw (drop-set c.args.text.now (RECORD_LEN - 1) 10 (search rules)) (ap (λ (l : List ℕ). decimal item.lp ++ 32 ∷ (decimal item.kind ++ 32 ∷ (decimal item.value ++ 10 ∷ l))) (drop_all RECORD_LEN c.args.text.now (search rules))))
