use Rattle.std.proofs.Common.{◌≡◌, ◌∙◌, Some, length, sym, ap, subst}
use Rattle.vt_relay.specs.inside.Table.{IsTableOf}
use Rattle.relay_demo.proofs.relay_of.Goals as goal

pub returns-in-Ok : goal.returns-in-Ok
returns-in-Ok c =
    let next : c.fixed.result.model.next ≡ c.in-Ok.next = (λ j. (c.fixed.ensures j).model.next) ∙ c.new.ensures.0 in
    let items : c.fixed.result.model.next.items ≡ c.in-Ok.next.items = (λ j. (next j).items) in
    let table : IsTableOf c.in-Some.bytes.items c.fixed.result.model.next.items =
    subst (IsTableOf c.in-Some.bytes.items) (sym items) (subst (λ text. IsTableOf text c.in-Ok.next.items) c.as_slice.ensures.value c.in-Ok.ensures.ok) in
    let told : c.len-count.result ≡ length c.in-Ok.next.items = c.len-count.ensures ∙ c.in-Ok.next.ok.0 in
    let same : length c.fixed.result.model.next.items ≡ length c.in-Ok.next.items = ap length items in
    let count : c.len-count.result ≡ length c.fixed.result.model.next.items = told ∙ sym same in
    (c.in-Some.bytes, c.in-Some.is, table, (λ j. (c.fixed.ensures j).processes) ∙ ap Some count)
