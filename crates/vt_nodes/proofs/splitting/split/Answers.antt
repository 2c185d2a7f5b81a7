use Rattle.std.proofs.Common.{sym, ap, ◌∙◌, subst}
use Rattle.vt_nodes.specs.inside.Linked.{IsChain, items, with_next, with_prev}
use Rattle.vt_nodes.proofs.Links.{front-chain, back-chain, all-ahead, all-passed, items-with_next, items-with_prev}
use Rattle.vt_nodes.proofs.splitting.split.Goals as goal

pub end-requires : goal.end-requires
end-requires g c =
    let s = c.position.inside in (all-ahead s.last s.next s.passed.owned s.ahead.owned (sym c.address.ensures ∙ c.in_default.is) c.position.invariant).0

pub returns-in_default : goal.returns-in_default
returns-in_default g c =
    let s = c.position.inside in let none = all-ahead s.last s.next s.passed.owned s.ahead.owned (sym c.address.ensures ∙ c.in_default.is) c.position.invariant in
    (c.new.ensures ∙ sym (ap items none.0) ∙ ap (λ v. v.0) c.position.view_is, ap (λ v. v.1) c.position.view_is)

pub invariant_of-back : goal.invariant_of-back
invariant_of-back g c =
    let s = c.position.inside in let none = all-ahead s.last s.next s.passed.owned s.ahead.owned (sym c.address.ensures ∙ c.in_default.is) c.position.invariant in
    subst (IsChain c.args.head c.args.tail) (sym (ap (λ v. v.2) c.position.view_is) ∙ none.1) c.requires

pub invariant_of-front : goal.invariant_of-front
invariant_of-front g c =
    let s = c.position.inside in let none = all-passed s.last s.next s.passed.owned s.ahead.owned (sym c.address-2.ensures ∙ c.in_default-address.is) c.position.invariant in
    subst (IsChain c.args.head c.args.tail) (sym (ap (λ v. v.2) c.position.view_is) ∙ none.1) c.requires

pub invariant_of-front-2 : goal.invariant_of-front-2
invariant_of-front-2 g c =
    let s = c.position.inside in
    subst (IsChain c.args.head s.last) (sym (c.set_last_next.ensures ∙ ap (λ z. with_next z s.passed.owned) c.none.ensures))
    (front-chain c.args.head c.args.tail s.last s.next c.in-Some.end s.passed.owned s.ahead.owned (sym c.address.ensures ∙ c.in-Some.is) c.position.invariant
    (subst (IsChain c.args.head c.args.tail) (sym (ap (λ v. v.2) c.position.view_is)) c.requires))

pub invariant_of-back-2 : goal.invariant_of-back-2
invariant_of-back-2 g c =
    let s = c.position.inside in
    subst (IsChain s.next c.args.tail) (sym (c.set_first_prev.ensures ∙ ap (λ z. with_prev z s.ahead.owned) c.none-2.ensures))
    (back-chain c.args.head c.args.tail s.last s.next c.in-Some-address.start s.passed.owned s.ahead.owned (sym c.address-2.ensures ∙ c.in-Some-address.is) c.position.invariant
    (subst (IsChain c.args.head c.args.tail) (sym (ap (λ v. v.2) c.position.view_is)) c.requires))

pub returns : goal.returns
returns g c =
    let s = c.position.inside in (
      ap items c.set_last_next.ensures ∙ items-with_next c.none.result s.passed.owned ∙ ap (λ v. v.0) c.position.view_is,
      ap items c.set_first_prev.ensures ∙ items-with_prev c.none-2.result s.ahead.owned ∙ ap (λ v. v.1) c.position.view_is,
    )
