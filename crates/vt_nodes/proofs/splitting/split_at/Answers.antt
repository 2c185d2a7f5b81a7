use Rattle.std.proofs.lemmas.List.{take-append-drop}
use Rattle.std.proofs.Common.{◌≡◌, ◌++◌, take, drop, sym, ap, ◌∙◌, subst, arith}
use Rattle.vt_nodes.specs.inside.Linked.{IsChain}
use Rattle.vt_nodes.proofs.Splits.{advanced-at, parted-past}
use Rattle.vt_nodes.proofs.splitting.split_at.Goals as goal
use Rattle.vt_nodes.proofs.splitting.split_at.Goals.{else-loop-test, then-loop-test+then-is_at_end}

pub loop-preserved : goal.loop-preserved
loop-preserved g c =
    let at = c.loop.invariant in let old = c.loop.position in
    let further = c.advance-position.ensures.items ∙ advanced-at c.loop.counter c.args.chain (old.0, old.1) at.0 at.1 in
    (ap (λ p. p.0) further, ap (λ p. p.1) further, c.advance-position.ensures.nodes ∙ at.2)

pub split-requires : goal.split-requires
split-requires g c = subst (IsChain c.chain.inside.head c.chain.inside.tail) (sym (c.loop.invariant.2 ∙ ap (λ v. v.2) c.at_front-position.ensures)) c.chain.invariant

pub returns-clause-parts : goal.returns-clause-parts
returns-clause-parts g c =
    let k = c.loop.counter in let n = c.args.index in let all = c.args.chain in let at = c.loop.invariant in
    elim c.loop-test.branch [
      | else-loop-test w ↦ let done : k ≡ n = omega (arith, w.loop-test.false, c.loop.auto.counter-end) in
          (c.split.ensures.0 ∙ at.0 ∙ ap (λ i. take i all) done, c.split.ensures.1 ∙ at.1 ∙ ap (λ i. drop i all) done)
      | then-loop-test+then-is_at_end w ↦
          let none = sym at.1 ∙ w.is_at_end.ensures.0 w.if-is_at_end.true in
          let same = parted-past k n all none c.loop.auto.counter-end in
          (c.split.ensures.0 ∙ at.0 ∙ same.0, c.split.ensures.1 ∙ at.1 ∙ same.1)
    ]

pub returns-clause-whole : goal.returns-clause-whole
returns-clause-whole g c = let parts = returns-clause-parts g c in sym (take-append-drop c.args.index c.args.chain) ∙ (λ i. sym parts.0 i ++ sym parts.1 i)
