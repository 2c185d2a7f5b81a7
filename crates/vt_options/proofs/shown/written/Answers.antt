use Rattle.std.proofs.Common.{◌≡◌, rules, refl, ap, sym, ◌∙◌, [], ◌∷◌, take, drop, arith, string_bytes}
use Rattle.std.specs.Char.Iter.{escape_rest}
use Rattle.std.proofs.lemmas.List.{append-nil}
use Rattle.vt_options.proofs.ShownLemmas.{begun, letter_more, part_whole}
use Rattle.vt_options.proofs.shown.written.Goals as goal

pub returns-then-c-spared : goal.returns-then-c-spared
returns-then-c-spared c = (c.args.c ∷ [], (λ _. refl, λ other. absurd (other c.if-c-spared.true)), refl, search rules ∙ sym (append-nil _))

pub escape-init : goal.escape-init
escape-init c = (c.escape_debug-rest.ensures.bound, begun _ _ _ _ _ _ c.new-text.ensures.bytes c.if-c-spared.false c.len-columns.ensures.value c.escape_debug-rest.ensures.rest)

pub escape-preserved : goal.escape-preserved
escape-preserved c =
    let steps = c.in-Some.ensures.steps in (
      omega (arith, steps.0, c.escape.invariant.0),
      letter_more _ _ _ (string_bytes c.escape.text) c.in-Some.letter _ _ _ _ _ c.escape.invariant.1 c.in_ok-push-2.ensures.bytes steps.1.0 steps.1.1,
    )

pub returns : goal.returns
returns c =
    let steps = c.in_default.ensures.steps in
    let none : escape_rest c.escape.rest ≡ [] = ap (λ n. take n (drop c.escape.rest.from c.escape.rest.chars)) steps.1.0 in
    part_whole _ _ _ _ _ _ c.escape.invariant.1 steps.1.0 none
