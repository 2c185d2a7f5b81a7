use Rattle.std.proofs.Common.{◌∙◌, sym, ap}
use Rattle.std.specs.Prelude.{nat_lt}
use Rattle.vt_key.specs.promise.Keys.{Key}
use Rattle.vt_key.proofs.HeadLemmas.{before-of_one_head, before-by_head}
use Rattle.vt_key.proofs.order.Key.is_before.Goals as goal

pub returns-then-own-others : goal.returns-then-own-others
returns-then-own-others c =
    let own = ap (λ (k : Key). k.number) c.self.view_is in
    let others = ap (λ (k : Key). k.number) c.other.view_is in
    (λ i. nat_lt (own i) (others i))
    ∙ before-of_one_head c.args.self.now c.args.other.now c.head-own.ensures.fits c.head-others.ensures.fits
    (sym c.head-own.ensures.value ∙ c.if-own-others.true ∙ c.head-others.ensures.value)

pub returns : goal.returns
returns c =
    (λ i. nat_lt (c.head-own.ensures.value i) (c.head-others.ensures.value i))
    ∙ before-by_head c.args.self.now c.args.other.now c.head-own.ensures.fits c.head-others.ensures.fits
    (λ e. c.if-own-others.false (c.head-own.ensures.value ∙ e ∙ sym c.head-others.ensures.value))
