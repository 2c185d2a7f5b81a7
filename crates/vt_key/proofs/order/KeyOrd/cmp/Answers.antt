use Rattle.std.proofs.Common.{◌∙◌, sym, ap}
use Rattle.std.specs.Ordering.{nat_cmp}
use Rattle.vt_key.specs.promise.Keys.{Key}
use Rattle.vt_key.proofs.HeadLemmas.{cmp-of_one_head, cmp-by_head}
use Rattle.vt_key.proofs.order.KeyOrd.cmp.Goals as goal

pub returns-then-own-others : goal.returns-then-own-others
returns-then-own-others c =
    let own = ap (λ (k : Key). k.number) c.self.view_is in
    let others = ap (λ (k : Key). k.number) c.other.view_is in
    c.cmp.ensures
    ∙ (λ i. nat_cmp (own i) (others i))
    ∙ cmp-of_one_head c.args.self.now c.args.other.now c.head-own.ensures.fits c.head-others.ensures.fits
    (sym c.head-own.ensures.value ∙ c.if-own-others.true ∙ c.head-others.ensures.value)

pub returns : goal.returns
returns c =
    c.cmp-2.ensures
    ∙ (λ i. nat_cmp (c.head-own.ensures.value i) (c.head-others.ensures.value i))
    ∙ cmp-by_head c.args.self.now c.args.other.now c.head-own.ensures.fits c.head-others.ensures.fits
    (λ e. c.if-own-others.false (c.head-own.ensures.value ∙ e ∙ sym c.head-others.ensures.value))
