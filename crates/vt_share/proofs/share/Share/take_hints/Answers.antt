use Rattle.std.proofs.Common.{◌∙◌, sym, ap, subst}
use Rattle.vt_pool.specs.inside.Share.{HeldPool, seen}
use Rattle.vt_share.specs.inside.Held.{share_of, IsShareInside}
use Rattle.vt_share.proofs.share.Share.take_hints.Goals as goal

pub invariant_of-self : goal.invariant_of-self
invariant_of-self g c =
    let i = c.self.inside in
    subst (λ (p : HeldPool _ _ _). IsShareInside p.config p.worker p.stock i.arrived.items i.sent i.got) (sym c.take_hints.ensures) c.self.invariant

pub returns : goal.returns
returns g c =
    let i = c.self.inside in
    ap (λ (p : HeldPool _ _ _). seen (share_of p i.arrived.items i.colour i.sent i.got i.red_minimum i.floor)) c.take_hints.ensures ∙ c.self.view_is
