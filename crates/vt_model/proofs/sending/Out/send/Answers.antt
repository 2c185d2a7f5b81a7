use Rattle.std.proofs.Common.{◌+◌, ◌<◌, ap, sym, subst, length, length-append, arith}
use Rattle.vt_model.specs.inside.Out.{sends_held}
use Rattle.vt_model.specs.declared.limits.TheConstants.{MAX_SENDS}
use Rattle.vt_model.proofs.SendLemmas.{sent_inside, sent_early, sent_late}
use Rattle.vt_model.proofs.sending.Out.send.Goals as goal

pub returns-then-delay-ticks : goal.returns-then-delay-ticks
returns-then-delay-ticks g c =
    sent_early _ _ c.args.dest c.args.delay c.args.priority _ _ _ c.args.payload _ _ c.self.view_is c.ranges.priority.fits c.ticks.ensures c.ticks-2.ensures c.if-delay-ticks.true
    c.after.ensures c.new-key.ensures c.push_sent.ensures

pub returns-else-delay-ticks : goal.returns-else-delay-ticks
returns-else-delay-ticks g c =
    sent_late _ _ c.args.dest c.args.delay c.args.priority _ _ c.args.payload c.self.view_is c.self.invariant.whole_end c.self.invariant.below_end c.ticks.ensures c.ticks-2.ensures
    c.if-delay-ticks.false

pub invariant_of-self : goal.invariant_of-self
invariant_of-self g c =
    let one = ap length c.push_sent.ensures in
    sent_inside _ c.self.invariant (subst (λ o. o.number < o.first + MAX_SENDS) (sym c.self.view_is) c.requires.room) (omega (arith, one, length-append (sends_held c.self.inside.sends)))

pub invariant_of-self-else-delay-ticks : goal.invariant_of-self-else-delay-ticks
invariant_of-self-else-delay-ticks g c =
    sent_inside _ c.self.invariant (subst (λ o. o.number < o.first + MAX_SENDS) (sym c.self.view_is) c.requires.room) (omega arith)
