use Rattle.std.proofs.Common.{◌≡◌, ◌∙◌, true, false, IfOk, IfErr, sym, ap, subst}
use Rattle.std.proofs.lemmas.Result.{IfErr-weaker, IfOk-weaker}
use Rattle.vt_kernel.specs.inside.Held.{HeldWorker, AllOwnMail}
use Rattle.vt_kernel.proofs.PartLemmas.{stands_along}
use Rattle.vt_pool.specs.inside.Share.{HeldPool, seen}
use Rattle.vt_pool.specs.inside.Steps.{LeadsTo}
use Rattle.vt_share.specs.inside.Calls.{ExecutesNext, HasNothingPending, IsNextRefusal}
use Rattle.vt_share.specs.inside.Held.{share_of}
use Rattle.vt_share.proofs.ExecuteLemmas.{executes-next, next-refused}
use Rattle.vt_share.proofs.LetterLemmas.{nothing-pending}
use Rattle.vt_share.proofs.share.Share.execute_next.Goals as goal

pub execute_next-requires-send-M-Payload : goal.execute_next-requires-send-M-Payload
execute_next-requires-send-M-Payload g c κs within = record { owned = c.type_bounds.send-M-Payload.owned; leaving = c.type_bounds.send-M-Payload.leaving }

pub invariant_of-self : goal.invariant_of-self
invariant_of-self g c =
    let i = c.self.inside in
    let new = c.execute_next.new.self in
    let same = c.execute_next.ensures.same in
    record {
      settled = c.execute_next.ensures.settled;
      own_mail = subst (λ w. AllOwnMail new.config w i.arrived.items) (sym same.0) (subst (λ f. AllOwnMail f i.pool.worker i.arrived.items) (sym same.1) c.self.invariant.own_mail);
      few_sent = c.self.invariant.few_sent;
      few_got = c.self.invariant.few_got;
    }

pub returns-clause-leads : goal.returns-clause-leads
returns-clause-leads g c =
    let i = c.self.inside in
    let handlers = g.M.Model.handlers c.args.model.now in
    let share = λ (p : HeldPool _ _ _). share_of p i.arrived.items i.colour i.sent i.got i.red_minimum i.floor in
    subst (λ (v : HeldWorker _ _ _). LeadsTo handlers v (seen (share c.execute_next.new.self))) c.self.view_is (c.execute_next.ensures.leads (share i.pool))

pub returns-clause-executed : goal.returns-clause-executed
returns-clause-executed g c =
    let i = c.self.inside in
    let handlers = g.M.Model.handlers c.args.model.now in
    let share = λ (p : HeldPool _ _ _). share_of p i.arrived.items i.colour i.sent i.got i.red_minimum i.floor in
    let new = seen (share c.execute_next.new.self) in
    subst (λ (v : HeldWorker _ _ _). IfOk c.execute_next.result (λ done. done ≡ true → ExecutesNext handlers v new)) c.self.view_is
    (IfOk-weaker c.execute_next.result _ _ (λ done executed is. executes-next handlers (share i.pool) i.pool c.execute_next.new.self c.fits.ensures.known c.fits.ensures.inside (executed is)) c.execute_next.ensures.executed)

pub returns-clause-nothing : goal.returns-clause-nothing
returns-clause-nothing g c =
    let i = c.self.inside in
    let view = λ (p : HeldPool _ _ _). seen (share_of p i.arrived.items i.colour i.sent i.got i.red_minimum i.floor) in
    subst (λ (v : HeldWorker _ _ _). IfOk c.execute_next.result (λ done. done ≡ false → HasNothingPending v × (view c.execute_next.new.self ≡ v))) c.self.view_is
    (IfOk-weaker c.execute_next.result _ _
    (λ done nothing is. (nothing-pending i.pool.config i.pool.worker i.pool.stock c.fits.ensures.known c.fits.ensures.inside (nothing is).0, ap view (nothing is).1)) c.execute_next.ensures.nothing)

pub returns-clause-refused : goal.returns-clause-refused
returns-clause-refused g c =
    let i = c.self.inside in
    let handlers = g.M.Model.handlers c.args.model.now in
    let share = share_of i.pool i.arrived.items i.colour i.sent i.got i.red_minimum i.floor in
    subst (λ (v : HeldWorker _ _ _). IfErr c.execute_next.result (IsNextRefusal handlers v)) c.self.view_is
    (IfErr-weaker c.execute_next.result _ _ (λ fault why. next-refused handlers share i.pool c.fits.ensures.known c.fits.ensures.inside fault why) c.execute_next.ensures.refused)

pub returns-clause-kept : goal.returns-clause-kept
returns-clause-kept g c part s =
    let i = c.self.inside in
    let handlers = g.M.Model.handlers c.args.model.now in
    let share = λ (p : HeldPool _ _ _). share_of p i.arrived.items i.colour i.sent i.got i.red_minimum i.floor in
    IfErr-weaker c.execute_next.result _ _ (λ fault same. ap (λ (p : HeldPool _ _ _). seen (share p)) same ∙ c.self.view_is)
    (c.execute_next.ensures.unchanged (share i.pool) part (stands_along c.self.view_is handlers part s))
