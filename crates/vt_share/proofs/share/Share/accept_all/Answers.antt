use Rattle.std.proofs.Common.{◌≡◌, ◌∙◌, ◌⊎◌, List, [], inl, inr, true, IfSome, slice_get, map, drop, refl, sym, ap, subst, rules}
use Rattle.std.proofs.lemmas.List.Elements.{All-drop}
use Rattle.vt_key.specs.promise.Queues.{letter_rank}
use Rattle.vt_key.specs.declared.fault.Fault.{Fault}
use Rattle.vt_key.specs.declared.fault.Fault.TheVariants.{Memory, NotLawful}
use Rattle.vt_key.specs.declared.letter.Mail.{Mail}
use Rattle.vt_key.proofs.ResultLemmas.{if_err}
use Rattle.vt_kernel.specs.inside.Held.{HeldWorker, AllOwnMail, IsOwnMail}
use Rattle.vt_pool.specs.inside.Inside.{AreSettled}
use Rattle.vt_pool.specs.inside.Pool.{holds_stamp}
use Rattle.vt_pool.specs.inside.Share.{HeldPool, seen}
use Rattle.vt_pool.specs.inside.Steps.{LeadsTo}
use Rattle.vt_pool.proofs.LeadLemmas.{leads-nothing}
use Rattle.vt_share.specs.inside.Calls.{IsHeldMail}
use Rattle.vt_share.specs.inside.Held.{share_of, IsShareInside}
use Rattle.vt_share.proofs.AcceptLemmas.{accepted-leads, left-held}
use Rattle.vt_share.proofs.share.Share.accept_all.Goals as goal

pub accept_new-accepted-requires-clause-letters : goal.accept_new-accepted-requires-clause-letters
accept_new-accepted-requires-clause-letters g c κs within =
    c.in_ok-letters.ensures.letters ∙ ap (map (λ (m : Mail _). m.letter)) (c.as_slice.ensures.value ∙ sym c.as_slice-2.ensures.value)

pub accept_new-accepted-requires-clause-own : goal.accept_new-accepted-requires-clause-own
accept_new-accepted-requires-clause-own g c κs within =
    subst (λ (p : HeldPool _ _ _). AllOwnMail p.config p.worker c.as_slice-2.result.now) (sym c.parcels_of.ensures.same)
    (subst (AllOwnMail c.self.inside.pool.config c.self.inside.pool.worker) (sym c.as_slice-2.ensures.value) c.self.invariant.own_mail)

pub accept_new-accepted-requires-clause-settled : goal.accept_new-accepted-requires-clause-settled
accept_new-accepted-requires-clause-settled g c κs within =
    subst (λ (p : HeldPool _ _ _). AreSettled p.stock) (sym c.parcels_of.ensures.same) c.self.invariant.settled

pub invariant_of-self : goal.invariant_of-self
invariant_of-self g c =
    let i = c.self.inside in
    subst (λ (p : HeldPool _ _ _). IsShareInside p.config p.worker p.stock i.arrived.items i.sent i.got) (sym c.parcels_of.ensures.same) c.self.invariant

pub invariant_of-self-2 : goal.invariant_of-self-2
invariant_of-self-2 g c =
    let i = c.self.inside in
    let done = c.accept_new-accepted in
    let worker = done.ensures.same.0 ∙ ap (λ (p : HeldPool _ _ _). p.worker) c.parcels_of.ensures.same in
    let config = done.ensures.same.1 ∙ ap (λ (p : HeldPool _ _ _). p.config) c.parcels_of.ensures.same in
    let left = subst (AllOwnMail i.pool.config i.pool.worker) (sym c.drop_first.ensures) (All-drop (IsOwnMail i.pool.config i.pool.worker) done.result i.arrived.items c.self.invariant.own_mail) in
    subst (λ (p : HeldPool _ _ _). IsShareInside p.config p.worker p.stock c.drop_first.new.mail.items i.sent i.got) (sym c.keep_all.ensures.same) (record {
      settled = done.ensures.settled;
      own_mail = subst (λ w. AllOwnMail done.new.pool.config w c.drop_first.new.mail.items) (sym worker) (subst (λ f. AllOwnMail f i.pool.worker c.drop_first.new.mail.items) (sym config) left);
      few_sent = c.self.invariant.few_sent;
      few_got = c.self.invariant.few_got;
    })

pub returns-in_err-letters-clause-leads : goal.returns-in_err-letters-clause-leads
returns-in_err-letters-clause-leads g c =
    let i = c.self.inside in
    let handlers = g.M.Model.handlers c.args.model.now in
    let same = ap (λ (p : HeldPool _ _ _). seen (share_of p i.arrived.items i.colour i.sent i.got i.red_minimum i.floor)) c.parcels_of.ensures.same ∙ c.self.view_is in
    subst (LeadsTo handlers c.args.self.now) (sym same) (leads-nothing handlers c.args.self.now)

pub returns-in_err-letters-clause-refused : goal.returns-in_err-letters-clause-refused
returns-in_err-letters-clause-refused g c =
    let i = c.self.inside in
    let view = λ (p : HeldPool _ _ _). seen (share_of p i.arrived.items i.colour i.sent i.got i.red_minimum i.floor) in
    let same = ap view c.parcels_of.ensures.same ∙ c.self.view_is in
    let new = view c.parcels_of.new.self in
    if_err (λ (fault : Fault). ((fault ≡ Memory) × (new ≡ c.args.self.now)) ⊎ ((fault ≡ NotLawful) × IsHeldMail c.args.self.now new))
    c.from_residual.result c.in_err-letters.field-0.0 (search rules) (inl (c.in_err-letters.ensures.refused, same))

pub returns-then-is_empty-clause-leads : goal.returns-then-is_empty-clause-leads
returns-then-is_empty-clause-leads g c =
    let i = c.self.inside in
    let handlers = g.M.Model.handlers c.args.model.now in
    let done = c.accept_new-accepted in
    let share = λ (p : HeldPool _ _ _) (ms : List (Mail _)). share_of p ms i.colour i.sent i.got i.red_minimum i.floor in
    subst (λ (v : HeldWorker _ _ _). LeadsTo handlers v (seen (share c.keep_all.new.self c.drop_first.new.mail.items))) c.self.view_is
    (accepted-leads handlers (share i.pool i.arrived.items) i.pool c.parcels_of.new.self done.new.pool c.keep_all.new.self c.as_slice-2.result.now i.arrived.items c.drop_first.new.mail.items done.result
    c.parcels_of.ensures.same c.keep_all.ensures.same c.as_slice-2.ensures.value c.drop_first.ensures done.ensures.leads)

pub returns-clause-leads : goal.returns-clause-leads
returns-clause-leads g c =
    let i = c.self.inside in
    let handlers = g.M.Model.handlers c.args.model.now in
    let done = c.accept_new-accepted in
    let share = λ (p : HeldPool _ _ _) (ms : List (Mail _)). share_of p ms i.colour i.sent i.got i.red_minimum i.floor in
    subst (λ (v : HeldWorker _ _ _). LeadsTo handlers v (seen (share c.keep_all.new.self c.drop_first.new.mail.items))) c.self.view_is
    (accepted-leads handlers (share i.pool i.arrived.items) i.pool c.parcels_of.new.self done.new.pool c.keep_all.new.self c.as_slice-2.result.now i.arrived.items c.drop_first.new.mail.items done.result
    c.parcels_of.ensures.same c.keep_all.ensures.same c.as_slice-2.ensures.value c.drop_first.ensures done.ensures.leads)

pub returns-clause-refused : goal.returns-clause-refused
returns-clause-refused g c =
    let i = c.self.inside in
    let done = c.accept_new-accepted in
    let now = c.args.self.now in
    let share = share_of i.pool i.arrived.items i.colour i.sent i.got i.red_minimum i.floor in
    let arrived : now.arrived ≡ i.arrived.items = ap (λ (v : HeldWorker _ _ _). v.arrived) (sym c.self.view_is) in
    let held = subst (λ (ms : List (Mail _)). IfSome (slice_get ms done.result) (λ mail. holds_stamp mail.letter.sign (letter_rank mail.letter).stamp done.new.pool.stock ≡ true)) c.as_slice-2.ensures.value done.ensures.held in
    let still = subst (λ (p : HeldPool _ _ _). IfSome (slice_get i.arrived.items done.result) (λ mail. holds_stamp mail.letter.sign (letter_rank mail.letter).stamp p.stock ≡ true)) (sym c.keep_all.ensures.same) held in
    let some : drop done.result i.arrived.items ≡ [] → ⊥ = search rules in
    let is = left-held now share c.keep_all.new.self i.arrived.items done.result c.fits.ensures.known c.fits.ensures.inside arrived still some in
    inr (refl, subst (λ (ms : List (Mail _)). IsHeldMail now (seen (share_of c.keep_all.new.self ms i.colour i.sent i.got i.red_minimum i.floor))) (sym c.drop_first.ensures) is)
