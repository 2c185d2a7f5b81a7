use Rattle.std.proofs.Common.{◌≡◌, ◌∙◌, false, find, arith, sym, ap, subst, Some}
use Rattle.std.proofs.lemmas.Option.{same_Some}
use Rattle.vt_key.specs.promise.Queues.{letter_rank}
use Rattle.vt_key.specs.declared.letter.Letter.{Letter}
use Rattle.vt_model.specs.promise.Settings.{end_of}
use Rattle.vt_steps.specs.promise.PartSteps.{is_for}
use Rattle.vt_lp.specs.inside.Held.{IsWithinRun}
use Rattle.vt_pool.specs.inside.Share.{HeldPool, PoolLeadsTo}
use Rattle.vt_pool.specs.inside.Pool.{MayCome, holds_stamp, with_letter}
use Rattle.vt_pool.proofs.ForceLemmas.{pool-nothing, pool-both}
use Rattle.vt_pool.proofs.HomeLemmas.{home-may-come, home-weight, home-pool-leads}
use Rattle.vt_pool.proofs.pool.Pool.home.Given.{Over}
use Rattle.vt_pool.proofs.pool.Pool.home.Goals.{After-take_home}
use Rattle.vt_pool.proofs.pool.Pool.home.Goals as goal

pub returns-in_default-clause-leads : goal.returns-in_default-clause-leads
returns-in_default-clause-leads g c = pool-nothing (g.M.Model.handlers c.args.model.now) c.args.self.now

pub returns-then-is_held-clause-leads : goal.returns-then-is_held-clause-leads
returns-then-is_held-clause-leads g c =
    let handlers = g.M.Model.handlers c.args.model.now in
    subst (PoolLeadsTo handlers c.args.self.now) (sym c.is_held.ensures.same) (pool-nothing handlers c.args.self.now)

-- the letter that was looked at
found : (g : Over) (c : After-take_home g) → find (is_for c.args.self.now.config.workers c.args.self.now.worker) c.args.self.now.outbox ≡ Some c.in-Some.first.now
found g c = sym c.in-Some.ensures

-- it isn't held
not-held : (g : Over) (c : After-take_home g) → holds_stamp c.in-Some.first.now.sign (letter_rank c.in-Some.first.now).stamp c.args.self.now.stock ≡ false
not-held g c = sym c.is_held.ensures.held ∙ c.if-is_held.false

-- it is before the end
ends : (g : Over) (c : After-take_home g) → find (is_for c.args.self.now.config.workers c.args.self.now.worker) c.args.self.now.outbox ≡ find (is_for c.is_held.new.self.config.workers c.is_held.new.self.worker) c.is_held.new.self.outbox
ends g c = λ j. let v : HeldPool _ _ _ = sym c.is_held.ensures.same j in find (is_for v.config.workers v.worker) v.outbox

pub receive-requires-clause-may : goal.receive-requires-clause-may
receive-requires-clause-may g c κs within =
    let at = (goal.at.receive-requires-clause-may g c).After-take_home in
    let same = same_Some c.in-Some.first.now c.in-Some-take_home.node (sym (c.in-Some-take_home.ensures.letter ∙ sym (ends g at) ∙ found g at)) in
    let soon : IsWithinRun c.args.self.now.config.lps (end_of c.args.self.now.config) c.in-Some.first.now =
    subst (λ (v : HeldPool _ _ _). IsWithinRun v.config.lps (end_of v.config) c.in-Some.first.now) c.is_held.ensures.same
    (subst (λ (l : Letter _). IsWithinRun c.is_held.new.self.config.lps (end_of c.is_held.new.self.config) l) (sym same) c.in-Some-take_home.ensures.within) in
    subst (MayCome c.take_home.new.self) same
    (home-may-come c.args.self.now c.is_held.new.self c.take_home.new.self c.in-Some.first.now c.is_held.ensures.same c.take_home.ensures.left (found g at) soon (not-held g at) c.is_held.ensures.heard)

pub returns-clause-leads : goal.returns-clause-leads
returns-clause-leads g c =
    let at = (goal.at.returns-clause-leads g c).After-take_home in
    let handlers = g.M.Model.handlers c.args.model.now in
    let same = same_Some c.in-Some.first.now c.in-Some-take_home.node (sym (c.in-Some-take_home.ensures.letter ∙ sym (ends g at) ∙ found g at)) in
    let soon : IsWithinRun c.args.self.now.config.lps (end_of c.args.self.now.config) c.in-Some.first.now =
    subst (λ (v : HeldPool _ _ _). IsWithinRun v.config.lps (end_of v.config) c.in-Some.first.now) c.is_held.ensures.same
    (subst (λ (l : Letter _). IsWithinRun c.is_held.new.self.config.lps (end_of c.is_held.new.self.config) l) (sym same) c.in-Some-take_home.ensures.within) in
    let first = home-pool-leads c.args.self.now c.is_held.new.self c.take_home.new.self c.in-Some.first.now c.is_held.ensures.same c.take_home.ensures.left (found g at) soon (not-held g at) handlers c.fits.ensures.known c.fits.ensures.inside in
    pool-both handlers c.args.self.now (with_letter c.in-Some-take_home.node c.take_home.new.self) c.receive.new.self
    (subst (λ (l : Letter _). PoolLeadsTo handlers c.args.self.now (with_letter l c.take_home.new.self)) same first) c.receive.ensures.leads

pub returns-clause-work : goal.returns-clause-work
returns-clause-work g c _ =
    let at = (goal.at.returns-clause-work g c).After-take_home in
    let same = same_Some c.in-Some.first.now c.in-Some-take_home.node (sym (c.in-Some-take_home.ensures.letter ∙ sym (ends g at) ∙ found g at)) in
    let soon : IsWithinRun c.args.self.now.config.lps (end_of c.args.self.now.config) c.in-Some.first.now =
    subst (λ (v : HeldPool _ _ _). IsWithinRun v.config.lps (end_of v.config) c.in-Some.first.now) c.is_held.ensures.same
    (subst (λ (l : Letter _). IsWithinRun c.is_held.new.self.config.lps (end_of c.is_held.new.self.config) l) (sym same) c.in-Some-take_home.ensures.within) in
    let less = home-weight c.args.self.now c.is_held.new.self c.take_home.new.self c.in-Some.first.now c.is_held.ensures.same c.take_home.ensures.left (found g at) soon (not-held g at) in
    let most = c.receive.ensures.work in
    omega (arith, less, most)

pub returns-clause-settled : goal.returns-clause-settled
returns-clause-settled g c = c.receive.ensures.settled

pub returns-clause-same : goal.returns-clause-same
returns-clause-same g c = (
  c.receive.ensures.same.0 ∙ ap (λ (v : HeldPool _ _ _). v.worker) c.take_home.ensures.left ∙ ap (λ (v : HeldPool _ _ _). v.worker) c.is_held.ensures.same,
  c.receive.ensures.same.1 ∙ ap (λ (v : HeldPool _ _ _). v.config) c.take_home.ensures.left ∙ ap (λ (v : HeldPool _ _ _). v.config) c.is_held.ensures.same,
)
