use Rattle.std.proofs.Common.{◌≡◌, ◌++◌, ◌∙◌, Some, None, slice_get, sym, subst}
use Rattle.vt_key.specs.declared.letter.Sign.TheVariants.{Plus, Minus}
use Rattle.vt_model.specs.promise.Settings.{end_of}
use Rattle.vt_steps.specs.promise.Letters.{least_time}
use Rattle.vt_lp.specs.inside.Held.{HeldProcess}
use Rattle.vt_lp.specs.inside.Guards.{lesser_rank}
use Rattle.vt_lp.proofs.LeastLemmas.{lesser-time, lesser-none}
use Rattle.vt_lp.proofs.lp.Lp.least.Given.{Over}
use Rattle.vt_lp.proofs.lp.Lp.least.Goals.{After-lesser}
use Rattle.vt_lp.proofs.lp.Lp.least.Goals as goal

-- the lesser of the ranks of both first letters
lesser-is : (g : Over) (c : After-lesser g) → c.lesser.result ≡ lesser_rank (slice_get c.self.inside.pending 0) (slice_get c.self.inside.waiting 0)
lesser-is g c = c.lesser.ensures ∙ (λ j. lesser_rank (c.least.ensures.letter j) (c.least-2.ensures.letter j))

pub returns-in-Some : goal.returns-in-Some
returns-in-Some g c =
    let inside = c.self.inside in
    let rank = c.in-Some.rank in
    let is = sym c.in-Some.is ∙ lesser-is g (goal.at.returns-in-Some g c).After-lesser in
    c.when.ensures
    ∙ subst (λ (v : HeldProcess _ _ _). rank.key.time ≡ least_time (end_of v.config) (v.pending ++ v.waiting)) c.self.view_is
    (lesser-time inside.lp (end_of inside.config) Minus Plus inside.pending inside.waiting (Some rank) is c.least.ensures.rising c.least-2.ensures.rising c.self.invariant.own_pending
    c.self.invariant.own_waiting)

pub returns-in-None : goal.returns-in-None
returns-in-None g c =
    let inside = c.self.inside in
    let none = lesser-none inside.pending inside.waiting None (sym c.in-None.is ∙ lesser-is g (goal.at.returns-in-None g c).After-lesser) in
    subst (λ (v : HeldProcess _ _ _). c.end.result ≡ least_time (end_of v.config) (v.pending ++ v.waiting)) c.self.view_is
    (c.end.ensures ∙ (λ j. least_time (end_of inside.config) (sym none.0 j ++ sym none.1 j)))
