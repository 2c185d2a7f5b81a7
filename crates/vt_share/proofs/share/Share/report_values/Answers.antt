use Rattle.std.proofs.Common.{◌≡◌, ◌∙◌, ap}
use Rattle.vt_key.specs.promise.Letters.{other_colour}
use Rattle.vt_key.specs.promise.Times.{earlier}
use Rattle.vt_model.specs.promise.Settings.{end_of}
use Rattle.vt_steps.specs.promise.Letters.{least_time, count_of}
use Rattle.vt_kernel.specs.inside.Held.{HeldWorker}
use Rattle.vt_kernel.specs.inside.Guards.{held_letters}
use Rattle.vt_kernel.proofs.ReportLemmas.{same-report}
use Rattle.vt_share.proofs.share.Share.report_values.Given.{Over}
use Rattle.vt_share.proofs.share.Share.report_values.Goals.{After-earlier-least}
use Rattle.vt_share.proofs.share.Share.report_values.Goals as goal

sent-is : (g : Over) (c : After-earlier-least g) → c.of-sent.result ≡ count_of c.args.self.now.sent (other_colour c.args.self.now.colour)
sent-is g c =
    c.of-sent.ensures ∙ ap (count_of c.self.inside.sent) c.other-left.ensures ∙ ap (λ (v : HeldWorker _ _ _). count_of v.sent (other_colour v.colour)) c.self.view_is

got-is : (g : Over) (c : After-earlier-least g) → c.of-got.result ≡ count_of c.args.self.now.got (other_colour c.args.self.now.colour)
got-is g c =
    c.of-got.ensures ∙ ap (count_of c.self.inside.got) c.other-left.ensures ∙ ap (λ (v : HeldWorker _ _ _). count_of v.got (other_colour v.colour)) c.self.view_is

least-is : (g : Over) (c : After-earlier-least g)
    → c.earlier-least.result ≡ earlier c.args.self.now.red_minimum (least_time (end_of c.args.self.now.config) (held_letters c.args.self.now))
least-is g c = c.earlier-least.ensures ∙ (λ j. earlier (ap (λ (v : HeldWorker _ _ _). v.red_minimum) c.self.view_is j) (c.least.ensures.least j))

pub returns-clause-sent : goal.returns-clause-sent
returns-clause-sent g c = sent-is g (goal.at.returns-clause-sent g c).After-earlier-least

pub returns-clause-got : goal.returns-clause-got
returns-clause-got g c = got-is g (goal.at.returns-clause-got g c).After-earlier-least

pub returns-clause-least : goal.returns-clause-least
returns-clause-least g c = least-is g (goal.at.returns-clause-least g c).After-earlier-least

pub returns-clause-reports : goal.returns-clause-reports
returns-clause-reports g c handlers part s =
    let at = (goal.at.returns-clause-reports g c).After-earlier-least in
    let same = same-report handlers c.args.self.now part s in
    (sent-is g at ∙ same.0, got-is g at ∙ same.1, least-is g at ∙ same.2)
