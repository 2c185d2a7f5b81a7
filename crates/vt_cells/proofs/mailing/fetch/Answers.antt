use Rattle.std.proofs.Common.{ap}
use Rattle.std.proofs.lemmas.Result.{IfErr-weaker}
use Rattle.vt_cells.proofs.MailSteps.{fetch-step}
use Rattle.vt_cells.proofs.mailing.fetch.Goals as goal

pub returns-clause-step : goal.returns-clause-step
returns-clause-step g c H =
    let got = c.fetch.ensures in
    fetch-step H c.args.kernel.now c.fetch.new.self c.args.inbox.now.items c.fetch.new.mail.items c.fetch.result got.taken got.emptied got.lawful (got.done H) got.refused
    (IfErr-weaker c.fetch.result _ _ (λ fault kept. (kept.0, ap (λ v. v.items) kept.1)) got.kept)
