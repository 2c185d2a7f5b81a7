use Rattle.vt_cells.proofs.MailSteps.{send-step}
use Rattle.vt_cells.proofs.mailing.send.Goals as goal

pub returns-clause-step : goal.returns-clause-step
returns-clause-step g c H =
    let sent = c.letters_for.ensures in
    send-step H c.args.kernel.now c.letters_for.new.self c.args.v c.args.inbox.now.items c.letters_for.new.mail.items c.letters_for.result sent.sent (sent.done H) (sent.counted H) (sent.refused H) sent.kept
