use Rattle.std.proofs.Common.{◌∙◌, ◌+◌, ◌++◌, [], ◌∷◌, List, length, ap, arith}
use Rattle.vt_model.specs.declared.sending.Sent.{Sent}
use Rattle.vt_pool.proofs.executing.write.Goals as goal

pub push-requires : goal.push-requires
push-requires g c =
    let sends = ap length c.sends.ensures in
    let records = ap length c.records.ensures in
    let few_sends = c.requires.few_sends in
    let few_records = c.requires.few_records in
    record { room = c.requires.room; known = c.requires.known; few_sends = omega (arith, sends, few_sends); few_records = omega (arith, records, few_records) }

pub returns-clause-events : goal.returns-clause-events
returns-clause-events g c =
    c.push.ensures.events ∙ (λ j. c.args.log.now.events ++ record { process = c.args.index; entry = c.args.entry; sends = c.sends.ensures j; records = c.records.ensures j } ∷ [])

pub returns-clause-processes : goal.returns-clause-processes
returns-clause-processes g c = c.push.ensures.processes

pub returns-clause-next : goal.returns-clause-next
returns-clause-next g c = ap (λ (xs : List (Sent _)). c.args.entry.serial + length xs) c.sends-2.ensures
