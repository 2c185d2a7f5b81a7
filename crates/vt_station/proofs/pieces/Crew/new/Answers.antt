use Rattle.std.proofs.Common.{arith}
use Rattle.vt_station.proofs.CrewLemmas.{unbegun-stands}
use Rattle.vt_station.proofs.pieces.Crew.new.Goals as goal

pub invariant_of-result : goal.invariant_of-result
invariant_of-result g c =
    let made = c.in_ok-jobs in
    let some = c.args.config.some_worker in
    record {
      told = made.ensures.told.0;
      some = omega (arith, some, made.ensures.told.1);
      order = made.ensures.order;
      stands = unbegun-stands made.jobs.items made.ensures.begins;
    }
