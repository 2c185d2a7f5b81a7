use Rattle.std.proofs.Common.{◌≡◌, drop}
use Rattle.vt_station.specs.inside.Crew.{first_fault}
use Rattle.vt_station.proofs.crew.fault_of.Given as goal

abbrev pub invariant-loop-job : goal.invariant-loop-job
invariant-loop-job g l = first_fault (drop l.job-index l.jobs) ≡ first_fault l.jobs
