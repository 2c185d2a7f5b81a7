use Rattle.std.proofs.Common.{arith}
use Rattle.vt_pool.proofs.ExecutionLemmas.{nodes-logged}
use Rattle.vt_pool.proofs.LeavingLemmas.{pool-nodes}
use Rattle.vt_pool.proofs.pool.Pool.parcels_of.Goals as goal

pub letters_of-requires : goal.letters_of-requires
letters_of-requires g c =
    let i = c.self.inside in
    let enough = c.self.invariant.0.enough in
    let count = nodes-logged i.worker i.log.events in
    let needs = c.needs.ensures in
    record { there = omega (arith, enough, count, needs) }

pub invariant_of-self : goal.invariant_of-self
invariant_of-self g c =
    let i = c.self.inside in
    let count = nodes-logged i.worker i.log.events in
    let needs = c.needs.ensures in
    let stay = c.letters_of.ensures.stay in
    (pool-nodes c.letters_of.new.self (omega (arith, count, needs, stay)) c.self.invariant.0, c.self.invariant.1, c.self.invariant.2)
