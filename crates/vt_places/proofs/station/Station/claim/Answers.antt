use Rattle.std.proofs.Common.{◌≡◌, Bool, ap, eqb, eqb-true, refl, sym, ◌∙◌, arith, false, true, not}
use Rattle.vt_model.specs.promise.Simulation.{simulation_of}
use Rattle.vt_places.specs.inside.Slots.{claimed_word}
use Rattle.vt_places.proofs.Keeps.{claims}
use Rattle.vt_places.proofs.station.Station.claim.Goals as goal

pub swap-requires-clause-allowed : goal.swap-requires-clause-allowed
swap-requires-clause-allowed g c κs within near =
    let key = c.args.self.now.table.shared.key in
    claims (simulation_of (g.M.Model.handlers key.model.value) key.config) key.config c.args.self.now.table.shared.table_id.slots c.args.seat.now.id c.args.cell c.args.seat.now.me near c.requires.rests

pub returns-clause-claimed : goal.returns-clause-claimed
returns-clause-claimed g c = λ is. c.swap.ensures.told.2.0 (λ (e : c.swap.result ≡ claimed_word). (let k : false ≡ true = sym (ap (λ n. not (eqb n claimed_word)) e) ∙ is in absurd cc))

pub returns-clause-busy : goal.returns-clause-busy
returns-clause-busy g c = λ is.
    (let t = c.swap.ensures.told.2.1 (eqb-true _ _ (not-false (eqb c.swap.result claimed_word) is)) in
    (t.0, let counted = c.args.self.now.counted in let more = t.1 in omega arith))
  where
    not-false : (b : Bool) → not b ≡ false → b ≡ true
    not-false true e = refl
    not-false false e = absurd (let h : true ≡ false = e in cc)
