use Rattle.std.proofs.Common.{arith, ◌≡◌, ◌+◌, [], ◌∷◌, ℕ, List, length, length-append, sym, ap, subst, ◌∙◌}
use Rattle.vt_key.proofs.ResultLemmas.{if_refused}
use Rattle.vt_model.specs.promise.Simulation.{simulation_of}
use Rattle.vt_places.specs.declared.place.Place.{Place}
use Rattle.vt_places.specs.inside.Kept.{Sat}
use Rattle.vt_places.specs.inside.Making.{IsMaker, Opens, IsNew, AreNew}
use Rattle.vt_places.proofs.Opening.{maker-same, new-more}
use Rattle.vt_places.proofs.station.Station.seat_all.Goals as goal

pub place_of-requires-clause-own : goal.place_of-requires-clause-own
place_of-requires-clause-own g c =
    let key = c.args.self.now.table.shared.key in
    let sim = simulation_of (g.M.Model.handlers key.model.value) key.config in
    let q = c.seat_next-seat.ensures.made in
    q.3.worker ∙ maker-same sim q.0 c.loop-worker.worker c.loop-worker.maker.me q.1 c.loop-worker.invariant.maker

pub loop-worker-preserved : goal.loop-worker-preserved
loop-worker-preserved g c =
    let key = c.args.self.now.table.shared.key in
    let sim = simulation_of (g.M.Model.handlers key.model.value) key.config in
    let table = c.args.self.now.table.shared.table_id in
    let i = c.loop-worker.invariant in
    let w = c.loop-worker.worker in
    let q = c.seat_next-seat.ensures.made in
    let at : q.0 ≡ w = maker-same sim q.0 w c.loop-worker.maker.me q.1 i.maker in
    let new : IsMaker sim (w + 1) c.seat_next-seat.new.maker.me = subst (λ (k : ℕ). IsMaker sim (k + 1) c.seat_next-seat.new.maker.me) at q.2 in
    let opens : Opens sim w c.place_of.result.seat.me = subst (λ (m : Sat _). Opens sim w m) (ap (λ s. s.me) (sym c.place_of.ensures.seat)) (subst (λ (k : ℕ). Opens sim k c.seat_next-seat.result.me) at q.3) in
    let items = c.in_ok-push.ensures.items in
    let long = i.count in
    let one : IsNew sim table w c.place_of.result = record { table_is = ap (λ s. s.table_id) c.place_of.ensures.seat ∙ c.seat_next-seat.ensures.table.1 ∙ i.table; worker = c.place_of.ensures.worker; opens = opens } in
    record {
      table = c.seat_next-seat.ensures.table.0 ∙ i.table;
      maker = new;
      count = omega (arith, ap length items, length-append c.loop-worker.places.items (c.place_of.result ∷ []));
      new = subst (λ (l : List (Place _)). AreNew sim table 1 l) (sym items)
          (new-more sim table 1 c.loop-worker.places.items c.place_of.result i.new (subst (λ (k : ℕ). IsNew sim table k c.place_of.result) (let z : w ≡ 1 + length c.loop-worker.places.items = omega arith in z) one));
    }

pub returns-in_err-push : goal.returns-in_err-push
returns-in_err-push g c = record { places = if_refused _ _ c.from_residual.result c.from_residual.ensures.1 }
