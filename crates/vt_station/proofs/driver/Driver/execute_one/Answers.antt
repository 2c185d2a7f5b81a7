use Rattle.std.proofs.Common.{◌≡◌, inl, inr, refl, sym, ap, subst}
use Rattle.std.proofs.lemmas.Result.{IfErr-weaker}
use Rattle.vt_kernel.specs.inside.Held.{HeldWorker}
use Rattle.vt_pool.specs.inside.Steps.{LeadsTo}
use Rattle.vt_places.specs.inside.AtWork.{AtWork, IsAtSameStation}
use Rattle.vt_places.proofs.WorkLemmas.{led-at-work}
use Rattle.vt_station.proofs.driver.Driver.execute_one.Goals as goal

pub execute_next-requires-send-M-Payload : goal.execute_next-requires-send-M-Payload
execute_next-requires-send-M-Payload g c = λ _ _. c.type_bounds.send-M-Payload

pub invariant_of-self-2 : goal.invariant_of-self-2
invariant_of-self-2 g c =
    led-at-work c.self.invariant
    (subst (λ (k : HeldWorker _ _ _). LeadsTo (g.M.Model.handlers c.self.inside.model.now) k c.execute_next.new.self) c.next_time.ensures.same c.execute_next.ensures.leads)
