-- What a worker stands for after it changed: the part with the same change.
use Rattle.std.proofs.Common.{◌≡◌, ◌∙◌, ℕ, not, List, length, map, refl, sym, ap, subst}
use Rattle.std.specs.List.{filter}
use Rattle.vt_key.specs.promise.Letters.{other_colour}
use Rattle.vt_key.specs.promise.Times.{Time, earlier}
use Rattle.vt_key.specs.declared.letter.Letter.{Letter}
use Rattle.vt_key.specs.declared.letter.Mail.{Mail}
use Rattle.vt_key.specs.declared.letter.Colour.{Colour}
use Rattle.vt_key.specs.declared.letter.Colour.TheVariants.{White, Red}
use Rattle.vt_model.specs.promise.Handler.{Handlers}
use Rattle.vt_model.specs.promise.Simulation.{simulation_of}
use Rattle.vt_model.specs.promise.Settings.{end_of}
use Rattle.vt_steps.specs.promise.Letters.{Counts, raised, count_colour, least_time}
use Rattle.vt_steps.specs.promise.World.{Part}
use Rattle.vt_steps.specs.promise.PartSteps.{part_after_cut, part_after_fetch, part_after_send, mail_of_send, is_for}
use Rattle.vt_kernel.specs.inside.Held.{HeldWorker, StandsFor}
use Rattle.vt_kernel.specs.inside.Guards.{mailed}

module _ {S P K : Type 0} where
  -- a worker as it is seen, and the value that it was
  pub stands_along : {held now : HeldWorker S P K} → held ≡ now → (handlers : Handlers S P K) (part : Part P) → StandsFor handlers now part → StandsFor handlers held part
  stands_along e handlers part s = subst (λ (v : HeldWorker S P K). StandsFor handlers v part) (sym e) s

  pub stands-cut : {held now : HeldWorker S P K} → held ≡ now → (handlers : Handlers S P K) (announced : Time) (part : Part P) → StandsFor handlers now part →
      (colour : Colour) → colour ≡ other_colour held.colour → (red : Time) → red ≡ end_of held.config →
      StandsFor handlers (record held { colour = colour; red_minimum = red; floor = announced }) (part_after_cut (end_of now.config) announced part)
  unfolding part_after_cut
  stands-cut {held} e handlers announced part s colour other red lowest =
      let h : StandsFor handlers held part = stands_along e handlers part s in
      record {
        processes = h.processes;
        outbox = h.outbox;
        arrived = h.arrived;
        colour = ap other_colour h.colour ∙ sym other;
        sent = h.sent;
        got = h.got;
        red_minimum = ap (λ (v : HeldWorker S P K). end_of v.config) (sym e) ∙ sym lowest;
        floor = refl;
        serial = h.serial;
      }

  pub stands-fetch : {held now : HeldWorker S P K} → held ≡ now → (handlers : Handlers S P K) (mails : List (Mail P)) (got : Counts) (part : Part P) → StandsFor handlers now part →
      got ≡ raised (raised held.got White (count_colour White mails)) Red (count_colour Red mails) →
      StandsFor handlers (record held { arrived = mails; got = got }) (part_after_fetch mails part)
  unfolding part_after_fetch
  stands-fetch {held} e handlers mails got part s more =
      let h : StandsFor handlers held part = stands_along e handlers part s in
      record {
        processes = h.processes;
        outbox = h.outbox;
        arrived = refl;
        colour = h.colour;
        sent = h.sent;
        got = ap (λ (c : Counts). raised (raised c White (count_colour White mails)) Red (count_colour Red mails)) h.got ∙ sym more;
        red_minimum = h.red_minimum;
        floor = h.floor;
        serial = h.serial;
      }

  pub stands-send : {held now : HeldWorker S P K} → held ≡ now → (handlers : Handlers S P K) (v : ℕ) (part : Part P) → StandsFor handlers now part →
      (outbox : List (Letter P)) → outbox ≡ filter (λ (l : Letter P). not (is_for held.config.workers v l)) held.outbox →
      (sent : Counts) → sent ≡ raised held.sent held.colour (length (filter (is_for held.config.workers v) held.outbox)) →
      (red : Time) → red ≡ earlier held.red_minimum (least_time (end_of held.config) (filter (is_for held.config.workers v) held.outbox)) →
      StandsFor handlers (record held { outbox = outbox; sent = sent; red_minimum = red }) (part_after_send (simulation_of handlers now.config) v part)
  unfolding part_after_send
  stands-send {held} e handlers v part s outbox left sent counted red least =
      let h : StandsFor handlers held part = stands_along e handlers part s in
      let others : List (Letter P) → List (Letter P) = filter (λ (l : Letter P). not (is_for held.config.workers v l)) in
      let theirs : List (Letter P) → List (Letter P) = filter (is_for held.config.workers v) in
      subst (λ (u : HeldWorker S P K). StandsFor handlers (record held { outbox = outbox; sent = sent; red_minimum = red }) (part_after_send (simulation_of handlers u.config) v part)) e
      (record {
        processes = h.processes;
        outbox = ap others h.outbox ∙ sym left;
        arrived = h.arrived;
        colour = h.colour;
        sent = (λ j. raised (h.sent j) (h.colour j) (length (theirs (h.outbox j)))) ∙ sym counted;
        got = h.got;
        red_minimum = (λ j. earlier (h.red_minimum j) (least_time (end_of held.config) (theirs (h.outbox j)))) ∙ sym least;
        floor = h.floor;
        serial = h.serial;
      })

  -- the mail that a worker sends, by its part
  pub mail-sent : {held now : HeldWorker S P K} → held ≡ now → (handlers : Handlers S P K) (v : ℕ) (part : Part P) → StandsFor handlers now part →
      map (mailed held.colour) (filter (is_for held.config.workers v) held.outbox) ≡ mail_of_send (simulation_of handlers now.config) v part
  unfolding mail_of_send
  mail-sent {held} e handlers v part s =
      let h : StandsFor handlers held part = stands_along e handlers part s in
      subst (λ (u : HeldWorker S P K). map (mailed held.colour) (filter (is_for held.config.workers v) held.outbox) ≡ mail_of_send (simulation_of handlers u.config) v part) e
      (λ j. map (mailed (sym h.colour j)) (filter (is_for held.config.workers v) (sym h.outbox j)))
