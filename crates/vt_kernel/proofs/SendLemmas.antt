-- When mail may be sent, and how it is counted.
use Rattle.std.proofs.Common.{◌≡◌, ◌∙◌, ℕ, ◌+◌, ◌<◌, ◌≤◌, ◌⊎◌, Bool, true, false, not, nat_eq, cond, ◌||◌, ◌&&◌, List, [], ◌∷◌, length, map, refl, sym, ap, inl, inr, arith}
use Rattle.std.proofs.lemmas.Bool.Decides.{nat_tests}
use Rattle.std.proofs.lemmas.List.Elements.{All-filter, All-map, filter_passes}
use Rattle.std.specs.List.{filter, list_any}
use Rattle.vt_key.specs.declared.fault.Fault.{Fault}
use Rattle.vt_key.specs.declared.fault.Fault.TheVariants.{Memory, NotLawful, Exhausted}
use Rattle.vt_key.specs.declared.letter.Letter.{Letter}
use Rattle.vt_key.specs.declared.letter.Colour.{Colour}
use Rattle.vt_key.specs.declared.letter.Colour.TheVariants.{White, Red}
use Rattle.vt_key.specs.declared.limits.TheConstants.{MAX_COUNT}
use Rattle.vt_model.specs.promise.Handler.{Handlers}
use Rattle.vt_model.specs.promise.Simulation.{Simulation, simulation_of}
use Rattle.vt_model.specs.declared.settings.Config.{Config}
use Rattle.vt_model.specs.promise.Settings.{end_of}
use Rattle.vt_steps.specs.promise.Letters.{Counts, count_of, raised}
use Rattle.vt_steps.specs.promise.World.{Part}
use Rattle.vt_steps.specs.promise.PartSteps.{is_for, letters_for, part_after_send}
use Rattle.vt_steps.specs.promise.CellSteps.{may_send}
use Rattle.vt_lp.specs.inside.Held.{AllWithinRun, IsWithinRun}
use Rattle.vt_kernel.specs.inside.Held.{HeldWorker, StandsFor, AreCounted, AllOwnMail, IsOwnMail}
use Rattle.vt_kernel.specs.inside.Guards.{mailed, IsSendRefusal}

-- ---- counts

pub count_of-counted : (counts : Counts) (colour : Colour) → AreCounted counts → count_of counts colour ≤ MAX_COUNT
count_of-counted counts White h = h.white
count_of-counted counts Red h = h.red

pub counted-raised : (counts : Counts) (colour : Colour) (n : ℕ) → AreCounted counts → count_of counts colour + n ≤ MAX_COUNT → AreCounted (raised counts colour n)
counted-raised counts White n h few = record { white = few; red = h.red }
counted-raised counts Red n h few = record { white = h.white; red = few }

count-raised : (counts : Counts) (colour : Colour) (n : ℕ) → count_of (raised counts colour n) colour ≡ count_of counts colour + n
count-raised counts White n = refl
count-raised counts Red n = refl

-- how much of its colour a worker has sent after a send
pub sent-after : {S P : Type 0} (sim : Simulation S P) (v : ℕ) (part : Part P)
    → count_of (part_after_send sim v part).sent (part_after_send sim v part).colour ≡ count_of part.sent part.colour + length (letters_for sim v part)
unfolding part_after_send
sent-after sim v part = count-raised part.sent part.colour (length (letters_for sim v part))

-- ---- a test of some element, and how many pass it

module _ {X : Type 0} (test : X → Bool) where
  pub any_some : (xs : List X) → 0 < length (filter test xs) → list_any test xs ≡ true
  any_some [] few = absurd (omega arith)
  any_some (x ∷ xs) some =
      (elim (test x) as (λ (b : Bool). 0 < length (cond b (x ∷ filter test xs) (filter test xs)) → (b || list_any test xs) ≡ true) [
        | true ↦ λ _. refl
        | false ↦ λ more. any_some xs more
      ]) some

  pub any_none : (xs : List X) → length (filter test xs) ≡ 0 → list_any test xs ≡ false
  any_none [] none = refl
  any_none (x ∷ xs) none =
      (elim (test x) as (λ (b : Bool). length (cond b (x ∷ filter test xs) (filter test xs)) ≡ 0 → (b || list_any test xs) ≡ false) [
        | true ↦ λ no_length. absurd (omega arith)
        | false ↦ λ less. any_none xs less
      ]) none

-- ---- the guard

module _ {S P : Type 0} (sim : Simulation S P) (w v : ℕ) (part : Part P) where
  pub may_send-yes : nat_eq w v ≡ false → 0 < length (letters_for sim v part) → may_send sim.workers w v part.outbox ≡ true
  may_send-yes other some = (λ j. not (other j) && any_some (is_for sim.workers v) part.outbox some j)

  pub may_send-own : nat_eq w v ≡ true → may_send sim.workers w v part.outbox ≡ false
  may_send-own own = ap (λ (b : Bool). not b && list_any (is_for sim.workers v) part.outbox) own

  pub may_send-none : nat_eq w v ≡ false → length (letters_for sim v part) ≡ 0 → may_send sim.workers w v part.outbox ≡ false
  may_send-none other none = (λ j. not (other j) && any_none (is_for sim.workers v) part.outbox none j)

-- ---- the refusals

-- why there is no room for so many letters, of which so many may be sent
abbrev pub IsRoomRefusal : ℕ → ℕ → Fault → Type 0
IsRoomRefusal most count fault = ((fault ≡ NotLawful) × (count ≡ 0)) ⊎ ((0 < count) × (((fault ≡ Exhausted) × (most < count)) ⊎ ((fault ≡ Memory) × (count ≤ most))))

module _ {S P K : Type 0} where
  -- how many letters are to be sent, by a part that the worker stands for
  pub count_sent : {held now : HeldWorker S P K} → held ≡ now → (handlers : Handlers S P K) (v : ℕ) (part : Part P) → StandsFor handlers now part →
      length (filter (is_for held.config.workers v) held.outbox) ≡ length (letters_for (simulation_of handlers now.config) v part)
  count_sent {held} {now} e handlers v part s =
      ap (λ (u : HeldWorker S P K). length (filter (is_for u.config.workers v) u.outbox)) e ∙ ap (λ (ls : List (Letter P)). length (filter (is_for now.config.workers v) ls)) (sym s.outbox)

  pub refused-send : {held now : HeldWorker S P K} → held ≡ now → (handlers : Handlers S P K) (v : ℕ) (part : Part P) → StandsFor handlers now part →
      (fault : Fault) (most : ℕ) → most + count_of held.sent held.colour ≡ MAX_COUNT → nat_eq held.worker v ≡ false →
      IsRoomRefusal most (length (filter (is_for held.config.workers v) held.outbox)) fault →
      IsSendRefusal (simulation_of handlers now.config) now.worker v part fault
  refused-send {held} {now} e handlers v part s fault most room other why =
      let sim = simulation_of handlers now.config in
      let count = count_sent e handlers v part s in
      let after = sent-after sim v part in
      let sent : count_of held.sent held.colour ≡ count_of part.sent part.colour =
      ap (λ (u : HeldWorker S P K). count_of u.sent u.colour) e ∙ (λ j. count_of (sym s.sent j) (sym s.colour j)) in
      let else_worker : nat_eq now.worker v ≡ false = ap (λ (u : HeldWorker S P K). nat_eq u.worker v) (sym e) ∙ other in
      elim why [
        | inl none ↦ inl (none.0, may_send-none sim now.worker v part else_worker (sym count ∙ none.1))
        | inr some ↦
            let yes : 0 < length (letters_for sim v part) = omega (arith, count, some.0) in
            inr (
              may_send-yes sim now.worker v part else_worker yes,
              elim some.1 [
                | inl full ↦ inl (full.0, omega (arith, full.1, room, count, sent, after))
                | inr refused ↦ inr (refused.0, λ over. omega (arith, over, refused.1, room, count, sent, after))
              ],
            )
      ]

-- ---- the mail is for its worker

module _ {P : Type 0} (config : Config) (v : ℕ) (colour : Colour) where
  own_mail-one : (letter : Letter P) → IsWithinRun config.lps (end_of config) letter → is_for config.workers v letter ≡ true → IsOwnMail config v (mailed colour letter)
  own_mail-one letter within own = record { within = within; own = grind (arith, nat_tests) }

  pub own_mail-sent : (letters : List (Letter P)) → AllWithinRun config letters → AllOwnMail config v (map (mailed colour) (filter (is_for config.workers v) letters))
  own_mail-sent letters within =
      let chosen = filter (is_for config.workers v) letters in
      All-map (IsOwnMail config v) (mailed colour) chosen
      (λ k d inside. own_mail-one _ (All-filter (is_for config.workers v) (IsWithinRun config.lps (end_of config)) letters within k d inside) (filter_passes (is_for config.workers v) letters k d inside))
