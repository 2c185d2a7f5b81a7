-- All copies of a stamp carry one event: what the steps stamp has a stamp that no copy had, and no step changes an event.
use Rattle.std.proofs.Common.{◌≡◌, ℕ, ◌+◌, ◌≤◌, ◌<◌, List, length, sym, ◌∙◌, ap, subst, arith, Some, slice_get}
use Rattle.std.specs.List.{range_with_len, AllByRecursion}
use Rattle.std.specs.Option.{option_map_or}
use Rattle.vt_key.specs.declared.letter.Event.{Event}
use Rattle.vt_key.specs.promise.Lists.{Among}
use Rattle.vt_model.specs.promise.Simulation.{Simulation}
use Rattle.vt_model.specs.declared.sending.Sent.{Sent}
use Rattle.vt_steps.specs.declared.step.Step.{Step}
use Rattle.vt_steps.specs.inside.Copies.{serial_at}
use Rattle.vt_steps.specs.promise.Letters.{stamped}
use Rattle.vt_steps.specs.promise.Next.{reached}
use Rattle.vt_steps.specs.promise.World.{Part, World, opening_world, start_events, start_sends}
use Rattle.vt_key.proofs.ListLemmas.{every-all, every-among, every-both, every-weaker, flat_map-among, range-among}
use Rattle.vt_steps.proofs.letters.Stamped.{IsStamped, stamped-each, Alike, stamped-alike}
use Rattle.vt_steps.proofs.steps.Changes.{Change, run_keeps}
use Rattle.vt_steps.proofs.steps.Shape.{IsShaped, shape-kept, opening-shape}
use Rattle.vt_steps.proofs.letters.Balance.{CopyChange, moves, made_live, made_dead, annihilates, change-copies}
use Rattle.vt_steps.proofs.letters.Stamps.{serials-never_fall}
use Rattle.vt_steps.proofs.letters.OpeningSums.{opening-serial}
use Rattle.vt_steps.proofs.steps.Everywhere.{InWorld, Spread, kept, made, change-spread, world-weaker, events_of_starts, opening-in}

-- Q of each event in a world, and of each that the starts sent
pub record OfAllCopies {P : Type 0} (starts : List (Event P)) (Q : Event P → Type 0) (world : World P) : Type 0 where
  pub inside : InWorld Q world
  pub first : AllByRecursion Q starts

-- the stamp of an event is made: its serial is below its worker's next one
abbrev pub HasMadeStamp : {P : Type 0} → World P → Event P → Type 0
HasMadeStamp world x = x.rank.stamp.serial < serial_at world x.rank.stamp.worker

-- an event's stamp is made, and each copy of that stamp is of this event
abbrev pub IsOnlyOne : {P : Type 0} → List (Event P) → World P → Event P → Type 0
IsOnlyOne starts world x = HasMadeStamp world x × OfAllCopies starts (Alike x) world

-- so it is of each event
abbrev pub DoCopiesAgree : {P : Type 0} → List (Event P) → World P → Type 0
DoCopiesAgree starts world = OfAllCopies starts (IsOnlyOne starts world) world

-- no step lowers a serial
serials-kept : {S P : Type 0} (sim : Simulation S P) (old new : World P) → Change sim old new → (v : ℕ) → serial_at old v ≤ serial_at new v
serials-kept {P = P} sim old new change = by_copies (change-copies sim old new change) where
  by_copies : CopyChange old new → (v : ℕ) → serial_at old v ≤ serial_at new v
  by_copies (moves w balance rise) = serials-never_fall old new w 0 rise
  by_copies (made_live w serial event unsent within at balance rise) = serials-never_fall old new w (length unsent) rise
  by_copies (made_dead w last balance rise) = serials-never_fall old new w 0 rise
  by_copies (annihilates w stamp minus plus m p balance rise) = serials-never_fall old new w 0 rise

-- the next serial of a worker is that of its part
serial-of_part : {P : Type 0} (world : World P) (w : ℕ) (part : Part P) → slice_get world.parts w ≡ Some part → serial_at world w ≡ part.serial
serial-of_part world w part at = ap (λ o. option_map_or (λ p. p.serial) o 0) at

-- a made stamp is none of the next ones
made-apart : {P : Type 0} (old : World P) (w high : ℕ) (x y : Event P) → HasMadeStamp old x → IsStamped w (serial_at old w) high y → x.rank.stamp ≡ y.rank.stamp → ⊥
made-apart old w high x y is_made fresh same =
    let worker : x.rank.stamp.worker ≡ w = ap (λ s. s.worker) same ∙ fresh.worker in
    let serial : x.rank.stamp.serial ≡ y.rank.stamp.serial = ap (λ s. s.serial) same in
    let own : serial_at old x.rank.stamp.worker ≡ serial_at old w = ap (serial_at old) worker in
    let low = fresh.least in
    omega arith

module _ {S P : Type 0} (sim : Simulation S P) (starts : List (Event P)) where
  -- each change keeps it
  agreement-kept : (old new : World P) → IsShaped sim old → Change sim old new → DoCopiesAgree starts old → DoCopiesAgree starts new
  agreement-kept old new shape change h = by_spread (change-spread sim old new shape change) where
    -- serials never fall
    rise : (v : ℕ) → serial_at old v ≤ serial_at new v
    rise = serials-kept sim old new change

    -- what is made stays made
    stays_made : (x : Event P) → HasMadeStamp old x → HasMadeStamp new x
    stays_made x m = let up = rise x.rank.stamp.worker in omega arith

    -- events move, or are made
    by_spread : Spread sim old new → DoCopiesAgree starts new
    -- no event is made
    by_spread (kept f) =
        let still : (x : Event P) → IsOnlyOne starts old x → IsOnlyOne starts new x =
        λ x k. (stays_made x k.0, record { inside = f (Alike x) k.1.inside; first = k.1.first }) in
        record {
          inside = f (IsOnlyOne starts new) (world-weaker (IsOnlyOne starts old) (IsOnlyOne starts new) still old h.inside);
          first = every-weaker (IsOnlyOne starts old) (IsOnlyOne starts new) starts still h.first;
        }
    -- events are stamped: an old and a new one differ in their stamps
    by_spread (made w part after p triple event is is_after known more f) =
        let sends : List (Sent P) = (sim.fire p triple event).sends in
        let own = serial-of_part old w part is in
        let fresh : List (Event P) = stamped w part.serial sends in
        let high : ℕ = part.serial + length sends in
        let each : AllByRecursion (IsStamped w part.serial high) fresh = stamped-each w part.serial sends in
        let apart : (x y : Event P) → HasMadeStamp old x → IsStamped w part.serial high y → x.rank.stamp ≡ y.rank.stamp → ⊥ =
        λ x y m k. made-apart old w high x y m (subst (λ n. IsStamped w n high y) (sym own) k) in
        let still : (x : Event P) → IsOnlyOne starts old x → IsOnlyOne starts new x =
        λ x k. (
          stays_made x k.0,
          record {
            inside = f (Alike x) k.1.inside (every-weaker (IsStamped w part.serial high) (Alike x) fresh (λ y s e. absurd (apart x y k.0 s e)) each);
            first = k.1.first;
          },
        ) in
        let new_one : (x : Event P) → IsStamped w part.serial high x → AllByRecursion (Alike x) fresh → IsOnlyOne starts new x =
        λ x s like. (
          (let up = s.most in let at = ap (serial_at new) s.worker in let next = serial-of_part new w after is_after in omega arith),
          record {
            inside = f (Alike x) (world-weaker (IsOnlyOne starts old) (Alike x) (λ y k e. absurd (apart y x k.0 s (sym e))) old h.inside) like;
            first = every-weaker (IsOnlyOne starts old) (Alike x) starts (λ y k e. absurd (apart y x k.0 s (sym e))) h.first;
          },
        ) in
        record {
          inside = f (IsOnlyOne starts new) (world-weaker (IsOnlyOne starts old) (IsOnlyOne starts new) still old h.inside)
              (every-both (IsStamped w part.serial high) (λ x. AllByRecursion (Alike x) fresh) (IsOnlyOne starts new) fresh new_one each (stamped-alike w part.serial sends));
          first = every-weaker (IsOnlyOne starts old) (IsOnlyOne starts new) starts still h.first;
        }

-- ---- the opening world

module _ {S P : Type 0} (sim : Simulation S P) (serial : ℕ) where
  -- an event of the starts is one of a worker, stamped by it
  pub start-worker : (x : Event P) → Among x (events_of_starts sim serial) →
      (w : ℕ) × (w < sim.workers) × Among x (start_events sim serial w) × IsStamped w serial (serial + length (start_sends sim w)) x
  start-worker x m =
      let r = flat_map-among (start_events sim serial) x (range_with_len 0 sim.workers) m in
      let within = (range-among r.0 0 sim.workers r.1).1 in
      (r.0, omega arith, r.2, every-among (IsStamped r.0 serial (serial + length (start_sends sim r.0))) (start_events sim serial r.0) x (stamped-each r.0 serial (start_sends sim r.0)) r.2)

  -- its stamp is made
  start-made : (x : Event P) → Among x (events_of_starts sim serial) → HasMadeStamp (opening_world sim serial) x
  start-made x m =
      let r = start-worker x m in
      let next = opening-serial sim serial r.0 r.1 in
      let at = ap (serial_at (opening_world sim serial)) r.3.worker in
      let most = r.3.most in
      omega arith

  -- and each other one of its stamp is it
  starts-alike : (x : Event P) → Among x (events_of_starts sim serial) → AllByRecursion (Alike x) (events_of_starts sim serial)
  starts-alike x m =
      let r = start-worker x m in
      every-all (Alike x) (events_of_starts sim serial) (λ y n same.
      (let s = start-worker y n in
      let worker : s.0 ≡ r.0 = sym s.3.worker ∙ sym (ap (λ a. a.worker) same) ∙ r.3.worker in
      let here : Among y (start_events sim serial r.0) = subst (λ v. Among y (start_events sim serial v)) worker s.2 in
      every-among (Alike x) (start_events sim serial r.0) y
      (every-among (λ a. AllByRecursion (Alike a) (start_events sim serial r.0)) (start_events sim serial r.0) x (stamped-alike r.0 serial (start_sends sim r.0)) r.2) here same))

  -- so the copies agree
  opening-agreement : DoCopiesAgree (events_of_starts sim serial) (opening_world sim serial)
  opening-agreement =
      let starts : List (Event P) = events_of_starts sim serial in
      let each : AllByRecursion (IsOnlyOne starts (opening_world sim serial)) starts =
      every-all (IsOnlyOne starts (opening_world sim serial)) starts (λ x m.
      (let like = starts-alike x m in
      (start-made x m, record { inside = opening-in sim serial (Alike x) like; first = like }))) in
      record { inside = opening-in sim serial (IsOnlyOne starts (opening_world sim serial)) each; first = each }

  -- and in each reached world
  pub reached-agreement : (steps : List Step) → DoCopiesAgree (events_of_starts sim serial) (reached sim serial steps)
  reached-agreement steps =
      (run_keeps sim (λ world. IsShaped sim world × DoCopiesAgree (events_of_starts sim serial) world)
      (λ old new change h. (shape-kept sim old new change h.0, agreement-kept sim (events_of_starts sim serial) old new h.0 change h.1))
      steps (opening_world sim serial) (opening-shape sim serial, opening-agreement)).1
