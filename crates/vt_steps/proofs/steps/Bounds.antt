-- Each event of a reached world is for a known process, and before the end of the run.
use Rattle.std.proofs.Common.{ℕ, ◌%◌, ◌<◌, List, sym, subst}
use Rattle.std.specs.List.{AllByRecursion}
use Rattle.vt_key.specs.promise.Times.{TimeBefore}
use Rattle.vt_key.specs.declared.letter.Event.{Event}
use Rattle.vt_key.specs.promise.Lists.{Among}
use Rattle.vt_model.specs.promise.Histories.{IsLawful}
use Rattle.vt_model.specs.promise.Simulation.{Simulation}
use Rattle.vt_model.specs.declared.sending.Sent.{Sent}
use Rattle.vt_steps.specs.declared.step.Step.{Step}
use Rattle.vt_steps.specs.promise.Letters.{stamped, unstamped}
use Rattle.vt_steps.specs.promise.Next.{reached}
use Rattle.vt_steps.specs.promise.World.{World, opening_world}
use Rattle.vt_steps.proofs.time.Agreement.{start-worker}
use Rattle.vt_steps.proofs.steps.Changes.{Change, run_keeps}
use Rattle.vt_steps.proofs.steps.Everywhere.{InWorld, Spread, kept, made, change-spread, events_of_starts, opening-in}
use Rattle.vt_key.proofs.ListLemmas.{among-map, every-all, every-unmap}
use Rattle.vt_steps.proofs.history.LiveEvents.{start-first}
use Rattle.vt_steps.proofs.steps.Shape.{IsShaped, opening-shape, shape-kept}
use Rattle.vt_steps.proofs.letters.Stamped.{unstamped-stamped}

-- a send for a process below lps and before the end
pub record IsBoundedSend {S P : Type 0} (sim : Simulation S P) (send : Sent P) : Type 0 where
  pub known : send.dest < sim.lps
  pub ends : TimeBefore send.key.time sim.end

-- an event whose send is
abbrev pub IsBounded : {S P : Type 0} → Simulation S P → Event P → Type 0
IsBounded sim event = IsBoundedSend sim (unstamped event)

module _ {S P : Type 0} (sim : Simulation S P) (lawful : IsLawful sim) where
  -- what is stamped of such sends
  stamped-bounds : (w serial : ℕ) (sends : List (Sent P)) → AllByRecursion (IsBoundedSend sim) sends → AllByRecursion (IsBounded sim) (stamped w serial sends)
  stamped-bounds w serial sends h = every-unmap unstamped (IsBoundedSend sim) (stamped w serial sends) (subst (AllByRecursion (IsBoundedSend sim)) (sym (unstamped-stamped w serial sends)) h)

  -- each change keeps that all events are
  bounds-kept : (old new : World P) → IsShaped sim old → Change sim old new → InWorld (IsBounded sim) old → InWorld (IsBounded sim) new
  bounds-kept old new shape change h = by_spread (change-spread sim old new shape change) where
    by_spread : Spread sim old new → InWorld (IsBounded sim) new
    by_spread (kept f) = f (IsBounded sim) h
    by_spread (made w part after p triple event is is_after less more f) =
        f (IsBounded sim) h (stamped-bounds w part.serial (sim.fire p triple event).sends
        (every-all (IsBoundedSend sim) (sim.fire p triple event).sends (λ d m. record { known = lawful.known p triple event d less m; ends = lawful.ends p triple event d less m })))

  -- so are those of the starts
  starts-bounds : (serial : ℕ) → AllByRecursion (IsBounded sim) (events_of_starts sim serial)
  starts-bounds serial =
      every-all (IsBounded sim) (events_of_starts sim serial) (λ x m.
      (let r = start-worker sim serial x m in
      let s = start-first sim serial x r.0 r.1 r.2 in
      let sent = subst (Among (unstamped x)) (unstamped-stamped (s.0 % sim.workers) _ (sim.start s.0).sends) (among-map unstamped x _ s.2) in
      record { known = lawful.known_start s.0 (unstamped x) s.1 sent; ends = lawful.ends_start s.0 (unstamped x) s.1 sent }))

  -- and all in each reached world
  pub reached-bounds : (serial : ℕ) (steps : List Step) → InWorld (IsBounded sim) (reached sim serial steps)
  reached-bounds serial steps =
      (run_keeps sim (λ world. IsShaped sim world × InWorld (IsBounded sim) world) (λ old new change h. (shape-kept sim old new change h.0, bounds-kept old new h.0 change h.1)) steps
      (opening_world sim serial) (opening-shape sim serial, opening-in sim serial (IsBounded sim) (starts-bounds serial))).1
