-- The book in every reached world: it is accounted for, nothing falls in any further steps, and once closed it is whole.
use Rattle.std.proofs.Common.{◌≡◌, ℕ, ◌/◌, ◌%◌, ◌<◌, true, false, List, [], ◌∷◌, ◌++◌, refl, sym, subst, ◌∙◌, ap, arith}
use Rattle.std.specs.Prelude.{IsTrue}
use Rattle.std.specs.List.{AllByRecursion}
use Rattle.vt_key.specs.inside.Order.{RankBefore}
use Rattle.vt_key.specs.promise.Times.{TimeAtMost, TimeBefore}
use Rattle.vt_model.specs.declared.sending.Sent.{Sent}
use Rattle.vt_model.specs.promise.Histories.{IsLawful}
use Rattle.vt_model.specs.promise.Sequential.{events_of, whole_run, seq_records}
use Rattle.vt_model.specs.promise.Simulation.{Simulation, after}
use Rattle.vt_model.proofs.EndLemmas.{events-end}
use Rattle.vt_steps.specs.declared.step.Step.{Step}
use Rattle.vt_steps.specs.promise.Claims.{IsProcess, IsWhole, NothingFalls, StaysClosed}
use Rattle.vt_steps.specs.inside.Claims.{AreProcessesFinal}
use Rattle.vt_steps.specs.promise.Letters.{unstamped}
use Rattle.vt_steps.specs.promise.Next.{next, reached, run}
use Rattle.vt_steps.proofs.steps.CellSteps.{next-commit_closed, next-close_closed}
use Rattle.vt_steps.specs.promise.World.{Entry, LogicalProcess, World, book_floor, book_records, entry_events, least, opening_world, triple_after}
use Rattle.vt_steps.proofs.book.BookRows.{IsBooked, booked-kept, opening-booked}
use Rattle.vt_steps.proofs.steps.Bounds.{IsBounded, reached-bounds}
use Rattle.vt_steps.proofs.steps.Changes.{Change, stays, local, sends, fetches, cuts, reports, commits, closes, next_changes}
use Rattle.vt_steps.proofs.letters.Entries.{process-at_index}
use Rattle.vt_steps.proofs.steps.Everywhere.{InEntry, InProcess, part-in}
use Rattle.vt_steps.proofs.letters.EventTimes.{early-events}
use Rattle.vt_steps.proofs.time.Floors.{nothing-falls, reached-times}
use Rattle.vt_key.proofs.ListLemmas.{every-append, every-get, every-map, every-weaker, rising-right}
use Rattle.vt_steps.proofs.history.QuietHistories.{histories_are_right, reached-sound}
use Rattle.vt_steps.proofs.letters.Ranks.{reached-ranks}
use Rattle.vt_steps.proofs.book.Records.{IsAccounted, floors-right, records-right}
use Rattle.vt_steps.proofs.book.SequentialRows.{seq_records-begin}
use Rattle.vt_steps.proofs.steps.MemoryLemmas.{run-append}
use Rattle.vt_steps.proofs.steps.Shape.{part-within, reached-shape}

module _ {S P : Type 0} (sim : Simulation S P) (lawful : IsLawful sim) (serial : ℕ) where
  -- ---- the book is accounted for

  -- it has the rows of all committed events after a step, if it had them before it
  booked-step : (steps : List Step) (step : Step) → IsBooked sim (reached sim serial steps) → IsBooked sim (next sim (reached sim serial steps) step).world
  booked-step steps step b =
      let world = reached sim serial steps in
      booked-kept sim world (next sim world step).world b (next_changes sim world step) (reached-times sim lawful serial steps)
      (λ w index part process at there.
      rising-right (λ (x y : Entry P). RankBefore x.event.rank y.event.rank) process.done process.past
      (reached-ranks sim lawful serial steps _ process
      (process-at_index sim world w index part process (part-within sim world (reached-shape sim serial steps) w part at) at there)))

  -- after each list of steps
  booked-from : (before steps : List Step) → IsBooked sim (reached sim serial before) → IsBooked sim (run sim (reached sim serial before) steps)
  unfolding run
  booked-from before [] b = b
  booked-from before (step ∷ steps) b =
      let one_more = run-append sim (opening_world sim serial) before (step ∷ []) in
      subst (λ world. IsBooked sim (run sim world steps)) one_more (booked-from (before ++ step ∷ []) steps (subst (IsBooked sim) (sym one_more) (booked-step before step b)))

  pub reached-booked : (steps : List Step) → IsBooked sim (reached sim serial steps)
  unfolding run
  reached-booked steps = booked-from [] steps (opening-booked sim serial)

  -- so the book of each reached world is accounted for
  pub reached-accounted : (steps : List Step) → IsAccounted sim (reached sim serial steps)
  reached-accounted steps = record {
    times = reached-times sim lawful serial steps;
    booked = reached-booked steps;
    ranks = reached-ranks sim lawful serial steps;
    histories = histories_are_right sim lawful serial (reached sim serial steps) (reached-sound sim serial steps) (reached-ranks sim lawful serial steps);
  }

  -- ---- further steps

  -- neither the floor nor the announced time falls, and what the book showed is a beginning of what it shows
  pub reached-falls : (steps more : List Step) → NothingFalls sim (reached sim serial steps) (run sim (reached sim serial steps) more)
  reached-falls steps more =
      let old = reached sim serial steps in
      let new = run sim old more in
      let up = nothing-falls sim lawful more old (reached-times sim lawful serial steps) in
      let begins = seq_records-begin sim lawful (book_floor sim.end old.book) (book_floor sim.end new.book) up.0 in
      let whole = run-append sim (opening_world sim serial) steps more in
      let later : book_records sim.end new.book ≡ seq_records sim (book_floor sim.end new.book) =
      subst (λ (w : World P). book_records sim.end w.book ≡ seq_records sim (book_floor sim.end w.book)) whole (records-right sim lawful (reached sim serial (steps ++ more)) (reached-accounted (steps ++ more))).records in
      let sooner = (records-right sim lawful old (reached-accounted steps)).records in
      record { floor = up.0; announced = up.1; begins = (begins.0, later ∙ begins.1 ∙ ap (λ l. l ++ begins.0) (sym sooner)) }

-- ---- a closed book

-- no change touches it
closed-change : {S P : Type 0} (sim : Simulation S P) (old new : World P) → Change sim old new → IsTrue old.book.is_closed → new.book ≡ old.book
closed-change sim old new (stays e) shut = ap (λ n. n.book) e
closed-change sim old new (local w part after is change e) shut = ap (λ n. n.book) e
closed-change sim old new (sends w v part inbox is in_is e) shut = ap (λ n. n.book) e
closed-change sim old new (fetches w part inbox is in_is none e) shut = ap (λ n. n.book) e
closed-change sim old new (cuts w part board is cut_is e) shut = ap (λ n. n.book) e
closed-change sim old new (reports w part is may e) shut = ap (λ n. n.book) e
closed-change sim old new (commits w part is open_is may e) shut = absurd (let h : true ≡ false = sym shut ∙ open_is in cc)
closed-change sim old new (closes open_is at_end e) shut = absurd (let h : true ≡ false = sym shut ∙ open_is in cc)

-- so it stays in any further steps
pub closed-stays : {S P : Type 0} (sim : Simulation S P) (world : World P) (more : List Step) → IsTrue world.book.is_closed → (run sim world more).book ≡ world.book
unfolding run
closed-stays sim world [] shut = refl
closed-stays sim world (step ∷ more) shut =
    let new = (next sim world step).world in
    let same = closed-change sim world new (next_changes sim world step) shut in
    closed-stays sim new more (ap (λ b. b.is_closed) same ∙ shut) ∙ same

-- and takes nothing more in any of them
pub closed-takes_nothing : {S P : Type 0} (sim : Simulation S P) (world : World P) (more : List Step) → IsTrue world.book.is_closed → StaysClosed sim world (run sim world more)
closed-takes_nothing sim world more shut =
    let same = closed-stays sim world more shut in
    let still : IsTrue (run sim world more).book.is_closed = ap (λ b. b.is_closed) same ∙ shut in
    record {
      book = same;
      no_commit = λ w. next-commit_closed sim (run sim world more) w still;
      no_close = next-close_closed sim (run sim world more) still;
    }

module _ {S P : Type 0} (sim : Simulation S P) (lawful : IsLawful sim) (serial : ℕ) (steps : List Step) where
  -- what each process executed is before the end of the run
  executed-ends : (p : ℕ) (process : LogicalProcess P) → IsProcess sim (reached sim serial steps) p process → AllByRecursion (λ (e : Sent P). TimeBefore e.key.time sim.end) (entry_events (process.done ++ process.past))
  executed-ends p process is =
      let part = part-in (IsBounded sim) (reached sim serial steps) (p % sim.workers) is.0 is.1 (reached-bounds sim lawful serial steps) in
      let here = every-get (InProcess (IsBounded sim)) is.0.processes (p / sim.workers) process is.2 part.processes in
      every-map (λ (e : Entry P). unstamped e.event) (λ (e : Sent P). TimeBefore e.key.time sim.end) (process.done ++ process.past)
      (every-weaker (InEntry (IsBounded sim)) (λ (e : Entry P). TimeBefore e.event.rank.key.time sim.end) (process.done ++ process.past) (λ e h. h.event.ends)
      (every-append (InEntry (IsBounded sim)) process.done process.past here.done here.past))

  -- where nothing is unprocessed or travelling each process stands where the run leaves it
  pub quiet-triple : TimeAtMost sim.end (least sim.end (reached sim serial steps)) → (p : ℕ) (process : LogicalProcess P) → p < sim.lps → IsProcess sim (reached sim serial steps) p process →
      triple_after sim p (process.done ++ process.past) ≡ after sim p (events_of p (whole_run sim))
  quiet-triple quiet p process less is =
      ap (after sim p) (sym (early-events sim.end (entry_events (process.done ++ process.past)) (executed-ends p process is)) ∙ (reached-accounted sim lawful serial steps).histories sim.end p process less quiet is ∙ events-end sim lawful p)

  -- once closed nothing is unprocessed or travelling, so each process stands where the run leaves it
  pub closed-finals : IsTrue (reached sim serial steps).book.is_closed → AreProcessesFinal sim (reached sim serial steps)
  closed-finals shut =
      let known = reached-accounted sim lawful serial steps in
      let at_end = known.times.floors.closed shut in
      let floors = floors-right sim lawful (reached sim serial steps) known in
      quiet-triple (let a = floors.floor in let b = floors.announced in omega arith)

  -- once closed the book holds the whole run and takes nothing more
  pub closed-whole : IsTrue (reached sim serial steps).book.is_closed → IsWhole sim (reached sim serial steps)
  closed-whole shut =
      let world = reached sim serial steps in
      let known = reached-accounted sim lawful serial steps in
      let at_end = known.times.floors.closed shut in
      record {
        at_end = at_end;
        records = (records-right sim lawful world known).records ∙ ap (seq_records sim) at_end;
        no_commit = λ w. next-commit_closed sim world w shut;
        no_close = next-close_closed sim world shut;
      }
