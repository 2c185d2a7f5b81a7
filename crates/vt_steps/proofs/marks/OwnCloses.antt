-- What a closed book and a close tell: a worker that closed the book has closed it for good; where it is closed each worker's
-- floor is the end of the run; and a close is refused only where the book's floor is below the end.
use Rattle.std.proofs.Common.{◌≡◌, inl, inr, ℕ, true, false, cond, List, [], ◌∷◌, ◌++◌, sym, ◌∙◌, ap, arith, Some, slice_get, nat_eq}
use Rattle.std.specs.Option.{option_map}
use Rattle.std.specs.List.{AllByRecursion}
use Rattle.std.proofs.lemmas.List.Folds.{list_any-append}
use Rattle.std.proofs.lemmas.Bool.Decides.{nat_tests}
use Rattle.std.proofs.lemmas.Option.{slice_get_within}
use Rattle.std.proofs.lemmas.Bool.{or_cases}
use Rattle.vt_key.specs.promise.Times.{TimeAtMost, TimeBefore}
use Rattle.vt_model.specs.promise.Histories.{IsLawful}
use Rattle.vt_model.specs.promise.Simulation.{Simulation}
use Rattle.vt_steps.specs.declared.step.Step.{Step}
use Rattle.vt_steps.specs.declared.step.Step.TheVariants.{Execute, Undo, Cancel, Home, Send, Fetch, Accept, Cut, Report, Commit, Close}
use Rattle.vt_steps.specs.promise.BookSteps.{may_close}
use Rattle.vt_steps.specs.inside.Marked.{Marked, Answered, unmarked, IsMarkedRight, own_steps, shown, own_steps_of, is_close_done, has_closed}
use Rattle.vt_steps.specs.promise.CellSteps.{close}
use Rattle.vt_steps.specs.promise.Next.{Outcome, next, run, refused, with_book}
use Rattle.vt_steps.specs.promise.World.{Part, World, opening_world, book_floor}
use Rattle.vt_steps.proofs.steps.Changes.{if_has, map_has}
use Rattle.vt_steps.proofs.steps.Outcomes.{done_or_refused-either, unless_closed-either}
use Rattle.vt_steps.proofs.time.Floors.{reached-times, floor-announced, floor-at}
use Rattle.vt_steps.proofs.marks.MarkedRuns.{own-keeps}
use Rattle.vt_steps.proofs.lists.Indices.{get-within}
use Rattle.vt_steps.proofs.book.ReachedBooks.{closed-stays}

module _ {S P : Type 0} (sim : Simulation S P) where
  abbrev Closes : Outcome P → Type 0
  Closes o = is_close_done Close o.answer ≡ true → o.world.book.is_closed ≡ true

  -- a close that is done closes the book
  close-closes : (world : World P) → is_close_done Close (next sim world Close).answer ≡ true → (next sim world Close).world.book.is_closed ≡ true
  unfolding next close
  close-closes world =
      unless_closed-either world.book (refused world) _ Closes (λ shut done. absurd (let k : false ≡ true = done in cc))
      (λ is_open. done_or_refused-either world (option_map (with_book world) (close sim world.book)) Closes (λ done. absurd (let k : false ≡ true = done in cc)) (λ new e done.
      (let at = map_has (with_book world) (close sim world.book) new e in
      let has = if_has (may_close sim.end world.book) _ at.0 at.1 in
      ap (λ (n : World P). n.book.is_closed) (at.2 ∙ ap (with_book world) has.1))))

  -- a step that is a close that was done closes the book
  close-step : (world : World P) (step : Step) → is_close_done step (next sim world step).answer ≡ true → (next sim world step).world.book.is_closed ≡ true
  close-step world Close done = close-closes world done
  close-step world (Execute p) done = absurd (let k : false ≡ true = done in cc)
  close-step world (Undo p) done = absurd (let k : false ≡ true = done in cc)
  close-step world (Cancel p stamp) done = absurd (let k : false ≡ true = done in cc)
  close-step world (Home w) done = absurd (let k : false ≡ true = done in cc)
  close-step world (Send w v) done = absurd (let k : false ≡ true = done in cc)
  close-step world (Fetch w) done = absurd (let k : false ≡ true = done in cc)
  close-step world (Accept w i) done = absurd (let k : false ≡ true = done in cc)
  close-step world (Cut w) done = absurd (let k : false ≡ true = done in cc)
  close-step world (Report w) done = absurd (let k : false ≡ true = done in cc)
  close-step world (Commit w) done = absurd (let k : false ≡ true = done in cc)

  -- what one's own step is
  own-closed : (w : ℕ) (world : World P) (m : Marked) → has_closed (own_steps sim w world (m ∷ [])) ≡ true → is_close_done m.step (next sim world m.step).answer ≡ true
  unfolding own_steps
  own-closed w world m done =
      elim (nat_eq m.worker w) as (λ b. has_closed (cond b (record { step = m.step; answer = (next sim world m.step).answer } ∷ []) []) ≡ true → is_close_done m.step (next sim world m.step).answer ≡ true) [
        | true ↦ λ h. elim (or_cases (is_close_done m.step (next sim world m.step).answer) false h) [ inl k ↦ k | inr k ↦ absurd (let e : false ≡ true = k in cc) ]
        | false ↦ λ h. absurd (let e : false ≡ true = h in cc)
      ] done

  abbrev ClosedKnown : World P → List Answered → Type 0
  ClosedKnown world own = has_closed own ≡ true → world.book.is_closed ≡ true

  closed-step : (w : ℕ) (world : World P) (own : List Answered) (m : Marked) → IsMarkedRight sim m → ClosedKnown world own → ClosedKnown (next sim world m.step).world (own ++ own_steps sim w world (m ∷ []))
  unfolding run
  closed-step w world own m right known done =
      elim (or_cases (has_closed own) (has_closed (own_steps sim w world (m ∷ []))) (sym (list_any-append (λ a. is_close_done a.step a.answer) own (own_steps sim w world (m ∷ []))) ∙ done)) [
        | inl before ↦ ap (λ b. b.is_closed) (closed-stays sim world (m.step ∷ []) (known before)) ∙ known before
        | inr now ↦ close-step world m.step (own-closed w world m now)
      ]

  -- where a worker closed the book it is closed
  pub closed-known : (w : ℕ) (marks : List Marked) → AllByRecursion (IsMarkedRight sim) marks → has_closed (own_steps_of sim w marks) ≡ true → (shown sim marks).book.is_closed ≡ true
  closed-known w marks right = own-keeps sim w ClosedKnown (closed-step w) marks (opening_world sim 0) [] right (λ h. absurd (let e : false ≡ true = h in cc))

  -- ---- floors

  -- where the book is closed each worker's floor is the end of the run
  pub closed-floors : IsLawful sim → (marks : List Marked) (w : ℕ) (part : Part P) → (shown sim marks).book.is_closed ≡ true → slice_get (shown sim marks).parts w ≡ Some part → part.floor ≡ sim.end
  closed-floors lawful marks w part closed is =
      let world = shown sim marks in
      let f = (reached-times sim lawful 0 (unmarked marks)).floors in
      let size = f.size in
      let within = slice_get_within world.parts w part is in
      let floor = get-within world.book.floors w (omega arith) in
      let whole = f.closed closed in
      let least = floor-at sim.end world.book.floors w floor.0 floor.1 in
      let handed = f.handed_in w part floor.0 is floor.1 in
      let announced = f.announced w part is in
      let bounded = f.bounded in
      omega arith

  -- the book's floor is at most the end
  pub floor-ends : IsLawful sim → (marks : List Marked) → TimeAtMost (book_floor sim.end (shown sim marks).book) sim.end
  floor-ends lawful marks =
      let times = reached-times sim lawful 0 (unmarked marks) in
      let low = floor-announced sim lawful (shown sim marks) times in
      let bounded = times.floors.bounded in
      omega arith

  -- where the book may not be closed, its floor is below the end
  pub unclosable-floor : IsLawful sim → (marks : List Marked) → may_close sim.end (shown sim marks).book ≡ false → TimeBefore (book_floor sim.end (shown sim marks).book) sim.end
  unclosable-floor lawful marks not_yet =
      let most = floor-ends lawful marks in
      let floor = book_floor sim.end (shown sim marks).book in
      let test : nat_eq floor sim.end ≡ false = not_yet in
      grind (arith, nat_tests)
