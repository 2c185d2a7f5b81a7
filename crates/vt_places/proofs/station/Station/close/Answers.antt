use Rattle.std.proofs.Common.{◌≡◌, [], Ok, Err, refl, sym, ap, subst, ◌∙◌}
use Rattle.vt_model.specs.promise.Simulation.{simulation_of}
use Rattle.vt_model.specs.promise.Settings.{end_of}
use Rattle.vt_steps.specs.declared.step.Step.TheVariants.{Close}
use Rattle.vt_steps.specs.promise.World.{book_floor}
use Rattle.vt_steps.specs.inside.Cells.{Acted, in_book, act}
use Rattle.vt_book.specs.inside.Books.{RunBook}
use Rattle.vt_cells.specs.inside.Calls.{IsClosingRefusal}
use Rattle.vt_places.proofs.CallLemmas.{closes-there}
use Rattle.vt_places.proofs.BookAt.{book-ends, run-book, book-kept, not-open, refused-once}
use Rattle.vt_places.proofs.AloneLemmas.{close-alone}
use Rattle.vt_places.proofs.RefusalLemmas as refusal
use Rattle.vt_places.proofs.PlaceLemmas.{refused, released}
use Rattle.vt_places.proofs.station.Station.close.Goals as goal

pub release_close-requires-clause-held : goal.release_close-requires-clause-held
release_close-requires-clause-held g c κs within =
    let key = c.args.self.now.table.shared.key in
    let sim = simulation_of (g.M.Model.handlers key.model.value) key.config in
    let t = c.if-not-claim_book.ensures.claimed refl in
    let ends = book-ends t c.slot_mut-held.ensures.value c.in-Book.is in
    let ok = c.in-Ok.ensures in
    let new = c.close.new.book in (
      in_book c.in-Book.book.book,
      in_book new.book,
      book-kept t c.slot_mut-held.ensures.value c.in-Book.is new refl ok.end ok.kept,
      ok.step sim (sym ends),
      c.floor-floor.ensures ∙ ap (λ e. book_floor e new.book) (ok.end ∙ ends),
    )

pub returns-in-Ok-clause-closed : goal.returns-in-Ok-clause-closed
returns-in-Ok-clause-closed g c =
    λ h. not-open (c.if-not-claim_book.ensures.claimed refl) c.slot_mut-held.ensures.value c.in-Book.is c.in-Ok.ensures.why.0 h

pub returns-in-Ok-clause-done : goal.returns-in-Ok-clause-done
returns-in-Ok-clause-done g c =
    let key = c.args.self.now.table.shared.key in
    let sim = simulation_of (g.M.Model.handlers key.model.value) key.config in
    let t = c.if-not-claim_book.ensures.claimed refl in
    let ok = c.in-Ok.ensures in
    closes-there sim c.args.place.now.seat.me.0 c.claim_book.new.seat.me.0 c.floor-floor.result (end_of key.config) c.release_close.new.seat.me.0 t.place
    (c.floor-floor.ensures ∙ ok.why.1 ∙ ok.end ∙ book-ends t c.slot_mut-held.ensures.value c.in-Book.is) c.release_close.ensures.done

pub returns-in-Err-clause-refused : goal.returns-in-Err-clause-refused
returns-in-Err-clause-refused g c =
    let key = c.args.self.now.table.shared.key in
    let sim = simulation_of (g.M.Model.handlers key.model.value) key.config in
    let t = c.if-not-claim_book.ensures.claimed refl in
    let is = run-book t c.slot_mut-held.ensures.value c.in-Book.is in
    let part = c.args.place.now.seat.me.0.part in
    let fault = c.in-Err.fault in
    let why = c.in-Err.ensures in
    refusal.close-refused t.known [] part refl t.lawful fault c.in-Book.book.handed_out (subst (λ (b : RunBook). IsClosingRefusal b fault) is why.why)
    (subst (λ (b : RunBook). (act sim Close part (in_book b.book)).answer ≡ Err fault) is (ap (λ (x : Acted _). x.answer) (why.step sim (ap (λ (b : RunBook). b.end) (sym is)) part)))

pub returns-in-Err-clause-closed : goal.returns-in-Err-clause-closed
returns-in-Err-clause-closed g c =
    λ h. refused-once (c.if-not-claim_book.ensures.claimed refl) c.slot_mut-held.ensures.value c.in-Book.is (λ x. x.1) c.in-Err.ensures.why h

pub returns-in-Ok-clause-alone : goal.returns-in-Ok-clause-alone
returns-in-Ok-clause-alone g c =
    let key = c.args.self.now.table.shared.key in
    close-alone (simulation_of (g.M.Model.handlers key.model.value) key.config) c.args.place.now.seat.me.0 (Ok tt) (end_of key.config) c.release_close.new.seat.me.0 (Unit {0}) (returns-in-Ok-clause-done g c) tt

pub returns-in-Err-clause-alone : goal.returns-in-Err-clause-alone
returns-in-Err-clause-alone g c =
    let key = c.args.self.now.table.shared.key in
    let v = c.args.place.now.seat.me.0 in
    close-alone (simulation_of (g.M.Model.handlers key.model.value) key.config) v (Err c.in-Err.fault) (end_of key.config) v (Unit {0}) tt (returns-in-Err-clause-refused g c)

pub invariant_of-place : goal.invariant_of-place
invariant_of-place g c = refused c.args.place.now c.claim_book.new.seat c.if-not-claim_book.ensures.same (c.if-not-claim_book.ensures.busy refl).0

pub invariant_of-place-in-Ok : goal.invariant_of-place-in-Ok
invariant_of-place-in-Ok g c =
    let left = c.release_close.ensures in
    released c.args.place.now c.claim_book.new.seat c.release_close.new.seat c.if-not-claim_book.ensures.same (left.same.0, left.same.1, left.same.2, left.done.same.worker)

pub invariant_of-place-in-Err : goal.invariant_of-place-in-Err
invariant_of-place-in-Err g c = released c.args.place.now c.claim_book.new.seat c.release_unchanged.new.seat c.if-not-claim_book.ensures.same c.release_unchanged.ensures.same
