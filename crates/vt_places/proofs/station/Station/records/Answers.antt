use Rattle.std.proofs.Common.{◌≡◌, [], refl, ap, ◌∙◌, drop, arith}
use Rattle.vt_steps.specs.promise.World.{book_floor, book_records}
use Rattle.vt_book.specs.inside.Books.{RunBook}
use Rattle.vt_places.proofs.CallLemmas.{unvisited-held}
use Rattle.vt_places.proofs.BookAt.{run-book}
use Rattle.vt_places.proofs.RefusalLemmas as refusal
use Rattle.vt_places.proofs.PlaceLemmas.{refused, released}
use Rattle.vt_places.proofs.station.Station.records.Goals as goal

pub returns-in-Ok-clause-done : goal.returns-in-Ok-clause-done
returns-in-Ok-clause-done g c =
    let t = c.if-not-claim_book.ensures.claimed refl in
    let v = c.args.place.now.seat.me.0 in
    let is = run-book t c.slot_mut-held.ensures.value c.in-Book.is in
    let none : c.in-Book.book.handed_out ≡ 0 = omega (arith, c.handed_out.ensures, c.if-handed_out-gt0.false) in
    let all = ap (λ n. drop n (book_records c.in-Book.book.end c.in-Book.book.book)) none in (
      c.floor-floor.result,
      refusal.records-shown t.known [] v.part refl t.lawful c.floor-floor.result c.in-Ok.records.items (c.floor-floor.ensures ∙ ap (λ (b : RunBook). book_floor b.end b.book) is) (c.in-Ok.ensures.records ∙ all ∙ ap (λ (b : RunBook). book_records b.end b.book) is),
      unvisited-held v c.claim_book.new.seat.me.0 c.floor-floor.result c.release_unchanged-in-Ok.new.seat.me.0 t.place c.release_unchanged-in-Ok.ensures.stays,
    )

pub invariant_of-place : goal.invariant_of-place
invariant_of-place g c = refused c.args.place.now c.claim_book.new.seat c.if-not-claim_book.ensures.same (c.if-not-claim_book.ensures.busy refl).0

pub invariant_of-place-in-Ok : goal.invariant_of-place-in-Ok
invariant_of-place-in-Ok g c = released c.args.place.now c.claim_book.new.seat c.release_unchanged-in-Ok.new.seat c.if-not-claim_book.ensures.same c.release_unchanged-in-Ok.ensures.same

pub invariant_of-place-in-Err : goal.invariant_of-place-in-Err
invariant_of-place-in-Err g c = released c.args.place.now c.claim_book.new.seat c.release_unchanged-in-Err.new.seat c.if-not-claim_book.ensures.same c.release_unchanged-in-Err.ensures.same
