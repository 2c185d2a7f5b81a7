use Rattle.std.proofs.Common.{◌≡◌, [], refl, sym, ap, ◌∙◌, drop, arith}
use Rattle.vt_steps.specs.promise.World.{book_floor, book_records}
use Rattle.vt_book.specs.inside.Books.{RunBook}
use Rattle.vt_places.specs.declared.slot.Slot.TheVariants as slot
use Rattle.vt_places.proofs.BookAt.{run-book}
use Rattle.vt_places.proofs.RefusalLemmas as refusal
use Rattle.vt_places.proofs.station.Station.take_out.Goals as goal

pub returns-clause-shown : goal.returns-clause-shown
returns-clause-shown g c =
    let t = c.if-not-claim_book.ensures.claimed refl in
    let book = c.in-Book-replace.book in
    let replaced : slot.Book c.in-Book.book ≡ slot.Book book = sym c.replace.ensures.value ∙ c.in-Book-replace.is in
    let same : c.in-Book.book ≡ book = cc in
    let is = run-book t c.slot_mut-held.ensures.value (c.in-Book.is ∙ replaced) in
    let none : book.handed_out ≡ 0 = ap (λ (b : RunBook). b.handed_out) (sym same) ∙ (let z : c.in-Book.book.handed_out ≡ 0 = omega (arith, c.handed_out.ensures, c.if-handed_out-gt0.false) in z) in
    let all = ap (λ n. drop n (book_records book.end book.book)) none in
    (book_floor book.end book.book, refusal.records-shown t.known [] c.args.place.seat.me.0.part refl t.lawful (book_floor book.end book.book) c.into_records.result.items (ap (λ (b : RunBook). book_floor b.end b.book) is) (c.into_records.ensures ∙ all ∙ ap (λ (b : RunBook). book_records b.end b.book) is))
