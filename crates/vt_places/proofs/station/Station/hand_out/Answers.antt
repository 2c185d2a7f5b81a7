use Rattle.std.proofs.Common.{◌≡◌, ◌≤◌, ◌^◌, List, refl, ap, sym, subst, ◌∙◌, drop, length, inr}
use Rattle.vt_key.specs.promise.Times.{Time}
use Rattle.vt_model.specs.declared.rows.Record.{Record}
use Rattle.vt_model.specs.promise.Simulation.{simulation_of}
use Rattle.vt_steps.specs.promise.World.{book_floor, book_records}
use Rattle.vt_book.specs.inside.Books.{RunBook}
use Rattle.vt_places.specs.inside.Calls.{AreRecordsShown}
use Rattle.vt_places.proofs.CallLemmas.{unvisited-held}
use Rattle.vt_places.proofs.BookAt.{shown-there}
use Rattle.vt_places.proofs.station.Station.hand_out.Goals as goal

pub returns-in-Ok-clause-done : goal.returns-in-Ok-clause-done
returns-in-Ok-clause-done g c =
    let key = c.args.self.now.table.shared.key in
    let t = c.if-not-claim_book.ensures.claimed refl in
    let v = c.args.place.now.seat.me.0 in
    let book = c.in-Book.book in
    let all = book_records book.end book.book in
    let ok = c.in-Ok.ensures in
    let so_many : book.handed_out ≡ c.args.from = sym c.handed_out.ensures ∙ c.if-handed_out-from.false in
    let floor : c.floor-floor.result ≡ book_floor book.end book.book = c.floor-floor.ensures ∙ ap (λ (b : RunBook). book_floor b.end b.book) ok.handed.1 in (
      c.floor-floor.result,
      record {
        all = all;
        shown = subst (λ (f : Time). AreRecordsShown (simulation_of (g.M.Model.handlers key.model.value) key.config) v f all) (sym floor) (shown-there t c.slot_mut-held.ensures.value c.in-Book.is refl);
        beginning = subst (λ n. n ≤ length all) so_many ok.beginning;
        few = ok.few;
        rest = ok.handed.0 ∙ ap (λ n. drop n all) so_many;
      },
      unvisited-held v c.claim_book.new.seat.me.0 c.floor-floor.result c.release_unchanged-in-Ok.new.seat.me.0 t.place c.release_unchanged-in-Ok.ensures.stays,
    )

pub returns-in-Err-clause-refused : goal.returns-in-Err-clause-refused
returns-in-Err-clause-refused g c =
    let book = c.in-Book.book in
    let shown = shown-there (c.if-not-claim_book.ensures.claimed refl) c.slot_mut-held.ensures.value c.in-Book.is refl in
    let why = c.in-Err.ensures.refused in
    inr (inr (why.0, (book_floor book.end book.book, subst (λ (l : List Record). 2 ^ 64 ≤ length l) shown.records_are why.1)))
