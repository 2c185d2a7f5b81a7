-- The book, once a place has claimed it.
use Rattle.std.proofs.Common.{◌≡◌, ◌⊎◌, inl, inr, ℕ, true, false, [], ◌∷◌, refl, map, sym, ◌∙◌, ap, subst, Some, slice_get}
use Rattle.atomic_table.specs.Table.{rest}
use Rattle.vt_key.specs.declared.fault.Fault.{Fault}
use Rattle.vt_key.specs.declared.fault.Fault.TheVariants.{Busy, Closed}
use Rattle.vt_model.specs.declared.settings.Config.{Config}
use Rattle.vt_model.specs.promise.Handler.{Handlers}
use Rattle.vt_model.specs.promise.Histories.{IsLawful}
use Rattle.vt_model.specs.promise.Simulation.{Simulation, simulation_of}
use Rattle.vt_model.specs.promise.Settings.{end_of}
use Rattle.vt_steps.specs.promise.World.{Book, book_floor, book_records}
use Rattle.vt_steps.specs.inside.Cells.{in_book}
use Rattle.vt_steps.specs.promise.Next.{reached}
use Rattle.vt_steps.specs.inside.Marked.{unmarked, answered, has_closed, shown}
use Rattle.vt_steps.proofs.marks.OwnCloses.{closed-known}
use Rattle.vt_kernel.specs.inside.Held.{HeldWorker}
use Rattle.vt_book.specs.inside.Books.{RunBook}
use Rattle.vt_cells.specs.inside.Calls.{AreOfOneWorld}
use Rattle.vt_places.specs.declared.slot.Slot.{Slot}
use Rattle.vt_places.specs.declared.slot.Slot.TheVariants as slot
use Rattle.vt_places.specs.inside.Kept.{Sat}
use Rattle.vt_places.specs.inside.Calls.{Holding, TookThere, Reaches, AreRecordsShown}
use Rattle.vt_places.proofs.HeldLemmas.{same-book, found-is, found-right, puts}
use Rattle.vt_places.proofs.RefusalLemmas.{marks, part-there, book-there, records-shown}

module _ {S P : Type 0} {sim : Simulation S P} {config : Config} {m after : Sat P} {k : ℕ} (t : TookThere sim config (λ world. in_book world.book) m k after)
    {held : Slot P} {book : RunBook} (value : after.1 ≡ (k, held) ∷ rest after.1) (is : held ≡ slot.Book book) where
  -- what the seat found is the book of the shown world
  pub book-is : (shown sim t.known.log).book ≡ book.book
  book-is = same-book (shown sim t.known.log).book book.book (sym (found-is t.holds value is))

  -- and of this run
  pub book-ends : book.end ≡ end_of config
  book-ends = (found-right t.holds value is).0

  -- where there is one worker it has handed no record out
  pub book-whole : config.workers ≡ 1 → book.handed_out ≡ 0
  book-whole = (found-right t.holds value is).1

  pub run-book : book ≡ record { end = end_of config; book = (shown sim t.known.log).book; handed_out = book.handed_out }
  run-book = λ i. record { end = book-ends i; book = sym book-is i; handed_out = book.handed_out }

  -- the records that it shows
  pub shown-there : end_of config ≡ sim.end → AreRecordsShown sim m.0 (book_floor book.end book.book) (book_records book.end book.book)
  shown-there ends =
      let is : book ≡ record { end = sim.end; book = (shown sim t.known.log).book; handed_out = book.handed_out } = λ i. record { end = (book-ends ∙ ends) i; book = sym book-is i; handed_out = book.handed_out } in
      records-shown t.known [] m.0.part refl t.lawful (book_floor book.end book.book) (book_records book.end book.book)
      (ap (λ (b : RunBook). book_floor b.end b.book) is) (ap (λ (b : RunBook). book_records b.end b.book) is)

  -- what the seat holds once that is another
  pub book-put : (new : RunBook) {left : Book} → new.book ≡ left → new.end ≡ book.end → (config.workers ≡ 1 → new.handed_out ≡ 0) → Holding config (after.0, (k, slot.Book new) ∷ rest after.1) k (in_book book.book) (in_book left)
  book-put new now same_end whole = puts t.holds value is (slot.Book new) (ap in_book now) (same_end ∙ book-ends, whole)

  -- the same, where it has handed out no other records
  pub book-kept : (new : RunBook) {left : Book} → new.book ≡ left → new.end ≡ book.end → new.handed_out ≡ book.handed_out → Holding config (after.0, (k, slot.Book new) ∷ rest after.1) k (in_book book.book) (in_book left)
  book-kept new now same_end same_count = book-put new now same_end (λ one. same_count ∙ book-whole one)

  -- where the place has closed it, it is closed
  closed-is : has_closed (map answered m.0.mine) ≡ true → book.book.is_closed ≡ true
  closed-is done = ap (λ (b : Book). b.is_closed) (sym book-is) ∙ closed-known sim m.0.worker t.known.log t.known.right (ap has_closed t.known.mine ∙ done)

  pub not-open : {X : Type 0} → book.book.is_closed ≡ false → has_closed (map answered m.0.mine) ≡ true → X
  not-open open_is done = absurd (let e : true ≡ false = sym (closed-is done) ∙ open_is in cc)

  -- and what is refused there is refused as closed
  pub refused-once : {fault : Fault} {Other : Type 0} → (Other → book.book.is_closed ≡ false) → ((fault ≡ Closed) × (book.book.is_closed ≡ true)) ⊎ Other → has_closed (map answered m.0.mine) ≡ true → (fault ≡ Busy) ⊎ (fault ≡ Closed)
  refused-once open_is (inl x) done = inr x.0
  refused-once open_is (inr x) done = not-open (open_is x) done

module _ {S P K : Type 0} {handlers : Handlers S P K} {config : Config} {m after : Sat P} {cell : ℕ} (t : TookThere (simulation_of handlers config) config (λ world. in_book world.book) m cell after)
    {k : HeldWorker S P K} (r : Reaches handlers config m.0 k) where
  -- the kernel of the place's worker and the book are of one world
  pub one-world : AreOfOneWorld handlers k (shown (simulation_of handlers config) t.known.log).book
  one-world =
      let steps = unmarked (marks t.known r.steps r.part r.led) in (
        subst (λ (c : Config). IsLawful (simulation_of handlers c)) (sym r.config_is) t.lawful,
        ∣ record {
          serial = 0;
          steps = steps;
          part = r.part;
          there = subst (λ (x : ℕ × Config). slice_get (reached (simulation_of handlers x.1) 0 steps).parts x.0 ≡ Some r.part) (λ i. (sym r.worker i, sym r.config_is i)) (part-there t.known r.steps r.part r.led);
          stands = r.stands;
          book_is = subst (λ (c : Config). (reached (simulation_of handlers c) 0 steps).book ≡ (shown (simulation_of handlers config) t.known.log).book) (sym r.config_is) (book-there t.known r.steps r.part r.led);
        } ∣₁,
      )
