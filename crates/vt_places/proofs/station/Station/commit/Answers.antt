use Rattle.std.proofs.Common.{◌≡◌, ℕ, Ok, Err, refl, sym, ap, subst, ◌∙◌, arith, rules}
use Rattle.vt_model.specs.declared.settings.Config.{Config}
use Rattle.vt_model.specs.promise.Simulation.{simulation_of}
use Rattle.vt_model.specs.promise.Settings.{end_of}
use Rattle.vt_steps.specs.declared.step.Step.TheVariants.{Commit}
use Rattle.vt_steps.specs.declared.step.Reply.TheVariants.{Done}
use Rattle.vt_steps.specs.promise.World.{Part, Book, book_floor}
use Rattle.vt_steps.specs.promise.PartSteps.{part_after_commit}
use Rattle.vt_steps.specs.inside.Cells.{in_book, act}
use Rattle.vt_kernel.specs.inside.Held.{HeldWorker, StandsFor}
use Rattle.vt_cells.specs.inside.Calls.{IsCellRefusal, IsHandInRefusal, AreOfOneWorld, CommitsTo}
use Rattle.vt_places.specs.inside.Calls.{Visited, ShowsFloor}
use Rattle.vt_places.proofs.CommitRelease.{committed-visited}
use Rattle.vt_places.proofs.BookAt.{book-is, book-ends, book-kept, not-open, refused-once, one-world}
use Rattle.vt_places.proofs.ReachLemmas.{reaches-visited}
use Rattle.vt_places.proofs.AloneLemmas.{commit-alone}
use Rattle.vt_places.proofs.RefusalLemmas as refusal
use Rattle.vt_places.proofs.PlaceLemmas.{refused, released}
use Rattle.vt_places.proofs.station.Station.commit.Goals as goal

pub hand_in-requires-after_bounds : goal.hand_in-requires-after_bounds
hand_in-requires-after_bounds g c κs within =
    let H = g.M.Model.handlers c.args.self.now.table.shared.key.model.value in
    let t = c.if-not-claim_book.ensures.claimed refl in
    (omega arith, (search rules, (search rules, (search rules, (H, subst (AreOfOneWorld H c.args.kernel.now) (book-is t c.slot_mut-held.ensures.value c.in-Book.is) (one-world t c.requires.kernel))))))

pub release_commit-requires-after_bounds : goal.release_commit-requires-after_bounds
release_commit-requires-after_bounds g c κs within =
    let key = c.args.self.now.table.shared.key in
    let H = g.M.Model.handlers key.model.value in
    let t = c.if-not-claim_book.ensures.claimed refl in
    let old = c.in-Book.book in
    let new = c.hand_in.new.book in
    let ok = c.in-Ok.ensures in (
      omega arith,
      (
        search rules,
        (
          search rules,
          (
            search rules,
            (
              search rules,
              (
                (
                  in_book old.book,
                  in_book new.book,
                  book-kept t c.slot_mut-held.ensures.value c.in-Book.is new refl ok.end ok.kept,
                  subst (λ (x : Config × HeldWorker _ _ _). CommitsTo H x.0 c.args.place.now.worker x.1 (in_book old.book) (in_book new.book)) (λ i. (c.requires.kernel.config_is i, sym c.of.ensures i)) (ok.step H).done,
                  c.floor-seen.ensures ∙ ap (λ e. book_floor e new.book) (ok.end ∙ book-ends t c.slot_mut-held.ensures.value c.in-Book.is),
                ),
                search rules,
              ),
            ),
          ),
        ),
      ),
    )

pub release_unchanged-requires-clause-held : goal.release_unchanged-requires-clause-held
release_unchanged-requires-clause-held g c κs within =
    let H = g.M.Model.handlers c.args.self.now.table.shared.key.model.value in
    (in_book c.in-Book.book.book, book-kept (c.if-not-claim_book.ensures.claimed refl) c.slot_mut-held.ensures.value c.in-Book.is c.hand_in.new.book (c.in-Err.ensures.step H).unchanged c.in-Err.ensures.end c.in-Err.ensures.kept, tt)

pub returns-in-Ok-clause-done : goal.returns-in-Ok-clause-done
returns-in-Ok-clause-done g c =
    let key = c.args.self.now.table.shared.key in
    let H = g.M.Model.handlers key.model.value in
    let sim = simulation_of H key.config in
    let v = c.args.place.now.seat.me.0 in
    let w = c.args.place.now.worker in
    let t = c.if-not-claim_book.ensures.claimed refl in
    let r = c.requires.kernel in
    let k = c.args.kernel.now in
    let new = c.hand_in.new.book in
    let ok = c.in-Ok.ensures in
    let seen = c.floor-seen.result in
    let after = c.release_commit.new.seat.me.0 in
    let left = c.fossil.new.self in
    let others = c.fossil.ensures.others in
    let same = sym c.of.ensures in
    let forgets = subst (λ (h : HeldWorker _ _ _). (part : Part _) → StandsFor H h part → StandsFor H left (part_after_commit part)) same (c.fossil.ensures.stands H) in
    let visited = committed-visited H key.config v c.claim_book.new.seat.me.0 w c.of.result.value left seen after t.place c.release_commit.ensures.done forgets
    (ap (λ (h : HeldWorker _ _ _). h.worker) others ∙ ap (λ (h : HeldWorker _ _ _). h.worker) same) (ap (λ (h : HeldWorker _ _ _). h.config) others ∙ ap (λ (h : HeldWorker _ _ _). h.config) same) in
    let both = subst (λ (h : HeldWorker _ _ _). (x : Visited H key.config v h (Commit w) Done left seen after) × ShowsFloor (end_of key.config) seen x.visits.at.now) c.of.ensures visited in
    let does = subst (λ (f : Config). CommitsTo H f w k (in_book c.in-Book.book.book) (in_book new.book)) r.config_is (ok.step H).done r.part r.stands in (
      seen,
      both.0,
      both.1,
      refusal.floor-left t.known r.steps r.part r.led t.lawful (Commit w) (sym c.args.place.now.own) refl
          (subst (λ b. act sim (Commit w) r.part (in_book b) ≡ record { part = part_after_commit r.part; cell = in_book new.book; answer = Ok Done }) (sym (book-is t c.slot_mut-held.ensures.value c.in-Book.is)) does) seen
          (c.floor-seen.ensures ∙ ap (λ e. book_floor e new.book) (ok.end ∙ book-ends t c.slot_mut-held.ensures.value c.in-Book.is)),
    )

pub returns-in-Ok-clause-closed : goal.returns-in-Ok-clause-closed
returns-in-Ok-clause-closed g c =
    λ h. not-open (c.if-not-claim_book.ensures.claimed refl) c.slot_mut-held.ensures.value c.in-Book.is c.in-Ok.ensures.why h

pub returns-in-Err-clause-refused : goal.returns-in-Err-clause-refused
returns-in-Err-clause-refused g c =
    let key = c.args.self.now.table.shared.key in
    let H = g.M.Model.handlers key.model.value in
    let t = c.if-not-claim_book.ensures.claimed refl in
    let r = c.requires.kernel in
    let fault = c.in-Err.fault in
    let why = c.in-Err.ensures in
    let same = sym (book-is t c.slot_mut-held.ensures.value c.in-Book.is) in
    refusal.commit-refused t.known r.steps r.part r.led t.lawful fault (subst (λ b. IsHandInRefusal b fault) same why.why)
    (subst (λ (x : Config × ℕ × Book). IsCellRefusal (simulation_of H x.0) (Commit x.1) r.part (in_book x.2) fault) (λ i. (r.config_is i, sym c.args.place.now.own i, same i)) ((why.step H).refused r.part r.stands))

pub returns-in-Err-clause-closed : goal.returns-in-Err-clause-closed
returns-in-Err-clause-closed g c =
    λ h. refused-once (c.if-not-claim_book.ensures.claimed refl) c.slot_mut-held.ensures.value c.in-Book.is (λ x. x.1) c.in-Err.ensures.why h

pub returns-in-Ok-clause-ready : goal.returns-in-Ok-clause-ready
returns-in-Ok-clause-ready g c =
    let key = c.args.self.now.table.shared.key in
    let done = returns-in-Ok-clause-done g c in
    reaches-visited (g.M.Model.handlers key.model.value) key.config c.args.place.now.seat.me.0 c.release_commit.new.seat.me.0 c.args.kernel.now c.requires.kernel c.fossil.new.self done.0 (Commit c.args.place.now.worker) Done done.1

pub returns-in-Ok-clause-alone : goal.returns-in-Ok-clause-alone
returns-in-Ok-clause-alone g c r =
    let key = c.args.self.now.table.shared.key in
    let t = c.if-not-claim_book.ensures.claimed refl in
    let done = returns-in-Ok-clause-done g c in
    commit-alone (g.M.Model.handlers key.model.value) key.config c.args.place.now.seat.me.0 c.release_commit.new.seat.me.0 c.args.kernel.now c.fossil.new.self r (Unit {0}) c.args.place.now.own (Ok tt) t.lawful t.known.within (done.0, done.1) tt

pub returns-in-Err-clause-alone : goal.returns-in-Err-clause-alone
returns-in-Err-clause-alone g c r =
    let key = c.args.self.now.table.shared.key in
    let t = c.if-not-claim_book.ensures.claimed refl in
    let k = c.args.kernel.now in
    commit-alone (g.M.Model.handlers key.model.value) key.config c.args.place.now.seat.me.0 c.release_unchanged.new.seat.me.0 k k r (Unit {0}) c.args.place.now.own (Err c.in-Err.fault) t.lawful t.known.within tt (returns-in-Err-clause-refused g c)

pub invariant_of-place : goal.invariant_of-place
invariant_of-place g c = refused c.args.place.now c.claim_book.new.seat c.if-not-claim_book.ensures.same (c.if-not-claim_book.ensures.busy refl).0

pub invariant_of-place-in-Ok : goal.invariant_of-place-in-Ok
invariant_of-place-in-Ok g c =
    let left = c.release_commit.ensures in
    released c.args.place.now c.claim_book.new.seat c.release_commit.new.seat c.if-not-claim_book.ensures.same (left.same.0, left.same.1, left.same.2, left.done.same.worker)

pub invariant_of-place-in-Err : goal.invariant_of-place-in-Err
invariant_of-place-in-Err g c = released c.args.place.now c.claim_book.new.seat c.release_unchanged.new.seat c.if-not-claim_book.ensures.same c.release_unchanged.ensures.same
