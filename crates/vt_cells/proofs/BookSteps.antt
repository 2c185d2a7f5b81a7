-- Commit and Close on a kernel and the book, by what the kernel's and the book's calls do and refuse.
use Rattle.std.proofs.Common.{◌≡◌, ℕ, inl, inr, Bool, true, false, ◌&&◌, List, [], ◌∷◌, refl, sym, ◌∙◌, ap, subst, arith, Some, None, Result, Ok, Err, IfErr, MatchResult, slice_get}
use Rattle.std.specs.List.{list_all, AllByRecursion}
use Rattle.std.proofs.Math.Logic.{∥∥₁_elim}
use Rattle.std.proofs.Props.{props}
use Rattle.std.proofs.lemmas.Bool.Decides.{nat_tests}
use Rattle.std.proofs.lemmas.Option.{slice_get_within}
use Rattle.std.proofs.lemmas.Bool.{and_from}
use Rattle.vt_key.specs.promise.Times.{Time, TimeAtMost, time_at_most, time_before}
use Rattle.vt_key.specs.declared.fault.Fault.{Fault}
use Rattle.vt_key.specs.declared.fault.Fault.TheVariants.{Memory, Closed}
use Rattle.vt_model.specs.declared.rows.Row.{Row}
use Rattle.vt_model.specs.declared.settings.Config.{Config}
use Rattle.vt_model.specs.promise.Handler.{Handlers}
use Rattle.vt_model.specs.promise.Histories.{IsLawful}
use Rattle.vt_model.specs.promise.Simulation.{Simulation, simulation_of}
use Rattle.vt_model.specs.promise.Settings.{end_of}
use Rattle.vt_steps.specs.declared.step.Step.TheVariants.{Commit, Close}
use Rattle.vt_steps.specs.declared.step.Reply.{Reply}
use Rattle.vt_steps.specs.declared.step.Reply.TheVariants.{Done}
use Rattle.vt_steps.specs.promise.World.{Part, Book}
use Rattle.vt_steps.specs.promise.PartSteps.{part_after_commit, rows_of_commit}
use Rattle.vt_steps.specs.promise.BookSteps.{may_commit, with_rows, may_close, closed_book}
use Rattle.vt_steps.specs.promise.Next.{reached}
use Rattle.vt_steps.specs.inside.Cells.{Cell, Acted, in_book, left_alone, act}
use Rattle.vt_steps.proofs.time.Floors.{AreTimesSound, reached-times}
use Rattle.vt_steps.proofs.lists.Indices.{get-within}
use Rattle.vt_kernel.specs.inside.Held.{HeldWorker, StandsFor}
use Rattle.vt_book.specs.inside.Books.{RunBook, may_hand, is_within, are_within, refusal_of_hand, refusal_where}
use Rattle.vt_book.proofs.CommitRows.{IsBetween, commit-between}
use Rattle.vt_cells.specs.inside.Calls.{Acts, IsCellStepOf, IsBatchOf, AreReached, AreOfOneWorld, CommitsTo, IsHandInOf, IsClosingRefusal, answer_as}
use Rattle.vt_cells.proofs.ActLemmas.{act-commit, act-commit_closed, act-close, act-not_close, act-close_closed}

-- rows that lie between two times, tested
all-within : (from to : Time) (rows : List Row) → AllByRecursion (IsBetween from to) rows → list_all (is_within from to) rows ≡ true
all-within from to [] h = refl
all-within from to (row ∷ rows) h =
    let low = h.0.0 in
    let high = h.0.1 in
    let late : time_at_most from row.key.time ≡ true = grind (arith, nat_tests) in
    let early : time_before row.key.time to ≡ true = grind (arith, nat_tests) in
    and_from (is_within from to row) (list_all (is_within from to) rows) (and_from (time_at_most from row.key.time) (time_before row.key.time to) late early) (all-within from to rows h.1)

-- what is lawful an open book doesn't refuse
unrefused : (is_closed is_lawful : Bool) → is_closed ≡ false → is_lawful ≡ true → refusal_where is_closed is_lawful ≡ None
unrefused true is_lawful h k = absurd (let e : true ≡ false = h in cc)
unrefused false true h k = refl
unrefused false false h k = absurd (let e : false ≡ true = k in cc)

-- ---- commits

-- the simulation of a kernel
abbrev sim_of : {S P K : Type 0} → Handlers S P K → HeldWorker S P K → Simulation S P
sim_of handlers k = simulation_of handlers k.config

module _ {S P K : Type 0} {handlers : Handlers S P K} {k : HeldWorker S P K} (book : RunBook) (ends : book.end ≡ end_of k.config) where
  module _ (lawful : IsLawful (sim_of handlers k)) (r : AreReached handlers k book.book) where
    sound : AreTimesSound (sim_of handlers k) (reached (sim_of handlers k) r.serial r.steps)
    sound = reached-times (sim_of handlers k) lawful r.serial r.steps

    -- the floor up to which the worker has handed in
    handed_in : (floor : Time) × (slice_get (reached (sim_of handlers k) r.serial r.steps).book.floors k.worker ≡ Some floor)
    handed_in =
        let world = reached (sim_of handlers k) r.serial r.steps in
        let size = sound.floors.size in
        get-within world.book.floors k.worker (let a = slice_get_within world.parts k.worker r.part r.there in omega (arith, a, size))

    floor-there : slice_get book.book.floors k.worker ≡ Some handed_in.0
    floor-there = ap (λ (b : Book). slice_get b.floors k.worker) (sym r.book_is) ∙ handed_in.1

    may-up_to : may_commit (slice_get book.book.floors k.worker) k.floor ≡ true
    may-up_to =
        let low = sound.floors.handed_in k.worker r.part handed_in.0 r.there handed_in.1 in
        let own : r.part.floor ≡ k.floor = r.stands.floor in
        let above : time_at_most handed_in.0 k.floor ≡ true = grind (arith, nat_tests) in
        ap (λ o. may_commit o k.floor) floor-there ∙ above

    may-rows : (rows : List Row) → rows ≡ rows_of_commit (sim_of handlers k) k.worker r.part → may_hand book k.worker rows k.floor ≡ true
    may-rows rows rows_are =
        let announced = sound.floors.announced k.worker r.part r.there in
        let bounded : TimeAtMost (reached (sim_of handlers k) r.serial r.steps).board.announced (end_of k.config) = sound.floors.bounded in
        let own : r.part.floor ≡ k.floor = r.stands.floor in
        let below : time_at_most k.floor book.end ≡ true = grind (arith, nat_tests) in
        let between : AllByRecursion (IsBetween handed_in.0 k.floor) rows =
        subst (λ t. AllByRecursion (IsBetween handed_in.0 t) rows) own
        (subst (AllByRecursion (IsBetween handed_in.0 r.part.floor)) (sym rows_are) (commit-between (sim_of handlers k) lawful r.serial r.steps k.worker r.part handed_in.0 r.there handed_in.1)) in
        and_from (may_commit (slice_get book.book.floors k.worker) k.floor) (time_at_most k.floor book.end && are_within (slice_get book.book.floors k.worker) k.floor rows) may-up_to
        (and_from (time_at_most k.floor book.end) (are_within (slice_get book.book.floors k.worker) k.floor rows) below
        (ap (λ o. are_within o k.floor rows) floor-there ∙ all-within handed_in.0 k.floor rows between))

  module _ (reaches : AreOfOneWorld handlers k book.book) {w : ℕ} (whose : k.worker ≡ w) where
    -- a kernel of a reached world may hand in up to its floor
    pub may-commit : may_commit (slice_get book.book.floors w) k.floor ≡ true
    may-commit = subst (λ v. may_commit (slice_get book.book.floors v) k.floor ≡ true) whose (∥∥₁_elim reaches.1 (Prim.hlevel props) (may-up_to reaches.0))

    -- and an open book takes its rows
    pub hand-taken : {rows : List Row} {floor : Time} → floor ≡ k.floor → book.book.is_closed ≡ false → IsBatchOf k (Ok rows) → refusal_of_hand book w rows floor ≡ None
    hand-taken {rows} floor_is is_open ready =
        let may = subst (λ v. may_hand book v rows k.floor ≡ true) whose (∥∥₁_elim reaches.1 (Prim.hlevel props) (λ r. may-rows reaches.0 r rows (ready handlers r.part r.stands))) in
        ap (refusal_of_hand book w rows) floor_is ∙ unrefused book.book.is_closed (may_hand book w rows k.floor) is_open may

module _ {S P K : Type 0} (handlers : Handlers S P K) (k : HeldWorker S P K) (w : ℕ) (old : RunBook) where
  -- what a closed book refuses
  pub hand-closed : old.book.is_closed ≡ true → IsHandInOf handlers k.config w k old.book old.book (Err Closed)
  hand-closed closed = record {
    done = tt;
    refused = λ part s. inl (ap (λ (x : Acted P). x.answer) (act-commit_closed (sim_of handlers k) w part old.book closed));
    unchanged = refl;
  }

  module _ (may : may_commit (slice_get old.book.floors w) k.floor ≡ true) (is_open : old.book.is_closed ≡ false) where
    acts : (part : Part P) → StandsFor handlers k part
        → act (sim_of handlers k) (Commit w) part (in_book old.book) ≡ record { part = part_after_commit part; cell = in_book (with_rows w (rows_of_commit (sim_of handlers k) w part) part.floor old.book); answer = Ok Done }
    acts part s = act-commit (sim_of handlers k) w part old.book is_open (ap (may_commit (slice_get old.book.floors w)) s.floor ∙ may)

    -- one for which memory was refused
    pub hand-memory : {new : RunBook} {fault : Fault} → fault ≡ Memory → new ≡ old → IsHandInOf handlers k.config w k old.book new.book (Err fault)
    hand-memory is same = record {
      done = tt;
      refused = λ part s. inr (Done, ap (λ (x : Acted P). x.answer) (acts part s), inr (is, tt, λ past. past));
      unchanged = ap (λ (b : RunBook). b.book) same;
    }

    -- and one that the book has taken, or for which it was refused memory
    pub hand-tried : k.worker ≡ w → (new : RunBook) {rows : List Row} {floor : Time} → floor ≡ k.floor → IsBatchOf k (Ok rows) → (result : Result (Unit {0}) Fault)
        → MatchResult result (λ _. new ≡ record old { book = with_rows w rows floor old.book }) (λ fault. fault ≡ Memory) → IfErr result (λ _. new ≡ old) → IsHandInOf handlers k.config w k old.book new.book result
    hand-tried whose new {rows} {floor} floor_is ready (Ok x) is same = record {
      done = λ part s.
          (let left : with_rows w (rows_of_commit (sim_of handlers k) w part) part.floor old.book ≡ new.book =
          (λ i. with_rows w (sym (ready handlers part s ∙ ap (λ v. rows_of_commit (sim_of handlers k) v part) whose) i) ((s.floor ∙ sym floor_is) i) old.book) ∙ ap (λ (b : RunBook). b.book) (sym is) in
          acts part s ∙ ap (λ b. (let a : Acted P = record { part = part_after_commit part; cell = in_book b; answer = Ok Done } in a)) left);
      refused = λ part s. tt;
      unchanged = tt;
    }
    hand-tried whose new floor_is ready (Err fault) is same = hand-memory is same

module _ {S P K : Type 0} (handlers : Handlers S P K) {k new : HeldWorker S P K} {w : ℕ} where
  -- a kernel that forgets what it has committed
  pub commit-acts : (config : Config) {found left : Cell P} → CommitsTo handlers config w k found left → new.worker ≡ k.worker → new.config ≡ k.config
      → ((part : Part P) → StandsFor handlers k part → StandsFor handlers new (part_after_commit part)) → Acts handlers config (Commit w) Done k found new left
  commit-acts config to same_worker same_config forgets = record { acts = λ part s. (part_after_commit part, to part s, forgets part s); worker = same_worker; config_is = same_config }

  pub commit-done : (config : Config) {book left : Book} {x : Unit {0}} → IsHandInOf handlers config w k book left (Ok x) → new.worker ≡ k.worker → new.config ≡ k.config
      → ((part : Part P) → StandsFor handlers k part → StandsFor handlers new (part_after_commit part)) → IsCellStepOf handlers config (Commit w) k new (in_book book) (in_book left) (Ok Done)
  commit-done config h same_worker same_config forgets = record {
    done = commit-acts config h.done same_worker same_config forgets;
    within = λ part s past. past;
    refused = λ part s. tt;
    unchanged = tt;
  }

  -- and one whose commit is refused
  pub commit-refused : (config : Config) {book left : Book} (fault : Fault) → IsHandInOf handlers config w k book left (Err fault) → new ≡ k
      → IsCellStepOf handlers config (Commit w) k new (in_book book) (in_book left) (Err fault)
  commit-refused config fault h same = record { done = tt; within = λ part s. tt; refused = h.refused; unchanged = (same, ap in_book h.unchanged) }

-- ---- closes

-- a close that the book did or refused
pub close-tried : {S P : Type 0} (sim : Simulation S P) (part : Part P) (old new : RunBook) → sim.end ≡ old.end → {X : Type 0} (result : Result X Fault)
    → MatchResult result (λ _. (old.book.is_closed ≡ false) × (may_close old.end old.book ≡ true) × (new ≡ record old { book = closed_book old.book })) (λ fault. IsClosingRefusal old fault × (new ≡ old))
    → act sim Close part (in_book old.book) ≡ record { part = part; cell = in_book new.book; answer = answer_as (λ _. Done) result }
close-tried sim part old new ends (Ok x) c =
    act-close sim part old.book c.0 (ap (λ t. may_close t old.book) ends ∙ c.1) ∙ ap (λ (b : RunBook). (let a : Acted _ = record { part = part; cell = in_book b.book; answer = Ok Done } in a)) (sym c.2)
close-tried sim part old new ends (Err fault) c =
    (elim c.0 [
      | inl b ↦ act-close_closed sim part old.book b.1 ∙ ap (left_alone part (in_book old.book)) (sym b.0)
      | inr b ↦ act-not_close sim part old.book b.1 (ap (λ t. may_close t old.book) ends ∙ b.2) ∙ ap (left_alone part (in_book old.book)) (sym b.0)
    ])
    ∙ ap (λ (b : RunBook). left_alone part (in_book b.book) fault) (sym c.1)

-- a close, as a step that leaves a kernel
pub close-step : {S P K : Type 0} (handlers : Handlers S P K) (config : Config) (k : HeldWorker S P K) {book left : Book} (result : Result Reply Fault)
    → ((part : Part P) → act (simulation_of handlers config) Close part (in_book book) ≡ record { part = part; cell = in_book left; answer = result }) → IfErr result (λ fault. left ≡ book)
    → IsCellStepOf handlers config Close k k (in_book book) (in_book left) result
close-step handlers config k (Ok reply) acts same = record {
  done = record { acts = λ part s. (part, acts part, s); worker = refl; config_is = refl };
  within = λ part s past. past;
  refused = λ part s. tt;
  unchanged = tt;
}
close-step handlers config k (Err fault) acts same = record {
  done = tt;
  within = λ part s. tt;
  refused = λ part s. inl (ap (λ (x : Acted _). x.answer) (acts part));
  unchanged = (refl, ap in_book same);
}
