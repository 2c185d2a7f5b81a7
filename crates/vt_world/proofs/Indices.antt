-- Workers and inboxes looked up and changed, and what a world keeps to then.
use Rattle.std.proofs.Common.{◌≡◌, ℕ, zero, suc, ◌+◌, ◌%◌, ◌<◌, List, [], ◌∷◌, length, refl, sym, ◌∙◌, ap, subst, arith, Some, None, Ok, slice_get, slice_set, slice_index_or}
use Rattle.std.proofs.lemmas.List.{length-set}
use Rattle.std.proofs.lemmas.Option.{slice_get_read}
use Rattle.vt_key.specs.promise.Times.{Time}
use Rattle.vt_key.specs.declared.letter.Mail.{Mail}
use Rattle.vt_model.specs.declared.settings.Config.{Config}
use Rattle.vt_model.specs.promise.Handler.{Handlers}
use Rattle.vt_model.specs.promise.Simulation.{simulation_of}
use Rattle.vt_steps.specs.declared.step.Step.{Step}
use Rattle.vt_steps.specs.declared.step.Reply.{Reply}
use Rattle.vt_steps.specs.promise.World.{Board, Book}
use Rattle.vt_steps.specs.inside.StandsFor.{GoesOn}
use Rattle.vt_kernel.specs.inside.Held.{HeldWorker, AllOwnMail, IsProcessOf}
use Rattle.vt_kernel.proofs.Written.{put-there}
use Rattle.vt_world.specs.inside.Held.{HeldWorld, held_world, world_memory, AreWorkers, AreInboxes, IsWorldInside}
use Rattle.vt_world.proofs.WorldLemmas.{IsSame, worker-at, workers-changed}
use Rattle.vt_world.proofs.WorldSteps.{who}
use Rattle.vt_world.proofs.StepLemmas.{inside-stepped}

module _ {P : Type 0} (config : Config) where
  -- the inbox at an index holds mail for its worker
  pub inbox-at : (base w : ℕ) (inboxes : List (List (Mail P))) (inbox : List (Mail P)) → AreInboxes config base inboxes → slice_get inboxes w ≡ Some inbox → AllOwnMail config (base + w) inbox
  inbox-at base w [] inbox h at = absurd (let k : None ≡ Some inbox = at in cc)
  inbox-at base zero (x ∷ xs) inbox h at =
      let k : Some x ≡ Some inbox = at in
      let same : x ≡ inbox = cc in
      let here : base ≡ base + 0 = omega arith in
      subst (AllOwnMail config (base + 0)) same (subst (λ n. AllOwnMail config n x) here h.0)
  inbox-at base (suc w) (x ∷ xs) inbox h at =
      let here : (base + 1) + w ≡ base + suc w = omega arith in
      subst (λ n. AllOwnMail config n inbox) here (inbox-at (base + 1) w xs inbox h.1 at)

  -- a changed inbox
  pub inboxes-changed : (base w : ℕ) (inboxes : List (List (Mail P))) (inbox : List (Mail P)) → AreInboxes config base inboxes → AllOwnMail config (base + w) inbox → AreInboxes config base (slice_set inboxes w inbox)
  inboxes-changed base w [] inbox h own = h
  inboxes-changed base zero (x ∷ xs) inbox h own =
      let here : base + 0 ≡ base = omega arith in
      (subst (λ n. AllOwnMail config n inbox) here own, h.1)
  inboxes-changed base (suc w) (x ∷ xs) inbox h own =
      let here : base + suc w ≡ (base + 1) + w = omega arith in
      (h.0, inboxes-changed (base + 1) w xs inbox h.1 (subst (λ n. AllOwnMail config n inbox) here own))

-- the worker and the inbox that an index finds
module _ {M S P K : Type 0} {handlers : Handlers S P K} {held : HeldWorld M S P K} {board_end book_end : Time} (inside : IsWorldInside handlers held board_end book_end) {w : ℕ} where
  pub worker-there : {k : HeldWorker S P K} → w < held.config.workers → k ≡ slice_index_or held.workers w k → slice_get held.workers w ≡ Some k
  worker-there {k} below is = slice_get_read held.workers (length held.workers) w k refl (let size = inside.all_workers in omega (arith, size, below)) is

  pub inbox-there : {inbox : List (Mail P)} → w < held.config.workers → inbox ≡ slice_index_or held.inboxes w inbox → slice_get held.inboxes w ≡ Some inbox
  inbox-there {inbox} below is = slice_get_read held.inboxes (length held.inboxes) w inbox refl (let size = inside.all_inboxes in omega (arith, size, below)) is

  -- the mail of an inbox is its worker's
  pub own-mail : {inbox : List (Mail P)} → slice_get held.inboxes w ≡ Some inbox → AllOwnMail held.config w inbox
  own-mail {inbox} here = let plain : 0 + w ≡ w = omega arith in subst (λ n. AllOwnMail held.config n inbox) plain (inbox-at held.config 0 w held.inboxes inbox inside.own_inboxes here)

-- a world of which a part was put back as it was
module _ {M S P K : Type 0} {handlers : Handlers S P K} {held : HeldWorld M S P K} {board_end book_end : Time} (inside : IsWorldInside handlers held board_end book_end) where
  pub put-back : (w : ℕ) {k new : HeldWorker S P K} {inboxes : List (List (Mail P))} → slice_get held.workers w ≡ Some k → new ≡ k → inboxes ≡ held.inboxes
      → record held { workers = slice_set held.workers w new; inboxes = inboxes } ≡ held
  put-back w {k} {new} at same unread =
      let workers : slice_set held.workers w new ≡ held.workers = ap (slice_set held.workers w) same ∙ put-there held.workers w k at in
      (λ j. record held { workers = workers j; inboxes = unread j })

  pub mail-back : (w : ℕ) {inbox new : List (Mail P)} → slice_get held.inboxes w ≡ Some inbox → new ≡ inbox → slice_set held.inboxes w new ≡ held.inboxes
  mail-back w {inbox} here same = ap (slice_set held.inboxes w) same ∙ put-there held.inboxes w inbox here

-- the worker that has a process
module _ {M S P K : Type 0} {handlers : Handlers S P K} {held : HeldWorld M S P K} {board_end book_end : Time} (inside : IsWorldInside handlers held board_end book_end) (p : ℕ) {k : HeldWorker S P K} where
  pub owner-there : {owner : ℕ} → owner ≡ p % held.config.workers → owner < held.config.workers → k ≡ slice_index_or held.workers owner k → slice_get held.workers (p % held.config.workers) ≡ Some k
  owner-there owns below is = subst (λ w. slice_get held.workers w ≡ Some k) owns (worker-there inside below is)

  pub is-own : slice_get held.workers (p % held.config.workers) ≡ Some k → p < held.config.lps → IsProcessOf k.config k.worker p
  is-own at less =
      let is = who inside at in
      record { known = subst (λ (c : Config). p < c.lps) (sym is.1) less; own = ap (λ (c : Config). p % c.workers) is.1 ∙ sym is.0 }

module _ {M S P K : Type 0} {handlers : Handlers S P K} {held : HeldWorld M S P K} {board_end book_end : Time} (inside : IsWorldInside handlers held board_end book_end) (w : ℕ) {k : HeldWorker S P K} (at : slice_get held.workers w ≡ Some k) (new : HeldWorker S P K) (same : IsSame new k) where
  -- the workers after one of them changed
  pub are-workers : AreWorkers held.config 0 (slice_set held.workers w new)
  are-workers =
      let is = worker-at held.config 0 w held.workers k inside.own_workers at in
      workers-changed held.config 0 w held.workers new inside.own_workers (same.0 ∙ is.0) (same.1 ∙ is.1)

  -- a step changes a worker
  pub inside-worker : (step : Step) (reply : Reply) (board : Board) (book : Book) {new_board_end new_book_end : Time} → new_board_end ≡ board_end → new_book_end ≡ book_end
      → GoesOn (simulation_of handlers held.config) step (Ok reply) (world_memory handlers held) (world_memory handlers (held_world held.model held.config (slice_set held.workers w new) held.inboxes board book))
      → IsWorldInside handlers (held_world held.model held.config (slice_set held.workers w new) held.inboxes board book) new_board_end new_book_end
  inside-worker step reply board book same_board same_book goes =
      inside-stepped inside step reply (slice_set held.workers w new) held.inboxes board book (length-set held.workers w new) are-workers
      refl inside.own_inboxes same_board same_book goes
