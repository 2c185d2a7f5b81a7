-- The opening world, made worker by worker.
use Rattle.std.proofs.Common.{◌≡◌, ℕ, zero, suc, ◌+◌, List, [], ◌∷◌, ◌++◌, map, length, replicate, sym, ◌∙◌, ap, subst, arith}
use Rattle.std.specs.List.{range_with_len}
use Rattle.std.proofs.lemmas.List.Elements.{All-nil}
use Rattle.vt_key.specs.declared.letter.Mail.{Mail}
use Rattle.vt_model.specs.declared.settings.Config.{Config}
use Rattle.vt_model.specs.promise.Handler.{Handlers}
use Rattle.vt_model.specs.promise.Simulation.{Simulation, simulation_of}
use Rattle.vt_model.specs.promise.Settings.{end_of}
use Rattle.vt_steps.specs.promise.World.{Part, Board, Book, opening_part, opening_board, opening_book, opening_world}
use Rattle.vt_steps.specs.declared.step.Step.{Step}
use Rattle.vt_steps.specs.promise.Next.{run, reached}
use Rattle.vt_steps.specs.inside.StandsFor.{StandsForPart, StandForParts}
use Rattle.vt_kernel.specs.inside.Held.{HeldWorker, part_memory, IsOwnMail}
use Rattle.vt_world.specs.inside.Held.{held_world, StandsForWorld, IsReached, AreWorkers, AreInboxes}

module _ {S P K : Type 0} where
  -- one more worker
  pub workers-push : (config : Config) (base : ℕ) (held : List (HeldWorker S P K)) (k : HeldWorker S P K)
      → AreWorkers config base held → k.worker ≡ base + length held → k.config ≡ config → AreWorkers config base (held ++ k ∷ [])
  workers-push config base [] k h is of = let here : base + 0 ≡ base = omega arith in (is ∙ here, of, tt)
  workers-push config base (x ∷ xs) k h is of =
      let here : base + length (x ∷ xs) ≡ (base + 1) + length xs = omega arith in
      (h.0, h.1, workers-push config (base + 1) xs k h.2 (is ∙ here) of)

  -- that stands for one more part
  pub stand-push : (handlers : Handlers S P K) (sim : Simulation S P) (base : ℕ) (held : List (HeldWorker S P K)) (parts : List (Part P)) (k : HeldWorker S P K) (part : Part P)
      → StandForParts sim base (map (part_memory handlers) held) parts → StandsForPart sim (base + length held) (part_memory handlers k) part
      → StandForParts sim base (map (part_memory handlers) (held ++ k ∷ [])) (parts ++ part ∷ [])
  stand-push handlers sim base [] [] k part h is =
      let here : base + 0 ≡ base = omega arith in
      (subst (λ b. StandsForPart sim b (part_memory handlers k) part) here is, tt)
  stand-push handlers sim base [] (q ∷ qs) k part h is = absurd h
  stand-push handlers sim base (x ∷ xs) [] k part h is = absurd h
  stand-push handlers sim base (x ∷ xs) (q ∷ qs) k part h is =
      let here : base + length (x ∷ xs) ≡ (base + 1) + length xs = omega arith in
      (h.0, stand-push handlers sim (base + 1) xs qs k part h.1 (subst (λ b. StandsForPart sim b (part_memory handlers k) part) here is))

-- inboxes without mail hold mail for their workers alone
pub inboxes-empty : (P : Type 0) (config : Config) (base n : ℕ) → AreInboxes config base (let none : List (Mail P) = [] in replicate n none)
inboxes-empty P config base zero = tt
inboxes-empty P config base (suc n) = (All-nil (IsOwnMail config base), inboxes-empty P config (base + 1) n)

-- no step was done
pub reached-none : {S P : Type 0} (sim : Simulation S P) (serial : ℕ) (steps : List Step) → steps ≡ [] → reached sim serial steps ≡ opening_world sim serial
unfolding run
reached-none sim serial steps none = ap (reached sim serial) none

module _ {M S P K : Type 0} (handlers : Handlers S P K) (model : M) (config : Config) (serial : ℕ) (workers : List (HeldWorker S P K)) (inboxes : List (List (Mail P))) (board : Board) (book : Book)
    (parts : StandForParts (simulation_of handlers config) 0 (map (part_memory handlers) workers) (map (opening_part (simulation_of handlers config) serial) (range_with_len 0 config.workers)))
    (boxes : inboxes ≡ replicate config.workers []) (board_is : board ≡ opening_board config.workers (end_of config)) (book_is : book ≡ opening_book config.workers) where
  -- these stand for the opening world
  pub stands-opening : StandsForWorld handlers (held_world model config workers inboxes board book) (opening_world (simulation_of handlers config) serial)
  unfolding opening_world
  stands-opening = record { parts = parts; inboxes = sym boxes; board = sym board_is; book = sym book_is }

  -- which is reached by no step
  pub reached-opening : ∥ ((first : ℕ) × IsReached handlers first (held_world model config workers inboxes board book)) ∥₁
  unfolding run
  reached-opening = ∣ (serial, ([], stands-opening)) ∣₁
