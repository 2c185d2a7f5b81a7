-- Runs of marked steps: one list and then another, and what a worker's own steps leave alone.
use Rattle.std.proofs.Common.{◌≡◌, ℕ, Bool, true, false, cond, List, [], ◌∷◌, ◌++◌, refl, sym, ◌∙◌, ap, subst, nat_eq}
use Rattle.std.proofs.Common.{eq-eqb, ne_eqb}
use Rattle.std.proofs.lemmas.List.{append_assoc, append-nil}
use Rattle.std.specs.List.{AllByRecursion}
use Rattle.vt_model.specs.promise.Simulation.{Simulation}
use Rattle.vt_steps.specs.declared.step.Step.{Step}
use Rattle.vt_steps.specs.inside.Marked.{Marked, Answered, unmarked, marked, IsMarkedRight, own_steps, shown}
use Rattle.vt_steps.specs.promise.Next.{next, run}
use Rattle.vt_steps.specs.promise.World.{World, opening_world}
use Rattle.vt_steps.proofs.steps.MemoryLemmas.{run-append}

-- ---- lists

pub unmarked-append : (xs ys : List Marked) → unmarked (xs ++ ys) ≡ unmarked xs ++ unmarked ys
unmarked-append [] ys = refl
unmarked-append (x ∷ xs) ys = ap (λ l. x.step ∷ l) (unmarked-append xs ys)

pub unmarked-marked : (w : ℕ) (steps : List Step) → unmarked (marked w steps) ≡ steps
unmarked-marked w [] = refl
unmarked-marked w (step ∷ steps) = ap (λ l. step ∷ l) (unmarked-marked w steps)

pub marked-append : (w : ℕ) (xs ys : List Step) → marked w (xs ++ ys) ≡ marked w xs ++ marked w ys
marked-append w [] ys = refl
marked-append w (x ∷ xs) ys = ap (λ l. record { worker = w; step = x } ∷ l) (marked-append w xs ys)

-- all steps that a worker is marked with are its own
pub each-marked : (w : ℕ) (steps : List Step) → AllByRecursion (λ m. m.worker ≡ w) (marked w steps)
each-marked w [] = tt
each-marked w (step ∷ steps) = (refl, each-marked w steps)

-- ---- runs

module _ {S P : Type 0} (sim : Simulation S P) where
  cons-append : (b : Bool) (a : Answered) (xs ys : List Answered) → cond b (a ∷ (xs ++ ys)) (xs ++ ys) ≡ cond b (a ∷ xs) xs ++ ys
  cons-append true a xs ys = refl
  cons-append false a xs ys = refl

  -- one list and then another
  pub own-append : (w : ℕ) (world : World P) (marks more : List Marked) →
      own_steps sim w world (marks ++ more) ≡ own_steps sim w world marks ++ own_steps sim w (run sim world (unmarked marks)) more
  unfolding own_steps run
  own-append w world [] more = refl
  own-append w world (m ∷ marks) more =
      let outcome = next sim world m.step in
      let a : Answered = record { step = m.step; answer = outcome.answer } in
      ap (λ (l : List Answered). cond (nat_eq m.worker w) (a ∷ l) l) (own-append w outcome.world marks more)
      ∙ cons-append (nat_eq m.worker w) a (own_steps sim w outcome.world marks) (own_steps sim w (run sim outcome.world (unmarked marks)) more)

  -- steps of other workers are none of one's own
  pub own-others : (w : ℕ) (world : World P) (marks : List Marked) → AllByRecursion (λ m. ¬ (m.worker ≡ w)) marks → own_steps sim w world marks ≡ []
  unfolding own_steps
  own-others w world [] others = refl
  own-others w world (m ∷ marks) others =
      let outcome = next sim world m.step in
      let a : Answered = record { step = m.step; answer = outcome.answer } in
      ap (λ b. cond b (a ∷ own_steps sim w outcome.world marks) (own_steps sim w outcome.world marks)) (ne_eqb m.worker w others.0)
      ∙ own-others w outcome.world marks others.1

  -- a step of one's own comes first
  pub own-first : (w : ℕ) (world : World P) (step : Step) (marks : List Marked) →
      own_steps sim w world (record { worker = w; step = step } ∷ marks) ≡ record { step = step; answer = (next sim world step).answer } ∷ own_steps sim w (next sim world step).world marks
  unfolding own_steps
  own-first w world step marks =
      let outcome = next sim world step in
      let a : Answered = record { step = step; answer = outcome.answer } in
      ap (λ b. cond b (a ∷ own_steps sim w outcome.world marks) (own_steps sim w outcome.world marks)) (eq-eqb w w refl)

  -- the shown world after more steps
  pub shown-append : (marks more : List Marked) → shown sim (marks ++ more) ≡ run sim (shown sim marks) (unmarked more)
  shown-append marks more = ap (run sim (opening_world sim 0)) (unmarked-append marks more) ∙ run-append sim (opening_world sim 0) (unmarked marks) (unmarked more)

  -- and with more steps of one worker
  pub shown-marked : (marks : List Marked) (w : ℕ) (steps : List Step) → shown sim (marks ++ marked w steps) ≡ run sim (shown sim marks) steps
  shown-marked marks w steps = shown-append marks (marked w steps) ∙ ap (run sim (shown sim marks)) (unmarked-marked w steps)

  -- what holds of a world and a worker's own steps on the way to it, each step keeping it, holds after a list of steps
  pub own-keeps : (w : ℕ) (Keeps : World P → List Answered → Type 0) →
      ((world : World P) (own : List Answered) (m : Marked) → IsMarkedRight sim m → Keeps world own → Keeps (next sim world m.step).world (own ++ own_steps sim w world (m ∷ []))) →
      (marks : List Marked) (world : World P) (own : List Answered) → AllByRecursion (IsMarkedRight sim) marks → Keeps world own → Keeps (run sim world (unmarked marks)) (own ++ own_steps sim w world marks)
  unfolding run own_steps
  own-keeps w Keeps kept [] world own right holds = subst (λ l. Keeps world l) (sym (append-nil own)) holds
  own-keeps w Keeps kept (m ∷ marks) world own right holds =
      let new = (next sim world m.step).world in
      let here : List Answered = own_steps sim w world (m ∷ []) in
      subst (λ l. Keeps (run sim new (unmarked marks)) l) (append_assoc own here (own_steps sim w new marks) ∙ ap (λ l. own ++ l) (sym (own-append w world (m ∷ []) marks)))
      (own-keeps w Keeps kept marks new (own ++ here) right.1 (kept world own m right.0 holds))
