-- Lists of steps, one step after the other.
use Rattle.std.proofs.Common.{◌≡◌, ℕ, ◌+◌, ◌⊎◌, inl, inr, List, [], ◌∷◌, ◌++◌, take, refl, sym, ◌∙◌, ap, subst, arith, Result, Ok, Err, IfOk, IfErr, OnOk, cond}
use Rattle.std.proofs.lemmas.List.Sums.{sum_by-append}
use Rattle.std.specs.Result.{is_err}
use Rattle.vt_key.specs.declared.fault.Fault.{Fault}
use Rattle.vt_key.specs.declared.fault.Fault.TheVariants.{Memory, NotLawful, Closed, Exhausted}
use Rattle.vt_model.specs.promise.Simulation.{Simulation}
use Rattle.vt_steps.specs.declared.step.Step.{Step}
use Rattle.vt_steps.specs.declared.step.Reply.{Reply}
use Rattle.vt_steps.specs.promise.World.{World}
use Rattle.vt_steps.specs.promise.Next.{next, run, answers}
use Rattle.vt_steps.proofs.steps.MemoryLemmas.{run-append}
use Rattle.vt_steps.proofs.steps.Refusals.{refusals as refusal-laws}
use Rattle.vt_kernel.specs.promise.Refusals.{PassesLimit, IsSpent, IsStepRefusal}
use Rattle.vt_world.specs.promise.Calls.{IsStepOf, AreWithinLimits, refusals}
use Rattle.vt_world.specs.inside.Calls.{IsAnsweredBy}

module _ {S P : Type 0} (sim : Simulation S P) where
  -- no step
  pub run-none : (world : World P) → world ≡ run sim world []
  unfolding run
  run-none world = refl

  pub answers-none : (world : World P) → 0 ≡ refusals (answers sim world [])
  unfolding answers
  answers-none world = refl

  answers-more : (world : World P) (steps : List Step) (step : Step) → answers sim world (steps ++ step ∷ []) ≡ answers sim world steps ++ (next sim (run sim world steps) step).answer ∷ []
  unfolding run answers
  answers-more world [] step = refl
  answers-more world (first ∷ steps) step = ap (λ rest. (next sim world first).answer ∷ rest) (answers-more (next sim world first).world steps step)

  within-more : (world : World P) (steps more : List Step) → AreWithinLimits sim world steps → AreWithinLimits sim (run sim world steps) more → AreWithinLimits sim world (steps ++ more)
  unfolding run
  within-more world [] more first rest = rest
  within-more world (step ∷ steps) more first rest = (first.0, within-more (next sim world step).world steps more first.1 rest)

  -- one more step
  module _ (first mid new : World P) (steps : List Step) (at : ℕ) (step : Step) (more : ℕ) (here : take (at + 1) steps ≡ take at steps ++ step ∷ []) (ran : mid ≡ run sim first (take at steps)) (is : IsAnsweredBy sim step mid new more) where
    pub run-on : new ≡ run sim first (take (at + 1) steps)
    unfolding run
    run-on = is.goes ∙ ap (λ w. (next sim w step).world) ran ∙ sym (run-append sim first (take at steps) (step ∷ [])) ∙ ap (run sim first) (sym here)

    pub within-on : AreWithinLimits sim first (take at steps) → AreWithinLimits sim first (take (at + 1) steps)
    within-on so_far =
        subst (AreWithinLimits sim first) (sym here)
        (within-more first (take at steps) (step ∷ []) so_far (subst (λ w. AreWithinLimits sim w (step ∷ [])) ran is.within))

    pub count-on : (refused : ℕ) → refused ≡ refusals (answers sim first (take at steps)) → refused + more ≡ refusals (answers sim first (take (at + 1) steps))
    count-on refused so_far =
        let answer : World P → Result Reply Fault = λ w. (next sim w step).answer in
        (λ i. so_far i + (is.counted ∙ ap (λ w. refusals (answer w ∷ [])) ran) i)
        ∙ sym (sum_by-append (λ (a : Result Reply Fault). cond (is_err a) 1 0) (answers sim first (take at steps)) (answer (run sim first (take at steps)) ∷ []))
        ∙ ap refusals (sym (answers-more first (take at steps) step)) ∙ ap (λ xs. refusals (answers sim first xs)) (sym here)

  module _ (step : Step) (old new : World P) where
    -- a step that isn't lawful, or that the closed book refuses
    answered-err : (fault : Fault) → IsStepOf sim step old new (Err fault) → (fault ≡ NotLawful) ⊎ (fault ≡ Closed) → IsAnsweredBy sim step old new 1
    answered-err fault is plain =
        elim is.1 [
          | inl e ↦ record {
            goes = is.0 ∙ sym ((refusal-laws sim old step).keeps fault e);
            within = (subst (λ (a : Result Reply Fault). OnOk a (PassesLimit sim step (next sim old step).world → ⊥)) (sym e) tt, tt);
            counted = ap (λ a. refusals (a ∷ [])) (sym e);
            one = omega arith;
          }
          | inr a ↦ absurd (elim plain [
            | inl p ↦ elim a.2 [
              | inl b ↦ (let k : NotLawful ≡ Exhausted = sym p ∙ b.0 in cc)
              | inr b ↦ (let k : NotLawful ≡ Memory = sym p ∙ b.0 in cc)
            ]
            | inr p ↦ elim a.2 [
              | inl b ↦ (let k : Closed ≡ Exhausted = sym p ∙ b.0 in cc)
              | inr b ↦ (let k : Closed ≡ Memory = sym p ∙ b.0 in cc)
            ]
          ])
        ]

    -- any other one is lawful, and can't be done
    spent-err : (fault : Fault) → IsStepRefusal sim step old fault → (fault ≡ NotLawful → ⊥) → (fault ≡ Closed → ⊥) → IsSpent sim step old fault
    spent-err fault why lawful unclosed =
        elim why [
          | inl e ↦ absurd (elim ((refusal-laws sim old step).other fault e) [ inl p ↦ lawful p | inr p ↦ unclosed p ])
          | inr a ↦ a
        ]

    -- what a fault comes to in a list of steps
    pub passed : (fault : Fault) (result : Result ℕ Fault) → IsStepOf sim step old new (Err fault)
        → IfOk result (λ more. (more ≡ 1) × ((fault ≡ NotLawful) ⊎ (fault ≡ Closed))) → IfErr result (λ why. (why ≡ fault) × (fault ≡ NotLawful → ⊥) × (fault ≡ Closed → ⊥))
        → IfOk result (IsAnsweredBy sim step old new) × IfErr result (λ why. IsSpent sim step old why × (new ≡ old))
    passed fault (Ok more) is over stops = (subst (IsAnsweredBy sim step old new) (sym over.0) (answered-err fault is over.1), tt)
    passed fault (Err why) is over stops = (tt, (subst (IsSpent sim step old) (sym stops.0) (spent-err fault is.1 stops.1 stops.2), is.0))
