-- What each place left of a list of marked steps tells the list.
use Rattle.std.proofs.Common.{◌≡◌, inl, inr, ℕ, ◌+◌, ◌<◌, Bool, true, false, cond, List, [], ◌∷◌, ◌++◌, map, length, length-append, append_assoc, refl, sym, ◌∙◌, ap, subst, arith, nat_eq}
use Rattle.std.proofs.Common.{eq-eqb}
use Rattle.std.proofs.lemmas.Bool.Decides.{eqb_tells}
use Rattle.std.proofs.lemmas.List.{append-nil, append_cancel_left, nil_from_length}
use Rattle.std.specs.List.{AllByRecursion}
use Rattle.vt_model.specs.promise.Simulation.{Simulation}
use Rattle.vt_steps.specs.declared.step.Step.{Step}
use Rattle.vt_steps.specs.promise.Next.{next}
use Rattle.vt_steps.specs.promise.World.{World, opening_world}
use Rattle.vt_steps.specs.inside.Marked.{Marked, Made, Answered, answered, unmarked, marked, own_steps, own_steps_of}
use Rattle.vt_key.specs.promise.Lists.{Among}
use Rattle.vt_places.specs.inside.Kept.{HasGrown}
use Rattle.vt_key.proofs.ListLemmas.{among-right, every-all, every-among}

-- the steps of a worker, without their answers
abbrev pub steps_by : ℕ → List Marked → List Step
steps_by w [] = []
steps_by w (m ∷ marks) = cond (nat_eq m.worker w) (m.step ∷ steps_by w marks) (steps_by w marks)

pub steps-own : (w : ℕ) (marks : List Marked) → AllByRecursion (λ m. m.worker ≡ w) marks → steps_by w marks ≡ unmarked marks
steps-own w [] own = refl
steps-own w (m ∷ marks) own = ap (λ b. cond b (m.step ∷ steps_by w marks) (steps_by w marks)) (eq-eqb m.worker w own.0) ∙ ap (λ (l : List Step). m.step ∷ l) (steps-own w marks own.1)

module _ {S P : Type 0} (sim : Simulation S P) where
  map-cond : (b : Bool) (a : Answered) (l : List Answered) → map (λ (x : Answered). x.step) (cond b (a ∷ l) l) ≡ cond b (a.step ∷ map (λ (x : Answered). x.step) l) (map (λ (x : Answered). x.step) l)
  map-cond true a l = refl
  map-cond false a l = refl

  pub steps-answered : (w : ℕ) (world : World P) (marks : List Marked) → map (λ (a : Answered). a.step) (own_steps sim w world marks) ≡ steps_by w marks
  unfolding own_steps
  steps-answered w world [] = refl
  steps-answered w world (m ∷ marks) =
      let outcome = next sim world m.step in
      map-cond (nat_eq m.worker w) (record { step = m.step; answer = outcome.answer }) (own_steps sim w outcome.world marks)
      ∙ ap (λ (l : List Step). cond (nat_eq m.worker w) (m.step ∷ l) l) (steps-answered w outcome.world marks)

-- the steps that were made, by their answers
steps-made : (mine : List Made) → map (λ (a : Answered). a.step) (map answered mine) ≡ map (λ (m : Made). m.step) mine
steps-made [] = refl
steps-made (m ∷ mine) = ap (λ (l : List Step). m.step ∷ l) (steps-made mine)

-- where the steps of a worker in a list are its own, these are they
pub steps-told : {S P : Type 0} (sim : Simulation S P) (w : ℕ) (log : List Marked) (mine : List Made) → own_steps_of sim w log ≡ map answered mine → steps_by w log ≡ map (λ (m : Made). m.step) mine
steps-told sim w log mine own = sym (steps-answered sim w (opening_world sim 0) log) ∙ ap (map (λ (a : Answered). a.step)) own ∙ steps-made mine

-- the steps of a worker in one list and another behind it
pub steps-behind : (w : ℕ) (xs ys : List Marked) → steps_by w (xs ++ ys) ≡ steps_by w xs ++ steps_by w ys
steps-behind w [] ys = refl
steps-behind w (x ∷ xs) ys =
    elim (nat_eq x.worker w) as (λ b. cond b (x.step ∷ steps_by w (xs ++ ys)) (steps_by w (xs ++ ys)) ≡ cond b (x.step ∷ steps_by w xs) (steps_by w xs) ++ steps_by w ys) [
      | true ↦ ap (λ (l : List Step). x.step ∷ l) (steps-behind w xs ys)
      | false ↦ steps-behind w xs ys
    ]

-- steps that are all marked with one worker are these steps, marked with it
pub marked-again : (w : ℕ) (marks : List Marked) → AllByRecursion (λ m. m.worker ≡ w) marks → marks ≡ marked w (unmarked marks)
marked-again w [] own = refl
marked-again w (m ∷ marks) own = λ j. record { worker = own.0 j; step = m.step } ∷ marked-again w marks own.1 j

differs : (q w : ℕ) → nat_eq q w ≡ false → ¬ (q ≡ w)
differs q w no_same same = absurd (let h : true ≡ false = sym (eq-eqb q w same) ∙ no_same in cc)

-- ---- one list

-- the last of a list that begins with this one
abbrev last_of : {X : Type 0} → X → List X → X
last_of x [] = x
last_of x (y ∷ ys) = last_of y ys

last-behind : {X : Type 0} (x : X) (xs : List X) (y : X) (ys : List X) → last_of x (xs ++ y ∷ ys) ≡ last_of y ys
last-behind x [] y ys = refl
last-behind x (z ∷ zs) y ys = last-behind z zs y ys

last-each : {X : Type 0} (Q : X → Type 0) (x : X) (xs : List X) → Q x → AllByRecursion Q xs → Q (last_of x xs)
last-each Q x [] here rest = here
last-each Q x (y ∷ ys) here rest = last-each Q y ys rest.0 rest.1

-- the worker of the last step has left the whole list
all-left : (m : Marked) (ms former : List Marked) → HasGrown (last_of m ms).worker former (m ∷ ms) → m ∷ ms ≡ former
all-left m ms former g = by_rest g.since g.whole g.others
  where
    w : ℕ
    w = (last_of m ms).worker

    by_rest : (since : List Marked) → m ∷ ms ≡ former ++ since → AllByRecursion (λ (x : Marked). ¬ (x.worker ≡ w)) since → m ∷ ms ≡ former
    by_rest [] whole others = whole ∙ append-nil former
    by_rest (n ∷ ns) whole others =
        let same : last_of m ms ≡ last_of n ns = ap (last_of m) whole ∙ last-behind m former n ns in
        absurd (last-each (λ (x : Marked). ¬ (x.worker ≡ w)) n ns others.0 others.1 (ap (λ (x : Marked). x.worker) (sym same)))

-- each place has left the beginning of both lists
abbrev pub AreTold : ℕ → List Marked → List Marked → Type 0
AreTold workers log other = (q : ℕ) → q < workers → (former : List Marked) × HasGrown q former log × HasGrown q former other

-- each place has left the beginning of one list, and another list begins so too
abbrev AreBegun : ℕ → List Marked → List Marked → Type 0
AreBegun workers log other = (q : ℕ) → q < workers → (former : List Marked) × HasGrown q former log × ((since : List Marked) × (other ≡ former ++ since))

-- so the other goes on where the one ends
goes-on : (workers : ℕ) (log other : List Marked) → AllByRecursion (λ m. m.worker < workers) log → AreBegun workers log other → (more : List Marked) × (other ≡ log ++ more)
goes-on workers [] other few begun = (other, refl)
goes-on workers (m ∷ ms) other few begun =
    let t = begun (last_of m ms).worker (last-each (λ (x : Marked). x.worker < workers) m ms few.0 few.1) in
    (t.2.0, t.2.1 ∙ ap (λ (l : List Marked). l ++ t.2.0) (sym (all-left m ms t.0 t.1)))

pub places-tell : (workers : ℕ) (log other : List Marked) → AllByRecursion (λ m. m.worker < workers) log → AllByRecursion (λ m. m.worker < workers) other → AreTold workers log other → log ≡ other
places-tell workers log other few few_other told =
    let a = goes-on workers log other few (λ q less. (let t = told q less in (t.0, t.1, (t.2.since, t.2.whole)))) in
    let b = goes-on workers other log few_other (λ q less. (let t = told q less in (t.0, t.2, (t.1.since, t.1.whole)))) in
    let more : length other ≡ length log + length a.0 = ap length a.1 ∙ length-append log a.0 in
    let less : length log ≡ length other + length b.0 = ap length b.1 ∙ length-append other b.0 in
    let none : b.0 ≡ [] = nil_from_length b.0 (omega arith) in
    b.1 ∙ ap (λ (l : List Marked). other ++ l) none ∙ append-nil other

-- two lists of which all places but one have left the same, and of which that place's begin alike: the other is the one with
-- steps of that place alone behind it
pub list-grows : (workers w : ℕ) (log other former since : List Marked) → AllByRecursion (λ m. m.worker < workers) log → AllByRecursion (λ m. m.worker < workers) other
    → HasGrown w former log → other ≡ former ++ since
    → ((q : ℕ) → q < workers → ¬ (q ≡ w) → (former : List Marked) × HasGrown q former log × HasGrown q former other)
    → (more : List Marked) × (other ≡ log ++ more) × AllByRecursion (λ m. m.worker ≡ w) more
list-grows workers w log other former since few few_other left begins others = (grown.0, grown.1, every-all (λ (m : Marked). m.worker ≡ w) grown.0 own)
  where
    begun : AreBegun workers log other
    begun q less = elim (eqb_tells q w) [
      | inl t ↦ subst (λ (n : ℕ). (former : List Marked) × HasGrown n former log × ((since : List Marked) × (other ≡ former ++ since))) (sym t.1) (former, left, (since, begins))
      | inr t ↦ (let o = others q less (differs q w t.0) in (o.0, o.1, (o.2.since, o.2.whole)))
    ]

    grown : (more : List Marked) × (other ≡ log ++ more)
    grown = goes-on workers log other few begun

    own : (m : Marked) → Among m grown.0 → m.worker ≡ w
    own m there = elim (eqb_tells m.worker w) [
      | inl t ↦ t.1
      | inr t ↦
          let less : m.worker < workers = every-among (λ (x : Marked). x.worker < workers) other m few_other (subst (Among m) (sym grown.1) (among-right m log grown.0 there)) in
          let o = others m.worker less (differs m.worker w t.0) in
          let behind : o.2.since ≡ o.1.since ++ grown.0 =
          append_cancel_left o.0 o.2.since (o.1.since ++ grown.0) (sym o.2.whole ∙ grown.1 ∙ ap (λ (l : List Marked). l ++ grown.0) o.1.whole ∙ append_assoc o.0 o.1.since grown.0) in
          absurd (every-among (λ (x : Marked). ¬ (x.worker ≡ m.worker)) o.2.since m o.2.others (subst (Among m) (sym behind) (among-right m o.1.since grown.0 there)) refl)
    ]
