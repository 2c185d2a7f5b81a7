-- The rule of a station's table tells one list of steps, which a visit makes longer at its end.
use Rattle.std.proofs.Common.{◌≡◌, ℕ, ◌<◌, List, ◌++◌, map, length, append_assoc, sym, ◌∙◌, ap, subst}
use Rattle.std.proofs.lemmas.List.{append_cancel_left, map-append}
use mathlib.Core.Option.{some, some-injective}
use lib.ListN.{get_elem?}
use Rattle.std.proofs.Common.{set, length-set}
use Rattle.std.specs.List.{AllByRecursion}
use Rattle.atomic_table.proofs.Lists.{set_else}
use Rattle.vt_model.specs.declared.settings.Config.{Config}
use Rattle.vt_model.specs.promise.Simulation.{Simulation}
use Rattle.vt_steps.specs.declared.step.Step.{Step}
use Rattle.vt_steps.specs.inside.Marked.{Marked, Made, marked, unmarked}
use Rattle.vt_places.specs.declared.view.View.{View}
use Rattle.vt_places.specs.inside.Kept.{TableState, HasGrown, IsTableRight}
use Rattle.vt_places.proofs.OneList.{AreTold, places-tell, list-grows, marked-again, steps_by, steps-behind, steps-own, steps-told}
use Rattle.vt_places.proofs.Seating.{set-there}

module _ {S P : Type 0} (sim : Simulation S P) (config : Config) where
  -- two lists that the rule allows at one state are one
  pub one-log : (s : TableState P) (k l : IsTableRight sim config s) → k.log ≡ l.log
  one-log s k l = places-tell k.made k.log l.log k.marks (subst (λ (n : ℕ). AllByRecursion (λ (m : Marked). m.worker < n) l.log) (sym l.count ∙ k.count) l.marks) told
    where
      told : AreTold k.made k.log l.log
      told q less =
          let p = k.seated q less in (
            p.view.log,
            subst (λ (n : ℕ). HasGrown n p.view.log k.log) p.worker (k.each p.seat p.view p.there).grows,
            subst (λ (n : ℕ). HasGrown n p.view.log l.log) p.worker (l.each p.seat p.view p.there).grows,
          )

  -- where one seat's view has changed, to one that has left the list longer and has more steps of its own, these stand behind
  -- all others
  pub next-log : (s t : TableState P) (id : ℕ) (v w : View P) (made : List Made) (more : List Marked) (k : IsTableRight sim config s) (l : IsTableRight sim config t)
      → get_elem? s.views id ≡ some v → t.views ≡ set s.views id w → w.worker ≡ v.worker → w.log ≡ v.log ++ more → w.mine ≡ v.mine ++ made → l.log ≡ k.log ++ marked v.worker (map (λ (m : Made). m.step) made)
  next-log s t id v w made more k l at views same_worker left mine =
      let now = l.each id w (ap (λ (vs : List (View P)). get_elem? vs id) views ∙ set-there s.views id v w at) in
      let before = k.each id v at in
      let grown =
      list-grows k.made v.worker k.log l.log v.log (more ++ now.grows.since) k.marks (subst (λ (n : ℕ). AllByRecursion (λ (m : Marked). m.worker < n) l.log) (sym l.count ∙ (ap length views ∙ length-set s.views id w) ∙ k.count) l.marks)
      before.grows (now.grows.whole ∙ ap (λ (marks : List Marked). marks ++ now.grows.since) left ∙ append_assoc v.log more now.grows.since) others in
      let steps_of : List Made → List Step = map (λ (m : Made). m.step) in
      let known : steps_by v.worker k.log ≡ steps_of v.mine = steps-told sim v.worker k.log v.mine before.mine in
      let told : steps_by v.worker l.log ≡ steps_of v.mine ++ steps_of made =
      subst (λ (n : ℕ). steps_by n l.log ≡ steps_of w.mine) same_worker (steps-told sim w.worker l.log w.mine now.mine) ∙ ap steps_of mine ∙ map-append (λ (m : Made). m.step) v.mine made in
      let behind : steps_of v.mine ++ unmarked grown.0 ≡ steps_of v.mine ++ steps_of made =
      ap (λ (xs : List Step). xs ++ unmarked grown.0) (sym known) ∙ ap (λ (xs : List Step). steps_by v.worker k.log ++ xs) (sym (steps-own v.worker grown.0 grown.2))
      ∙ sym (steps-behind v.worker k.log grown.0) ∙ ap (steps_by v.worker) (sym grown.1) ∙ told in
      let new : unmarked grown.0 ≡ steps_of made = append_cancel_left (steps_of v.mine) (unmarked grown.0) (steps_of made) behind in
      grown.1 ∙ ap (λ (marks : List Marked). k.log ++ marks) (marked-again v.worker grown.0 grown.2 ∙ ap (marked v.worker) new)
    where
      others : (q : ℕ) → q < k.made → ¬ (q ≡ v.worker) → (former : List Marked) × HasGrown q former k.log × HasGrown q former l.log
      others q less ne =
          let p = k.seated q less in
          let far : ¬ (p.seat ≡ id) = λ e. ne (sym p.worker ∙ sym (ap (λ (u : View P). u.worker) (some-injective v p.view (sym at ∙ (ap (get_elem? s.views) (sym e) ∙ p.there))))) in
          let there = ap (λ (vs : List (View P)). get_elem? vs p.seat) views ∙ (set_else s.views id p.seat w far ∙ p.there) in (
            p.view.log,
            subst (λ (n : ℕ). HasGrown n p.view.log k.log) p.worker (k.each p.seat p.view p.there).grows,
            subst (λ (n : ℕ). HasGrown n p.view.log l.log) p.worker (l.each p.seat p.view there).grows,
          )
