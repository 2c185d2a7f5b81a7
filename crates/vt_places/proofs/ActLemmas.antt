-- A fetch of nothing does nothing.
use Rattle.std.proofs.Common.{◌≡◌, ℕ, ◌+◌, ◌<◌, ◌⊎◌, inl, inr, true, false, List, [], ◌∷◌, refl, sym, ◌∙◌, ap, subst, arith}
use Rattle.vt_key.specs.declared.limits.TheConstants.{MAX_COUNT}
use Rattle.vt_key.specs.declared.letter.Mail.{Mail}
use Rattle.vt_model.specs.declared.settings.Config.{Config}
use Rattle.vt_model.specs.promise.Handler.{Handlers}
use Rattle.vt_model.specs.promise.Simulation.{simulation_of}
use Rattle.vt_steps.specs.declared.step.Step.TheVariants.{Fetch}
use Rattle.vt_steps.specs.declared.step.Reply.TheVariants.{Done}
use Rattle.vt_steps.specs.promise.Letters.{Counts, is_empty}
use Rattle.vt_steps.specs.promise.World.{Part}
use Rattle.vt_steps.specs.promise.PartSteps.{part_after_fetch}
use Rattle.vt_steps.specs.inside.Cells.{in_inbox}
use Rattle.vt_kernel.specs.inside.Held.{HeldWorker, StandsFor, AreCounted}
use Rattle.vt_kernel.specs.promise.Refusals.{PassesIn}
use Rattle.vt_cells.specs.inside.Calls.{Acts}
use Rattle.vt_cells.proofs.ActLemmas.{act-fetch}

module _ {P : Type 0} where
  none-there : (mails : List (Mail P)) → is_empty mails ≡ true → mails ≡ []
  none-there [] e = refl
  none-there (mail ∷ mails) e = absurd (let h : false ≡ true = e in cc)

  -- it leaves a part as it is
  fetched-same : (part : Part P) → part.arrived ≡ [] → part_after_fetch [] part ≡ part
  unfolding part_after_fetch
  fetched-same part none =
      let white : part.got.white + 0 ≡ part.got.white = omega arith in
      let red : part.got.red + 0 ≡ part.got.red = omega arith in
      λ i. record part { arrived = sym none i; got = record { white = white i; red = red i } }

-- and a kernel
pub fetches-nothing : {S P K : Type 0} (handlers : Handlers S P K) (config : Config) (w : ℕ) (k : HeldWorker S P K) → is_empty k.arrived ≡ true → Acts handlers config (Fetch w) Done k (in_inbox []) k (in_inbox [])
fetches-nothing handlers config w k empty = record {
  acts = λ part s.
      (let none : part.arrived ≡ [] = s.arrived ∙ none-there k.arrived empty in (
        part_after_fetch [] part,
        act-fetch (simulation_of handlers config) w part [] (ap is_empty none),
        subst (StandsFor handlers k) (sym (fetched-same part none)) s,
      ));
  worker = refl;
  config_is = refl;
}

-- after it no count is past its limit
pub nothing-passes : {S P K : Type 0} (handlers : Handlers S P K) (config : Config) (w : ℕ) (k : HeldWorker S P K) → AreCounted k.got → (part : Part P) → StandsFor handlers k part
    → PassesIn (simulation_of handlers config) (Fetch w) part 0 → ⊥
nothing-passes handlers config w k counted part stands past =
    let few_white = counted.white in
    let few_red = counted.red in
    elim (subst (λ (n : Counts). (MAX_COUNT < n.white) ⊎ (MAX_COUNT < n.red)) stands.got past) [
      | inl white ↦ omega (arith, white, few_white)
      | inr red ↦ omega (arith, red, few_red)
    ]
