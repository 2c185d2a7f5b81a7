use Rattle.std.proofs.Common.{◌<◌, List, length, sym, ◌∙◌, ap, subst}
use Rattle.vt_station.specs.declared.pieces.Crew.TheInside.{Inside}
use Rattle.vt_station.specs.inside.Crew.{AtJob, AllAt, AreInOrder, StandsBy, IsCrew}
use Rattle.vt_station.proofs.CrewLemmas.{whole-again}
use Rattle.vt_station.proofs.pieces.Crew.work.Given.{Over}
use Rattle.vt_station.proofs.pieces.Crew.work.Goals.{in-GoesOn, in_default}
use Rattle.vt_station.proofs.pieces.Crew.work.Goals as goal

-- what holds of the fields of a crew
abbrev Holds : (g : Over) → Inside g.row.M.Denot g.row.M-State.Denot g.row.M-Payload.Denot g.row.M-Kept.Denot → Type 0
Holds g i = IsCrew i.model.now i.config i.standing i.jobs.items

pub invariant_of-self : goal.invariant_of-self
invariant_of-self g c =
    let i = c.self.inside in
    let inv = c.self.invariant in
    elim c.match-self.branch [
      | in-GoesOn w ↦
          let old = i.jobs in
          let new = w.work_all.new.jobs in
          let count = w.work_all.ensures.count ∙ ap length w.as_mut_slice.ensures.value in
          let again = whole-again old.len new old.items (count ∙ sym old.ok.0) in
          let told = w.work_all.ensures.told i.model.now i.config (subst (AllAt i.model.now i.config) (sym w.as_mut_slice.ensures.value) inv.told) in
          let order = w.work_all.ensures.order (subst (λ (jobs : List (AtJob g.row.M.Denot)). AreInOrder jobs) (sym w.as_mut_slice.ensures.value) inv.order) in
          subst (Holds g) (sym w.self-inside-is) (record {
            told = subst (AllAt i.model.now i.config) (sym again) told;
            some = subst (λ n. 0 < n) (sym (ap length again ∙ count)) inv.some;
            order = subst (λ (jobs : List (AtJob g.row.M.Denot)). AreInOrder jobs) (sym again) order;
            stands = subst (λ (jobs : List (AtJob g.row.M.Denot)). StandsBy jobs w.standing_of-self-inside.result) w.as_slice.ensures.value w.standing_of-self-inside.ensures;
          })
      | in_default w ↦ subst (Holds g) (sym w.self-inside-is) inv
    ]
