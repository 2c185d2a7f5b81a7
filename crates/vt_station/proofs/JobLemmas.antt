-- How the work of all workers is put together.
use Rattle.std.proofs.Common.{◌≡◌, ℕ, ◌+◌, ◌^◌, ◌<◌, ◌≤◌, List, [], ◌∷◌, ◌++◌, length, map, drop, true, Result, Ok, Err, inl, inr, refl, sym, ◌∙◌, ap, subst, arith, length-append, slice_index_or, Option, Some, None}
use Rattle.std.proofs.Math.ListN.{get_or-append}
use Rattle.std.proofs.Math.Seq.{get_or-append_seam}
use Rattle.std.proofs.lemmas.Bool.{cases_lt}
use Rattle.std.proofs.lemmas.List.Elements.{All-push}
use Rattle.std.specs.List.{remove}
use Rattle.std.specs.Prelude.{IfOk, IfSome, MatchResult}
use Rattle.atomic_table.specs.Seated.{TableId}
use Rattle.vt_model.specs.declared.settings.Config.{Config}
use Rattle.vt_model.specs.promise.Handler.{Handlers}
use Rattle.vt_key.specs.promise.Times.{Time, opening_time}
use Rattle.vt_key.specs.declared.fault.Fault.{Fault}
use Rattle.vt_key.specs.declared.fault.Fault.TheVariants.{Memory}
use Rattle.vt_model.specs.declared.rows.Record.{Record}
use Rattle.vt_model.specs.promise.Simulation.{Simulation, simulation_of}
use Rattle.vt_model.specs.promise.Sequential.{seq_records}
use Rattle.vt_model.specs.promise.Settings.{end_of}
use Rattle.vt_steps.specs.inside.Marked.{Made, answered, has_closed}
use Rattle.vt_places.specs.declared.place.Place.{Place}
use Rattle.vt_places.specs.inside.Making.{IsNew, AreNew}
use Rattle.vt_places.specs.declared.view.View.{View}
use Rattle.vt_places.specs.inside.Told.{place_table, place_view}
use Rattle.vt_places.specs.inside.Calls.{AreHandedOut, Unvisited, Stays}
use Rattle.vt_places.specs.inside.AtWork.{AtWork, IsAtSameStation}
use Rattle.vt_station.specs.declared.driver.Outcome.{Outcome}
use Rattle.vt_station.specs.declared.driver.Outcome.TheVariants.{Spent, Closed, Ended, Refused}
use Rattle.vt_station.specs.declared.job.Post.{Post}
use Rattle.vt_station.specs.declared.job.Post.TheVariants.{New, Begun, Left}
use Rattle.vt_station.specs.inside.Crew.{AtJob, StandsThere, CannotBegin, StandsFrom, view_of, IsLeftBy, IsJob, IsSameJob, AllAt, AreInOrder, AreUnbegun, IsPieceOf}
use Rattle.vt_station.proofs.CrewLemmas.{closed-left, none-at-first}

-- the first of some places, and the places behind it
pub next-new : {S P : Type 0} {sim : Simulation S P} {table : TableId} {i : ℕ} (places : List (Place P)) (place : Place P) → 0 < length places → place ≡ slice_index_or places 0 place → AreNew sim table i places
    → IsNew sim table i place × AreNew sim table (i + 1) (remove places 0) × (length (remove places 0) + 1 ≡ length places)
next-new [] place some is new = absurd (omega (arith, some))
next-new {sim = sim} {table} {i} (first ∷ places) place some is new = (subst (IsNew sim table i) (sym is) new.0, new.1, omega arith)

-- one job more is behind the others
pub more-in-order : {M : Type 0} (jobs : List (AtJob M)) (job : AtJob M) → AreInOrder jobs → job.worker ≡ length jobs → AreInOrder (jobs ++ job ∷ [])
more-in-order {M} jobs job order worker w d below =
    elim (cases_lt w (length jobs)) [
      | inl before ↦ ap (λ (j : AtJob M). j.worker) (get_or-append jobs (job ∷ []) d w before) ∙ order w d before
      | inr after ↦
          let here : w ≡ length jobs = omega (arith, length-append jobs (job ∷ []), below, after) in
          ap (λ n. (slice_index_or (jobs ++ job ∷ []) n d).worker) here ∙ ap (λ (j : AtJob M). j.worker) (get_or-append_seam jobs job [] d) ∙ worker ∙ sym here
    ]

-- and of the same model and config
pub more-at : {M : Type 0} (model : M) (config : Config) (jobs : List (AtJob M)) (job : AtJob M) → AllAt model config jobs → (job.model ≡ model) × (job.config ≡ config) → AllAt model config (jobs ++ job ∷ [])
more-at {M} model config jobs job all told = All-push (λ (j : AtJob M). (j.model ≡ model) × (j.config ≡ config)) jobs job all told

-- and has not begun either
pub more-unbegun : {M : Type 0} (jobs : List (AtJob M)) (job : AtJob M) → AreUnbegun jobs → job.outcome ≡ None → AreUnbegun (jobs ++ job ∷ [])
more-unbegun {M} jobs job unbegun begins = All-push (λ (j : AtJob M). j.outcome ≡ None) jobs job unbegun begins

-- what is taken stands there, and knows how the last piece ended
pub stands-taken : {M S P K : Type 0} {handlers : M → Handlers S P K} {told model : M} {known config : Config} {table : TableId} {worker : ℕ} {post taken : Option (Post M S P K)} {outcome : Option Outcome} {finals : Option (List ℕ)} {there : Post M S P K}
    → IsJob handlers told known table model config worker post outcome finals → taken ≡ post → taken ≡ Some there → StandsThere (simulation_of (handlers model) config) model config table worker there × IsLeftBy (view_of there) outcome
stands-taken {handlers = handlers} {model = model} {config = config} {table} {worker} {outcome = outcome} {there = there} job value is =
    let same : job.there ≡ there = (let h : Some job.there ≡ Some there = sym job.post_is ∙ sym value ∙ is in cc) in
    subst (λ p. StandsThere (simulation_of (handlers model) config) model config table worker p × IsLeftBy (view_of p) outcome) same (job.stands, job.left)

-- how the last piece ended, a place knows that has made the same steps
left-same : {P : Type 0} (v w : View P) (outcome : Option Outcome) → w.mine ≡ v.mine → IsLeftBy v outcome → IsLeftBy w outcome
left-same v w None same left = tt
left-same v w (Some Closed) same left = ap (λ (l : List Made). has_closed (map answered l)) same ∙ left
left-same v w (Some (Refused fault)) same left = left
left-same v w (Some Spent) same left = tt
left-same v w (Some Ended) same left = tt

-- handing out leaves the steps
mine-same : {P X : Type 0} (A : Time → Type 0) (v w : View P) (result : Result X Fault) → MatchResult result (λ _. (floor : Time) × A floor × Unvisited v floor w) (λ _. Stays v w) → w.mine ≡ v.mine
mine-same A v w (Ok x) done = done.2.steps.mine
mine-same A v w (Err fault) stays = stays.0.mine

number-same : {P X : Type 0} (A : Time → Type 0) (v w : View P) (result : Result X Fault) → MatchResult result (λ _. (floor : Time) × A floor × Unvisited v floor w) (λ _. Stays v w) → w.worker ≡ v.worker
number-same A v w (Ok x) done = done.2.steps.same.worker
number-same A v w (Err fault) stays = stays.0.same.worker

-- what was handed out is a piece of the run, and where the worker closed the book the last
piece-left : {S P X : Type 0} (sim : Simulation S P) (v w : View P) (from : ℕ) (records : List Record) (outcome : Option Outcome) (result : Result X Fault) → IsLeftBy v outcome
    → MatchResult result (λ _. (floor : Time) × AreHandedOut sim v floor from records × Unvisited v floor w) (λ _. Stays v w)
    → IfOk result (λ _. (floor : Time) × IsPieceOf sim from records floor × (outcome ≡ Some Closed → floor ≡ sim.end))
piece-left sim v w from records outcome (Ok x) left done =
    let floor : Time = done.0 in
    let out : AreHandedOut sim v floor from records = done.1 in
    let all : out.all ≡ seq_records sim floor = out.shown.records_are in (
      floor,
      record {
        beginning = subst (λ (l : List Record). from ≤ length l) all out.beginning;
        few = subst (λ (l : List Record). length l < 2 ^ 64) all out.few;
        rest = out.rest ∙ ap (λ (l : List Record). drop from l) all;
      },
      λ is. out.shown.closed (closed-left v outcome left is),
    )
piece-left sim v w from records outcome (Err fault) left done = tt

-- at a place that has shown nothing it is the empty one
pub none-there : {S P X : Type 0} (sim : Simulation S P) {table : TableId} {w : ℕ} (place : Place P) (from : ℕ) (records : List Record) (outcome : Option Outcome) (result : Result X Fault) → IsNew sim table w place → IsLeftBy (place_view place) outcome
    → IfOk result (λ _. (from ≡ 0) × (records ≡ [])) → IfOk result (λ _. (floor : Time) × IsPieceOf sim from records floor × (outcome ≡ Some Closed → floor ≡ sim.end))
none-there sim place from records outcome (Ok x) new left none =
    let first = none-at-first sim in
    let length-is = ap length first in (
      opening_time,
      record {
        beginning = omega (arith, none.0);
        few = omega (arith, length-is);
        rest = none.1 ∙ first ∙ ap (λ n. drop n (seq_records sim opening_time)) (sym none.0);
      },
      λ is. absurd (let no : has_closed [] ≡ true = ap (λ (l : List Made). has_closed (map answered l)) (sym new.opens.mine) ∙ closed-left (place_view place) outcome left is in cc),
    )
none-there sim place from records outcome (Err fault) new left none = tt

-- and so it is of a run with the same model and config
pub piece-there : {M S P K X : Type 0} (handlers : M → Handlers S P K) {told model : M} {known config : Config} → told ≡ model → known ≡ config → (v w : View P) (from : ℕ) (records : List Record) (outcome : Option Outcome) (result : Result X Fault) → IsLeftBy v outcome
    → MatchResult result (λ _. (floor : Time) × AreHandedOut (simulation_of (handlers told) known) v floor from records × Unvisited v floor w) (λ _. Stays v w)
    → IfOk result (λ _. (floor : Time) × IsPieceOf (simulation_of (handlers model) config) from records floor × (outcome ≡ Some Closed → floor ≡ end_of config))
piece-there {M} handlers {told} {known = known} model config v w from records outcome result left done =
    subst (λ (c : M × Config). IfOk result (λ _. (floor : Time) × IsPieceOf (simulation_of (handlers c.0) c.1) from records floor × (outcome ≡ Some Closed → floor ≡ end_of c.1))) (λ j. (model j, config j))
    (piece-left (simulation_of (handlers told) known) v w from records outcome result left done)

-- a worker goes on from where it was at work, or leaves
pub stands-from : {M S P K : Type 0} (sim : Simulation S P) {model : M} {config : Config} {table : TableId} {w : ℕ} (worker : AtWork M S P K) (post : Post M S P K) → StandsThere sim model config table w (Begun worker) → StandsFrom worker post → StandsThere sim model config table w post
stands-from sim worker (New place) stands from = absurd from
stands-from sim {model} {config} {table} {w} worker (Begun same) stands from = subst (λ a. StandsThere sim model config table w (Begun a)) (sym from) stands
stands-from {P = P} sim worker (Left place) stands from = (from.0 ∙ stands.2, ap (λ (v : View P). v.worker) from.1 ∙ stands.3)

-- where a worker that can't begin has a fault, memory was refused
pub not-begun : {M S P K : Type 0} (post : Post M S P K) (why : Option Fault) → CannotBegin post why → IfSome why (λ fault. fault ≡ Memory)
not-begun (New place) why is = subst (λ (o : Option Fault). IfSome o (λ fault. fault ≡ Memory)) (sym is) refl
not-begun (Begun worker) why is = absurd is
not-begun (Left place) why is = subst (λ (o : Option Fault). IfSome o (λ fault. fault ≡ Memory)) (sym is) tt

pub view-from : {M S P K : Type 0} (worker : AtWork M S P K) (post : Post M S P K) → StandsFrom worker post → view_of post ≡ worker.view
view-from worker (New place) from = absurd from
view-from worker (Begun same) from = ap (λ w. w.view) from
view-from worker (Left place) from = from.1

module _ {M S P K : Type 0} {handlers : M → Handlers S P K} {told model : M} {known config : Config} {table : TableId} {worker : ℕ} {post : Option (Post M S P K)} {outcome : Option Outcome} {finals : Option (List ℕ)} (job : IsJob handlers told known table model config worker post outcome finals) where
  -- a job whose worker stands there now, and knows that its last piece ended so
  pub stands-on : (there : Post M S P K) {ended : Option Outcome} → StandsThere (simulation_of (handlers model) config) model config table worker there → IsLeftBy (view_of there) ended → IsJob handlers told known table model config worker (Some there) ended finals
  stands-on there stands left = record {
    model_is = job.model_is;
    config_is = job.config_is;
    within = job.within;
    there = there;
    post_is = refl;
    stands = stands;
    left = left;
    finals_are = job.finals_are;
  }

  module _ {X : Type 0} (A : Time → Type 0) (result : Result X Fault) where
    -- a worker that has handed out records stands there still, at work
    pub begun-still : (v w : AtWork M S P K) → post ≡ Some (Begun v) → IsAtSameStation v w → MatchResult result (λ _. (floor : Time) × A floor × Unvisited v.view floor w.view) (λ _. Stays v.view w.view)
        → IsJob handlers told known table model config worker (Some (Begun w)) outcome finals
    begun-still v w is same done =
        let here = stands-taken job refl is in
        stands-on (Begun w) (same.model ∙ here.0.0, same.config ∙ here.0.1, same.table ∙ here.0.2, same.worker ∙ here.0.3) (left-same v.view w.view outcome (mine-same A v.view w.view result done) here.1)

    -- or without a kernel
    pub left-still : (v w : Place P) → post ≡ Some (Left v) → place_table w ≡ place_table v → MatchResult result (λ _. (floor : Time) × A floor × Unvisited (place_view v) floor (place_view w)) (λ _. Stays (place_view v) (place_view w))
        → IsJob handlers told known table model config worker (Some (Left w)) outcome finals
    left-still v w is same done =
        let here = stands-taken job refl is in
        stands-on (Left w) (same ∙ here.0.0, number-same A (place_view v) (place_view w) result done ∙ here.0.1) (left-same (place_view v) (place_view w) outcome (mine-same A (place_view v) (place_view w) result done) here.1)

-- the work is for the same worker, as what lies behind its views says
pub same-job : {M : Type 0} {old new before after : AtJob M} → before ≡ old → new ≡ after → (after.model ≡ before.model) × (after.config ≡ before.config) × (after.table ≡ before.table) × (after.worker ≡ before.worker) → IsSameJob old new
same-job {M} is now same = record {
  model = ap (λ (j : AtJob M). j.model) now ∙ same.0 ∙ ap (λ (j : AtJob M). j.model) is;
  config = ap (λ (j : AtJob M). j.config) now ∙ same.1 ∙ ap (λ (j : AtJob M). j.config) is;
  table = ap (λ (j : AtJob M). j.table) now ∙ same.2 ∙ ap (λ (j : AtJob M). j.table) is;
  worker = ap (λ (j : AtJob M). j.worker) now ∙ same.3 ∙ ap (λ (j : AtJob M). j.worker) is;
}
