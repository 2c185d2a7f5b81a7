use Rattle.std.proofs.Common.{◌≡◌, ℕ, List, ◌∙◌, ap, subst, slice_index_or, Some, Ok, Err, IfSome, IfNone, Result}
use Rattle.std.specs.Option.{unwrap_or}
use Rattle.std.specs.Prelude.{IfOk}
use Rattle.vt_key.specs.promise.Times.{Time}
use Rattle.vt_key.specs.declared.fault.Fault.{Fault}
use Rattle.vt_model.specs.declared.rows.Record.{Record}
use Rattle.vt_model.specs.declared.settings.Config.{Config}
use Rattle.vt_model.specs.promise.Settings.{end_of}
use Rattle.vt_model.specs.promise.Simulation.{simulation_of}
use Rattle.vt_station.specs.declared.pieces.Standing.TheVariants.{Whole}
use Rattle.vt_station.specs.declared.driver.Outcome.TheVariants.{Closed}
use Rattle.vt_station.specs.inside.Crew.{AtJob, AtCrew, IsPieceOf, IsClosedAt, NoneClosed, StandsBy}
use Rattle.vt_station.proofs.CrewLemmas.{reader-there, reader-closed}
use Rattle.vt_station.proofs.pieces.Crew.hand_out.Given.{Over}
use Rattle.vt_station.proofs.pieces.Crew.hand_out.Goals as goal

-- what it says of what it has handed out, whatever its answer
abbrev Says : (g : Over) → ℕ → Result (Unit {0}) Fault → List Record → AtCrew g.row.M.Denot → Type 0
Says g from result records crew = IfOk result (λ _. (floor : Time) × IsPieceOf (simulation_of (g.M.Model.handlers crew.model) crew.config) from records floor × (crew.standing ≡ Whole → floor ≡ end_of crew.config))

-- a job's words in those of the crew
told-of : (g : Over) (from : ℕ) (result : Result (Unit {0}) Fault) (records : List Record) (job : AtJob g.row.M.Denot) (crew : AtCrew g.row.M.Denot) → job.model ≡ crew.model → job.config ≡ crew.config → (crew.standing ≡ Whole → job.outcome ≡ Some Closed)
    → IfOk result (λ _. (floor : Time) × IsPieceOf (simulation_of (g.M.Model.handlers job.model) job.config) from records floor × (job.outcome ≡ Some Closed → floor ≡ end_of job.config)) → Says g from result records crew
told-of g from (Ok x) records job crew model config closed piece =
    (piece.0, subst (λ s. IsPieceOf s from records piece.0) (λ j. simulation_of (g.M.Model.handlers (model j)) (config j)) piece.1, λ whole. piece.2 (closed whole) ∙ ap (λ (c : Config). end_of c) config)
told-of g from (Err fault) records job crew model config closed piece = tt

pub returns-clause-piece : goal.returns-clause-piece
returns-clause-piece g c =
    let i = c.self.inside in
    let inv = c.self.invariant in
    let jobs = i.jobs.items in
    let closer = c.closer_of.result in
    let job = c.in-Some.job.now in
    let some = subst (λ (l : List (AtJob g.row.M.Denot)). IfSome closer (IsClosedAt l)) c.as_slice.ensures.value c.closer_of.ensures.some in
    let none = subst (λ (l : List (AtJob g.row.M.Denot)). IfNone closer (NoneClosed l)) c.as_slice.ensures.value c.closer_of.ensures.none in
    let is = c.in-Some.ensures.value ∙ ap (λ n. slice_index_or jobs n job) c.unwrap_or-reader.ensures in
    let told = inv.told (unwrap_or closer 0) job (reader-there jobs inv.some closer some) in
    subst (Says g c.args.from c.hand_out.result c.hand_out.new.records.items) c.self.view_is
    (told-of g c.args.from c.hand_out.result c.hand_out.new.records.items job (record { model = i.model.now; config = i.config; jobs = jobs; wanted = i.wanted; standing = i.standing })
    (ap (λ (j : AtJob g.row.M.Denot). j.model) is ∙ told.0) (ap (λ (j : AtJob g.row.M.Denot). j.config) is ∙ told.1)
    (λ whole. ap (λ (j : AtJob g.row.M.Denot). j.outcome) is ∙ reader-closed jobs inv.some closer some none (subst (StandsBy jobs) whole inv.stands) job) c.hand_out.ensures.piece)
