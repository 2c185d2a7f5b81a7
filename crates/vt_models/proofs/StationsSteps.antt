-- Steps of `Stations`' handlers: which case an event is.
use Rattle.std.proofs.Common.{◌≡◌, ℕ, Bool, false, nat_eq, ap, ◌∙◌, eq-eqb, arith, if◌then◌else◌}
use Rattle.vt_models.specs.declared.stations.Stations.{Stations}
use Rattle.vt_models.specs.declared.stations.Server.{Server}
use Rattle.vt_models.specs.declared.stations.JobEvent.{JobEvent}
use Rattle.vt_models.specs.declared.stations.JobEvent.TheVariants.{Arrive, Depart}
use Rattle.vt_models.specs.promise.Stations.{start_idle, start_busy, stations_start, one_job_more, arrival_begins, arrival_waits, one_served, nothing_departs, last_departs, next_follows, service_end, stations_forward}

is_not : (a b : ℕ) → (a ≡ b → ⊥) → nat_eq a b ≡ false
is_not a b differ = search (arith)

module _ (m : Stations) (lps lp : ℕ) (words : ℕ → ℕ) where
  -- a station without jobs begins idle
  pub begins_idle : m.jobs ≡ 0 → stations_start m lp words ≡ start_idle m
  begins_idle none = ap (λ (b : Bool). (if b then start_idle m else start_busy m lp words)) (eq-eqb m.jobs 0 none)

  -- another begins busy
  pub begins_busy : (m.jobs ≡ 0 → ⊥) → stations_start m lp words ≡ start_busy m lp words
  begins_busy some = ap (λ (b : Bool). (if b then start_idle m else start_busy m lp words)) (is_not m.jobs 0 some)

  module _ (s : Server) where
    -- the first job at a station is served at once
    pub served_at_once : (p : JobEvent) → p ≡ Arrive → (one_job_more s).length ≡ 1 → stations_forward m lps lp p s words ≡ arrival_begins m lp s words
    served_at_once p arrives first =
        ap (λ (e : JobEvent). stations_forward m lps lp e s words) arrives
        ∙ ap (λ (b : Bool). (if b then arrival_begins m lp s words else arrival_waits s)) (eq-eqb (one_job_more s).length 1 first)

    -- nothing departs from an empty station
    pub departs_from_none : (p : JobEvent) → p ≡ Depart → s.length ≡ 0 → stations_forward m lps lp p s words ≡ nothing_departs s
    departs_from_none p departs none =
        ap (λ (e : JobEvent). stations_forward m lps lp e s words) departs
        ∙ ap (λ (b : Bool). (if b then nothing_departs s else service_end m lps lp s words)) (eq-eqb s.length 0 none)

    departs_from_some : (p : JobEvent) → p ≡ Depart → (s.length ≡ 0 → ⊥) → stations_forward m lps lp p s words ≡ service_end m lps lp s words
    departs_from_some p departs some =
        ap (λ (e : JobEvent). stations_forward m lps lp e s words) departs
        ∙ ap (λ (b : Bool). (if b then nothing_departs s else service_end m lps lp s words)) (is_not s.length 0 some)

    -- the last job leaves its station idle
    pub departs_last : (p : JobEvent) → p ≡ Depart → (s.length ≡ 0 → ⊥) → (one_served s).length ≡ 0 → stations_forward m lps lp p s words ≡ last_departs m lps s words
    departs_last p departs some last =
        departs_from_some p departs some
        ∙ ap (λ (b : Bool). (if b then last_departs m lps s words else next_follows m lps lp s words)) (eq-eqb (one_served s).length 0 last)

    -- after another the next is served
    pub departs_before_next : (p : JobEvent) → p ≡ Depart → (s.length ≡ 0 → ⊥) → ((one_served s).length ≡ 0 → ⊥) → stations_forward m lps lp p s words ≡ next_follows m lps lp s words
    departs_before_next p departs some more =
        departs_from_some p departs some
        ∙ ap (λ (b : Bool). (if b then last_departs m lps s words else next_follows m lps lp s words)) (is_not (one_served s).length 0 more)
