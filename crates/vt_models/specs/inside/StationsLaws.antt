-- The laws of `Stations`.
use Rattle.std.proofs.Common.{◌≡◌, ℕ, ◌+◌, ◌-◌, ◌%◌, if◌then◌else◌, ◌^◌, ◌<◌, true, false, nat_eq, refl, sym, subst, ap, ◌∙◌, arith}
use Rattle.std.proofs.lemmas.Bool.{eqb-false}
use Rattle.vt_model.specs.inside.Handler.{IsSendable, AreWords}
use Rattle.vt_model.specs.inside.Counts.{fewer-more}
use Rattle.vt_model.specs.inside.Within.{IsStartWithin, IsEventWithin, none_few, one_few, two_few, few_within}
use Rattle.vt_models.specs.declared.stations.Stations.{Stations}
use Rattle.vt_models.specs.declared.stations.Server.{Server}
use Rattle.vt_models.specs.declared.stations.JobEvent.{JobEvent}
use Rattle.vt_models.specs.declared.stations.JobEvent.TheVariants.{Arrive, Depart}
use Rattle.vt_stream.specs.inside.DrawnLaws.{scaled_below}
use Rattle.vt_models.specs.promise.Stations.{departure, passage, start_idle, start_busy, stations_start, one_job_more, arrival_begins, arrival_waits, arrival, one_served, nothing_departs, last_departs, next_follows, service_end, stations_forward, one_job_fewer, one_back, stations_reverse}
use Rattle.vt_models.specs.inside.Stations.{IsServer}

departure_ok : (m : Stations) (lps now lp w : ℕ) → lp < lps → IsSendable lps now (departure m lp w)
departure_ok m lps now lp w known = record { known = known; some_priority = omega arith; later = omega arith }

passage_ok : (m : Stations) (lps now w : ℕ) → 0 < lps → w < 2 ^ 32 → IsSendable lps now (passage m lps w)
passage_ok m lps now w some small = record { known = scaled_below w lps small some; some_priority = omega arith; later = omega (arith, m.some_travel) }

pub start_within : (m : Stations) (lps lp : ℕ) (words : ℕ → ℕ) → lp < lps → AreWords words → IsStartWithin lps (stations_start m lp words)
start_within m lps lp words known w =
    elim (nat_eq m.jobs 0) as (λ b. IsStartWithin lps (if b then start_idle m else start_busy m lp words)) [
      | true ↦ few_within none_few (omega arith) (omega arith)
      | false ↦ few_within (one_few (departure_ok m lps 0 lp (words 0) known) (omega arith)) (omega arith) (omega arith)
    ]

arrival_within : (m : Stations) (lps now lp : ℕ) (s : Server) (words : ℕ → ℕ) → lp < lps → IsEventWithin lps now (arrival m lp s words)
arrival_within m lps now lp s words known =
    elim (nat_eq (one_job_more s).length 1) as (λ b. IsEventWithin lps now (if b then arrival_begins m lp s words else arrival_waits s)) [
      | true ↦ few_within (one_few (departure_ok m lps now lp (words 0) known) (omega arith)) (omega arith) (omega arith)
      | false ↦ few_within none_few (omega arith) (omega arith)
    ]

service_end_within : (m : Stations) (lps now lp : ℕ) (s : Server) (words : ℕ → ℕ) → lp < lps → AreWords words → IsEventWithin lps now (service_end m lps lp s words)
service_end_within m lps now lp s words known w =
    let leaves = passage_ok m lps now (words 0) (omega arith) (w 0) in
    elim (nat_eq (one_served s).length 0) as (λ b. IsEventWithin lps now (if b then last_departs m lps s words else next_follows m lps lp s words)) [
      | true ↦ few_within (one_few leaves (omega arith)) (omega arith) (omega arith)
      | false ↦ few_within (two_few leaves (departure_ok m lps now lp (words 1) known) (omega arith)) (omega arith) (omega arith)
    ]

pub forward_within : (m : Stations) (lps lp now : ℕ) (p : JobEvent) (s : Server) (words : ℕ → ℕ) → lp < lps → AreWords words → IsEventWithin lps now (stations_forward m lps lp p s words)
forward_within m lps lp now Arrive s words known w = arrival_within m lps now lp s words known
forward_within m lps lp now Depart s words known w =
    elim (nat_eq s.length 0) as (λ b. IsEventWithin lps now (if b then nothing_departs s else service_end m lps lp s words)) [
      | true ↦ few_within none_few (omega arith) (omega arith)
      | false ↦ service_end_within m lps now lp s words known w
    ]

pub start_state : (m : Stations) (lps lp : ℕ) (words : ℕ → ℕ) → IsServer (stations_start m lp words).state
start_state m lps lp words =
    elim (nat_eq m.jobs 0) as (λ b. IsServer (if b then start_idle m else start_busy m lp words).state)
    [ true ↦ (omega (arith, m.few_jobs), omega arith) | false ↦ (omega (arith, m.few_jobs), omega arith) ]

-- a job that arrives is one more
arrived : (m : Stations) (lp : ℕ) (s : Server) (words : ℕ → ℕ) → (arrival m lp s words).state ≡ one_job_more s
arrived m lp s words =
    elim (nat_eq (one_job_more s).length 1) as (λ b. (if b then arrival_begins m lp s words else arrival_waits s).state ≡ one_job_more s) [ true ↦ refl | false ↦ refl ]

-- one that departs is served
departed : (m : Stations) (lps lp : ℕ) (s : Server) (words : ℕ → ℕ) → (service_end m lps lp s words).state ≡ one_served s
departed m lps lp s words =
    elim (nat_eq (one_served s).length 0) as (λ b. (if b then last_departs m lps s words else next_follows m lps lp s words).state ≡ one_served s) [ true ↦ refl | false ↦ refl ]

pub forward_state : (m : Stations) (lps lp now : ℕ) (p : JobEvent) (s : Server) (words : ℕ → ℕ) → IsServer s → IsServer (stations_forward m lps lp p s words).state
forward_state m lps lp now Arrive s words fits = subst IsServer (sym (arrived m lp s words)) (omega arith, fits.1)
forward_state m lps lp now Depart s words fits =
    elim (nat_eq s.length 0) as (λ b. IsServer (if b then nothing_departs s else service_end m lps lp s words).state) [
      | true ↦ fits
      | false ↦ subst IsServer (sym (departed m lps lp s words)) (omega (arith, fits.0), omega arith)
    ]

-- a job served and then given back
back-served : (s : Server) → IsServer s → (s.length ≡ 0 → ⊥) → one_back (one_served s) ≡ s
back-served s fits some =
    let length : (s.length - 1 + 1) % 2 ^ 64 ≡ s.length = omega (arith, fits.0) in
    λ j. record { length = length j; served = fewer-more s.served fits.1 j }

-- a service's end leaves the flag of an empty station clear
service_end_undone : (m : Stations) (lps lp : ℕ) (s : Server) (words : ℕ → ℕ) → IsServer s → (s.length ≡ 0 → ⊥)
    → stations_reverse Depart (service_end m lps lp s words).state (service_end m lps lp s words).bits ≡ s
service_end_undone m lps lp s words fits some =
    elim (nat_eq (one_served s).length 0) as (λ b. stations_reverse Depart (if b then last_departs m lps s words else next_follows m lps lp s words).state (if b then last_departs m lps s words else next_follows m lps lp s words).bits ≡ s)
    [ true ↦ back-served s fits some | false ↦ back-served s fits some ]

pub undoes : (m : Stations) (lps lp now : ℕ) (p : JobEvent) (s : Server) (words : ℕ → ℕ) → IsServer s
    → stations_reverse p (stations_forward m lps lp p s words).state (stations_forward m lps lp p s words).bits ≡ s
undoes m lps lp now Arrive s words fits = ap one_job_fewer (arrived m lp s words) ∙ (λ j. record s { length = fewer-more s.length fits.0 j })
undoes m lps lp now Depart s words fits =
    elim (nat_eq s.length 0) as (λ b. nat_eq s.length 0 ≡ b → stations_reverse Depart (if b then nothing_departs s else service_end m lps lp s words).state (if b then nothing_departs s else service_end m lps lp s words).bits ≡ s) [
      | true ↦ λ e. refl
      | false ↦ λ e. service_end_undone m lps lp s words fits (eqb-false s.length 0 e)
    ]
    refl
