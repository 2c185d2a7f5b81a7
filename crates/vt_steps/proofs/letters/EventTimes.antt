-- Lists of events whose times never fall: those before a time come first.
use Rattle.std.proofs.Common.{◌≡◌, false, List, [], ◌∷◌, ◌++◌, refl, ◌∙◌, ap, arith, append-nil}
use Rattle.std.proofs.lemmas.Bool.Decides.{nat_tests}
use Rattle.std.proofs.lemmas.List.Elements.{filter-append}
use Rattle.std.specs.List.{AllByRecursion}
use Rattle.vt_key.specs.promise.Keys.{Key}
use Rattle.vt_key.specs.promise.Order.{KeyBefore}
use Rattle.vt_key.specs.inside.Order.{RankBefore}
use Rattle.vt_key.specs.promise.Times.{Time, TimeAtMost, TimeBefore, time_before}
use Rattle.vt_key.specs.promise.Lists.{IsRisingBy}
use Rattle.vt_model.specs.declared.sending.Sent.{Sent}
use Rattle.vt_model.specs.inside.Histories.{IsRising}
use Rattle.vt_model.specs.promise.Sequential.{events_before}
use Rattle.vt_model.proofs.RunLemmas.{filter-all, filter-no}
use Rattle.vt_steps.specs.promise.Letters.{unstamped}
use Rattle.vt_steps.specs.promise.World.{Entry, entry_events}
use Rattle.vt_key.proofs.ListLemmas.{every-among, every-map, every-weaker, rising-weaker}
use Rattle.vt_steps.proofs.letters.RankTimes.{rank-order-time}

-- no event of the list is before a time
abbrev pub AreEventsLate : {P : Type 0} → Time → List (Sent P) → Type 0
AreEventsLate {P} t events = AllByRecursion (λ (e : Sent P). TimeAtMost t e.key.time) events

-- the times of the list never fall
abbrev pub DoTimesRise : {P : Type 0} → List (Sent P) → Type 0
DoTimesRise {P} events = IsRisingBy (λ (d e : Sent P). TimeAtMost d.key.time e.key.time) events

-- late events are not among those before the time
pub late-events : {P : Type 0} (t : Time) (events : List (Sent P)) → AreEventsLate t events → events_before t events ≡ []
late-events t [] h = refl
late-events t (e ∷ es) h =
    let late = h.0 in
    let is : time_before e.key.time t ≡ false = grind (arith, nat_tests) in
    filter-no (λ d. time_before d.key.time t) e es is ∙ late-events t es h.1

-- where all events are before a time, those before it are all
pub early-events : {P : Type 0} (t : Time) (events : List (Sent P)) → AllByRecursion (λ (e : Sent P). TimeBefore e.key.time t) events → events_before t events ≡ events
early-events {P} t events h =
    filter-all (λ e. time_before e.key.time t) events (λ e m. (let soon = every-among (λ (d : Sent P). TimeBefore d.key.time t) events e h m in grind (arith, nat_tests)))

-- what follows a late event is late
pub late-rest : {P : Type 0} (t : Time) (e : Sent P) (events : List (Sent P)) → TimeAtMost t e.key.time → AllByRecursion (λ d. TimeAtMost e.key.time d.key.time) events → AreEventsLate t events
late-rest t e events late h = every-weaker (λ d. TimeAtMost e.key.time d.key.time) (λ d. TimeAtMost t d.key.time) events (λ d up. omega arith) h

-- of two lists of which no event of the second is before the time, those of the first are all that are
pub early-front : {P : Type 0} (t : Time) (xs ys : List (Sent P)) → AreEventsLate t ys → events_before t (xs ++ ys) ≡ events_before t xs
early-front t xs ys late =
    filter-append (λ e. time_before e.key.time t) xs ys ∙ ap (λ l. events_before t xs ++ l) (late-events t ys late) ∙ append-nil (events_before t xs)

-- where keys rise, times never fall
pub rising-times : {P : Type 0} (events : List (Sent P)) → IsRising events → DoTimesRise events
rising-times events = rising-weaker (λ d e. KeyBefore d.key e.key) (λ d e. TimeAtMost d.key.time e.key.time) events (λ d e here there before. later d.key e.key before)
  where
    later : (k l : Key) → KeyBefore k l → TimeAtMost k.time l.time
    later k l before = grind arith

-- where the ranks of entries rise, the times of their events never fall
pub ranks-times : {P : Type 0} (entries : List (Entry P)) → IsRisingBy (λ (a b : Entry P). RankBefore a.event.rank b.event.rank) entries → DoTimesRise (entry_events entries)
ranks-times [] h = tt
ranks-times {P} (x ∷ xs) h = (
  every-map (λ (e : Entry P). unstamped e.event) (λ (d : Sent P). TimeAtMost x.event.rank.key.time d.key.time) xs
      (every-weaker (λ (y : Entry P). RankBefore x.event.rank y.event.rank) (λ (y : Entry P). TimeAtMost x.event.rank.key.time y.event.rank.key.time) xs (λ y before. rank-order-time x.event.rank y.event.rank before) h.0),
  ranks-times xs h.1,
)
