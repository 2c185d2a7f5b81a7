-- The laws of `Desks`.
use Rattle.std.proofs.Common.{◌≡◌, ℕ, ◌+◌, ◌<◌, Option, Some, None, refl, arith}
use Rattle.vt_key.specs.promise.Times.{ticks_of}
use Rattle.vt_model.specs.inside.Handler.{IsSendable, AreWords}
use Rattle.vt_model.specs.inside.Within.{IsStartWithin, IsEventWithin, one_few, two_few, few_within}
use Rattle.vt_parts.specs.declared.histogram.Histogram.{Histogram}
use Rattle.vt_parts.specs.inside.Ring.{first}
use Rattle.vt_parts.specs.inside.RingLaws.{empty_is, pushed_is, popped_is, unpushed_pushed, unpopped_popped}
use Rattle.vt_parts.specs.inside.Histogram.{IsHistogram}
use Rattle.vt_parts.specs.inside.HistogramLaws.{empty_histogram_is, counted_is, uncounted_counted}
use Rattle.vt_parts.specs.inside.Exponential.{exponential_ticks}
use Rattle.vt_desk.specs.declared.Desk.{Desk}
use Rattle.vt_desk.specs.declared.Desks.{Desks}
use Rattle.vt_desk.specs.declared.Visit.{Visit}
use Rattle.vt_desk.specs.declared.Visit.TheVariants.{Come, Serve}
use Rattle.vt_desk.specs.declared.TheConstants.{GAP, SERVICE, BINS}
use Rattle.vt_desk.specs.inside.Desk.{next, desk_start, wait, served, unserved, desk_forward, desk_reverse, IsDesk}

next_ok : (lps lp now delay : ℕ) (visit : Visit) → lp < lps → 0 < delay → IsSendable lps now (next lp delay visit)
next_ok lps lp now delay visit known some = record { known = known; some_priority = omega arith; later = omega (arith, some) }

pub start_within : (m : Desks) (lps lp : ℕ) (words : ℕ → ℕ) → lp < lps → AreWords words → IsStartWithin lps (desk_start lp)
start_within m lps lp words known w =
    few_within (two_few (next_ok lps lp 0 1 Come known (omega arith)) (next_ok lps lp 0 SERVICE Serve known (omega arith)) (omega arith)) (omega arith) (omega arith)

pub forward_within : (m : Desks) (lps lp now : ℕ) (e : Visit) (s : Desk) (words : ℕ → ℕ) → lp < lps → AreWords words → IsEventWithin lps now (desk_forward lp now e s words)
forward_within m lps lp now Come s words known w =
    few_within (one_few (next_ok lps lp now (1 + exponential_ticks (words 0) GAP) Come known (omega arith)) (omega arith)) (omega arith) (omega arith)
forward_within m lps lp now Serve s words known w =
    few_within (one_few (next_ok lps lp now SERVICE Serve known (omega arith)) (omega arith)) (omega arith) (omega arith)

pub start_state : (m : Desks) (lps lp : ℕ) (words : ℕ → ℕ) → IsDesk (desk_start lp).state
start_state m lps lp words = record { line = empty_is 0 (omega arith); waits = empty_histogram_is 10 }

served_is : (now : ℕ) (came : Option ℕ) (waits : Histogram BINS) → IsHistogram waits → IsHistogram (served now came waits)
served_is now None waits is = is
served_is now (Some came) waits is = counted_is waits (wait now came) is

pub forward_state : (m : Desks) (lps lp now : ℕ) (e : Visit) (s : Desk) (words : ℕ → ℕ) → IsDesk s → IsDesk (desk_forward lp now e s words).state
forward_state m lps lp now Come s words is = record { line = pushed_is s.line (ticks_of now) is.line; waits = is.waits }
forward_state m lps lp now Serve s words is = record { line = popped_is s.line is.line; waits = served_is now (first s.line) s.waits is.waits }

served_undone : (now : ℕ) (came : Option ℕ) (waits : Histogram BINS) → IsHistogram waits → unserved now came (served now came waits) ≡ waits
served_undone now None waits is = refl
served_undone now (Some came) waits is = uncounted_counted waits (wait now came) is

pub undoes : (m : Desks) (lps lp now : ℕ) (e : Visit) (s : Desk) (words : ℕ → ℕ) → IsDesk s
    → desk_reverse now e (desk_forward lp now e s words).state (desk_forward lp now e s words).kept ≡ s
undoes m lps lp now Come s words is = λ i. record s { line = unpushed_pushed s.line (ticks_of now) is.line i }
undoes m lps lp now Serve s words is =
    λ i. record { line = unpopped_popped s.line is.line i; waits = served_undone now (first s.line) s.waits is.waits i }
