-- What the handlers of `Desks` give.
use Rattle.std.specs.Prelude.{ℕ, ◌+◌, ◌-◌, ◌%◌, ◌^◌, [], ◌∷◌, Option, Some, None}
use Rattle.vt_key.specs.promise.Times.{Time, ticks_of}
use Rattle.vt_model.specs.promise.Handler.{Handlers, StartResult, ForwardResult}
use Rattle.vt_model.specs.promise.Sends.{SendRequest}
use Rattle.vt_parts.specs.declared.histogram.Histogram.{Histogram}
use Rattle.vt_parts.specs.inside.Ring.{IsRing, empty_ring, pushed, push_answer, unpushed, first, popped, unpopped}
use Rattle.vt_parts.specs.inside.Histogram.{IsHistogram, empty_histogram, counted, uncounted, total}
use Rattle.vt_parts.specs.inside.Exponential.{exponential_ticks}
use Rattle.vt_desk.specs.declared.Desk.{Desk}
use Rattle.vt_desk.specs.declared.Visit.{Visit}
use Rattle.vt_desk.specs.declared.Visit.TheVariants.{Come, Serve}
use Rattle.vt_desk.specs.declared.TheConstants.{GAP, SERVICE, BINS}

-- what comes next at this desk
abbrev pub next : ℕ → ℕ → Visit → SendRequest Visit
next lp delay visit = record { dest = lp; delay = delay; priority = 0; payload = visit }

-- at the start the line is empty
abbrev pub desk_start : ℕ → StartResult Desk Visit
desk_start lp = record {
  state = record { line = empty_ring 0; waits = empty_histogram 10 };
  drawn = 0;
  send_requests = next lp 1 Come ∷ next lp SERVICE Serve ∷ [];
}

-- how long a customer waited who came then
abbrev pub wait : Time → ℕ → ℕ
wait now came = (ticks_of now + (2 ^ 64 - came)) % 2 ^ 64

-- the wait of the customer who was served, if there was one, is counted
abbrev pub served : Time → Option ℕ → Histogram BINS → Histogram BINS
served now None waits = waits
served now (Some came) waits = counted waits (wait now came)

-- and not counted any more
abbrev pub unserved : Time → Option ℕ → Histogram BINS → Histogram BINS
unserved now None waits = waits
unserved now (Some came) waits = uncounted waits (wait now came)

-- an event
abbrev pub desk_forward : ℕ → Time → Visit → Desk → (ℕ → ℕ) → ForwardResult Desk Visit (Option ℕ)
desk_forward lp now Come s words = record {
  state = record s { line = pushed s.line (ticks_of now) };
  kept = push_answer s.line;
  bits = record { flags = 0 };
  drawn = 1;
  send_requests = next lp (1 + exponential_ticks (words 0) GAP) Come ∷ [];
  record_requests = [];
}
desk_forward lp now Serve s words = record {
  state = record { line = popped s.line; waits = served now (first s.line) s.waits };
  kept = first s.line;
  bits = record { flags = 0 };
  drawn = 0;
  send_requests = next lp SERVICE Serve ∷ [];
  record_requests = [];
}

-- a desk before an event
abbrev pub desk_reverse : Time → Visit → Desk → Option ℕ → Desk
desk_reverse now Come s kept = record s { line = unpushed s.line kept }
desk_reverse now Serve s kept = record { line = unpopped s.line kept; waits = unserved now kept s.waits }

-- the four handlers
abbrev pub desk_handlers : Handlers Desk Visit (Option ℕ)
desk_handlers = record {
  start = λ lps lp words. desk_start lp;
  forward = λ lps lp now e s words. desk_forward lp now e s words;
  reverse = λ lp now e s bits kept. desk_reverse now e s kept;
  finish = λ lp s. total s.waits;
}

-- the line is a ring, and the waits are a histogram
pub record IsDesk (s : Desk) : Type 0 where
  pub line : IsRing s.line
  pub waits : IsHistogram s.waits
