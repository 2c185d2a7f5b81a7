-- The calls of the simulator. A program makes one by ECALL: register a7 (x17) has the call's number, a0 (x10) and those behind it have
-- its arguments, and a0 gets the answer. Nothing else changes.
use Rattle.std.specs.Prelude.{ℕ, ◌+◌, ◌%◌, ◌^◌, Bool, true, false, ◌&&◌, ◌||◌, not, nat_eq, nat_lt, nat_le, if◌then◌else◌, slice_index}
use Rattle.vt_stream.specs.promise.Drawn.{scaled}
use Rattle.vt_model.specs.declared.limits.TheConstants.{MAX_DRAWS, MAX_SENDS, MAX_RECORDS}
use Rattle.vt_model.specs.promise.Sends.{SendRequest, RecordRequest}
use Rattle.vt_riscv.specs.promise.Machines.{Machine}
use Rattle.vt_riscv.specs.promise.Steps.{answered}
use Rattle.vt_guest.specs.declared.trap.TheConstants.{TRAP}
use Rattle.vt_guest.specs.declared.trap.Reason.{Reason}
use Rattle.vt_guest.specs.declared.trap.Reason.TheVariants.{BadCall, BadSend}
use Rattle.vt_guest.specs.declared.calls.Handler.{Handler}
use Rattle.vt_guest.specs.declared.calls.Handler.TheVariants.{Start, Forward, Finish}
use Rattle.vt_guest.specs.declared.calls.Host.{Host}
use Rattle.vt_guest.specs.declared.calls.Next.{Next}
use Rattle.vt_guest.specs.declared.calls.Next.TheVariants.{On, Draw, Send, Emit, Trapped}
use Rattle.vt_guest.specs.declared.process.Words.{Words}

-- how much a handler may draw, send and record
abbrev pub most_draws : Handler → ℕ
most_draws Start = MAX_DRAWS
most_draws Forward = MAX_DRAWS
most_draws Finish = 0

abbrev pub most_sends : Handler → ℕ
most_sends Start = MAX_SENDS
most_sends Forward = MAX_SENDS
most_sends Finish = 0

abbrev pub most_records : Handler → ℕ
most_records Start = 0
most_records Forward = MAX_RECORDS
most_records Finish = 0

-- the low 32 bits
abbrev pub low : ℕ → ℕ
low x = x % 2 ^ 32

-- a handler under way: its machine, how many steps it may still make, and how many words it has drawn so far
pub record Handling (N : ℕ) : Type 0 where
  pub machine : Machine N
  pub left : ℕ
  pub drawn : ℕ

-- how a handler goes on, and what it has come to
pub record Turn (N : ℕ) : Type 0 where
  pub next : Next
  pub handling : Handling N

module _ {N : ℕ} where
  abbrev pub trapped : Reason → Handling N → Turn N
  trapped why x = record { next = Trapped why; handling = x }

  -- a turn, unless something forbids it
  abbrev pub unless : Bool → Reason → Handling N → Turn N → Turn N
  unless true why x turn = trapped why x
  unless false why x turn = turn

  -- what a register holds
  abbrev pub register : Handling N → ℕ → ℕ
  register x r = slice_index x.machine.registers r

  -- an answer to the call, behind which the program goes on
  abbrev pub answers : Handling N → ℕ → Turn N
  answers x value = record { next = On; handling = record x { machine = answered x.machine value } }

  -- no answer: a0 stays
  abbrev pub passed : Handling N → Handling N
  passed x = record x { machine = answered x.machine (register x 10) }

  -- a word is to be drawn
  abbrev pub draws : Handling N → Turn N
  draws x = record { next = Draw; handling = x }

  -- 0: below(n), with n from 1 to 2 ^ 32
  abbrev pub below_of : Handling N → Turn N
  below_of x = unless (nat_eq (register x 10) 0 || nat_lt (2 ^ 32) (register x 10)) BadCall x (draws x)

  -- 2: send(dest, delay, priority, a, b). An event is sent to a known process, with a priority below 256, to be received later
  abbrev pub may_send : Host → Handling N → Bool
  may_send h x = nat_lt (low (register x 10)) h.lps && (nat_lt (low (register x 12)) 256 && (nat_lt 0 (register x 11) || nat_lt h.priority (low (register x 12))))

  abbrev pub request_of : Handling N → SendRequest Words
  request_of x = record { dest = low (register x 10); delay = register x 11; priority = low (register x 12); payload = record { a = register x 13; b = register x 14 } }

  abbrev pub send_of : Host → Handling N → Turn N
  send_of h x = unless (not (may_send h x)) BadSend x (record { next = Send; handling = x })

  -- 3: emit(kind, value)
  abbrev pub note_of : Handling N → RecordRequest
  note_of x = record { kind = low (register x 10); value = register x 11 }

  abbrev pub emit_of : Handling N → Turn N
  emit_of x = unless (nat_eq (low (register x 10)) TRAP) BadCall x (record { next = Emit; handling = x })

  -- 4: lps(), which `finish` isn't told
  unfoldable pub lps_of : Host → Handling N → Turn N
  lps_of h x = unless (nat_eq h.lps 0) BadCall x (answers x h.lps)

  -- the call of a number: 1 is word(), 5 is data_size()
  abbrev pub call_numbered : Host → Handling N → ℕ → Turn N
  call_numbered h x n =
      if nat_eq n 0 then below_of x
      else (if nat_eq n 1 then draws x
      else (if nat_eq n 2 then send_of h x
      else (if nat_eq n 3 then emit_of x
      else (if nat_eq n 4 then lps_of h x
      else (if nat_eq n 5 then answers x h.data_size
      else trapped BadCall x)))))

  unfoldable pub call_of : Host → Handling N → Turn N
  call_of h x = call_numbered h x (register x 17)

  -- a word that was drawn is the answer of word(), and of below(n) the number below n that it gives
  abbrev pub drawn_answer : Handling N → ℕ → ℕ
  drawn_answer x word = if nat_eq (register x 17) 0 && nat_le (register x 10) (2 ^ 32) then scaled word (register x 10) else word

  abbrev pub answered_by : Handling N → ℕ → Handling N
  answered_by x word = record x { drawn = x.drawn + 1; machine = answered x.machine (drawn_answer x word) }
