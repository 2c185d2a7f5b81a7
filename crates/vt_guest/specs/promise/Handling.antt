-- A handler from its beginning to its end.
use Rattle.std.specs.Prelude.{ℕ, zero, suc, nat_le, if◌then◌else◌, List, [], ◌∷◌, ◌++◌, length, replicate, Result, Ok, Err}
use Rattle.vt_model.specs.promise.Sends.{SendRequest, RecordRequest}
use Rattle.vt_riscv.specs.declared.code.Code.{Code}
use Rattle.vt_riscv.specs.declared.machine.Stop.{Stop}
use Rattle.vt_riscv.specs.declared.machine.Stop.TheVariants as stops
use Rattle.vt_riscv.specs.declared.layout.TheConstants.{RETURN, STACK, STATE}
use Rattle.vt_riscv.specs.promise.Steps.{run_of}
use Rattle.vt_guest.specs.declared.trap.Reason.{Reason}
use Rattle.vt_guest.specs.declared.trap.Reason.TheVariants.{TooMany, Spent}
use Rattle.vt_guest.specs.declared.calls.Host.{Host}
use Rattle.vt_guest.specs.declared.calls.Next.{Next}
use Rattle.vt_guest.specs.declared.calls.Next.TheVariants.{On, Draw, Send, Emit, Ended, Trapped}
use Rattle.vt_guest.specs.declared.process.Words.{Words}
use Rattle.vt_guest.specs.promise.Traps.{reason_of}
use Rattle.vt_guest.specs.promise.Calls.{Handling, Turn, trapped, most_draws, most_sends, most_records, passed, request_of, note_of, call_of, answered_by}

-- the stack at the beginning of a handler
abbrev pub blank_stack : List ℕ
blank_stack = replicate STACK 0

-- how a handler ended: `Ok`, or the reason of its trap; and what it had come to, sent and recorded then
pub record Handled (N : ℕ) : Type 0 where
  pub end : Result (Unit {0}) Reason
  pub handling : Handling N
  pub sends : List (SendRequest Words)
  pub notes : List RecordRequest

-- how a handler ends from where it is, after what it has sent and recorded so far
abbrev pub Rest : ℕ → Type 0
Rest N = Handling N → List (SendRequest Words) → List RecordRequest → Handled N

module _ {N : ℕ} where
  -- a handler at its beginning: ra (x1) has the address at which it ends, sp (x2) the end of its stack, and a0 to a4 (x10 to x14) its
  -- arguments. All other registers are 0
  abbrev pub begun : ℕ → ℕ → ℕ → ℕ → ℕ → Words → List ℕ → Handling N
  begun entry fuel lp tick priority words bytes = record {
    machine = record {
      pc = entry;
      registers = 0 ∷ RETURN ∷ STATE ∷ 0 ∷ 0 ∷ 0 ∷ 0 ∷ 0 ∷ 0 ∷ 0 ∷ lp ∷ tick ∷ priority ∷ words.a ∷ words.b ∷ 0 ∷ 0 ∷ 0 ∷ 0 ∷ 0 ∷ 0 ∷ 0 ∷ 0 ∷ 0 ∷ 0 ∷ 0 ∷ 0 ∷ 0 ∷ 0 ∷ 0 ∷ 0 ∷ 0 ∷ [];
      state = bytes;
      stack = blank_stack;
    };
    left = fuel;
    drawn = 0;
  }

  -- what happens where the machine stops
  abbrev pub stopped : Host → Handling N → Stop → Turn N
  stopped h x stops.Called = call_of h x
  stopped h x stops.Ended = record { next = Ended; handling = x }
  stopped h x (stops.Trapped why) = trapped (reason_of why) x
  stopped h x stops.Spent = trapped Spent x

  -- a turn: on to where the machine stops next
  abbrev pub turn_of : Code → Host → Handling N → Turn N
  turn_of code h x =
      let ran = run_of code x.left x.machine in
      stopped h (record x { machine = ran.machine; left = ran.outcome.left }) ran.outcome.stop

  abbrev pub fails : Reason → Rest N
  fails why x sends notes = record { end = Err why; handling = x; sends = sends; notes = notes }

  -- what follows a turn: more, perhaps once a word is drawn, an event sent or a record made, if one more may be; or the end
  abbrev pub followed : Rest N → Host → (ℕ → ℕ) → Next → Rest N
  followed more h words On x sends notes = more x sends notes
  followed more h words Draw x sends notes = if nat_le (most_draws h.handler) x.drawn then fails TooMany x sends notes else more (answered_by x (words x.drawn)) sends notes
  followed more h words Send x sends notes = if nat_le (most_sends h.handler) (length sends) then fails TooMany x sends notes else more (passed x) (sends ++ request_of x ∷ []) notes
  followed more h words Emit x sends notes = if nat_le (most_records h.handler) (length notes) then fails TooMany x sends notes else more (passed x) sends (notes ++ note_of x ∷ [])
  followed more h words Ended x sends notes = record { end = Ok tt; handling = x; sends = sends; notes = notes }
  followed more h words (Trapped why) x sends notes = fails why x sends notes

  -- a handler that makes fewer calls than this number. As each call is a step, there are always fewer than steps to make
  unfoldable pub handled : Code → Host → (ℕ → ℕ) → ℕ → Rest N
  handled code h words zero x sends notes = fails Spent x sends notes
  handled code h words (suc calls) x sends notes = followed (handled code h words calls) h words (turn_of code h x).next (turn_of code h x).handling sends notes
