-- How a handler goes on.
use Rattle.std.proofs.Common.{◌≡◌, ℕ, zero, suc, ◌<◌, ◌≤◌, Bool, nat_le, if◌then◌else◌, List, [], sym, ap, ◌∙◌}
use Rattle.std.proofs.lemmas.Bool.{lt-leb, le-leb}
use Rattle.vt_riscv.specs.declared.code.Code.{Code}
use Rattle.vt_model.specs.promise.Sends.{SendRequest, RecordRequest}
use Rattle.vt_model.specs.inside.Sends.{Outgoing, with_requests, taken_back}
use Rattle.vt_guest.specs.declared.trap.Reason.TheVariants.{Spent}
use Rattle.vt_guest.specs.declared.calls.Host.{Host}
use Rattle.vt_guest.specs.promise.Calls.{Handling}
use Rattle.vt_guest.specs.declared.calls.Next.{Next}
use Rattle.vt_guest.specs.declared.process.Words.{Words}
use Rattle.vt_guest.specs.promise.Handling.{Handled, turn_of, followed, handled, fails}

module _ {N : ℕ} (code : Code) (h : Host) (words : ℕ → ℕ) (sends : List (SendRequest Words)) (notes : List RecordRequest) where
  -- a handler goes on as its first turn says
  pub handled-as : (left calls : ℕ) (x y : Handling N) (next was : Next) → left ≡ suc calls → next ≡ (turn_of code h x).next → y ≡ (turn_of code h x).handling → next ≡ was
      → handled code h words left x sends notes ≡ followed (handled code h words calls) h words was y sends notes
  unfolding handled
  handled-as left calls x y next was more to there is =
      ap (λ (k : ℕ). handled code h words k x sends notes) more ∙ (λ j. followed (handled code h words calls) h words ((sym to ∙ is) j) (sym there j) sends notes)

  -- it took too long
  pub handled-none : (left : ℕ) (x : Handling N) → left ≡ zero → handled code h words left x sends notes ≡ fails Spent x sends notes
  unfolding handled
  handled-none left x none = ap (λ (k : ℕ). handled code h words k x sends notes) none

-- where there is room for one more, and where there isn't
pub with_room : {N : ℕ} (most so_far : ℕ) (full more : Handled N) → so_far < most → (if nat_le most so_far then full else more) ≡ more
with_room most so_far full more room = ap (λ (b : Bool). if b then full else more) (lt-leb most so_far room)

pub without_room : {N : ℕ} (most so_far : ℕ) (full more : Handled N) → most ≤ so_far → (if nat_le most so_far then full else more) ≡ full
without_room most so_far full more none = ap (λ (b : Bool). if b then full else more) (le-leb most so_far none)

-- a handler's out once all is taken back
pub took_back : (o now : Outgoing Words) (sends : List (SendRequest Words)) (notes : List RecordRequest) → now ≡ with_requests o sends notes → o.number ≡ o.first → o.sends ≡ [] → o.records ≡ [] → taken_back now ≡ o
took_back o now sends notes is number unsent unrecorded = ap taken_back is ∙ (λ j. record o { number = sym number j; sends = sym unsent j; records = sym unrecorded j })
