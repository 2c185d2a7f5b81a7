-- A process as contracts see it, by its fields.
use Rattle.std.proofs.Common.{ℕ, List}
use Rattle.vt_key.specs.declared.letter.Letter.{Letter}
use Rattle.vt_stream.specs.inside.Words.{Stream}
use Rattle.vt_model.specs.declared.settings.Config.{Config}
use Rattle.vt_model.specs.inside.Process.{triple_at}
use Rattle.vt_past.specs.declared.event.PastEvent.{PastEvent}
use Rattle.vt_lp.specs.inside.Held.{HeldProcess}

-- what a contract sees of a process with these fields
abbrev pub process_view : {S P K : Type 0} → ℕ → Config → S → ℕ → Stream → List (PastEvent P K) → List (Letter P) → List (Letter P) → HeldProcess S P K
process_view lp config state number stream past pending waiting = record { lp = lp; config = config; triple = triple_at state number stream; past = past; pending = pending; waiting = waiting }
