-- What an event gives at a process, and what is left of it once it is undone.
use Rattle.std.specs.Prelude.{ℕ}
use Rattle.vt_model.specs.promise.Handler.{Handlers, ForwardResult}
use Rattle.vt_model.specs.declared.sending.Sent.{Sent}
use Rattle.vt_stream.specs.inside.Words.{Stream, word_of}

-- what an event gives in a state, with the words of a stream
abbrev pub event_gives : {S P K : Type 0} → Handlers S P K → ℕ → Sent P → S → Stream → ForwardResult S P K
event_gives handlers lps event state stream = handlers.forward lps event.dest event.key.time event.payload state (word_of stream)

-- the state that `reverse` makes of what an event gave
abbrev pub state_undone : {S P K : Type 0} → Handlers S P K → Sent P → ForwardResult S P K → S
state_undone handlers event gave = handlers.reverse event.dest event.key.time event.payload gave.state gave.bits gave.kept
