-- What contracts read of a `Draws`, whose fields are private.
use Rattle.std.specs.Prelude.{◌≡◌, ℕ}
use denote.Ref.{MutBor}
use Rattle.vt_stream.specs.inside.Words.{Stream}
use Rattle.vt_stream.specs.declared.stream.LpStream.{LpStream}
use Rattle.vt_model.specs.declared.drawing.Draws.{Draws}

-- how many words were drawn
abbrev pub drawn_in : Draws → ℕ
drawn_in draws = draws.drawn

-- the stream that it draws from, as it is now
abbrev pub stream_in : Draws → Stream
stream_in draws = draws.stream.now

-- it draws from this stream
abbrev pub DrawsFrom : MutBor LpStream → Draws → Type 0
DrawsFrom stream draws = draws.stream.ghost_name ≡ stream.ghost_name

-- it draws from the same stream as before
abbrev pub IsSameSource : Draws → Draws → Type 0
IsSameSource old new = new.stream.ghost_name ≡ old.stream.ghost_name
