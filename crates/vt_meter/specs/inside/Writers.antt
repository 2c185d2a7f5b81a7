-- What contracts read of a terminal, whose fields are private.
use Rattle.vt_meter.specs.declared.terminal.Terminal.{Terminal}

-- the stream of errors that it was made for
abbrev pub terminal_errors : {E : Type 0} → Terminal E → E
terminal_errors terminal = terminal.errors
