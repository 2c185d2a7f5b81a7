-- What the handlers of a program give.
use Rattle.std.specs.Prelude.{ℕ, ◌-◌, nat_le, if◌then◌else◌, List, ◌++◌, length, replicate, take}
use Rattle.vt_guest.specs.declared.process.StateSize.{StateSize}
use Rattle.vt_guest.specs.declared.process.StateSize.TheVariants.{Bytes64, Bytes256, Bytes1024, Bytes4096}

-- so many bytes: these, and zeros behind them
abbrev pub padded : ℕ → List ℕ → List ℕ
padded n bytes = take n bytes ++ replicate (n - length bytes) 0

-- the size of a state that holds so many bytes
abbrev pub state_size_of : ℕ → StateSize
state_size_of n = if nat_le n 64 then Bytes64 else (if nat_le n 256 then Bytes256 else (if nat_le n 1024 then Bytes1024 else Bytes4096))
