use Rattle.std.proofs.Common.{◌≡◌, ◌<◌, ◌^◌, true, take}
use Rattle.std.specs.Char.{is_ascii_digit}
use Rattle.std.specs.List.{list_all}
use Rattle.vt_text.specs.promise.Numbers.{decimal_value}
use Rattle.vt_text.proofs.number.read_number.Given as goal

-- the number of the digits so far
abbrev pub invariant-loop-byte : goal.invariant-loop-byte
invariant-loop-byte l = record {
  digits : list_all is_ascii_digit (take l.byte-index l.text) ≡ true;
  fits : l.value < 2 ^ 64;
  number : l.value ≡ decimal_value (take l.byte-index l.text);
}
