-- In each iteration, the bytes so far are digits, and the number is their value.
use Rattle.std.proofs.Common.{◌≡◌, true, take}
use Rattle.std.specs.Str.{all_ascii_digits}
use Rattle.std.specs.Str.Parse.{digits_value}
use Rattle.md_script.proofs.digits.digits_before.Given as goal

abbrev pub invariant-loop-length : goal.invariant-loop-length
invariant-loop-length l = record {
  value : l.number ≡ digits_value 10 (take l.length l.bytes);
  digits : all_ascii_digits (take l.length l.bytes) ≡ true;
}
