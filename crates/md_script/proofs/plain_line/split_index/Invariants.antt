-- In each iteration, the bytes so far are digits, at most nine and as many as `length`, and the
-- index is their value.
use Rattle.std.proofs.Common.{◌≡◌, ◌≤◌, true, take}
use Rattle.std.specs.Str.{all_ascii_digits}
use Rattle.std.specs.Str.Parse.{digits_value}
use Rattle.md_script.proofs.plain_line.split_index.Given as goal

abbrev pub invariant-loop-byte : goal.invariant-loop-byte
invariant-loop-byte l = record {
  place : l.length ≡ l.byte-index;
  few : l.length ≤ 9;
  value : l.index ≡ digits_value 10 (take l.byte-index l.bytes);
  digits : all_ascii_digits (take l.byte-index l.bytes) ≡ true;
}
