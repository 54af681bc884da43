-- Decimal numbers of a bounded length.
use Rattle.std.specs.Prelude.{ℕ, ◌&&◌, nat_le, if◌then◌else◌, List, length, Option, Some, None}
use Rattle.std.specs.Str.{all_ascii_digits}
use Rattle.std.specs.Str.Parse.{digits_value}

-- the value of decimal digits, if there are at least one and at most a given number of them
abbrev pub number_of : ℕ → List ℕ → Option ℕ
number_of most digits =
    if nat_le 1 (length digits) && nat_le (length digits) most && all_ascii_digits digits
    then Some (digits_value 10 digits) else None
