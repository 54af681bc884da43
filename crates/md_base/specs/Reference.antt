-- Character references: decodes a name or a number to its text.
use Rattle.std.specs.Prelude.{ℕ, ◌%◌, ◌^◌, Bool, not, ◌&&◌, ◌||◌, ◌==◌, nat_lt, if◌then◌else◌, List}
use Rattle.std.specs.Prelude.{length, map, Option, Some, None, option_map, find, bytes_eq}
use Rattle.std.specs.Prelude.{encode_utf8}
use Rattle.std.specs.Borrow.{Bor}
use Rattle.std.specs.List.{list_all}
use Rattle.std.specs.Char.{digit_value}
use Rattle.std.specs.Int.{is_in_range}
use Rattle.std.specs.Str.Parse.{digits_value}

-- the names and their texts in a slice of pairs of texts
abbrev pub name_table : List (Bor (List ℕ) × Bor (List ℕ)) → List (List ℕ × List ℕ)
name_table = map (λ entry. (entry.0.now, entry.1.now))

-- the text of the first entry with this name
abbrev pub named : List (List ℕ × List ℕ) → List ℕ → Option (List ℕ)
named names name = option_map (λ entry. entry.1) (find (λ entry. bytes_eq entry.0 name) names)

-- one or more digits of this radix, whose number is under 2 ^ 32
abbrev pub is_number : ℕ → List ℕ → Bool
is_number radix digits =
    not (length digits == 0) && list_all (λ digit. nat_lt (digit_value digit) radix) digits
    && nat_lt (digits_value radix digits) (2 ^ 32)

-- control characters, surrogates, noncharacters and codes above the last character
abbrev pub is_replaced : ℕ → Bool
is_replaced code =
    is_in_range 0 8 code || code == 11 || is_in_range 14 31 code || is_in_range 127 159 code
    || is_in_range 0xD800 0xDFFF code || is_in_range 0xFDD0 0xFDEF code
    || code % 0x10000 == 0xFFFE || code % 0x10000 == 0xFFFF || nat_lt 0x10FFFF code

-- the character that a number encodes, U+FFFD where the code is replaced
abbrev pub character_of : ℕ → List ℕ
character_of code = encode_utf8 (if is_replaced code then 0xFFFD else code)

-- the character that digits of this radix encode
abbrev pub numbered : ℕ → List ℕ → Option (List ℕ)
numbered radix digits =
    if is_number radix digits then Some (character_of (digits_value radix digits)) else None

-- the character of a reference by a number, by its marker: `#` decimal, `x` hexadecimal
abbrev pub by_number : ℕ → List ℕ → Option (List ℕ)
by_number marker value =
    if marker == 35 then numbered 10 value else if marker == 120 then numbered 16 value else None

-- the text of a reference, by its marker: `&` a name, else a number
abbrev pub decoded : List (List ℕ × List ℕ) → ℕ → List ℕ → Option (List ℕ)
decoded names marker value =
    if marker == 38 then named names value else by_number marker value
