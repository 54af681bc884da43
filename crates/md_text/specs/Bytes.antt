-- Tests on bytes, and texts of ASCII letters in one case.
use Rattle.std.specs.Str.{bytes_eq}
use Rattle.std.specs.Prelude.{ℕ, ◌+◌, Bool, ◌&&◌, ◌||◌, if◌then◌else◌, List, map, nat_le}
use Rattle.std.specs.List.{list_any}

-- between two bytes, both included
abbrev pub is_between : ℕ → ℕ → ℕ → Bool
is_between first last b = nat_le first b && nat_le b last

-- an ASCII letter of either case
abbrev pub is_letter : ℕ → Bool
is_letter b = is_between 65 90 b || is_between 97 122 b

-- an ASCII letter lowered, every other byte as it is
abbrev pub lower : ℕ → ℕ
lower b = if is_between 65 90 b then b + 32 else b

-- a text with its ASCII letters lowered
abbrev pub lowered : List ℕ → List ℕ
lowered text = map lower text

-- one of these texts
abbrev pub is_one_of : List (List ℕ) → List ℕ → Bool
is_one_of texts text = list_any (bytes_eq text) texts
