-- The four character references that the compiler writes, where they begin, and their characters.
use Rattle.std.specs.Prelude.{ℕ, suc, zero, Bool, true, false, not, ◌&&◌, ◌||◌, ◌==◌, if◌then◌else◌}
use Rattle.std.specs.Prelude.{nat_eq, List, [], ◌∷◌, length, find, Option, is_some, codes}
use Rattle.std.specs.Option.{option_map_or}
use Rattle.std.specs.List.{starts_with, list_all}

-- a text begins with another one
abbrev pub begins_with : List ℕ → List ℕ → Bool
begins_with start text = starts_with nat_eq text start

-- the four references: the bytes after the `&` of each, and its character
abbrev pub references : List (List ℕ × ℕ)
references = (codes "amp;", 38) ∷ (codes "quot;", 34) ∷ (codes "lt;", 60) ∷ (codes "gt;", 62) ∷ []

-- the reference that a `&` before these bytes begins, if any
abbrev pub reference_before : List ℕ → Option (List ℕ × ℕ)
reference_before rest = find (λ reference. begins_with reference.0 rest) references

-- how many bytes after a `&` belong to its reference; 0 if it begins none
abbrev pub reference_tail : List ℕ → ℕ
reference_tail rest = option_map_or (λ reference. length reference.0) (reference_before rest) 0

-- the character of the reference that a `&` begins; the `&` itself if it begins none
abbrev pub referenced : List ℕ → ℕ
referenced rest = option_map_or (λ reference. reference.1) (reference_before rest) 38

-- the text after the next `skip` bytes, with its references read back
abbrev pub read_back_after : ℕ → List ℕ → List ℕ
read_back_after skip [] = []
read_back_after zero (b ∷ rest) =
    if b == 38 then referenced rest ∷ read_back_after (reference_tail rest) rest
    else b ∷ read_back_after 0 rest
read_back_after (suc skip) (b ∷ rest) = read_back_after skip rest

-- a text with its references read back once
abbrev pub read_back : List ℕ → List ℕ
read_back text = read_back_after 0 text

-- no NUL, `<`, `>` or `"`, and each `&` begins one of the four references
abbrev pub is_escaped_byte : ℕ → List ℕ → Bool
is_escaped_byte b rest = if (b == 0) || (b == 60) || (b == 62) || (b == 34) then false
    else (if b == 38 then is_some (reference_before rest) else true)

-- each byte is such a byte, given the bytes after it
abbrev pub is_escaped : List ℕ → Bool
is_escaped [] = true
is_escaped (b ∷ rest) = is_escaped_byte b rest && is_escaped rest

-- neither `&` nor a byte after the `&` in one of the four references
abbrev pub outside_references : ℕ → Bool
outside_references b = not (b == 38) && list_all (λ c. not (c == b)) (codes "amp;quot;lt;gt;")
