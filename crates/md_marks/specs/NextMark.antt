-- Where the next mark of a text is.
use Rattle.std.specs.Prelude.{◌≡◌, ◌⊎◌, ◌+◌, ◌-◌, ◌/◌, ◌%◌, ◌^◌, ◌<◌, ◌≤◌, ◌==◌}
use Rattle.std.specs.Prelude.{◌&&◌, ◌||◌, not, ℕ, Bool, List, [], ◌∷◌, length, get_or, drop}
use Rattle.std.specs.Prelude.{if◌then◌else◌}
use Rattle.std.specs.Int.{bit_at}
use Rattle.md_lines.specs.Classes.{is_mark}
use Rattle.md_marks.specs.declared.marks.Marks.TheInside.{Inside}

-- whether the byte at an index is a `w`
abbrev pub is_w : List ℕ → ℕ → Bool
is_w bytes at = get_or bytes at 0 == 119 || get_or bytes at 0 == 87

-- whether a full stop has no `w` before it, or a colon no `/` after it
abbrev pub is_plain_at : List ℕ → ℕ → Bool
is_plain_at bytes at =
    if get_or bytes at 0 == 46 then at == 0 || not (is_w bytes (at - 1))
    else get_or bytes at 0 == 58 && not (get_or bytes (at + 1) 0 == 47)

-- whether the byte at an index begins a mark
abbrev pub is_mark_at : List ℕ → ℕ → Bool
is_mark_at bytes at = is_mark (get_or bytes at 0) && not (is_plain_at bytes at)

-- a number whose bits are the marks among so many bytes, by their class
abbrev pub AreMarks : List ℕ → ℕ → ℕ → Type 0
AreMarks text count bits =
    (bits < 2 ^ count)
    × ((at : ℕ) → at < count → bit_at bits at ≡ (if is_mark (get_or text at 0) then 1 else 0))

-- the entries of the tables of marks: a byte is a mark if those of its halves have a common bit
abbrev pub upper_entry : ℕ → ℕ
upper_entry byte = get_or (0 ∷ 0 ∷ 1 ∷ 2 ∷ 4 ∷ 8 ∷ 16 ∷ 32 ∷ []) (byte / 16) 0

abbrev pub lower_entry : ℕ → ℕ
lower_entry byte =
    get_or (20 ∷ 1 ∷ 0 ∷ 0 ∷ 1 ∷ 0 ∷ 1 ∷ 0
    ∷ 0 ∷ 0 ∷ 3 ∷ 8 ∷ 10 ∷ 8 ∷ 33 ∷ 8 ∷ []) (byte % 16) 0

-- the document
abbrev pub bytes_of : Inside → List ℕ
bytes_of inside = inside.bytes.now

-- no block is read, or its marks are those of the document
abbrev pub KnowsBlock : Inside → Type 0
KnowsBlock inside =
    (inside.block ≡ 9223372036854775807)
    ⊎ ((inside.block + 32 ≤ length inside.bytes.now)
    × AreMarks (drop inside.block inside.bytes.now) 32 inside.bits)
