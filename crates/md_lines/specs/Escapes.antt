-- Where a text ends that may have escapes: a backslash before a punctuation mark.
use Rattle.std.specs.Prelude.{ℕ, Bool, List, [], ◌∷◌, ◌+◌, ◌==◌, ◌&&◌, ◌||◌, suc, nat_lt}
use Rattle.std.specs.Prelude.{get_or, length, if◌then◌else◌}
use Rattle.std.specs.Prelude.{Option, Some, None, drop, take}
use Rattle.std.specs.Char.{is_ascii_punctuation}
use Rattle.md_lines.specs.declared.cursor.Cursor.{Cursor}

-- whether a byte and the next one are an escape
abbrev pub is_escape : ℕ → ℕ → Bool
is_escape byte next = byte == 92 && is_ascii_punctuation next

-- how many bytes one step over a text takes: two over an escape, else one
abbrev pub width : List ℕ → ℕ
width [] = 1
width (byte ∷ []) = 1
width (byte ∷ next ∷ rest) = if is_escape byte next then 2 else 1

-- how many bytes come before the first that isn't escaped and passes a test; all if none does
abbrev pub before_unescaped : (ℕ → Bool) → List ℕ → ℕ
before_unescaped test [] = 0
before_unescaped test (byte ∷ []) = if test byte then 0 else 1
before_unescaped test (byte ∷ next ∷ rest) =
    if test byte then 0
    else if is_escape byte next then 2 + before_unescaped test rest
    else suc (before_unescaped test (next ∷ rest))

-- whether a byte is an angle bracket
abbrev pub is_angle : ℕ → Bool
is_angle byte = byte == 60 || byte == 62

-- whether a byte ends a title or makes it invalid: its closing mark, or `(` after `(`
abbrev pub stops_title : ℕ → ℕ → ℕ → Bool
stops_title mark close byte = byte == close || (byte == 40 && mark == 40)

-- the text of a cursor's line from its place on
abbrev pub in_line : Cursor → List ℕ
in_line cursor = drop cursor.at (take cursor.end cursor.bytes.now)

-- the length of a destination after `<`, if its first bracket that isn't escaped is `>`
abbrev pub pointed_length : List ℕ → Option ℕ
pointed_length text =
    let count = before_unescaped is_angle text in
    if nat_lt count (length text) && get_or text count 0 == 62 then Some count else None
