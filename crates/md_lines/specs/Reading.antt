-- For the code alone: the text that a cursor has left, how much that is, and which byte comes next.
use Rattle.std.specs.Prelude.{ℕ, Bool, List, ◌∷◌, ◌+◌, ◌-◌, ◌*◌, ◌==◌, ◌&&◌, nat_lt, length, get_or}
use Rattle.std.specs.Prelude.{drop, take, map, suc, ◌≡◌, ◌≤◌}
use Rattle.md_lines.specs.declared.cursor.Cursor.{Cursor}
use Rattle.md_lines.specs.declared.line.Line.{Line}
use Rattle.md_lines.specs.declared.span.Span.{Span}
use Rattle.md_lines.specs.Escapes.{in_line}

-- the text of a line, whatever columns of it belong to the prefixes
abbrev pub line_text : List ℕ → Line → List ℕ
line_text bytes line = drop line.start (take line.end bytes)

-- the text from a place in a line on, and that of the lines after it
abbrev pub lines_after : Cursor → List (List ℕ)
lines_after cursor = map (line_text cursor.bytes.now) (drop (suc cursor.line) cursor.lines.now)

abbrev pub text_from : Cursor → List (List ℕ)
text_from cursor = in_line cursor ∷ lines_after cursor

-- a part of the document
abbrev pub text_in : Span → Cursor → List ℕ
text_in span cursor = drop span.start (take span.end cursor.bytes.now)

-- a cursor that has moved on in the same lines of the same document
abbrev pub ReadSame : Cursor → Cursor → Type 0
ReadSame before after =
    (after.bytes ≡ before.bytes) × (after.lines ≡ before.lines) × (before.line ≤ after.line)

-- the bytes left in the cursor's line, and 2^64 for that line and for each after it
abbrev pub left : Cursor → ℕ
left cursor =
    (length cursor.lines.now - cursor.line) * 18446744073709551616 + (cursor.end - cursor.at)

-- whether a byte comes next in the cursor's line
abbrev pub is_next : Cursor → ℕ → Bool
is_next cursor byte =
    nat_lt cursor.at cursor.end && get_or cursor.bytes.now cursor.at 0 == byte
