-- What a position of the code stands for.
use Rattle.std.specs.Prelude.{ℕ, List, ◌≡◌, drop, take, length}
use Rattle.md_blocks.specs.declared.position.Position.{Position}
use Rattle.md_blocks.specs.Entries.{Line}
use Rattle.md_blocks.specs.Rests.{Rest, rest_at, text_of}

abbrev pub rest_of : Position → Rest
rest_of p = rest_at p.column (text_of p.line.now p.at p.column p.is_in_tab)

-- the text after the indentation
abbrev pub text_at : Position → List ℕ
text_at p = drop p.text p.line.now

-- the document extends up to the end of the line, and then further
abbrev pub IsIn : List ℕ → Position → Type 0
IsIn bytes p = p.line.now ≡ take (length p.line.now) bytes

abbrev pub ending_of : List ℕ → Position → List ℕ
ending_of bytes p = take p.ending (drop (length p.line.now) bytes)

-- the line from the position
abbrev pub rest_line : List ℕ → Position → Line
rest_line bytes p = record { text = (rest_of p).text; ending = ending_of bytes p }

-- the line from its text
abbrev pub text_line : List ℕ → Position → Line
text_line bytes p = record { text = text_at p; ending = ending_of bytes p }
