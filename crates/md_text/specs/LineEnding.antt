-- The texts of line endings.
use Rattle.std.specs.Str.{bytes_eq}
use Rattle.std.specs.Prelude.{ℕ, List, [], ◌∷◌, Option, find}
use Rattle.md_text.specs.declared.line_ending.LineEnding.{LineEnding}
use Rattle.md_text.specs.declared.line_ending.LineEnding.TheVariants.{CarriageReturnLineFeed}
use Rattle.md_text.specs.declared.line_ending.LineEnding.TheVariants.{CarriageReturn, LineFeed}

-- carriage return (13) and line feed (10), or one of the two
abbrev pub ending_text : LineEnding → List ℕ
ending_text CarriageReturnLineFeed = 13 ∷ 10 ∷ []
ending_text CarriageReturn = 13 ∷ []
ending_text LineFeed = 10 ∷ []

-- the line ending that has this text, if any
abbrev pub ending_of : List ℕ → Option LineEnding
ending_of text =
    find (λ ending. bytes_eq (ending_text ending) text)
    (CarriageReturnLineFeed ∷ CarriageReturn ∷ LineFeed ∷ [])
