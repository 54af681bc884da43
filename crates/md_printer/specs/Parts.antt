-- The texts of the code that have two definitions.
use Rattle.std.specs.Prelude.{ℕ, Bool, false, not, ◌&&◌, ◌||◌, ◌==◌, nat_lt, if◌then◌else◌}
use Rattle.std.specs.Prelude.{List, [], ◌∷◌, ◌++◌, length, slice_index, codes}
use Rattle.std.specs.Option.{option_map_or}
use Rattle.md_base.specs.declared.event.AlignKind.{AlignKind}
use Rattle.md_base.specs.NameTests.{is_definition}
use Rattle.md_meaning.specs.Meaning.Layout.{Piece, said}
use Rattle.md_meaning.specs.Meaning.Spans.{is_at}
use Rattle.md_meaning.specs.Meaning.Tables.{align_attribute}
use Rattle.md_steps.specs.State.{State}

-- a zero precedes other digits
abbrev pub has_leading_zero : List ℕ → Bool
has_leading_zero digits = nat_lt 1 (length digits) && (slice_index digits 0 == 48)

-- digits without leading zeros
abbrev pub unpadded : List ℕ → List ℕ
unpadded [] = []
unpadded (digit ∷ digits) =
    if has_leading_zero (digit ∷ digits) then unpadded digits else digit ∷ digits

-- a line ending with this text, in a state
abbrev pub line_closing : State → List ℕ → List Piece
line_closing state text = if state.scope.in_code then said (codes " ")
    else (if not state.scope.in_definition && state.slurps
    || option_map_or is_definition state.ended false then [] else said text)

-- the byte at this index is a dash
abbrev pub is_dash_at : List ℕ → ℕ → Bool
is_dash_at bytes index = is_at 45 bytes index

-- the start tag of a cell
abbrev pub cell_start : Bool → AlignKind → List ℕ
cell_start in_head kind =
    (if in_head then codes "<th" else codes "<td") ++ (align_attribute kind ++ codes ">")

-- an empty cell
abbrev pub empty_cell : Bool → AlignKind → List ℕ
empty_cell in_head kind =
    cell_start in_head kind ++ (if in_head then codes "</th>" else codes "</td>")
