-- What texts, line endings, code in texts and breaks mean.
use Rattle.std.specs.Prelude.{ℕ, ◌-◌, Bool, false, not, ◌&&◌, ◌||◌, ◌==◌, if◌then◌else◌, List, []}
use Rattle.std.specs.Prelude.{◌∷◌, ◌++◌, length, take, drop, unwrap_or, codes, slice_get}
use Rattle.std.specs.Option.{option_map_or}
use Rattle.std.specs.List.{list_all}
use Rattle.md_base.specs.declared.event.Name.{Name}
use Rattle.md_base.specs.declared.event.Name.TheVariants.{CharacterReferenceMarkerNumeric}
use Rattle.md_base.specs.declared.event.Name.TheVariants.{CharacterReferenceMarkerHexadecimal}
use Rattle.md_base.specs.Reference.{decoded}
use Rattle.md_text.specs.Encode.{encoded}
use Rattle.md_text.specs.Filter.{tag_filtered}
use Rattle.md_base.specs.NameTests.{is_definition}
use Rattle.md_meaning.specs.Meaning.Layout.{Piece, Text, said, when}
use Rattle.md_meaning.specs.Meaning.At.{Context, At, text_in}

-- a text, escaped if the surroundings say so
abbrev pub escaped : At → List ℕ → List Piece
escaped at text = said (encoded at.around.is_escaping text)

-- the marker that a name is: `x`, `#` or `&`
abbrev pub marker : Name → ℕ
marker name = elim name [
  | CharacterReferenceMarkerHexadecimal ↦ 120
  | CharacterReferenceMarkerNumeric ↦ 35
  | _ ↦ 38
]

-- the character of a reference: the last mark before its value decides how to read it
abbrev pub reference : Context → At → List ℕ
reference context at =
    let last = slice_get at.before.spine (length at.before.spine - 1) in
    unwrap_or (decoded context.names (option_map_or marker last 38)
    (text_in context.bytes at.place)) []

-- a line ending isn't printed if it is slurped, which none in a definition is, or after a
-- definition of either kind
abbrev pub is_dropped : At → Bool
is_dropped at = not at.around.in_definition && at.before.slurps
    || option_map_or is_definition at.before.previous false

-- a line ending: a space in code, else its own text unless it is dropped
abbrev pub line_ending : Context → At → List Piece
line_ending context at = if at.around.in_code then said (codes " ")
    else (if is_dropped at then [] else said (text_in context.bytes at.place))

-- HTML, whose tags the tag filter escapes if it is allowed
abbrev pub html : Context → At → List ℕ
html context at = if context.options.allow_dangerous_html && context.options.gfm_tagfilter
    then tag_filtered (text_in context.bytes at.place) else text_in context.bytes at.place

-- a span between its tags, which aren't printed in an image
abbrev pub span : At → List Piece → List Piece → List Piece → List Piece
span at start inner end = if at.around.in_image then inner else start ++ (inner ++ end)

-- a task's tag, up to the attribute for done
abbrev pub task_start : Context → List Piece
task_start context = Text (codes "<input type=\"checkbox\" ")
    ∷ when (not context.options.gfm_task_list_item_checkable) (said (codes "disabled=\"\" "))

-- the byte at this index is this one
abbrev pub is_at : ℕ → List ℕ → ℕ → Bool
is_at byte text index = option_map_or (λ found. found == byte) (slice_get text index) false

-- a text without the backslashes directly before pipes
abbrev pub without_escapes : List ℕ → List ℕ
without_escapes [] = []
without_escapes (byte ∷ bytes) =
    (if byte == 92 && is_at 124 bytes 0 then [] else byte ∷ []) ++ without_escapes bytes

-- a text without one space at each end, if it begins and ends with one and isn't all spaces
abbrev pub trimmed : List ℕ → List ℕ
trimmed text = if is_at 32 text 0 && is_at 32 text (length text - 1)
    && not (list_all (λ byte. byte == 32) text) then take (length text - 2) (drop 1 text) else text

-- code in a text; in an image without its tags
abbrev pub code : At → List ℕ → List ℕ → List Piece
code at tag text =
    let shown = trimmed (if at.around.in_table then without_escapes text else text) in
    if at.around.in_image then said shown else Text tag ∷ Text shown ∷ Text (codes "</code>") ∷ []
