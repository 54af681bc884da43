-- What lists, headings and code mean.
use Rattle.std.specs.Prelude.{ℕ, Bool, true, false, not, ◌&&◌, ◌||◌, ◌==◌, nat_lt, if◌then◌else◌}
use Rattle.std.specs.Prelude.{List, [], ◌∷◌, ◌++◌, length, codes, bytes_eq, count_by, unwrap_or}
use Rattle.std.specs.Option.{option_map_or}
use Rattle.std.specs.List.{list_any}
use Rattle.std.specs.Fmt.{decimal}
use Rattle.md_text.specs.Encode.{encoded}
use Rattle.md_base.specs.declared.event.Name.TheVariants.{HeadingAtxSequence, ListItemPrefix}
use Rattle.md_base.specs.declared.event.Name.TheVariants.{Paragraph}
use Rattle.md_base.specs.Is.{is}
use Rattle.md_base.specs.Children.{spine_names, last_name, last_contributing}
use Rattle.md_base.specs.NameTests.{is_fence, is_chunk}
use Rattle.md_base.specs.Place.{serialized_between}
use Rattle.md_tree.specs.Rules.{columns}
use Rattle.md_meaning.specs.declared.surroundings.Container.TheVariants.{Nothing}
use Rattle.md_meaning.specs.Meaning.Inherited.{is_tight}
use Rattle.md_meaning.specs.Meaning.Layout.{Piece, Text, Needed, Forced, said, on_own_line, when}
use Rattle.md_meaning.specs.Meaning.Finds.{first_named, number_in_list}
use Rattle.md_meaning.specs.Meaning.Spans.{is_at}
use Rattle.md_meaning.specs.Meaning.At.{Context, At, text_in}

-- digits without leading zeros
abbrev pub without_zeros : List ℕ → List ℕ
without_zeros [] = []
without_zeros (digit ∷ digits) =
    if digit == 48 && nat_lt 0 (length digits) then without_zeros digits else digit ∷ digits

-- ` start="` number `"` for the number of a list's first item, unless it is 1
abbrev pub list_start : Context → At → List Piece
list_start context at =
    let number =
    without_zeros (option_map_or (text_in context.bytes) (number_in_list at.children) (codes "1"))
    in
    when (not (bytes_eq number (codes "1")))
    (Text (codes " start=\"") ∷ Text number ∷ Text (codes "\"") ∷ [])

-- the last child that contributes is the item's prefix, or a paragraph in a tight list
abbrev pub ends_in_line : At → Bool
ends_in_line at = option_map_or (is ListItemPrefix) (last_contributing at.children) false
    || option_map_or (is Paragraph) (last_contributing at.children) false
    && is_tight at.around.container

-- a heading's tag
abbrev pub heading_tag : List ℕ → ℕ → List ℕ
heading_tag begin rank = begin ++ (decimal rank ++ codes ">")

abbrev pub heading : ℕ → List Piece → List Piece
heading rank inner =
    on_own_line (heading_tag (codes "<h") rank) ++ (inner ++ said (heading_tag (codes "</h") rank))

-- the length of a heading's first mark
abbrev pub atx_rank : At → ℕ
atx_rank at = option_map_or (λ place. columns place.start place.end)
    (first_named HeadingAtxSequence at.children) 0

-- 2 if the underline begins with `-`, else 1
abbrev pub underline_rank : Context → At → ℕ
underline_rank context at = if is_at 45 context.bytes at.place.start.index then 2 else 1

-- a line of code, with spaces for the tabs that are cut at its ends
abbrev pub chunk : Context → At → List Piece
chunk context at =
    said (encoded true (unwrap_or (serialized_between context.bytes at.place.start at.place.end)
    []))

-- a line ending if needed, if there is a line of code, then the end of code
abbrev pub code_end : At → List Piece
code_end at =
    when (list_any is_chunk (spine_names at.children)) (Needed ∷ []) ++ said (codes "</code></pre>")

-- code that has only one fence
abbrev pub is_unclosed : At → Bool
is_unclosed at = count_by is_fence (spine_names at.children) == 1

-- code or math in a container, with one fence that isn't its last child: the container ends before
-- a closing fence
abbrev pub runs_out : At → Bool
runs_out at = is_unclosed at && (elim at.around.container [ Nothing ↦ false | _ ↦ true ])
    && not (option_map_or is_fence (last_name at.children) false)

-- code or math between fences
abbrev pub fenced : At → List ℕ → List Piece → List Piece
fenced at start inner = on_own_line start ++ (inner
    ++ (when (runs_out at) (Forced ∷ []) ++ (code_end at ++ when (is_unclosed at) (Needed ∷ []))))
