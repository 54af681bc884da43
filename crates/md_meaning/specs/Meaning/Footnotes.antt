-- The meaning of footnote calls, and the section of footnotes at the end of a document.
use Rattle.std.specs.Prelude.{ℕ, ◌+◌, ◌-◌, zero, suc, true, not, ◌&&◌, ◌||◌, ◌==◌, if◌then◌else◌}
use Rattle.std.specs.Prelude.{List, [], ◌∷◌, ◌++◌, length, take, drop, filter, find, Option}
use Rattle.std.specs.Prelude.{option_map, bytes_eq, codes, string_bytes}
use Rattle.std.specs.Option.{option_map_or}
use Rattle.std.specs.List.{flat_map}
use Rattle.std.specs.Fmt.{decimal}
use Rattle.md_text.specs.Encode.{encoded}
use Rattle.md_text.specs.Url.{sanitized}
use Rattle.md_text.specs.declared.options.CompileOptions.{CompileOptions}
use Rattle.md_meaning.specs.Meaning.Layout.{Piece, Text, Needed, Forced, on_own_line, when}
use Rattle.md_meaning.specs.Meaning.At.{Footnote, Context, At, identifier_of}

-- the distinct identifiers, in the order of their first occurrences
abbrev pub distinct : List (List ℕ) → List (List ℕ)
distinct [] = []
distinct (first ∷ others) = first ∷ filter (λ other. not (bytes_eq other first)) (distinct others)

-- the place of an identifier among some, from 1
abbrev pub place_among : List (List ℕ) → List ℕ → ℕ
place_among [] identifier = 1
place_among (other ∷ others) identifier =
    if bytes_eq other identifier then 1 else suc (place_among others identifier)

-- how many calls have an identifier
abbrev pub count_of : List (List ℕ) → List ℕ → ℕ
count_of [] wanted = 0
count_of (other ∷ others) wanted = (if bytes_eq other wanted then 1 else 0) + count_of others wanted

-- the text of an option, escaped, or its default if it is unset
abbrev pub option_or : Option (List ℕ) → List ℕ → List ℕ
option_or text unset = option_map_or (λ set. encoded true set) text unset

-- an id: the prefix, the kind of id, and the footnote's number if ids are by number, else its
-- identifier as a URL
abbrev pub id_of : CompileOptions → List ℕ → List ℕ → ℕ → List ℕ
id_of options kind identifier number =
    option_or (option_map string_bytes options.gfm_footnote_clobber_prefix) (codes "user-content-")
    ++ (kind ++ (if options.gfm_footnote_number_ids then decimal number else sanitized identifier))

-- the id of a call: the same followed by `-` and the call's number among those of its footnote; if
-- ids are by identifier, the first call has no such suffix
abbrev pub call_id : CompileOptions → List ℕ → ℕ → ℕ → List ℕ
call_id options identifier number occurrence =
    id_of options (codes "fnref-") identifier number
    ++ (if not options.gfm_footnote_number_ids && occurrence == 1 then []
    else codes "-" ++ decimal occurrence)

-- a call: its number is the position of its identifier among the distinct ones of all calls; its
-- occurrence counts the calls with its identifier that end before it, and itself
abbrev pub call : Context → At → List Piece
call context at =
    let identifier = identifier_of context.bytes at.children in
    let number = place_among (distinct context.calls) identifier in
    when (not at.around.in_image) (Text (codes "<sup><a href=\"#")
    ∷ Text (id_of context.options (codes "fn-") identifier number) ∷ Text (codes "\" id=\"")
    ∷ Text (call_id context.options identifier number (suc (count_of at.calls identifier)))
    ∷ Text (codes "\" data-footnote-ref=\"\" aria-describedby=\"footnote-label\">")
    ∷ Text (decimal number) ∷ Text (codes "</a></sup>") ∷ [])

-- the backreference from a footnote to one of its calls; the arrow is U+21A9
abbrev pub backreference : CompileOptions → List ℕ → ℕ → ℕ → List ℕ
backreference options identifier number occurrence =
    codes "<a href=\"#" ++ (call_id options identifier number occurrence
    ++ (codes "\" data-footnote-backref=\"\" aria-label=\"" ++ (option_or (option_map string_bytes
    options.gfm_footnote_back_label) (codes "Back to content")
    ++ (codes "\" class=\"data-footnote-backref\">" ++ ((226 ∷ 134 ∷ 169 ∷ []) ++ ((if occurrence
    == 1 then [] else codes "<sup>" ++ (decimal occurrence ++ codes "</sup>")) ++ codes "</a>"))))))

-- the backreferences to so many calls, with single spaces between
abbrev pub backreferences : CompileOptions → List ℕ → ℕ → ℕ → List ℕ
backreferences options identifier number zero = []
backreferences options identifier number (suc count) =
    backreferences options identifier number count ++ ((if count == 0 then [] else codes " ")
    ++ backreference options identifier number (suc count))

-- the length of a text without the CR and LF bytes at its end
abbrev pub unended_length : List ℕ → ℕ
unended_length [] = 0
unended_length (byte ∷ bytes) =
    if ((byte == 13) || (byte == 10)) && (unended_length bytes == 0) then 0
    else suc (unended_length bytes)

-- a footnote's text and its backreferences: inserted before the `</p>` that ends it, ignoring CR
-- and LF, else appended
abbrev pub body : List ℕ → List ℕ → List Piece
body text back =
    let end = unended_length text - 4 in
    if bytes_eq (drop end (take (unended_length text) text)) (codes "</p>")
    then Text (take end text) ∷ Text (codes " ") ∷ Text back ∷ Text (drop end text) ∷ []
    else Text text ∷ Needed ∷ Text back ∷ []

-- a footnote in the section: the first one that has the identifier of these calls, with their
-- number
abbrev pub item : Context → List Footnote → List ℕ → List Piece
item context footnotes identifier =
    let number = place_among (distinct context.calls) identifier in
    let footnote = find (λ footnote. bytes_eq footnote.identifier identifier) footnotes in
    Forced ∷ Text (codes "<li id=\"") ∷ Text (id_of context.options (codes "fn-") identifier number)
    ∷ Text (codes "\">") ∷ Forced
    ∷ (body (option_map_or (λ footnote. footnote.text) footnote [])
    (backreferences context.options identifier number (count_of context.calls identifier))
    ++ on_own_line (codes "</li>"))

-- the section's heading, and the list's tag
abbrev pub section_start : CompileOptions → List Piece
section_start options =
    let tag =
    option_or (option_map string_bytes options.gfm_footnote_label_tag_name) (codes "h2") in
    Needed ∷ Text (codes "<section data-footnotes=\"\" class=\"footnotes\"><") ∷ Text tag
    ∷ Text (codes " id=\"footnote-label\" ")
    ∷ Text (option_map_or string_bytes options.gfm_footnote_label_attributes
    (codes "class=\"sr-only\""))
    ∷ Text (codes ">")
    ∷ Text (option_or (option_map string_bytes options.gfm_footnote_label) (codes "Footnotes"))
    ∷ Text (codes "</") ∷ Text tag ∷ Text (codes ">") ∷ Forced ∷ Text (codes "<ol>") ∷ []

-- the section, if there is a call: one item for each identifier, by its number
abbrev pub section : Context → List Footnote → List Piece
section context footnotes = when (not (length context.calls == 0)) (section_start context.options
    ++ (flat_map (item context footnotes) (distinct context.calls)
    ++ (Forced ∷ Text (codes "</ol>") ∷ Forced ∷ Text (codes "</section>") ∷ Forced ∷ [])))
