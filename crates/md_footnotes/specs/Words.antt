-- Definitions for parts of the printed text. Only contracts inside this crate cite this.
use Rattle.std.specs.Prelude.{ℕ, ◌-◌, Bool, List, [], ◌∷◌, ◌++◌, take, drop, find, option_map}
use Rattle.std.specs.Prelude.{bytes_eq, codes, string_bytes}
use Rattle.std.specs.Option.{option_map_or}
use Rattle.std.specs.Fmt.{decimal}
use Rattle.md_text.specs.declared.options.CompileOptions.{CompileOptions}
use Rattle.md_meaning.specs.Meaning.Layout.{Piece, Text, Forced, on_own_line}
use Rattle.md_meaning.specs.Meaning.At.{Footnote}
use Rattle.md_meaning.specs.Meaning.Footnotes.{option_or, id_of, call_id, unended_length, body}
use Rattle.md_meaning.specs.Meaning.Footnotes.{backreferences}
pub use Rattle.md_meaning.specs.FootnoteHeading.{tag_of, attributes_of}

-- a call of the footnote with this number, with its occurrence
abbrev pub tags : CompileOptions → List ℕ → ℕ → ℕ → List Piece
tags options identifier number occurrence = Text (codes "<sup><a href=\"#")
    ∷ Text (id_of options (codes "fn-") identifier number) ∷ Text (codes "\" id=\"")
    ∷ Text (call_id options identifier number occurrence)
    ∷ Text (codes "\" data-footnote-ref=\"\" aria-describedby=\"footnote-label\">")
    ∷ Text (decimal number) ∷ Text (codes "</a></sup>") ∷ []

-- the text of the first footnote with an identifier
abbrev pub text_of : List Footnote → List ℕ → List ℕ
text_of footnotes identifier = option_map_or (λ footnote. footnote.text)
    (find (λ footnote. bytes_eq footnote.identifier identifier) footnotes) []

-- a footnote in the section, with its number, its number of calls and its text
abbrev pub item_of : CompileOptions → List ℕ → ℕ → ℕ → List ℕ → List Piece
item_of options identifier number count text =
    Forced ∷ Text (codes "<li id=\"") ∷ Text (id_of options (codes "fn-") identifier number)
    ∷ Text (codes "\">") ∷ Forced
    ∷ (body text (backreferences options identifier number count) ++ on_own_line (codes "</li>"))

abbrev pub heading_of : CompileOptions → List ℕ
heading_of options =
    option_or (option_map string_bytes options.gfm_footnote_label) (codes "Footnotes")

abbrev pub label_of : CompileOptions → List ℕ
label_of options =
    option_or (option_map string_bytes options.gfm_footnote_back_label) (codes "Back to content")

-- a text without the CR and LF at its end
abbrev pub unended : List ℕ → List ℕ
unended text = take (unended_length text) text

-- a text ends in `</p>`, ignoring CR and LF
abbrev pub ends_in_paragraph : List ℕ → Bool
ends_in_paragraph text = bytes_eq (drop (unended_length text - 4) (unended text)) (codes "</p>")
