-- Worked trees by topic, each with its bytes, its options if any are set, and the text that is its
-- meaning. Texts with footnotes share some definitions.
pub mod Blocks
pub mod Lists
pub mod Spans
pub mod Media
pub mod Options
pub mod Tables
pub mod Footnotes
pub mod FootnoteTexts
pub mod FootnoteIds
pub mod Endings
pub mod Clearing
use Prim.Native.String.{String}
use Rattle.std.specs.Prelude.{◌≡◌, ℕ, List, [], ◌∷◌, ◌++◌, codes}
use Rattle.md_base.specs.declared.event.Point.{Point}
use Rattle.md_base.specs.Tree.{Forest}
use Rattle.md_text.specs.Defaults.{default_options}
use Rattle.md_text.specs.declared.options.CompileOptions.{CompileOptions}
use Rattle.md_meaning.specs.Meaning.{meaning}

-- a point before the byte at an index; below, one after some columns of a tab
abbrev pub at : ℕ → Point
at index = record { line = 1; column = 1; index = index; vs = 0 }

abbrev pub at_column : ℕ → ℕ → Point
at_column index columns = record { line = 1; column = 1; index = index; vs = columns }

-- the call of a footnote, by the ids of both and the footnote's number
abbrev pub call_tag : (footnote call number : String) → List ℕ
call_tag footnote call number =
    codes "<sup><a href=\"#user-content-fn-" ++ codes footnote
    ++ codes "\" id=\"user-content-fnref-" ++ codes call
    ++ codes "\" data-footnote-ref=\"\" aria-describedby=\"footnote-label\">" ++ codes number
    ++ codes "</a></sup>"

-- the head of the section of footnotes
abbrev pub section_head : List ℕ
section_head = codes "<section data-footnotes=\"\" class=\"footnotes\">"
    ++ codes "<h2 id=\"footnote-label\" class=\"sr-only\">Footnotes</h2>"

-- the tag of the backreference to a call
abbrev pub way_back_tag : String → List ℕ
way_back_tag call =
    codes "<a href=\"#user-content-fnref-" ++ codes call ++ codes "\" data-footnote-backref=\"\""
    ++ codes " aria-label=\"Back to content\" class=\"data-footnote-backref\">"

-- the backreference to the first call of a footnote, with its arrow (U+21A9)
abbrev pub way_back : String → List ℕ
way_back call = way_back_tag call ++ (226 ∷ 134 ∷ 169 ∷ []) ++ codes "</a>"

-- the backreference to a later call, with its number among the calls of the footnote
abbrev pub numbered_way_back : (call number : String) → List ℕ
numbered_way_back call number =
    way_back_tag call ++ (226 ∷ 134 ∷ 169 ∷ []) ++ codes "<sup>" ++ codes number
    ++ codes "</sup></a>"

-- under these options and no names of references, the meaning of the tree over the
-- bytes is this text
abbrev pub MeansWith : CompileOptions → List ℕ → Forest → List ℕ → Type 0
MeansWith options bytes document text = meaning options [] bytes document ≡ text

-- the same under the default options
abbrev pub Means : List ℕ → Forest → List ℕ → Type 0
Means bytes document text = MeansWith default_options bytes document text
