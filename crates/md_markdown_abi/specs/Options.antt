-- The options of Markdown that C's fields encode.
use Rattle.std.specs.Prelude.{◌≡◌, ℕ, ◌==◌, ◌+◌, ◌-◌, ◌*◌, ◌^◌, min, Bool, false, if◌then◌else◌}
use Rattle.std.specs.Prelude.{List, [], ◌∷◌, ◌||◌, replicate, true}
use Rattle.std.specs.Prelude.{Option, Some, None, is_some, option_map, slice_get, string_bytes}
use Rattle.md_abi.specs.Options.{flag_of, text_of}
use Rattle.md_blocks.specs.declared.options.DocumentHtml.{DocumentHtml}
use Rattle.md_blocks.specs.declared.options.DocumentHtml.TheVariants.{Text, LeftOut}
use Rattle.md_blocks.specs.declared.options.DocumentHtml.TheVariants.{WithoutComments}
use Rattle.md_blocks.specs.declared.options.MarkdownOptions.{MarkdownOptions}
use Rattle.md_markdown_abi.specs.declared.option.CMarkdownOptions.{CMarkdownOptions}

-- 0 as text, 1 not at all, 2 as text without comments; what isn't kept with 3 not at all, with 4 as
-- text without comments
abbrev pub html_of : ℕ → Option DocumentHtml
html_of number =
    if number == 0 then Some Text
    else if number == 1 then Some LeftOut
    else if number == 2 then Some WithoutComments
    else if number == 3 then Some LeftOut
    else if number == 4 then Some WithoutComments
    else None

-- HTML that authors may write is kept
abbrev pub keeps_html : ℕ → Bool
keeps_html number = (number == 3) || (number == 4)

-- each option is the one that its field encodes
pub record HasMarkdownOptions (given : CMarkdownOptions) (options : MarkdownOptions) : Type 0 where
  pub number_ids : flag_of given.number_ids ≡ Some options.number_ids
  pub hard_breaks : flag_of given.hard_breaks ≡ Some options.hard_breaks
  pub bare_links : flag_of given.bare_links ≡ Some options.bare_links
  pub html : html_of given.html ≡ Some options.html
  pub math : flag_of given.math ≡ Some options.math
  pub front_matter : flag_of given.front_matter ≡ Some options.front_matter
  pub footnotes : flag_of given.footnotes ≡ Some options.footnotes
  pub tables : flag_of given.tables ≡ Some options.tables
  pub footnote_prefix :
      text_of given.footnote_prefix ≡ Some (option_map string_bytes options.footnote_prefix)
  pub footnote_label :
      text_of given.footnote_label ≡ Some (option_map string_bytes options.footnote_label)
  pub footnote_back_label :
      text_of given.footnote_back_label ≡ Some (option_map string_bytes options.footnote_back_label)
  pub base : text_of given.base ≡ Some (option_map string_bytes options.base)

-- which fields encode an option, by the options' numbers from 0
abbrev pub readable_fields : CMarkdownOptions → List Bool
readable_fields given =
    is_some (flag_of given.number_ids) ∷
    is_some (flag_of given.hard_breaks) ∷
    is_some (flag_of given.bare_links) ∷
    is_some (html_of given.html) ∷
    is_some (text_of given.footnote_prefix) ∷
    is_some (text_of given.footnote_label) ∷
    is_some (text_of given.footnote_back_label) ∷
    is_some (text_of given.base) ∷
    is_some (text_of given.rel) ∷
    is_some (text_of given.heading_ids) ∷
    is_some (flag_of given.math) ∷
    is_some (flag_of given.front_matter) ∷
    is_some (flag_of given.footnotes) ∷
    is_some (flag_of given.tables) ∷
    []

-- each field encodes an option
abbrev pub AreReadable : CMarkdownOptions → Type 0
AreReadable given = readable_fields given ≡ replicate 14 true

-- the field with this number encodes no option
abbrev pub StandsForNone : CMarkdownOptions → ℕ → Type 0
StandsForNone given number = slice_get (readable_fields given) number ≡ Some false

-- the work that a document of so many bytes is allowed if no limit is set: 2^20, and 64 for each
-- byte, and at most the greatest number
abbrev pub work_by_length : ℕ → ℕ
work_by_length bytes = min (min (bytes * 64) (2 ^ 64 - 1) + 2 ^ 20) (2 ^ 64 - 1)

-- the work limit: 2^64 - 2 means that it depends on the document's length
abbrev pub most_work : ℕ → ℕ → ℕ
most_work given bytes = if given == 2 ^ 64 - 2 then work_by_length bytes else given

-- the maximum number of nodes that are open at once: 0 means no limit of its own
abbrev pub most_nesting : ℕ → ℕ
most_nesting given = if given == 0 then 2 ^ 64 - 1 else given
