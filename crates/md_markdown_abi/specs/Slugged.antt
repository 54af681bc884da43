-- The promises about a text whose headings have ids derived from their texts, in terms of C's
-- input.
use Rattle.std.specs.Prelude.{◌≡◌, ℕ, ◌≤◌, true, false, IsTrue, List, ◌∷◌, ◌++◌, length, take}
use Rattle.std.specs.Prelude.{drop, map}
use Rattle.std.specs.List.{flat_map}
use Rattle.md_text.specs.Encode.{encoded}
use Rattle.md_text.specs.Ids.{are_distinct}
use Rattle.md_safe.specs.Token.{Token}
use Rattle.md_safe.specs.Tokenizer.{IsTokenized}
use Rattle.md_page.specs.Added.{headings_of}
use Rattle.md_page.specs.Attributed.{IsAttributed}
use Rattle.md_page.specs.Built.{IsBuiltAsWritten}
use Rattle.md_page.specs.GivenIds.{is_among, with_given_ids, written_id}
use Rattle.md_page.specs.Ids.{ids_among}
use Rattle.md_page.specs.Pieces.{IsWritten}
use Rattle.md_abi.specs.Attributes.{asked, with_rel, listing}
use Rattle.md_markdown_abi.specs.Text.{IsPlainOf}
use Rattle.md_markdown_abi.specs.declared.option.CMarkdownOptions.{CMarkdownOptions}

-- the ids in the list: a NUL and `#` before each; no escaped id has a NUL
abbrev pub id_listing : List (List ℕ) → List ℕ
id_listing ids = flat_map (λ id. 0 ∷ 35 ∷ encoded true id) ids

-- the bytes before the index are tokenized as these tokens with an id on each heading that had
-- none, and fulfil the promises about such a text; they are written as whole tags and texts; the
-- bytes after it are the list of these headings, and then of their ids; no two of these ids are
-- equal, and none is one among the tokens; if no two of those are equal, no two of the text are
pub record IsSluggedAfter (tokens : List Token) (start : ℕ) (whole : List ℕ) : Type 0 where
  pub ids : List (List ℕ)
  pub within : start ≤ length whole
  pub count : length ids ≡ length (headings_of tokens)
  pub added : IsTokenized (take start whole) (with_given_ids ids tokens)
  pub attributed : IsAttributed (take start whole)
  pub written : IsWritten (take start whole)
  pub headings : drop start whole ≡ listing (headings_of tokens) ++ id_listing ids
  pub differ : IsTrue (are_distinct (map written_id ids))
  pub free : (id : List ℕ) → IsTrue (is_among id (ids_among tokens)) →
      is_among (encoded true id) (map written_id ids) ≡ false
  pub distinct : IsTrue (are_distinct (ids_among tokens)) →
      IsTrue (are_distinct (ids_among (with_given_ids ids tokens)))

-- the document has a text, as without ids; with the requested `rel`, and with ids, its tokens are
-- those of the bytes before the index, which are built as they are written, and don't exceed their
-- limit; the lists follow
pub record IsSluggedText (bytes : List ℕ) (options : CMarkdownOptions) (start : ℕ)
    (whole : List ℕ) : Type 0 where
  pub plain : List ℕ
  pub tokens : List Token
  pub made : IsPlainOf bytes options plain
  pub tokenized : IsTokenized plain tokens
  pub slugged : IsSluggedAfter (with_rel (asked options.rel) tokens) start whole
  pub built : IsBuiltAsWritten (take start whole)
  pub fits : start ≤ options.max_output
