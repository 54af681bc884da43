-- The promises about a text in terms of C's input of Markdown, and how the input is read.
use Rattle.std.specs.Prelude.{◌≡◌, ◌⊎◌, ℕ, ◌+◌, ◌*◌, ◌≤◌, true, List, length, take}
use Rattle.std.specs.Str.{IsUtf8}
use Rattle.md_text.specs.Ids.{HasDistinctIds}
use Rattle.md_depth.specs.Levels.{NestsWithin}
use Rattle.md_safe.specs.Token.{Token}
use Rattle.md_safe.specs.Tokenizer.{IsTokenized}
use Rattle.md_safe.specs.Tokenized.{IsSafelyTokenized}
use Rattle.md_safe.specs.Contents.{IsContained}
use Rattle.md_safe.specs.Built.{IsBuiltAsRead}
use Rattle.md_page.specs.Built.{IsBuiltAsWritten}
use Rattle.md_abi.specs.Attributes.{asked, with_rel}
use Rattle.md_abi.specs.Attributed.{IsListedAfter}
use Rattle.md_blocks.specs.declared.options.MarkdownOptions.{MarkdownOptions}
use Rattle.md_markdown.specs.Depth.{most_depth}
use Rattle.md_markdown.specs.Keeping.{IsKeptOf}
use Rattle.md_markdown.specs.Made.{IsMadeOf}
use Rattle.md_markdown_abi.specs.Numbers.{markdown_version}
use Rattle.md_markdown_abi.specs.Options.{AreReadable, HasMarkdownOptions, keeps_html}
use Rattle.md_markdown_abi.specs.declared.option.CMarkdownOptions.{CMarkdownOptions}

-- the text is that of a document; or if HTML is kept, that of a document with pieces that authors
-- may write
abbrev pub IsMadeFor : CMarkdownOptions → MarkdownOptions → List ℕ → List ℕ → Type 0
IsMadeFor options markdown bytes plain =
    IsMadeOf markdown bytes plain
    ⊎ ((keeps_html options.html ≡ true) × IsKeptOf markdown bytes plain)

-- a text is that of the document under the options that the fields encode, and safe: it is
-- tokenized as it is read, the content model allows each element at its place, tree construction
-- builds it, the nesting of its elements doesn't exceed its limit, and if ids are by number, no two
-- are equal
pub record IsPlainOf (bytes : List ℕ) (options : CMarkdownOptions) (plain : List ℕ)
    : Type 0 where
  pub markdown : MarkdownOptions
  pub encoded : HasMarkdownOptions options markdown
  pub made : IsMadeFor options markdown bytes plain
  pub safe : IsSafelyTokenized plain
  pub contained : IsContained plain
  pub tree : IsBuiltAsRead plain
  pub nesting : NestsWithin (2 * most_depth + 5) plain
  pub distinct_ids : options.number_ids ≡ 1 → HasDistinctIds plain

-- the document has such a text; with the requested attributes its tokens are those of the bytes
-- before the index, which are built as they are written, and don't exceed their limit; the list of
-- the headings that got an id follows
pub record IsMarkdownText (bytes : List ℕ) (options : CMarkdownOptions) (start : ℕ)
    (whole : List ℕ) : Type 0 where
  pub plain : List ℕ
  pub tokens : List Token
  pub made : IsPlainOf bytes options plain
  pub tokenized : IsTokenized plain tokens
  pub listed : IsListedAfter (asked options.heading_ids)
      (with_rel (asked options.rel) tokens) start whole
  pub built : IsBuiltAsWritten (take start whole)
  pub fits : start ≤ options.max_output

-- the options have the layout that is read, and each field encodes an option
pub record AreRead (options : CMarkdownOptions) : Type 0 where
  pub version : options.version ≡ markdown_version
  pub readable : AreReadable options

-- the options are read, and the document doesn't exceed its limit in bytes
pub record IsReadable (bytes : List ℕ) (options : CMarkdownOptions) : Type 0 where
  pub options_read : AreRead options
  pub fits : length bytes ≤ options.max_input

-- besides, the document is UTF-8
pub record IsRead (bytes : List ℕ) (options : CMarkdownOptions) : Type 0 where
  pub readable : IsReadable bytes options
  pub utf8 : IsUtf8 bytes
