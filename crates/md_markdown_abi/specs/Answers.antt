-- The meaning of an answer about Markdown, by its status, and the fields that each status uses.
use Rattle.std.specs.Prelude.{◌≡◌, ◌≢◌, ◌⊎◌, ℕ, ◌<◌, ◌≤◌, List, length}
use Rattle.std.specs.Str.{IsUtf8, IsValidUpTo}
use Rattle.md_abi.specs.Numbers.{too_short, no_option, no_memory}
use Rattle.md_abi.specs.declared.answer.Answer.{Answer}
use Rattle.md_markdown_abi.specs.Numbers.{markdown_version, input_too_long}
use Rattle.md_markdown_abi.specs.Numbers.{not_utf8, no_version, too_much_work}
use Rattle.md_markdown_abi.specs.Options.{StandsForNone, AreReadable}
use Rattle.md_markdown_abi.specs.declared.option.CMarkdownOptions.{CMarkdownOptions}

-- a status that means that each option was read
pub record IsPastOptions (status : ℕ) : Type 0 where
  pub version : status ≢ no_version
  pub option : status ≢ no_option
  pub memory : status ≢ no_memory

-- a status that means that the document wasn't found to be too long
pub record IsPastLength (status : ℕ) : Type 0 where
  pub options : IsPastOptions status
  pub input : status ≢ input_too_long

-- what an answer reports other than a text: another version, an invalid option, a document that is
-- too long or isn't UTF-8 from some byte; a status that comes after these means that none of them
-- is true
pub record TellsOfMarkdown (bytes : List ℕ) (options : CMarkdownOptions) (answer : Answer)
    : Type 0 where
  pub other_version : answer.status ≡ no_version → options.version ≢ markdown_version
  pub version : answer.status ≢ no_version → options.version ≡ markdown_version
  pub no_option : answer.status ≡ no_option → StandsForNone options answer.index
  pub readable : IsPastOptions answer.status → AreReadable options
  pub too_long : answer.status ≡ input_too_long → options.max_input < length bytes
  pub counted : answer.status ≡ input_too_long → answer.length ≡ length bytes
  pub fits : IsPastLength answer.status → length bytes ≤ options.max_input
  pub invalid_from : answer.status ≡ not_utf8 → IsValidUpTo bytes answer.index
  pub utf8 : IsPastLength answer.status → answer.status ≢ not_utf8 → IsUtf8 bytes

-- a status of a call with Markdown
abbrev pub IsMarkdownStatus : ℕ → Type 0
IsMarkdownStatus status =
    (status ≤ too_short) ⊎ ((status ≡ no_option) ⊎ ((status ≡ no_memory)
    ⊎ ((input_too_long ≤ status) × ((status ≤ no_version) ⊎ (status ≡ too_much_work)))))

-- an index is reported for a text, an option or a byte; a length for a text or a document
pub record IsOfMarkdown (answer : Answer) : Type 0 where
  pub known : IsMarkdownStatus answer.status
  pub no_rule : answer.rule ≡ 0
  pub within : answer.status ≤ too_short → answer.index ≤ answer.length
  pub no_place : no_option < answer.status → answer.status ≢ not_utf8 → answer.index ≡ 0
  pub no_length : too_short < answer.status → answer.status ≢ input_too_long → answer.length ≡ 0
