-- The parser's result for a document, and what its text is. No public contract cites this.
use Rattle.std.specs.Prelude.{◌≡◌, ◌⊎◌, ◌≤◌, ℕ, Bool, true, false, List, Option, Some, None}
use Rattle.md_base.specs.Tree.{Forest}
use Rattle.md_tree.specs.Grammar.{Handed, IsReadAs}
use Rattle.md_depth.specs.Depth.{height}
use Rattle.md_safe.specs.Links.{has_nested_link}
use Rattle.md_tree.specs.declared.rule.CompileError.TheVariants as refusal
use Rattle.md_html.specs.declared.safe_html.SafeError.{SafeError}
use Rattle.md_html.specs.declared.safe_html.SafeError.TheVariants as safe
use Rattle.md_html.specs.declared.within.WithinError.{WithinError}
use Rattle.md_html.specs.declared.within.WithinError.TheVariants as within
use Rattle.md_blocks.specs.declared.options.MarkdownOptions.{MarkdownOptions}
use Rattle.md_markdown.specs.Made.{IsMadeOver}
use Rattle.md_markdown.specs.declared.error.MarkdownWithinError.{MarkdownWithinError}
use Rattle.md_markdown.specs.declared.error.MarkdownWithinError.TheVariants as error

-- a document of the grammar that the events flatten, in which no link contains a link, and whose
-- nodes nest no deeper than this
pub record IsShown (given : Handed) (most : ℕ) (document : Forest) : Type 0 where
  pub read : IsReadAs given document
  pub unnested : has_nested_link false document ≡ false
  pub nested : height document ≤ most

-- the text is that of a document over the bytes of events, or over the document's own
abbrev pub IsMadeOfEither : MarkdownOptions → List ℕ → List ℕ → List ℕ → Type 0
IsMadeOfEither markdown bytes document text =
    IsMadeOver markdown bytes text ⊎ IsMadeOver markdown document text

-- memory ran out
abbrev pub is_memory : SafeError → Bool
is_memory (safe.Compile refusal.Memory) = true
is_memory _ = false

-- the error of a document for an error other than an event that breaks a rule
abbrev pub of_limits : WithinError → Option MarkdownWithinError
of_limits within.TooLong = Some error.TooLong
of_limits within.TooMuch = Some error.TooMuch
of_limits (within.Compile refusal.Memory) = Some error.Memory
of_limits _ = None
