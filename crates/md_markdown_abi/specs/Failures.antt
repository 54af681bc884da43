-- The meaning of a failure, and the answer to it. No contract of a function for C cites this.
use Rattle.std.specs.Prelude.{◌≡◌, ◌≢◌, ◌⊎◌, ℕ, ◌<◌, ◌≤◌, List, length}
use Rattle.std.specs.Str.{IsValidUpTo}
use Rattle.md_abi.specs.Failures.{answer_of}
use Rattle.md_abi.specs.declared.answer.Answer.{Answer}
use Rattle.md_abi.specs.declared.failure.Failure.{Failure}
use Rattle.md_abi.specs.declared.failure.Failure.TheVariants as failure
use Rattle.md_markdown.specs.declared.error.MarkdownWithinError.{MarkdownWithinError}
use Rattle.md_markdown.specs.declared.error.MarkdownWithinError.TheVariants as within
use Rattle.md_markdown_abi.specs.Numbers.{markdown_version, input_too_long, output_too_long}
use Rattle.md_markdown_abi.specs.Numbers.{not_utf8, no_version, too_much_work}
use Rattle.md_markdown_abi.specs.Options.{StandsForNone}
use Rattle.md_markdown_abi.specs.Text.{AreRead, IsReadable, IsRead}
use Rattle.md_markdown_abi.specs.declared.option.CMarkdownOptions.{CMarkdownOptions}
use Rattle.md_markdown_abi.specs.declared.failure.MarkdownFailure.{MarkdownFailure}
use Rattle.md_markdown_abi.specs.declared.failure.MarkdownFailure.TheVariants as variant
use variant.{NoVersion, InputTooLong, NotUtf8, OutputTooLong, TooMuchWork, Failed}

-- the failure for the reason why there is no text within limits
abbrev pub failure_within : MarkdownWithinError → MarkdownFailure
failure_within within.TooLong = OutputTooLong
failure_within within.TooMuch = TooMuchWork
failure_within within.Memory = Failed failure.Memory

-- a status, an index and a length
abbrev pub answer_with : ℕ → ℕ → ℕ → Answer
answer_with status index size = record { status = status; rule = 0; index = index; length = size }

-- the answer to a failure
abbrev pub answer_of_markdown : MarkdownFailure → Answer
answer_of_markdown NoVersion = answer_with no_version 0 0
answer_of_markdown (InputTooLong size) = answer_with input_too_long 0 size
answer_of_markdown (NotUtf8 index) = answer_with not_utf8 index 0
answer_of_markdown OutputTooLong = answer_with output_too_long 0 0
answer_of_markdown TooMuchWork = answer_with too_much_work 0 0
answer_of_markdown (Failed cause) = answer_of cause

-- why there is no text, if an option or memory is the reason
abbrev pub ExplainsFault : List ℕ → CMarkdownOptions → Failure → Type 0
ExplainsFault bytes options failure.Memory = options.version ≡ markdown_version
ExplainsFault bytes options (failure.Option number) =
    (options.version ≡ markdown_version) × StandsForNone options number
ExplainsFault bytes options _ = ⊥

-- why a document has no text
abbrev pub ExplainsMarkdown : List ℕ → CMarkdownOptions → MarkdownFailure → Type 0
ExplainsMarkdown bytes options NoVersion = options.version ≢ markdown_version
ExplainsMarkdown bytes options (InputTooLong size) =
    AreRead options × ((size ≡ length bytes) × (options.max_input < length bytes))
ExplainsMarkdown bytes options (NotUtf8 index) = IsReadable bytes options × IsValidUpTo bytes index
ExplainsMarkdown bytes options OutputTooLong = IsRead bytes options
ExplainsMarkdown bytes options TooMuchWork = IsRead bytes options
ExplainsMarkdown bytes options (Failed cause) = ExplainsFault bytes options cause

-- the text is too long, or memory ran out
abbrev pub IsOfText : MarkdownFailure → Type 0
IsOfText why = (why ≡ OutputTooLong) ⊎ (why ≡ Failed failure.Memory)

-- memory ran out, or an invalid option's field is reported
abbrev pub IsOptionFault : CMarkdownOptions → Failure → Type 0
IsOptionFault options failure.Memory = Unit {0}
IsOptionFault options (failure.Option number) = StandsForNone options number
IsOptionFault options _ = ⊥

-- the document exceeds its limit, or isn't UTF-8 from some byte
abbrev pub IsDocumentFault : List ℕ → ℕ → MarkdownFailure → Type 0
IsDocumentFault bytes most (InputTooLong size) = (size ≡ length bytes) × (most < length bytes)
IsDocumentFault bytes most (NotUtf8 index) = (length bytes ≤ most) × IsValidUpTo bytes index
IsDocumentFault bytes most _ = ⊥
