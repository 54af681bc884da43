-- Why there is no text without a link in a link, and the answer to it. No contract of a function
-- for C cites this.
use Rattle.std.specs.Prelude.{ℕ, List}
use Rattle.md_tree.specs.Grammar.{Handed, IsChecked}
use Rattle.md_text.specs.declared.options.CompileOptions.{CompileOptions}
use Rattle.md_safe.specs.Options as given
use Rattle.md_safe.specs.Built.{IsBuiltAsRead}
use Rattle.md_html.specs.Unnested.{AreNested}
use Rattle.md_html.specs.declared.unnested.UnnestedError.{UnnestedError}
use Rattle.md_html.specs.declared.unnested.UnnestedError.TheVariants as unnested
use Rattle.md_abi.specs.Numbers.{nested}
use Rattle.md_abi.specs.Options.{KeepsImages}
use Rattle.md_html.specs.Promises.{Promises}
use Rattle.md_abi.specs.Failures.{about, Explains}
use Rattle.md_abi.specs.Refusals.{refusal_of, answer_of_refusal, IsRefusalFor}
use Rattle.md_abi.specs.Unnested.{IsNestedIn}
use Rattle.md_abi.specs.declared.answer.Answer.{Answer}
use Rattle.md_abi.specs.declared.event.CEvent.{CEvent}
use Rattle.md_abi.specs.declared.reference.CReference.{CReference}
use Rattle.md_abi.specs.declared.option.COptions.{COptions}
use Rattle.md_abi.specs.declared.refusal.Refusal.{Refusal}
use Rattle.md_abi.specs.declared.refusal.Refusal.TheVariants as refusal
use Rattle.md_abi.specs.declared.unnested.UnnestedFailure.{UnnestedFailure}
use Rattle.md_abi.specs.declared.unnested.UnnestedFailure.TheVariants.{Nested, Refused}

-- the failure for a compiler's error
abbrev pub unnested_failure_of : UnnestedError → UnnestedFailure
unnested_failure_of unnested.Nested = Nested
unnested_failure_of (unnested.Safe cause) = Refused (refusal_of cause)

-- the answer to a failure
abbrev pub answer_of_unnested : UnnestedFailure → Answer
answer_of_unnested Nested = about nested 0
answer_of_unnested (Refused refusal) = answer_of_refusal refusal

-- a text of the converted input
pub record IsCompiledUnnested (handed : Handed) (options : CompileOptions) (text : List ℕ)
    : Type 0 where
  pub compiled : Promises options handed text
  pub safe : given.KeepsImages options
  pub tree : IsBuiltAsRead text

-- why the converted input has none
abbrev pub IsUnnestedFault : Handed → CompileOptions → UnnestedFailure → Type 0
IsUnnestedFault handed options Nested = IsChecked handed × AreNested handed.events
IsUnnestedFault handed options (Refused refusal) = IsRefusalFor handed options refusal

-- why a refusal has no text, if it isn't about attributes
abbrev pub ExplainsRefused : List CEvent → List ℕ → COptions → List CReference → Refusal → Type 0
ExplainsRefused events bytes options names refusal.Unsafe = KeepsImages options → ⊥
ExplainsRefused events bytes options names (refusal.Attribute number) = ⊥
ExplainsRefused events bytes options names (refusal.Failed failure) =
    Explains events bytes options names failure

-- why the input has no text without a link in a link
abbrev pub ExplainsUnnested : List CEvent → List ℕ → COptions → List CReference →
    UnnestedFailure → Type 0
ExplainsUnnested events bytes options names Nested = IsNestedIn events bytes names
ExplainsUnnested events bytes options names (Refused refusal) =
    ExplainsRefused events bytes options names refusal
