-- Why there is no text with attributes, and the answer to it. Only contracts of private functions
-- cite this, except for the two statuses.
use Rattle.std.specs.Prelude.{◌≡◌, ℕ, List, Option, None}
use Rattle.md_tree.specs.Grammar.{Handed}
use Rattle.md_text.specs.declared.options.CompileOptions.{CompileOptions}
use Rattle.md_html.specs.declared.safe_html.SafeError.{SafeError}
use Rattle.md_html.specs.declared.safe_html.SafeError.TheVariants as safe
use Rattle.md_safe.specs.Options as given
use Rattle.md_abi.specs.Numbers.{unsafe_options, no_attribute}
use Rattle.md_abi.specs.Options.{KeepsImages}
use Rattle.md_abi.specs.Attributes.{StandsForNoAttribute}
use Rattle.md_abi.specs.Failures.{failure_of, about, answer_of, Explains, IsRefusalOf}
use Rattle.md_abi.specs.declared.answer.Answer.{Answer}
use Rattle.md_abi.specs.declared.event.CEvent.{CEvent}
use Rattle.md_abi.specs.declared.reference.CReference.{CReference}
use Rattle.md_abi.specs.declared.option.COptions.{COptions}
use Rattle.md_abi.specs.declared.attributes.CAttributes.{CAttributes}
use Rattle.md_abi.specs.declared.refusal.Refusal.{Refusal}
use Rattle.md_abi.specs.declared.refusal.Refusal.TheVariants as refusal

-- the refusal for the error of a safe text
abbrev pub refusal_of : SafeError → Refusal
refusal_of safe.Options = refusal.Unsafe
refusal_of (safe.Compile cause) = refusal.Failed (failure_of cause)

-- the answer to a refusal
abbrev pub answer_of_refusal : Refusal → Answer
answer_of_refusal refusal.Unsafe = about unsafe_options 0
answer_of_refusal (refusal.Attribute number) = about no_attribute number
answer_of_refusal (refusal.Failed failure) = answer_of failure

-- the attribute with this number has no meaning
abbrev pub IsAttributeFault : {A : Type 0} → ℕ → Option A → Refusal → Type 0
IsAttributeFault field value refusal.Unsafe = ⊥
IsAttributeFault field value (refusal.Attribute number) = (number ≡ field) × (value ≡ None)
IsAttributeFault field value (refusal.Failed failure) = ⊥

-- why the converted input has no safe text
abbrev pub IsRefusalFor : Handed → CompileOptions → Refusal → Type 0
IsRefusalFor handed options refusal.Unsafe = given.KeepsImages options → ⊥
IsRefusalFor handed options (refusal.Attribute number) = ⊥
IsRefusalFor handed options (refusal.Failed failure) = IsRefusalOf handed failure

-- why the input has no text with attributes
abbrev pub ExplainsRefusal : List CEvent → List ℕ → COptions → List CReference →
    CAttributes → Refusal → Type 0
ExplainsRefusal events bytes options names attributes refusal.Unsafe = KeepsImages options → ⊥
ExplainsRefusal events bytes options names attributes (refusal.Attribute number) =
    StandsForNoAttribute attributes number
ExplainsRefusal events bytes options names attributes (refusal.Failed failure) =
    Explains events bytes options names failure
