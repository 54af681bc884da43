-- From the compiler's promises, if no link contains a link, to those about C's result and its
-- answer.
use Rattle.std.proofs.Common.{◌≡◌, ℕ, ◌≤◌, List, Result, Ok, Err, IfOk, IfErr}
use Rattle.std.proofs.Common.{sym, subst, arith}
use Rattle.std.specs.Borrow.{Bor}
use Rattle.md_base.specs.declared.event.Event.{Event}
use Rattle.md_tree.specs.Grammar.{Handed, handed, IsChecked}
use Rattle.md_tree.specs.Refusal.{IsRefusal}
use Rattle.md_text.specs.declared.options.CompileOptions.{CompileOptions}
use Rattle.md_html.specs.Safe.{IsRefusedFor, OfCompile}
use Rattle.md_html.specs.Unnested.{AreNested, OfSafe, OfNested}
use Rattle.md_html.specs.declared.unnested.UnnestedError.{UnnestedError}
use Rattle.md_abi.specs.Options.{KeepsImages}
use Rattle.md_abi.specs.Unnested.{IsUnnestedText, IsNestedIn, IsOfUnnested}
use Rattle.md_abi.specs.UnnestedFailures.{unnested_failure_of, answer_of_unnested}
use Rattle.md_abi.specs.UnnestedFailures.{IsCompiledUnnested, IsUnnestedFault, ExplainsUnnested}
use Rattle.md_abi.specs.Buffer.{HandsOver, IsHandedOver}
use Rattle.md_abi.specs.declared.answer.Answer.{Answer}
use Rattle.md_abi.specs.declared.event.CEvent.{CEvent}
use Rattle.md_abi.specs.declared.reference.CReference.{CReference}
use Rattle.md_abi.specs.declared.option.COptions.{COptions}
use Rattle.md_abi.specs.declared.refusal.Refusal.TheVariants as refusal
use Rattle.md_abi.specs.declared.unnested.UnnestedFailure.{UnnestedFailure}
use Rattle.md_abi.specs.declared.unnested.UnnestedFailure.TheVariants.{Nested, Refused}
use Rattle.md_abi.proofs.GivenLemmas.{IsRead}
use Rattle.md_abi.proofs.AttributedLemmas.{keeps_images, safe_fault_of}
use Rattle.md_abi.proofs.AnswerLemmas.{failure_hands_over, failure_of_compile}
use Rattle.md_abi.proofs.AnswerLemmas.{failure_says, Says, says_nothing}

-- ---- the failure for a compiler's error

pub fault_of : (given : Handed) (options : CompileOptions) (why : UnnestedError) →
    OfNested (AreNested given.events) why → OfNested (IsChecked given) why →
    OfSafe (IsRefusedFor options) why → OfSafe (OfCompile (IsRefusal given)) why →
    IsUnnestedFault given options (unnested_failure_of why)
fault_of given options why nests checked unsafe refused = grind (arith, safe_fault_of)

-- ---- the converted input, passed as slices

module _ (events : List CEvent) (bytes : List ℕ) (options : COptions) (names : List CReference)
    (slice : List Event) (given : CompileOptions) (pairs : List (Bor (List ℕ) × Bor (List ℕ)))
    (read : IsRead events options names slice given pairs) where
  pub unnested_given : (r : Result (List ℕ) UnnestedFailure) →
      IfOk r (IsCompiledUnnested (handed slice bytes pairs) given) →
      IfOk r (IsUnnestedText events bytes options names)
  unnested_given r h = grind (arith, keeps_images)

  explained_unnested : (why : UnnestedFailure) →
      IsUnnestedFault (handed slice bytes pairs) given why →
      ExplainsUnnested events bytes options names why
  explained_unnested why h = grind arith

  pub fault_given : (r : Result (List ℕ) UnnestedFailure) →
      IfErr r (IsUnnestedFault (handed slice bytes pairs) given) →
      IfErr r (ExplainsUnnested events bytes options names)
  fault_given (Ok text) h = tt
  fault_given (Err why) h = explained_unnested why h

-- ---- answers

pub unnested_hands_over : (claim : List ℕ → Type 0) (old : List ℕ) (why : UnnestedFailure)
    (answer : Answer) → answer ≡ answer_of_unnested why → HandsOver claim old old answer
unnested_hands_over claim old why answer is = grind (arith, failure_hands_over)

pub text_of_unnested : (text old new : List ℕ) (answer : Answer) →
    IsHandedOver text old new answer → answer.status ≤ 1 → IsOfUnnested answer
text_of_unnested text old new answer handed few = grind arith

module _ (events : List CEvent) (bytes : List ℕ) (options : COptions)
    (names : List CReference) where
  pub unnested_fields : (why : UnnestedFailure) (answer : Answer) →
      answer ≡ answer_of_unnested why → ExplainsUnnested events bytes options names why →
      IsOfUnnested answer
  unnested_fields why answer is h = grind (arith, failure_of_compile)

  -- what each status says
  pub record SaysUnnested (answer : Answer) : Type 0 where
    pub plain : Says events bytes options names answer
    pub open plain use *
    pub unsafe_options : answer.status ≡ 8 → KeepsImages options → ⊥
    pub nested : answer.status ≡ 12 → IsNestedIn events bytes names

  pub unnested_says : (why : UnnestedFailure) (answer : Answer) → answer ≡ answer_of_unnested why →
      ExplainsUnnested events bytes options names why → SaysUnnested answer
  unnested_says why answer is h = subst SaysUnnested (sym is) (of why h)
    where
      of : (why : UnnestedFailure) → ExplainsUnnested events bytes options names why →
          SaysUnnested (answer_of_unnested why)
      of Nested h = grind (arith, says_nothing)
      of (Refused refusal.Unsafe) h = grind (arith, says_nothing)
      of (Refused (refusal.Attribute number)) h = absurd h
      of (Refused (refusal.Failed cause)) h = grind (arith, failure_says, failure_of_compile)

  pub text_says_unnested : (answer : Answer) → answer.status ≤ 1 → SaysUnnested answer
  text_says_unnested answer few = grind arith
