-- The promises of an answer with a list after its text, and of one with a refusal.
use Rattle.std.proofs.Common.{◌≡◌, ℕ, ◌≤◌, List, length, sym, subst}
use Rattle.std.proofs.Common.{arith}
use Rattle.md_abi.specs.Options.{KeepsImages}
use Rattle.md_abi.specs.Attributes.{StandsForNoAttribute}
use Rattle.md_abi.specs.Refusals.{answer_of_refusal, ExplainsRefusal}
use Rattle.md_abi.specs.Buffer.{HandsOver, IsListHandedOver}
use Rattle.md_abi.specs.Answers.{IsOfAttributed}
use Rattle.md_abi.specs.declared.answer.Answer.{Answer}
use Rattle.md_abi.specs.declared.event.CEvent.{CEvent}
use Rattle.md_abi.specs.declared.reference.CReference.{CReference}
use Rattle.md_abi.specs.declared.option.COptions.{COptions}
use Rattle.md_abi.specs.declared.attributes.CAttributes.{CAttributes}
use Rattle.md_abi.specs.declared.refusal.Refusal.{Refusal}
use Rattle.md_abi.specs.declared.refusal.Refusal.TheVariants as refusal
use Rattle.md_abi.proofs.AnswerLemmas.{failure_hands_over}
use Rattle.md_abi.proofs.AnswerLemmas.{failure_of_compile, failure_says, Says}
use Rattle.md_abi.proofs.AnswerLemmas.{says_nothing}

pub list_handed : (claim : ℕ → List ℕ → Type 0) (whole : List ℕ) (start : ℕ)
    (old new : List ℕ) (answer : Answer) →
    claim start whole → IsListHandedOver whole start old new answer →
    HandsOver (claim answer.index) old new answer
list_handed claim whole start old new answer holds listed = grind arith

abbrev pub moved : ℕ → Answer → Answer
moved start answer = record answer { index = start }

pub list_fields : (whole : List ℕ) (start : ℕ) (old new : List ℕ) (answer : Answer) →
    start ≤ length whole →
    IsListHandedOver whole start old new answer → IsOfAttributed answer
list_fields whole start old new answer within listed = grind arith

pub list_status : (whole : List ℕ) (start : ℕ) (old new : List ℕ) (answer : Answer) →
    start ≤ length whole →
    IsListHandedOver whole start old new answer → answer.status ≤ 1
list_status whole start old new answer within listed = grind arith

pub refusal_hands_over :
    (claim : ℕ → List ℕ → Type 0) (old : List ℕ) (why : Refusal) (answer : Answer) →
    answer ≡ answer_of_refusal why → HandsOver (claim answer.index) old old answer
refusal_hands_over claim old why answer is = grind (arith, failure_hands_over)

module _ (events : List CEvent) (bytes : List ℕ) (options : COptions) (names : List CReference)
    (attributes : CAttributes) where
  pub refusal_fields : (why : Refusal) (answer : Answer) → answer ≡ answer_of_refusal why →
      ExplainsRefusal events bytes options names attributes why → IsOfAttributed answer
  refusal_fields why answer is h = grind (arith, failure_of_compile)

  -- what each status says
  pub record SaysRefusal (answer : Answer) : Type 0 where
    pub plain : Says events bytes options names answer
    pub open plain use *
    pub unsafe_options : answer.status ≡ 8 → KeepsImages options → ⊥
    pub no_attribute : answer.status ≡ 9 → StandsForNoAttribute attributes answer.index

  pub refusal_says : (why : Refusal) (answer : Answer) → answer ≡ answer_of_refusal why →
      ExplainsRefusal events bytes options names attributes why → SaysRefusal answer
  refusal_says why answer is h = subst SaysRefusal (sym is) (of why h)
    where
      of : (why : Refusal) → ExplainsRefusal events bytes options names attributes why →
          SaysRefusal (answer_of_refusal why)
      of refusal.Unsafe h = grind (arith, says_nothing)
      of (refusal.Attribute number) h = grind (arith, says_nothing)
      of (refusal.Failed cause) h = grind (arith, failure_says, failure_of_compile)

  pub list_says : (answer : Answer) → answer.status ≤ 1 → SaysRefusal answer
  list_says answer few = grind arith
