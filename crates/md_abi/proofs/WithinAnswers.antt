-- The promises of an answer within limits about C's result.
use Rattle.std.proofs.Common.{◌≡◌, ℕ, ◌≤◌, List}
use Rattle.std.proofs.Common.{sym, subst, arith}
use Rattle.md_tree.specs.Grammar.{handed}
use Rattle.md_abi.specs.Failures.{answer_of}
use Rattle.md_abi.specs.Within.{IsTooLong, IsTooMuch, IsBounded, IsShallow}
use Rattle.md_abi.specs.Within.{NestsTooDeep}
use Rattle.md_abi.specs.WithinFailures.{answer_of_within}
use Rattle.md_abi.specs.WithinFailures.{OfRefused, ExplainsWithin}
use Rattle.md_abi.specs.Buffer.{HandsOver, IsHandedOver}
use Rattle.md_abi.specs.Answers.{IsOfWithin, TellsOfEvents, TellsPastDepth}
use Rattle.md_abi.specs.declared.answer.Answer.{Answer}
use Rattle.md_abi.specs.declared.event.CEvent.{CEvent}
use Rattle.md_abi.specs.declared.reference.CReference.{CReference}
use Rattle.md_abi.specs.declared.option.COptions.{COptions}
use Rattle.md_abi.specs.declared.failure.Failure.{Failure}
use Rattle.md_abi.specs.declared.within.CLimits.{CLimits}
use Rattle.md_abi.specs.declared.within.WithinFailure.{WithinFailure}
use Rattle.md_abi.specs.declared.within.WithinFailure.TheVariants.{TooLong, TooMuch, TooDeep}
use Rattle.md_abi.specs.declared.within.WithinFailure.TheVariants.{Failed}
use Rattle.md_abi.proofs.AnswerLemmas.{failure_hands_over, failure_of_compile}
use Rattle.md_abi.proofs.AnswerLemmas.{failure_says, Says, says_nothing}

pub within_hands_over : (claim : List ℕ → Type 0) (old : List ℕ) (why : WithinFailure)
    (answer : Answer) → answer ≡ answer_of_within why → HandsOver claim old old answer
within_hands_over claim old why answer is = grind (arith, failure_hands_over)

pub text_fields : (text old new : List ℕ) (answer : Answer) → IsHandedOver text old new answer →
    IsOfWithin answer
text_fields text old new answer handed = grind arith

module _ (events : List CEvent) (bytes : List ℕ) (options : COptions) (names : List CReference)
    (limits : CLimits) where
  pub within_fields : (why : WithinFailure) (answer : Answer) → answer ≡ answer_of_within why →
      ExplainsWithin events bytes options names limits why → IsOfWithin answer
  within_fields why answer is h = grind (arith, failure_of_compile)

  -- what each status says
  pub record SaysWithin (answer : Answer) : Type 0 where
    pub plain : Says events bytes options names answer
    pub open plain use *
    pub too_long : answer.status ≡ 10 → IsTooLong events bytes options names limits
    pub too_much : answer.status ≡ 11 → IsTooMuch events bytes options names limits
    pub too_deep : answer.status ≡ 13 → NestsTooDeep events limits
    pub bounded : TellsOfEvents answer.status → IsBounded events limits
    pub shallow : TellsPastDepth answer.status → IsShallow events limits

  -- a failure that reports events is a refused one
  past_depth : (claim : Type 0) (cause : Failure) → TellsPastDepth (answer_of cause).status →
      OfRefused claim cause → claim
  past_depth claim cause is h = grind arith

  pub within_says : (why : WithinFailure) (answer : Answer) → answer ≡ answer_of_within why →
      ExplainsWithin events bytes options names limits why → SaysWithin answer
  within_says why answer is h = subst SaysWithin (sym is) (of why h)
    where
      of : (why : WithinFailure) → ExplainsWithin events bytes options names limits why →
          SaysWithin (answer_of_within why)
      of TooLong h = grind (arith, says_nothing)
      of TooMuch h = grind (arith, says_nothing)
      of TooDeep h = grind (arith, says_nothing)
      of (Failed cause) h = grind (arith, failure_says, failure_of_compile, past_depth)

  pub text_says_within : (answer : Answer) → answer.status ≤ 1 → IsBounded events limits →
      IsShallow events limits → SaysWithin answer
  text_says_within answer few bounded shallow = grind arith
