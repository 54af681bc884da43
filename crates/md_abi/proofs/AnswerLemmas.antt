-- The promises of an answer, from the text or the failure that it reports.
use Rattle.std.proofs.Common.{sym, subst, ◌≡◌, ℕ, ◌<◌, ◌≤◌, List}
use Rattle.std.proofs.Common.{arith, false, eqb}
use Rattle.std.proofs.lemmas.Bool.{eqb-false}
use Rattle.md_script.specs.Script.{IsReadable, IsFirstUnreadable}
use Rattle.md_script.specs.Run.{ExplainsRun}
use Rattle.md_script.specs.declared.error.RunError.{RunError}
use Rattle.md_script.specs.declared.error.RunError.TheVariants as run
use Rattle.md_abi.specs.Standing.{IsFirstWithout}
use Rattle.md_abi.specs.Events.{event_of}
use Rattle.md_abi.specs.References.{reference_of}
use Rattle.md_abi.specs.Options.{StandsForNone}
use Rattle.md_abi.specs.Rendered.{IsRefusedBy, IsRefusedIn}
use Rattle.md_abi.specs.Failures.{answer_of, failure_of_run, Explains}
use Rattle.md_abi.specs.Buffer.{HandsOver, IsHandedOver}
use Rattle.md_abi.specs.Answers.{IsOfCompile, IsOfRun}
use Rattle.md_abi.specs.declared.answer.Answer.{Answer}
use Rattle.md_abi.specs.declared.event.CEvent.{CEvent}
use Rattle.md_abi.specs.declared.reference.CReference.{CReference}
use Rattle.md_abi.specs.declared.option.COptions.{COptions}
use Rattle.md_abi.specs.declared.failure.Failure.{Failure}
use Rattle.md_abi.specs.declared.failure.Failure.TheVariants as failure

-- two numbers that differ
pub never : {A : Type 0} (a b : ℕ) → eqb a b ≡ false → a ≡ b → A
never a b differ same = absurd (eqb-false a b differ same)

-- ---- texts

pub handed_over : (claim : List ℕ → Type 0) (text old new : List ℕ) (answer : Answer) → claim text →
    IsHandedOver text old new answer → HandsOver claim old new answer
handed_over claim text old new answer holds h = grind arith

pub text_of_compile : (text old new : List ℕ) (answer : Answer) →
    IsHandedOver text old new answer → IsOfCompile answer
text_of_compile text old new answer handed = grind arith

pub text_of_run : (text old new : List ℕ) (answer : Answer) →
    IsHandedOver text old new answer → IsOfRun answer
text_of_run text old new answer handed = grind arith

-- a text is written with a status of its own
pub text_status : (text old new : List ℕ) (answer : Answer) →
    IsHandedOver text old new answer → answer.status ≤ 1
text_status text old new answer handed = grind arith

-- ---- failures

pub failed : (claim : List ℕ → Type 0) (old : List ℕ) (answer : Answer) → 1 < answer.status →
    HandsOver claim old old answer
failed claim old answer many = grind arith

pub failure_hands_over :
    (claim : List ℕ → Type 0) (old : List ℕ) (why : Failure) (answer : Answer) →
    answer ≡ answer_of why → HandsOver claim old old answer
failure_hands_over claim old why answer is = grind arith

module _ (events : List CEvent) (bytes : List ℕ) (options : COptions)
    (names : List CReference) where
  pub failure_of_compile : (why : Failure) (answer : Answer) →
      Explains events bytes options names why →
      answer ≡ answer_of why → IsOfCompile answer
  failure_of_compile why answer h is = grind arith

  -- what each status says, of the answer to a failure that is explained
  pub record Says (answer : Answer) : Type 0 where
    pub refused : answer.status ≡ 2 → IsRefusedBy events bytes names answer.index answer.rule
    pub no_event : answer.status ≡ 3 → IsFirstWithout event_of events answer.index
    pub no_name : answer.status ≡ 4 → IsFirstWithout reference_of names answer.index
    pub no_option : answer.status ≡ 5 → StandsForNone options answer.index

  -- another status says none of this
  pub says_nothing : (answer : Answer) → 5 < answer.status → Says answer
  says_nothing answer many = grind arith

  says : (why : Failure) → Explains events bytes options names why → Says (answer_of why)
  says (failure.Refused index rule) h = grind arith
  says _ h = grind arith

  pub failure_says : (why : Failure) (answer : Answer) → Explains events bytes options names why →
      answer ≡ answer_of why → Says answer
  failure_says why answer h is = subst Says (sym is) (says why h)

  pub text_says : (answer : Answer) → answer.status ≤ 1 → Says answer
  text_says answer few = grind arith

-- ---- scripts

module _ (script : List ℕ) where
  pub failure_of_script : (why : RunError) (answer : Answer) →
      answer ≡ answer_of (failure_of_run why) → IsOfRun answer
  failure_of_script why answer is = grind arith

  pub record SaysOfScript (answer : Answer) : Type 0 where
    pub refused : answer.status ≡ 2 → IsRefusedIn script answer.index answer.rule
    pub unreadable : answer.status ≡ 6 → ¬ IsReadable script
    pub no_line : answer.status ≡ 6 → IsFirstUnreadable script answer.index

  script_says : (why : RunError) → ExplainsRun script why →
      SaysOfScript (answer_of (failure_of_run why))
  script_says (run.Event index rule) h = grind arith
  script_says _ h = grind arith

  pub failure_says_of_script : (why : RunError) (answer : Answer) → ExplainsRun script why →
      answer ≡ answer_of (failure_of_run why) → SaysOfScript answer
  failure_says_of_script why answer h is = subst SaysOfScript (sym is) (script_says why h)

  pub text_says_of_script : (answer : Answer) → answer.status ≤ 1 → SaysOfScript answer
  text_says_of_script answer few = grind arith
