-- Why there is no text within limits, and the answer to it. No contract of a function for C cites
-- this.
use Rattle.std.specs.Prelude.{ℕ, ◌≤◌, ◌<◌, List}
use Rattle.md_tree.specs.Grammar.{Handed, IsChecked}
use Rattle.md_text.specs.declared.options.CompileOptions.{CompileOptions}
use Rattle.md_depth.specs.Depth.{depth}
use Rattle.md_html.specs.Work.{work}
use Rattle.md_html.specs.Within.{IsLonger, IsReuseWithin, IsOver}
use Rattle.md_html.specs.declared.within.Limits.{Limits}
use Rattle.md_html.specs.declared.within.WithinError.{WithinError}
use Rattle.md_html.specs.declared.within.WithinError.TheVariants as within
use Rattle.md_abi.specs.Numbers.{too_long, too_much, too_deep}
use Rattle.md_abi.specs.Failures.{failure_of, about, answer_of, Explains, IsRefusalOf}
use Rattle.md_abi.specs.Within.{IsTooLong, IsTooMuch, IsBounded, IsShallow, NestsTooDeep}
use Rattle.md_abi.specs.declared.answer.Answer.{Answer}
use Rattle.md_abi.specs.declared.event.CEvent.{CEvent}
use Rattle.md_abi.specs.declared.reference.CReference.{CReference}
use Rattle.md_abi.specs.declared.option.COptions.{COptions}
use Rattle.md_abi.specs.declared.failure.Failure.{Failure}
use Rattle.md_abi.specs.declared.failure.Failure.TheVariants as failure
use Rattle.md_abi.specs.declared.within.CLimits.{CLimits}
use Rattle.md_abi.specs.declared.within.WithinFailure.{WithinFailure}
use Rattle.md_abi.specs.declared.within.WithinFailure.TheVariants.{TooLong, TooMuch, TooDeep}
use Rattle.md_abi.specs.declared.within.WithinFailure.TheVariants.{Failed}

-- the failure for a compiler's error
abbrev pub within_failure_of : WithinError → WithinFailure
within_failure_of within.TooLong = TooLong
within_failure_of within.TooMuch = TooMuch
within_failure_of within.TooDeep = TooDeep
within_failure_of (within.Compile cause) = Failed (failure_of cause)

-- the answer to a failure
abbrev pub answer_of_within : WithinFailure → Answer
answer_of_within TooLong = about too_long 0
answer_of_within TooMuch = about too_much 0
answer_of_within TooDeep = about too_deep 0
answer_of_within (Failed failure) = answer_of failure

-- the text of the converted input is too long
pub record IsTooLongOf (given : Handed) (options : CompileOptions) (limits : Limits) : Type 0 where
  pub grammatical : IsChecked given
  pub longer : IsLonger options given limits.text
  pub bounded : work given.events ≤ limits.work
  pub shallow : depth given.events ≤ limits.depth
  pub reused : IsReuseWithin options given limits.work

-- why the converted input has no text within limits
abbrev pub IsFailureWithin : Handed → CompileOptions → Limits → WithinFailure → Type 0
IsFailureWithin given options limits TooLong = IsTooLongOf given options limits
IsFailureWithin given options limits TooMuch =
    (depth given.events ≤ limits.depth) × IsOver options given limits.work
IsFailureWithin given options limits TooDeep = limits.depth < depth given.events
IsFailureWithin given options limits (Failed failure) =
    (depth given.events ≤ limits.depth) × (work given.events ≤ limits.work)
    × IsRefusalOf given failure

-- a claim about a refused event, if one is reported
abbrev pub OfRefused : Type 0 → Failure → Type 0
OfRefused claim (failure.Refused index rule) = claim
OfRefused claim _ = Unit {0}

-- why the input has no text within limits
abbrev pub ExplainsWithin : List CEvent → List ℕ → COptions → List CReference → CLimits →
    WithinFailure → Type 0
ExplainsWithin events bytes options names limits TooLong =
    IsTooLong events bytes options names limits × IsBounded events limits × IsShallow events limits
ExplainsWithin events bytes options names limits TooMuch =
    IsTooMuch events bytes options names limits × IsShallow events limits
ExplainsWithin events bytes options names limits TooDeep = NestsTooDeep events limits
ExplainsWithin events bytes options names limits (Failed failure) =
    Explains events bytes options names failure
    × OfRefused (IsBounded events limits × IsShallow events limits) failure
