-- The meaning of a failure, and the answer to it. Only contracts of private functions cite this.
use Rattle.std.specs.Prelude.{◌≡◌, ℕ, List, Option, None}
use Rattle.md_tree.specs.declared.rule.CompileError.{CompileError}
use Rattle.md_tree.specs.declared.rule.CompileError.TheVariants as refusal
use Rattle.md_tree.specs.Grammar.{Handed}
use Rattle.md_tree.specs.Refusal.{IsRefusal}
use Rattle.md_script.specs.declared.error.RunError.{RunError}
use Rattle.md_script.specs.declared.error.RunError.TheVariants as run
use Rattle.md_abi.specs.Numbers.{refused, no_event, no_name, no_option, no_line, no_memory}
use Rattle.md_abi.specs.Numbers.{rule_number}
use Rattle.md_abi.specs.Standing.{IsFirstWithout}
use Rattle.md_abi.specs.Events.{event_of}
use Rattle.md_abi.specs.References.{reference_of}
use Rattle.md_abi.specs.Options.{StandsForNone}
use Rattle.md_abi.specs.Rendered.{IsRefusedFor}
use Rattle.md_abi.specs.declared.answer.Answer.{Answer}
use Rattle.md_abi.specs.declared.event.CEvent.{CEvent}
use Rattle.md_abi.specs.declared.reference.CReference.{CReference}
use Rattle.md_abi.specs.declared.option.COptions.{COptions}
use Rattle.md_abi.specs.declared.failure.Failure.{Failure}
use Rattle.md_abi.specs.declared.failure.Failure.TheVariants as failure

-- the failure for a compiler's refusal
abbrev pub failure_of : CompileError → Failure
failure_of refusal.Memory = failure.Memory
failure_of (refusal.Event index rule) = failure.Refused index rule

-- the failure for a script's error
abbrev pub failure_of_run : RunError → Failure
failure_of_run run.Memory = failure.Memory
failure_of_run (run.Line number) = failure.Line number
failure_of_run (run.Event index rule) = failure.Refused index rule

-- a status and an index
abbrev pub about : ℕ → ℕ → Answer
about status index = record { status = status; rule = 0; index = index; length = 0 }

-- the answer to a failure
abbrev pub answer_of : Failure → Answer
answer_of failure.Memory = about no_memory 0
answer_of (failure.Event index) = about no_event index
answer_of (failure.Name index) = about no_name index
answer_of (failure.Option number) = about no_option number
answer_of (failure.Line number) = about no_line number
answer_of (failure.Refused index rule) =
    record { status = refused; rule = rule_number rule; index = index; length = 0 }

-- memory ran out, or the first invalid event is reported
abbrev pub IsEventFault : List CEvent → Failure → Type 0
IsEventFault events failure.Memory = Unit {0}
IsEventFault events (failure.Event index) = IsFirstWithout event_of events index
IsEventFault events _ = ⊥

-- memory ran out, or the first invalid reference is reported
abbrev pub IsNameFault : List CReference → Failure → Type 0
IsNameFault names failure.Memory = Unit {0}
IsNameFault names (failure.Name index) = IsFirstWithout reference_of names index
IsNameFault names _ = ⊥

-- memory ran out, or an invalid option's field is reported
abbrev pub IsOptionFault : COptions → Failure → Type 0
IsOptionFault options failure.Memory = Unit {0}
IsOptionFault options (failure.Option number) = StandsForNone options number
IsOptionFault options _ = ⊥

-- memory ran out, or the field with this number has no meaning
abbrev pub IsFaultOf : {A : Type 0} → ℕ → Option A → Failure → Type 0
IsFaultOf field value failure.Memory = Unit {0}
IsFaultOf field value (failure.Option number) = (number ≡ field) × (value ≡ None)
IsFaultOf field value _ = ⊥

-- why the converted input has no text
abbrev pub IsRefusalOf : Handed → Failure → Type 0
IsRefusalOf given failure.Memory = Unit {0}
IsRefusalOf given (failure.Refused index rule) = IsRefusal given (refusal.Event index rule)
IsRefusalOf given _ = ⊥

-- why the input has no text
abbrev pub Explains : List CEvent → List ℕ → COptions → List CReference → Failure → Type 0
Explains events bytes options names failure.Memory = Unit {0}
Explains events bytes options names (failure.Event index) = IsFirstWithout event_of events index
Explains events bytes options names (failure.Name index) = IsFirstWithout reference_of names index
Explains events bytes options names (failure.Option number) = StandsForNone options number
Explains events bytes options names (failure.Line number) = ⊥
Explains events bytes options names (failure.Refused index rule) =
    IsRefusedFor events bytes names index rule
