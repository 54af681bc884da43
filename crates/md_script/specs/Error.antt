-- Why a script has no text, and the message.
use Rattle.std.specs.Prelude.{ℕ, List, ◌++◌, codes}
use Rattle.std.specs.Fmt.{decimal}
use Rattle.md_tree.specs.declared.rule.CompileError.{CompileError}
use Rattle.md_tree.specs.declared.rule.CompileError.TheVariants as refusal
use Rattle.md_tree.specs.Names.{name_of}
use Rattle.md_script.specs.declared.error.RunError.{RunError}
use Rattle.md_script.specs.declared.error.RunError.TheVariants.{Memory, Line, Event}

-- the line on standard error
abbrev pub message_of : RunError → List ℕ
message_of Memory = codes "out of memory"
message_of (Line number) = codes "line " ++ decimal number ++ codes ": unreadable"
message_of (Event index rule) = codes "event " ++ decimal index ++ codes ": " ++ name_of rule

-- the exit status of a program for this error
abbrev pub status_of : RunError → ℕ
status_of Memory = 3
status_of (Line number) = 2
status_of (Event index rule) = 1

-- a script's error for a compiler's refusal
abbrev pub run_error_of : CompileError → RunError
run_error_of refusal.Memory = Memory
run_error_of (refusal.Event index rule) = Event index rule
