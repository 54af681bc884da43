-- The result of `run_within`: a text within limits, or the reason why there is none.
use Rattle.std.specs.Prelude.{ℕ, ◌≤◌, ◌<◌, List, length, codes}
use Rattle.md_base.specs.declared.event.Event.{Event}
use Rattle.md_tree.specs.declared.rule.Rule.{Rule}
use Rattle.md_tree.specs.declared.rule.CompileError.TheVariants as refusal
use Rattle.md_tree.specs.Grammar.{IsChecked}
use Rattle.md_tree.specs.Refusal.{IsRefusal}
use Rattle.md_text.specs.declared.options.CompileOptions.{CompileOptions}
use Rattle.md_depth.specs.Depth.{depth}
use Rattle.md_html.specs.Work.{work}
use Rattle.md_html.specs.Within.{IsLonger, IsReuseWithin, IsOver}
use Rattle.md_html.specs.declared.within.Limits.{Limits}
use Rattle.md_html.specs.declared.within.WithinError.{WithinError}
use Rattle.md_html.specs.declared.within.WithinError.TheVariants as within
use Rattle.md_script.specs.declared.error.RunError.TheVariants as error
use Rattle.md_script.specs.declared.running_within.RunWithinError.{RunWithinError}
use Rattle.md_script.specs.declared.running_within.RunWithinError.TheVariants.{TooLong, TooMuch}
use Rattle.md_script.specs.declared.running_within.RunWithinError.TheVariants.{TooDeep, Run}
use Rattle.md_script.specs.Error.{message_of, status_of, run_error_of}
use Rattle.md_script.specs.Run.{document_of, IsCompiled, ExplainsEvents, ExplainsRun}
use Rattle.md_script.specs.Script.{StandsFor}

-- the line on standard error
abbrev pub within_message : RunWithinError → List ℕ
within_message TooLong = codes "text too long"
within_message TooMuch = codes "too much work"
within_message TooDeep = codes "nested too deep"
within_message (Run cause) = message_of cause

-- the exit status of a program for this error
abbrev pub within_status : RunWithinError → ℕ
within_status TooLong = 5
within_status TooMuch = 6
within_status TooDeep = 7
within_status (Run cause) = status_of cause

-- a script's error for a compiler's error
abbrev pub run_within_error_of : WithinError → RunWithinError
run_within_error_of within.TooLong = TooLong
run_within_error_of within.TooMuch = TooMuch
run_within_error_of within.TooDeep = TooDeep
run_within_error_of (within.Compile cause) = Run (run_error_of cause)

-- the text is that of the events and doesn't exceed its limit; neither do the work, the reuse and
-- the nesting
pub record IsCompiledWithin (events : List Event) (bytes : List ℕ) (options : CompileOptions)
    (limits : Limits) (text : List ℕ) : Type 0 where
  pub compiled : IsCompiled events bytes options text
  pub fits : length text ≤ limits.text
  pub bounded : work events ≤ limits.work
  pub shallow : depth events ≤ limits.depth
  pub reused : IsReuseWithin options (document_of events bytes) limits.work

-- the events match the grammar, and the meaning of their document exceeds the limit on the text
pub record IsTooLong (events : List Event) (bytes : List ℕ) (options : CompileOptions)
    (limits : Limits) : Type 0 where
  pub grammatical : IsChecked (document_of events bytes)
  pub longer : IsLonger options (document_of events bytes) limits.text
  pub bounded : work events ≤ limits.work
  pub shallow : depth events ≤ limits.depth
  pub reused : IsReuseWithin options (document_of events bytes) limits.work

-- the nesting is within its limit, and the work exceeds its limit, or the events are a document's
-- whose reuse exceeds it
abbrev pub IsMuch : List Event → List ℕ → CompileOptions → Limits → Type 0
IsMuch events bytes options limits =
    (depth events ≤ limits.depth) × IsOver options (document_of events bytes) limits.work

-- why events have no text within limits: too deep before all else, too much if the work or the
-- reuse exceeds the limit
abbrev pub ExplainsEventsWithin : List Event → List ℕ → CompileOptions → Limits →
    RunWithinError → Type 0
ExplainsEventsWithin events bytes options limits TooLong = IsTooLong events bytes options limits
ExplainsEventsWithin events bytes options limits TooMuch = IsMuch events bytes options limits
ExplainsEventsWithin events bytes options limits TooDeep = limits.depth < depth events
ExplainsEventsWithin events bytes options limits (Run cause) =
    (depth events ≤ limits.depth) × (work events ≤ limits.work) × ExplainsEvents events bytes cause

-- the text is that of the input's content, within limits
pub record IsTextWithin (input : List ℕ) (limits : Limits) (text : List ℕ) : Type 0 where
  pub events : List Event
  pub bytes : List ℕ
  pub options : CompileOptions
  pub stands : StandsFor input events bytes options
  pub compiled : IsCompiledWithin events bytes options limits text

-- the text of the input's content is too long
pub record IsTooLongFor (input : List ℕ) (limits : Limits) : Type 0 where
  pub events : List Event
  pub bytes : List ℕ
  pub options : CompileOptions
  pub stands : StandsFor input events bytes options
  pub too_long : IsTooLong events bytes options limits

-- the events of the input's content don't nest too deep, and give too much work, or are a
-- document's with too much reuse
pub record IsTooMuchFor (input : List ℕ) (limits : Limits) : Type 0 where
  pub events : List Event
  pub bytes : List ℕ
  pub options : CompileOptions
  pub stands : StandsFor input events bytes options
  pub too_much : IsMuch events bytes options limits

-- the events of the input's content nest too deep
pub record IsTooDeepFor (input : List ℕ) (limits : Limits) : Type 0 where
  pub events : List Event
  pub bytes : List ℕ
  pub options : CompileOptions
  pub stands : StandsFor input events bytes options
  pub deeper : limits.depth < depth events

-- an event of the input's content is refused, and neither their nesting nor their work exceeds its
-- limit
pub record IsRefusedWithin (input : List ℕ) (limits : Limits) (index : ℕ) (rule : Rule)
    : Type 0 where
  pub events : List Event
  pub bytes : List ℕ
  pub options : CompileOptions
  pub stands : StandsFor input events bytes options
  pub bounded : work events ≤ limits.work
  pub shallow : depth events ≤ limits.depth
  pub refused : IsRefusal (document_of events bytes) (refusal.Event index rule)

-- why a script has no text within limits
abbrev pub ExplainsRunWithin : List ℕ → Limits → RunWithinError → Type 0
ExplainsRunWithin input limits TooLong = IsTooLongFor input limits
ExplainsRunWithin input limits TooMuch = IsTooMuchFor input limits
ExplainsRunWithin input limits TooDeep = IsTooDeepFor input limits
ExplainsRunWithin input limits (Run error.Memory) = Unit {0}
ExplainsRunWithin input limits (Run (error.Line number)) = ExplainsRun input (error.Line number)
ExplainsRunWithin input limits (Run (error.Event index rule)) =
    IsRefusedWithin input limits index rule
