-- The promises about a text within limits in terms of C's input, and why there is none.
use Rattle.std.specs.Prelude.{ℕ, ◌-◌, ◌^◌, ◌⊎◌, ◌≤◌, ◌<◌, ◌==◌, if◌then◌else◌, List, length}
use Rattle.md_base.specs.declared.event.Event.{Event}
use Rattle.md_base.specs.Tree.{Forest, flatten}
use Rattle.md_tree.specs.Grammar.{IsGrammatical}
use Rattle.md_text.specs.declared.options.CompileOptions.{CompileOptions}
use Rattle.md_meaning.specs.Meaning.{meaning}
use Rattle.md_depth.specs.Depth.{depth, height}
use Rattle.md_html.specs.Work.{work}
use Rattle.md_html.specs.Reuse.{reuse}
use Rattle.md_abi.specs.Standing.{StandFor}
use Rattle.md_abi.specs.Events.{event_of}
use Rattle.md_abi.specs.References.{reference_of}
use Rattle.md_abi.specs.Options.{HasOptions}
use Rattle.md_abi.specs.Rendered.{IsRendered}
use Rattle.md_abi.specs.declared.event.CEvent.{CEvent}
use Rattle.md_abi.specs.declared.reference.CReference.{CReference}
use Rattle.md_abi.specs.declared.option.COptions.{COptions}
use Rattle.md_abi.specs.declared.within.CLimits.{CLimits}

-- how deep events may nest: 0 means no limit
abbrev pub depth_limit : ℕ → ℕ
depth_limit limit = if limit == 0 then 2 ^ 64 - 1 else limit

-- the text is that of the input, and doesn't exceed its limit; neither do its document's reuse and
-- nesting
pub record IsRenderedWithin (events : List CEvent) (bytes : List ℕ) (options : COptions)
    (names : List CReference) (limits : CLimits) (text : List ℕ)
    : Type 0 where
  pub rendered : IsRendered events bytes options names text
  pub fits : length text ≤ limits.text
  pub reused : reuse rendered.given bytes rendered.document ≤ limits.work
  pub shallow : height rendered.document ≤ depth_limit limits.depth

-- the input encodes a document of the grammar whose meaning exceeds the limit on the text, and
-- whose reuse doesn't exceed its limit
pub record IsTooLong (events : List CEvent) (bytes : List ℕ) (options : COptions)
    (names : List CReference) (limits : CLimits)
    : Type 0 where
  pub document : Forest
  pub given : CompileOptions
  pub table : List (List ℕ × List ℕ)
  pub events_stand : StandFor event_of events (flatten document)
  pub options_stand : HasOptions options given
  pub names_stand : StandFor reference_of names table
  pub grammatical : IsGrammatical bytes table document
  pub longer : limits.text < length (meaning given table bytes document)
  pub reused : reuse given bytes document ≤ limits.work

-- the input encodes events whose work exceeds the limit
pub record GivesTooMuch (events : List CEvent) (limits : CLimits) : Type 0 where
  pub read : List Event
  pub events_stand : StandFor event_of events read
  pub more : limits.work < work read

-- the input encodes a document of the grammar whose reuse exceeds the limit on work
pub record ReusesTooMuch (events : List CEvent) (bytes : List ℕ) (options : COptions)
    (names : List CReference) (limits : CLimits)
    : Type 0 where
  pub document : Forest
  pub given : CompileOptions
  pub table : List (List ℕ × List ℕ)
  pub events_stand : StandFor event_of events (flatten document)
  pub options_stand : HasOptions options given
  pub names_stand : StandFor reference_of names table
  pub grammatical : IsGrammatical bytes table document
  pub more : limits.work < reuse given bytes document

-- the input encodes events that nest deeper than the limit allows
pub record NestsTooDeep (events : List CEvent) (limits : CLimits) : Type 0 where
  pub read : List Event
  pub events_stand : StandFor event_of events read
  pub deeper : depth_limit limits.depth < depth read

-- the work or the reuse exceeds the limit
abbrev pub IsTooMuch : List CEvent → List ℕ → COptions → List CReference → CLimits → Type 0
IsTooMuch events bytes options names limits =
    GivesTooMuch events limits ⊎ ReusesTooMuch events bytes options names limits

-- the work doesn't exceed its limit
abbrev pub IsBounded : List CEvent → CLimits → Type 0
IsBounded events limits = GivesTooMuch events limits → ⊥

-- the nesting doesn't exceed its limit
abbrev pub IsShallow : List CEvent → CLimits → Type 0
IsShallow events limits = NestsTooDeep events limits → ⊥
