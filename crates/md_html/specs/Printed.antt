-- The text of a document, given its definitions; and the results of printing checked events, and of
-- printing definitions alone.
use Rattle.std.specs.Prelude.{◌≡◌, ◌<◌, ◌≤◌, ℕ, true, List, length, map, Option, None, IfSome}
use Rattle.std.specs.Prelude.{String, string_bytes}
use Rattle.std.specs.declared.alloc.Global.{Global}
use Rattle.md_base.specs.Tree.{Forest, flatten}
use Rattle.md_text.specs.declared.options.CompileOptions.{CompileOptions}
use Rattle.md_tree.specs.Grammar.{Handed}
use Rattle.md_meaning.specs.Meaning.{meaning}
use Rattle.md_meaning.specs.Meaning.At.{Context, Defined, Target}
use Rattle.md_meaning.specs.Meaning.Footnotes.{section}
use Rattle.md_meaning.specs.Meaning.Layout.{laid_after}
use Rattle.md_steps.specs.Run.{Noticed, defined, noticed, run}
use Rattle.md_steps.specs.State.{State}
use Rattle.md_steps.specs.Steps.{beginning}
use Rattle.md_facts.specs.Definitions.{own_defined}
use Rattle.md_facts.specs.NodeFacts.{IsNoticedAt}
use Rattle.md_printer.specs.Supplies.{Supplies}
use Rattle.md_printer.specs.declared.context.Context.{Context as Supplied}

abbrev pub text_of : Context → Forest → List ℕ
text_of at document =
    let after : State = run at 0 (flatten document) (noticed at.bytes true document) beginning in
    laid_after at.ending after.text (section (record at { calls = after.calls }) after.footnotes)

-- the text is what each document means that the events flatten
abbrev pub IsMeant : CompileOptions → Handed → List ℕ → Type 0
IsMeant options given text =
    (document : Forest) → flatten document ≡ given.events →
    text ≡ meaning options given.names given.bytes document

-- the text is that of all events and of the footnotes' section
pub record IsPrinted (code : Supplied) (text : List ℕ) : Type 0 where
  pub is : (at : Context) (document : Forest) → Supplies code at →
      flatten document ≡ code.checked.now.events → text ≡ text_of at document

-- that text is longer than this
pub record IsPrintedOver (code : Supplied) (limit : ℕ) : Type 0 where
  pub is : (at : Context) (document : Forest) → Supplies code at →
      flatten document ≡ code.checked.now.events → limit < length (text_of at document)

-- a text within a limit of which this holds, or none: then something else holds
pub record IsAnswer (claim : List ℕ → Type 0) (over : Type 0) (limit : ℕ)
    (answer : Option (String Global)) : Type 0 where
  pub text : IfSome answer (λ string. claim (string_bytes string))
  pub within : IfSome answer (λ string. length (string_bytes string) ≤ limit)
  pub too_long : answer ≡ None → over

-- the state is that after all events
abbrev pub IsRun : Supplied → State → Type 0
IsRun code after =
    (at : Context) (document : Forest) → Supplies code at →
    flatten document ≡ code.checked.now.events →
    after ≡ run at 0 (flatten document) (noticed at.bytes true document) beginning

-- the text after all events is longer than this
abbrev pub IsRunOver : Supplied → ℕ → Type 0
IsRunOver code limit =
    (at : Context) (document : Forest) → Supplies code at →
    flatten document ≡ code.checked.now.events → limit < length
    (run at 0 (flatten document) (noticed at.bytes true document) beginning).text

-- the targets are those of the document's definitions
abbrev pub AreTargets : Supplied → List Target → Type 0
AreTargets code targets =
    (at : Context) (document : Forest) → Supplies code at →
    flatten document ≡ code.checked.now.events →
    targets ≡ map (λ (d : Defined). d.target) (defined at document)

-- the target is that of the definition that is entered at an index
abbrev pub IsTargetAt : Supplied → ℕ → Target → Type 0
IsTargetAt code index target =
    (at : Context) (document : Forest) (one : Noticed) → Supplies code at →
    flatten document ≡ code.checked.now.events → IsNoticedAt code.checked.now index one →
    target ≡ (own_defined at code.checked.now.events
    (noticed code.checked.now.bytes true document) index one).target
