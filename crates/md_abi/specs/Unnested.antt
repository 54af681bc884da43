-- The promises about a text without a link in a link in terms of C's input, and when there is none.
use Rattle.std.specs.Prelude.{◌≡◌, ◌≢◌, ◌⊎◌, ℕ, ◌<◌, ◌≤◌, false, true, List}
use Rattle.md_base.specs.Tree.{Forest, flatten}
use Rattle.md_tree.specs.Grammar.{IsGrammatical}
use Rattle.md_safe.specs.Links.{has_nested_link}
use Rattle.md_safe.specs.Built.{IsBuiltAsRead}
use Rattle.md_abi.specs.Numbers.{too_short, refused, no_line, no_memory, unsafe_options, nested}
use Rattle.md_abi.specs.Standing.{StandFor}
use Rattle.md_abi.specs.Events.{event_of}
use Rattle.md_abi.specs.References.{reference_of}
use Rattle.md_abi.specs.Options.{KeepsImages}
use Rattle.md_abi.specs.Rendered.{IsRendered}
use Rattle.md_abi.specs.declared.answer.Answer.{Answer}
use Rattle.md_abi.specs.declared.event.CEvent.{CEvent}
use Rattle.md_abi.specs.declared.reference.CReference.{CReference}
use Rattle.md_abi.specs.declared.option.COptions.{COptions}

-- the text is that of the input, with safe options, and tree construction builds the tree of its
-- reading
pub record IsUnnestedText (events : List CEvent) (bytes : List ℕ) (options : COptions)
    (names : List CReference) (text : List ℕ) : Type 0 where
  pub safe : KeepsImages options
  pub rendered : IsRendered events bytes options names text
  pub tree : IsBuiltAsRead text

-- the input encodes a document of the grammar in which a link contains a link
pub record IsNestedIn (events : List CEvent) (bytes : List ℕ) (names : List CReference)
    : Type 0 where
  pub document : Forest
  pub table : List (List ℕ × List ℕ)
  pub events_stand : StandFor event_of events (flatten document)
  pub names_stand : StandFor reference_of names table
  pub grammatical : IsGrammatical bytes table document
  pub nested : has_nested_link false document ≡ true

-- a status of such a call, and the fields that it uses
pub record IsOfUnnested (answer : Answer) : Type 0 where
  pub known : (answer.status ≤ unsafe_options) ⊎ (answer.status ≡ nested)
  pub without_lines : answer.status ≢ no_line
  pub no_rule : answer.status ≢ refused → answer.rule ≡ 0
  pub no_index : answer.status ≤ too_short → answer.index ≡ 0
  pub no_place : no_memory ≤ answer.status → answer.index ≡ 0
  pub no_length : too_short < answer.status → answer.length ≡ 0
