-- The meaning of an answer about links in links.
use Rattle.std.specs.Prelude.{◌≡◌, ◌≢◌, ◌⊎◌, false, true, List}
use Rattle.md_base.specs.declared.event.Event.{Event}
use Rattle.md_base.specs.Tree.{Forest, flatten}
use Rattle.md_safe.specs.Links.{has_nested_link}
use Rattle.md_abi.specs.Numbers.{written, no_event, no_memory, nested}
use Rattle.md_abi.specs.Standing.{StandFor, IsFirstWithout}
use Rattle.md_abi.specs.Events.{event_of}
use Rattle.md_abi.specs.declared.answer.Answer.{Answer}
use Rattle.md_abi.specs.declared.event.CEvent.{CEvent}

-- each event is valid
abbrev pub AreRead : List CEvent → Type 0
AreRead events = (read : List Event) × StandFor event_of events read

-- whether a link contains a link in the document that the events encode; or the first invalid event
-- is reported
pub record TellsOfLinks (events : List CEvent) (answer : Answer) : Type 0 where
  pub known : (answer.status ≡ written) ⊎ ((answer.status ≡ nested)
      ⊎ ((answer.status ≡ no_event) ⊎ (answer.status ≡ no_memory)))
  pub read : (answer.status ≡ written) ⊎ (answer.status ≡ nested) → AreRead events
  pub without : answer.status ≡ written → (document : Forest)
      → StandFor event_of events (flatten document) → has_nested_link false document ≡ false
  pub with_one : answer.status ≡ nested → (document : Forest)
      → StandFor event_of events (flatten document) → has_nested_link false document ≡ true
  pub first_invalid : answer.status ≡ no_event → IsFirstWithout event_of events answer.index
  pub no_place : answer.status ≢ no_event → answer.index ≡ 0
  pub no_rule : answer.rule ≡ 0
  pub no_length : answer.length ≡ 0
