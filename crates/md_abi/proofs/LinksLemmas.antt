-- What an answer about links in links says.
use Rattle.std.proofs.Common.{◌≡◌, Bool, false, List}
use Rattle.std.proofs.Common.{sym, ◌∙◌}
use Rattle.md_base.specs.declared.event.Event.{Event}
use Rattle.md_base.specs.Tree.{Forest, flatten}
use Rattle.md_safe.specs.Links.{has_nested_link}
use Rattle.md_abi.specs.Standing.{StandFor}
use Rattle.md_abi.specs.Events.{event_of}
use Rattle.md_abi.specs.Failures.{about}
use Rattle.md_abi.specs.declared.event.CEvent.{CEvent}
use Rattle.md_abi.proofs.WithinLemmas.{some_once}

-- the answer about the document that some events encode
abbrev pub IsNestingOf : List CEvent → Bool → Type 0
IsNestingOf events nested = (document : Forest) → StandFor event_of events (flatten document) →
    nested ≡ has_nested_link false document

-- the events that were read are those of that document
pub nesting_of_read : (events : List CEvent) (read : List Event) (nested : Bool) →
    StandFor event_of events read →
    ((document : Forest) → flatten document ≡ read → nested ≡ has_nested_link false document) →
    IsNestingOf events nested
nesting_of_read events read nested stand nests document other =
    nests document (some_once (flatten document) read (sym other ∙ stand))
