-- The event that a C event encodes.
use Rattle.std.specs.Prelude.{ℕ, ◌==◌, if◌then◌else◌, Option, Some, None}
use Rattle.md_base.specs.declared.event.Kind.{Kind}
use Rattle.md_base.specs.declared.event.Kind.TheVariants.{Enter, Exit}
use Rattle.md_base.specs.declared.event.Event.{Event}
use Rattle.md_abi.specs.Standing.{◌>>=◌}
use Rattle.md_abi.specs.Names.{name_of}
use Rattle.md_abi.specs.declared.event.CEvent.{CEvent}

-- 1 enters, 2 exits
abbrev pub kind_of : ℕ → Option Kind
kind_of number = if number == 1 then Some Enter else if number == 2 then Some Exit else None

-- its kind and its name by their numbers, at its index and with its columns; lines and columns of
-- text are never read
abbrev pub event_of : CEvent → Option Event
event_of given = do
  kind ← kind_of given.kind
  name ← name_of given.name given.other
  Some (record {
    kind = kind;
    name = name;
    point = record { line = 1; column = 1; index = given.index; vs = given.columns };
  })
