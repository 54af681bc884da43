-- The numbers of events' names.
use Rattle.std.specs.Prelude.{ℕ, ◌-◌, ◌==◌, if◌then◌else◌, List, map, Option, Some, None, slice_get}
use Rattle.md_base.specs.declared.event.Name.{Name}
use Rattle.md_base.specs.declared.event.Name.TheVariants.{Other}
use Rattle.md_base.specs.EventNames.{event_names}

-- each name but `Other`, in the order of their numbers, from 1
abbrev pub numbered_names : List Name
numbered_names = map (λ entry. entry.1) event_names

-- the name with a number; the other number is read only for `Other`
abbrev pub name_of : ℕ → ℕ → Option Name
name_of number other =
    if number == 0 then None
    else if number == 65535 then Some (Other other)
    else slice_get numbered_names (number - 1)
