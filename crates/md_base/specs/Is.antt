-- One name alone.
use Rattle.std.specs.Prelude.{Bool}
use denote.Enum.Bare.{sameb}
use Rattle.md_base.specs.contracts.event.Name.{the_type}
use Rattle.md_base.specs.declared.event.Name.{Name}

-- a name is this one; for `Other` the numbers may differ
abbrev pub is : Name → Name → Bool
is one name = sameb the_type one name
