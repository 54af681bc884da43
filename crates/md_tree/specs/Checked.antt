-- The model of a checked document.
use Rattle.std.specs.Prelude.{◌≡◌, map, length}
use Rattle.md_tree.specs.declared.checked.Checked.TheInside.{Inside}
use Rattle.md_tree.specs.Grammar.{Handed, input_of, IsChecked}
use Rattle.md_tree.specs.Numbers.{AreNumbered}
use Rattle.md_pattern.specs.Ending.{first_index}
use Rattle.md_pattern.specs.Facts.{tables_at, definitions_at}

-- the input of the check
abbrev pub handed_of : Inside → Handed
handed_of inside = input_of inside.events.now inside.texts inside.names

-- the events are those of a document of the grammar, each event has its fact and its number, the
-- tables, the definitions and the first line ending are those of the document, and each event was
-- visited once
abbrev pub IsKept : Inside → Type 0
IsKept inside =
    IsChecked (handed_of inside)
    × AreNumbered (handed_of inside) inside.facts
    × (map (λ t. t.items) inside.tables.items ≡ tables_at inside.events.now)
    × (inside.definitions.items ≡ definitions_at inside.events.now)
    × (inside.first_ending ≡ first_index inside.events.now)
    × (inside.visits ≡ length inside.events.now)
