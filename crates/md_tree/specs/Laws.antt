-- The definitions that the laws use.
use Rattle.std.specs.Prelude.{◌≡◌, List, [], ◌∷◌, ◌++◌, map, IsTrue}
use Rattle.md_base.specs.declared.event.Name.{Name}
use Rattle.md_pattern.specs.declared.kinds.Symbol.{Symbol}
use Rattle.md_base.specs.Tree.{Forest}
use Rattle.md_pattern.specs.Standing.{standing_of}
use Rattle.md_pattern.specs.Spine.{spine, shown}
use Rattle.md_base.specs.Children.{spine_names}
use Rattle.md_pattern.specs.Looseness.{is_loose, is_loose_without_items}
use Rattle.md_pattern.specs.Alignments.{alignment_of, alignments}
use Rattle.md_tree.specs.Tables.{values_of_table}

-- a table has one alignment for each cell value of its delimiter row, in order
abbrev pub HasOneAlignmentForEachValue : Forest → Type 0
HasOneAlignmentForEachValue children =
    alignments children ≡ map alignment_of (values_of_table children)

-- a list that is loose without its items is loose with them
abbrev pub IsLooseWithItemsToo : Forest → Type 0
IsLooseWithItemsToo children = IsTrue (is_loose_without_items children) → IsTrue (is_loose children)

-- the symbols of names that aren't transparent
abbrev pub symbols_of : List Name → List Symbol
symbols_of [] = []
symbols_of (name ∷ names) = shown (standing_of name) [] ++ symbols_of names

-- the spine of symbols is the spine of names, each name replaced by its symbol
abbrev pub HasOneSpine : Forest → Type 0
HasOneSpine forest = spine forest ≡ symbols_of (spine_names forest)
