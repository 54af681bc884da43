-- A table of the names of character references, with an index if it is long.
use Rattle.std.specs.Prelude.{◌≡◌, ℕ, List, IfSome}
use Rattle.std.specs.Borrow.{Bor}
use Rattle.std.specs.Ordering.{nat_cmp}
use Rattle.std.specs.Cmp.Lexicographic.{slice_cmp}
use Rattle.std.specs.List.Sorted.{IsSortedByKey}
use Rattle.md_base.specs.Reference.{name_table, named}
use Rattle.md_base.specs.declared.references.References.TheInside.{Inside}

-- names with their texts
abbrev pub Entries : Type 0
Entries = List (Bor (List ℕ) × Bor (List ℕ))

-- no name is before the one that precedes it, byte by byte
abbrev pub AreSorted : Entries → Type 0
AreSorted = IsSortedByKey (λ entry. entry.0.now) (slice_cmp nat_cmp)

-- sorted entries in which each name has the text that it has in a table
abbrev pub IsIndex : Entries → Entries → Type 0
IsIndex sorted listed =
    AreSorted sorted
    × ((name : List ℕ) → named (name_table sorted) name ≡ named (name_table listed) name)

-- the names with their texts
abbrev pub table_of : Inside → List (List ℕ × List ℕ)
table_of inside = name_table inside.listed.now

-- an index is that of the table
abbrev pub IsIndexed : Inside → Type 0
IsIndexed inside = IfSome inside.index (λ index. IsIndex index.items inside.listed.now)
