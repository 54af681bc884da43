-- The open containers, the outermost first.
use Rattle.std.specs.Prelude.{ℕ, Bool, List, [], ◌∷◌, ◌++◌, ◌-◌, ◌==◌, ◌||◌, true, false, not}
use Rattle.std.specs.Prelude.{suc, length, if◌then◌else◌}
use Rattle.md_blocks.specs.declared.nesting.Open.{Open}
use Rattle.md_blocks.specs.declared.block.Block.{Block}
use Rattle.md_blocks.specs.declared.block.Block.TheVariants.{Exit}
use Rattle.md_blocks.specs.declared.block.ContainerKind.TheVariants.{Quote, Item, OrderedList}
use Rattle.md_blocks.specs.declared.block.ContainerKind.TheVariants.{UnorderedList, FootnoteDefinition}

-- what a container is
abbrev pub is_list : Open → Bool
is_list container = elim container.kind [ OrderedList ↦ true | UnorderedList ↦ true | _ ↦ false ]

abbrev pub is_item : Open → Bool
is_item container = elim container.kind [ Item ↦ true | _ ↦ false ]

abbrev pub is_quote : Open → Bool
is_quote container = elim container.kind [ Quote ↦ true | _ ↦ false ]

abbrev pub is_footnote : Open → Bool
is_footnote container = elim container.kind [ FootnoteDefinition ↦ true | _ ↦ false ]

-- whether the innermost container passes a test
abbrev pub innermost : (Open → Bool) → List Open → Bool
innermost test [] = false
innermost test (container ∷ []) = test container
innermost test (container ∷ next ∷ inner) = innermost test (next ∷ inner)

-- the innermost container has a child
abbrev pub with_child : List Open → List Open
with_child [] = []
with_child (container ∷ []) = record container { has_child = true } ∷ []
with_child (container ∷ next ∷ inner) = container ∷ with_child (next ∷ inner)

-- how many containers there are up to the innermost quote or footnote; 0 if there is none
abbrev pub quotes_depth : List Open → ℕ
quotes_depth [] = 0
quotes_depth (container ∷ inner) =
    if quotes_depth inner == 0 then (if is_quote container || is_footnote container then 1 else 0)
    else suc (quotes_depth inner)

-- how many containers stay open if the innermost ends where it is a list
abbrev pub without_list : List Open → ℕ
without_list containers =
    if innermost is_list containers then length containers - 1 else length containers

-- the end of a container, where the document is read up to this index
abbrev pub end_of : ℕ → Open → Block
end_of at container = Exit container.kind (not container.has_child) at

-- the ends of some containers, the innermost first
abbrev pub ends_of : ℕ → List Open → List Block
ends_of at [] = []
ends_of at (container ∷ inner) = ends_of at inner ++ end_of at container ∷ []
