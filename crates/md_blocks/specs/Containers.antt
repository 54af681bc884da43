-- Which open containers a line continues (5, and the first step of phase 1).
use Rattle.std.specs.Prelude.{ℕ, Option, List, [], ◌∷◌, ◌==◌, ◌&&◌, not, nat_lt, suc, false}
use Rattle.std.specs.Prelude.{Some, None, if◌then◌else◌}
use Rattle.std.specs.Option.{option_map_or}
use Rattle.md_blocks.specs.declared.nesting.Open.{Open}
use Rattle.md_blocks.specs.declared.block.ContainerKind.TheVariants.{Quote, Item, OrderedList}
use Rattle.md_blocks.specs.declared.block.ContainerKind.TheVariants.{UnorderedList, FootnoteDefinition}
use Rattle.md_blocks.specs.Rests.{Rest, indent, first, is_blank_rest, skipped, passed}

-- a quote goes on after at most three columns, at a `>`, and after it a column of space if any
abbrev pub quote_continued : Rest → Option Rest
quote_continued rest =
    if nat_lt (indent rest) 4 && option_map_or (λ byte. byte == 62) (first rest) false
    then Some (skipped 1 (passed 1 rest)) else None

-- an item with a child, or a footnote, goes on after so many columns, or if the line is blank
abbrev pub indented_continued : ℕ → Rest → Option Rest
indented_continued columns rest =
    if nat_lt (indent rest) columns && not (is_blank_rest rest) then None
    else Some (skipped columns rest)

-- the rest of the line after what continues a container; a blank line continues no item that has no
-- child
abbrev pub continued : Open → Rest → Option Rest
continued container rest = elim container.kind [
  | Quote ↦ quote_continued rest
  | Item ↦ if is_blank_rest rest && not container.has_child then None
      else indented_continued container.indent rest
  | FootnoteDefinition ↦ indented_continued 4 rest
  | OrderedList ↦ Some rest
  | UnorderedList ↦ Some rest
]

pub record Matched : Type 0 where
  pub count : ℕ
  pub rest : Rest

-- how many of the open containers a line continues, the outermost first, and the rest after them
abbrev pub matched : ℕ → List Open → Rest → Matched
matched count [] rest = record { count = count; rest = rest }
matched count (container ∷ others) rest = elim (continued container rest) [
  | None ↦ record { count = count; rest = rest }
  | Some after ↦ matched (suc count) others after
]
