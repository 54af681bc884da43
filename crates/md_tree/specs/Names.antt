-- The printed text of rules and refusals.
use Rattle.std.specs.Prelude.{ℕ, List, ◌++◌, codes}
use Rattle.std.specs.Fmt.{decimal}
use Rattle.md_tree.specs.declared.rule.Rule.{Rule}
use Rattle.md_tree.specs.declared.rule.Rule.TheVariants as rule_variants
use rule_variants.{Order, Mdx, Place, LineEnding, HeadingMark, ListNumber, CharacterReference}
use rule_variants.{Definition, Footnote, Target}
use Rattle.md_tree.specs.declared.rule.CompileError.{CompileError}
use Rattle.md_tree.specs.declared.rule.CompileError.TheVariants.{Memory, Event}

-- the name of a rule
abbrev pub name_of : Rule → List ℕ
name_of Order = codes "Order"
name_of Mdx = codes "Mdx"
name_of Place = codes "Place"
name_of LineEnding = codes "LineEnding"
name_of HeadingMark = codes "HeadingMark"
name_of ListNumber = codes "ListNumber"
name_of CharacterReference = codes "CharacterReference"
name_of Definition = codes "Definition"
name_of Footnote = codes "Footnote"
name_of Target = codes "Target"

-- the line that a refusal prints
abbrev pub message_of : CompileError → List ℕ
message_of Memory = codes "out of memory"
message_of (Event index rule) = codes "event " ++ decimal index ++ codes ": " ++ name_of rule
