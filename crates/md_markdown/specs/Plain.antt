-- A document that is shown as it is written.
use Rattle.std.specs.Prelude.{ℕ, true, List, ◌++◌, codes}
use Rattle.md_text.specs.Encode.{encoded}
use Rattle.md_base.specs.declared.event.Name.TheVariants.{Paragraph, Data}
use Rattle.md_base.specs.Tree.{Forest, Empty, Node}
pub use Rattle.md_meaning.specs.Trees.{at}

-- one paragraph, whose text is a document of so many bytes
abbrev pub plain : ℕ → Forest
plain size = Node Paragraph (at 0) (at size) (Node Data (at 0) (at size) Empty Empty) Empty

-- its text: all its bytes, escaped, between the tags of a paragraph
abbrev pub plain_text : List ℕ → List ℕ
plain_text bytes = codes "<p>" ++ encoded true bytes ++ codes "</p>"
