-- Names that print nothing, or only their children.
use Rattle.std.proofs.Common.{◌≡◌, Bool, true, false, not, ◌||◌, List, [], arith}
use Rattle.md_base.specs.declared.event.Name.{Name}
use Rattle.md_base.specs.declared.event.Name.TheVariants as name_variants
use name_variants.{GfmFootnoteDefinition, GfmFootnoteDefinitionPrefix, Definition, GfmTable, Link}
use name_variants.{CodeFencedFenceMeta, MathFlowFenceMeta, HeadingSetextText, GfmTableHead}
use name_variants.{GfmTableBody, GfmTableRow, GfmTableCell, Frontmatter, Resource, ReferenceString}
use Rattle.md_text.proofs.HtmlJoin.{nothing}
use Rattle.md_base.specs.Is.{is as named}
use Rattle.md_base.specs.NameTests.{is_transparent, is_delimiter_row}
use Rattle.md_meaning.specs.Meaning.At.{At, Context}
use Rattle.md_meaning.specs.Meaning.Layout.{Piece}
use Rattle.md_meaning.specs.Meaning.Means.{prints}
use Rattle.md_content.specs.Built.{Blocks, content_of, is_part, is_source, is_autolink}
use Rattle.md_safe.proofs.Spot.{Setting}
use Rattle.md_safe.proofs.Insides.{is_blocks}
use Rattle.md_safe.proofs.StringNodes.{is_text}
use Rattle.md_safe.proofs.SpanNodes.{is_shown}
use Rattle.md_safe.proofs.FlowNodes.{Reads, is_flow, is_leaf}

-- what prints nothing of its children
abbrev pub is_hidden : Name → Bool
is_hidden name = is_delimiter_row name || elim name [
  | HeadingSetextText ↦ true
  | CodeFencedFenceMeta ↦ true
  | MathFlowFenceMeta ↦ true
  | Frontmatter ↦ true
  | Definition ↦ true
  | GfmFootnoteDefinition ↦ true
  | GfmFootnoteDefinitionPrefix ↦ true
  | Resource ↦ true
  | ReferenceString ↦ true
  | _ ↦ false
]

-- tables and their parts
abbrev pub is_tabular : Name → Bool
is_tabular name = elim name [
  | GfmTable ↦ true
  | GfmTableHead ↦ true
  | GfmTableBody ↦ true
  | GfmTableRow ↦ true
  | GfmTableCell ↦ true
  | _ ↦ false
]

-- a name that is transparent, occurs only in other nodes, or prints more or less than its children
abbrev pub is_marked : Name → Bool
is_marked name =
    is_transparent name || ((is_part name || is_source name) || (is_text name || (is_shown name
    || (is_autolink name || (is_flow name || (is_leaf name || (is_hidden name
    || is_tabular name)))))))

-- any other name prints only its children
abbrev pub is_silent : Name → Bool
is_silent name = not (is_marked name)

-- nothing is claimed of no text
pub holds-none : (s : Setting) → Reads s []
holds-none s = s.p.plain [] (nothing s.p.test)

-- these print nothing
pub hidden-prints : (context : Context) (t : At) (name : Name) → is_hidden name ≡ true →
    (inner : List Piece) → prints context t name inner ≡ []
hidden-prints context t name is inner = grind arith

-- these print their children
pub silent-prints : (context : Context) (t : At) (name : Name) → is_silent name ≡ true →
    (inner : List Piece) → prints context t name inner ≡ inner
silent-prints context t name is inner = grind arith

pub silent-block : (name : Name) → is_silent name ≡ true →
    (is_blocks (content_of name Blocks) ≡ true) × (named Link name ≡ false)
silent-block name is = grind arith
