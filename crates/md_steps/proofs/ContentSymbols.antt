-- What may stand where, by the symbols of the grammar instead of by names, and that both say the
-- same.
use Rattle.std.proofs.Common.{◌≡◌, Bool, true, ◌&&◌, List, [], ◌∷◌, refl}
use Rattle.md_base.specs.declared.event.Name.{Name}
use Rattle.md_base.specs.declared.event.Name.TheVariants.{Data}
use Rattle.md_pattern.specs.declared.kinds.Symbol.{Symbol}
use Rattle.md_pattern.specs.declared.kinds.Role.{Role}
use Rattle.md_pattern.specs.declared.kinds.Role.TheVariants as role
use Rattle.md_pattern.specs.declared.kinds.Standing.{Standing}
use Rattle.md_pattern.specs.declared.kinds.Standing.TheVariants.{Solid}
use Rattle.md_pattern.specs.Standing.{standing_of}
use Rattle.md_content.proofs.SymbolNames.{name_of, name_for}
use Rattle.md_steps.specs.Content.{Content, Blocks, Spans, Strings, Html, Lines, Fences}
use Rattle.md_steps.specs.Content.{BeforeLabel, Sources, Rows, Cells, Parts, Nothing, Childless}
use Rattle.md_steps.specs.Content.{may_stand, content_of, content_past}

-- a symbol may stand there
abbrev pub may_show : Content → Symbol → Bool
may_show content seen = may_stand content (name_of seen)

-- the symbols are allowed there, in sequence
abbrev pub admits : Content → List Symbol → Bool
admits content [] = true
admits content (seen ∷ symbols) = may_show content seen && admits (content_past content) symbols

-- what may stand in a node of a role
abbrev pub group_of : Role → Content
group_of usual = elim usual [
  | role.Flow ↦ Blocks
  | role.FootnoteDefinition ↦ Blocks
  | role.OrderedList ↦ Blocks
  | role.UnorderedList ↦ Blocks
  | role.FirstOrderedItem ↦ Blocks
  | role.OrderedItem ↦ Blocks
  | role.Item ↦ Blocks
  | role.Phrasing ↦ Spans
  | role.Label ↦ Spans
  | role.CallLabel ↦ Spans
  | role.HtmlFlow ↦ Html
  | role.HtmlText ↦ Html
  | role.CodeIndented ↦ Lines
  | role.CodeFenced ↦ Lines
  | role.Math ↦ Lines
  | role.FirstCodeFence ↦ Fences
  | role.CodeFence ↦ Fences
  | role.FirstMathFence ↦ Fences
  | role.MathFence ↦ Fences
  | role.Media ↦ BeforeLabel
  | role.FootnoteCall ↦ BeforeLabel
  | role.Resource ↦ Sources
  | role.Definition ↦ Sources
  | role.FootnotePrefix ↦ Sources
  | role.Table ↦ Rows
  | role.TableHead ↦ Rows
  | role.TableBody ↦ Rows
  | role.TableRow ↦ Cells
  | role.FirstOrderedPrefix ↦ Parts
  | role.OrderedPrefix ↦ Parts
  | role.Prefix ↦ Parts
  | role.Heading ↦ Parts
  | role.TableDelimiterRow ↦ Parts
  | role.TableDelimiterValue ↦ Parts
  | role.TaskCheck ↦ Parts
  | role.Empty ↦ Nothing
  | role.Childless ↦ Childless
  | _ ↦ Strings
]

abbrev pub group_in : Standing → Name → Content
group_in (Solid seen usual reading) name = group_of usual
group_in _ name = content_of name

-- what names say, by how they stand
pub may-same : (content : Content) (name : Name) →
    may_stand content name ≡ may_stand content (name_for (standing_of name) name)
may-same Blocks Data = refl
may-same _ Data = refl
may-same _ _ = refl

pub group-same : (name : Name) → content_of name ≡ group_in (standing_of name) name
group-same Data = refl
group-same _ = refl
