-- The printer's state: the text and the surroundings, the facts about a node, and how a node
-- changes the surroundings.
use Rattle.std.specs.Prelude.{ℕ, Bool, true, false, not, List, [], Option}
use Rattle.std.specs.Option.{option_map_or}
use Rattle.md_base.specs.declared.event.AlignKind.{AlignKind}
use Rattle.md_base.specs.declared.event.Name.{Name}
use Rattle.md_base.specs.declared.event.Name.TheVariants as name_variants
use name_variants.{BlockQuote, ListOrdered, ListUnordered, GfmFootnoteDefinition}
use name_variants.{GfmFootnoteDefinitionPrefix, CodeFencedFenceMeta, MathFlowFenceMeta, CodeText}
use name_variants.{MathText, HtmlFlow, HtmlText, Definition, DefinitionDestinationString}
use name_variants.{DefinitionTitleString, Link, Image, Resource, ResourceDestinationString}
use name_variants.{ResourceTitleString, ReferenceString, GfmFootnoteCall, HeadingSetextText}
use name_variants.{GfmTable, GfmTableHead, GfmTableCell, GfmTableDelimiterRow, Frontmatter}
use Rattle.md_base.specs.declared.event.Point.{Point}
use Rattle.md_base.specs.declared.event.Position.{Position}
use Rattle.md_base.specs.Tree.{Forest}
use Rattle.md_base.specs.Children.{last_contributing}
use Rattle.md_pattern.specs.Looseness.{is_loose}
use Rattle.md_pattern.specs.Alignments.{alignments}
use Rattle.md_text.specs.declared.options.CompileOptions.{CompileOptions}
use Rattle.md_tree.specs.declared.mention.Referral.{Referral}
use Rattle.md_tree.specs.declared.mention.Referral.TheVariants as referral
use Rattle.md_tree.specs.Rules.{place, columns, target_of}
use Rattle.md_meaning.specs.Meaning.At.{Target, Footnote, identifier_of}
use Rattle.md_meaning.specs.Meaning.Finds.{first_named, number_in_list}
use Rattle.md_base.specs.declared.event.Name.TheVariants.{HeadingAtxSequence}

-- the facts that the ancestors decide, with the alignments of the innermost table
pub record Scope : Type 0 where
  pub is_contained : Bool
  pub is_tight : Bool
  pub in_image : Bool
  pub in_link : Bool
  pub in_table : Bool
  pub in_head : Bool
  pub in_code : Bool
  pub in_definition : Bool
  pub is_escaping : Bool
  pub columns : List AlignKind

-- the text since the innermost capture, and the texts before it; the surroundings, and those to
-- restore; whether the next line ending is slurped; the previous node; the mark of a reference; the
-- fences and whether there is a chunk of the code so far; the text of the latest heading; the cells
-- of the row so far; the target of the resource or the definition so far, and the target of the
-- resource after the latest label; the calls so far, and the first footnote with each identifier
pub record State : Type 0 where
  pub text : List ℕ
  pub below : List (List ℕ)
  pub scope : Scope
  pub scopes : List Scope
  pub slurps : Bool
  pub ended : Option Name
  pub marker : ℕ
  pub fences : ℕ
  pub has_chunk : Bool
  pub heading : List ℕ
  pub cells : ℕ
  pub target : Target
  pub resource : Option Target
  pub calls : List (List ℕ)
  pub footnotes : List Footnote

-- the node facts that the check found, the same at both of its events: whether it is loose, as a
-- list, and its number; its columns, as a table; its last contributing child, as an item; the
-- length of its first mark, as a heading; the label by which it refers or is referred to; whether
-- it has a resource, as a link or an image; its position; whether it ends the document
pub record NodeFacts : Type 0 where
  pub loose : Bool
  pub number : Option Position
  pub columns : List AlignKind
  pub contributing : Option Name
  pub rank : ℕ
  pub identifier : List ℕ
  pub resource : Bool
  pub place : Position
  pub last : Bool

-- a target is a resource
abbrev pub is_resource : Referral → Bool
is_resource target = elim target [ referral.Resource ↦ true | _ ↦ false ]

abbrev pub facts_of : List ℕ → Bool → Forest → Point → Point → NodeFacts
facts_of bytes last children start end = record {
  loose = is_loose children;
  number = number_in_list children;
  columns = alignments children;
  contributing = last_contributing children;
  rank = option_map_or (λ mark. columns mark.start mark.end)
      (first_named HeadingAtxSequence children) 0;
  identifier = identifier_of bytes children;
  resource = is_resource (target_of children referral.Missing);
  place = place start end;
  last = last;
}

-- the surroundings outside all nodes
abbrev pub outside : Scope
outside = record {
  is_contained = false;
  is_tight = false;
  in_image = false;
  in_link = false;
  in_table = false;
  in_head = false;
  in_code = false;
  in_definition = false;
  is_escaping = true;
  columns = [];
}

-- nodes of this name change the surroundings
abbrev pub opens_scope : Name → Bool
opens_scope name = elim name [
  | BlockQuote ↦ true
  | GfmFootnoteDefinition ↦ true
  | ListOrdered ↦ true
  | ListUnordered ↦ true
  | Image ↦ true
  | Link ↦ true
  | GfmTable ↦ true
  | GfmTableHead ↦ true
  | CodeText ↦ true
  | MathText ↦ true
  | Definition ↦ true
  | HtmlFlow ↦ true
  | HtmlText ↦ true
  | DefinitionDestinationString ↦ true
  | ResourceDestinationString ↦ true
  | _ ↦ false
]

-- the surroundings inside a node
abbrev pub scope_inside : CompileOptions → NodeFacts → Name → Scope → Scope
scope_inside options facts name scope = elim name [
  | BlockQuote ↦ record scope { is_contained = true; is_tight = false }
  | GfmFootnoteDefinition ↦ record scope { is_contained = true; is_tight = false }
  | ListOrdered ↦ record scope { is_contained = true; is_tight = not facts.loose }
  | ListUnordered ↦ record scope { is_contained = true; is_tight = not facts.loose }
  | Image ↦ record scope { in_image = true }
  | Link ↦ record scope { in_link = true }
  | GfmTable ↦ record scope { in_table = true; columns = facts.columns }
  | GfmTableHead ↦ record scope { in_head = true }
  | CodeText ↦ record scope { in_code = true }
  | MathText ↦ record scope { in_code = true }
  | Definition ↦ record scope { in_definition = true }
  | HtmlFlow ↦ record scope { is_escaping = not options.allow_dangerous_html }
  | HtmlText ↦ record scope { is_escaping = not options.allow_dangerous_html }
  | DefinitionDestinationString ↦ record scope { is_escaping = false }
  | ResourceDestinationString ↦ record scope { is_escaping = false }
  | _ ↦ scope
]

-- the text of these nodes is captured
abbrev pub captures : Name → Bool
captures name = elim name [
  | HeadingSetextText ↦ true
  | CodeFencedFenceMeta ↦ true
  | MathFlowFenceMeta ↦ true
  | CodeText ↦ true
  | MathText ↦ true
  | Link ↦ true
  | Image ↦ true
  | Resource ↦ true
  | ReferenceString ↦ true
  | DefinitionDestinationString ↦ true
  | DefinitionTitleString ↦ true
  | ResourceDestinationString ↦ true
  | ResourceTitleString ↦ true
  | GfmTableCell ↦ true
  | GfmTableDelimiterRow ↦ true
  | GfmFootnoteCall ↦ true
  | GfmFootnoteDefinition ↦ true
  | GfmFootnoteDefinitionPrefix ↦ true
  | Definition ↦ true
  | Frontmatter ↦ true
  | _ ↦ false
]
