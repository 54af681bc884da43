-- What a node inherits from its ancestors.
use Rattle.std.specs.Prelude.{Bool, true, false, not, if◌then◌else◌}
use Rattle.md_base.specs.declared.event.Name.{Name}
use Rattle.md_base.specs.declared.event.Name.TheVariants as name_variants
use name_variants.{BlockQuote, ListOrdered, ListUnordered, GfmFootnoteDefinition, CodeText}
use name_variants.{MathText, HtmlFlow, HtmlText, Definition, DefinitionDestinationString, Link}
use name_variants.{Image, ResourceDestinationString, GfmTable, GfmTableHead}
use Rattle.md_meaning.specs.declared.surroundings.Container.{Container}
use Rattle.md_meaning.specs.declared.surroundings.Container.TheVariants.{Nothing, TightList}
use Rattle.md_meaning.specs.declared.surroundings.Container.TheVariants.{Another}
use Rattle.md_meaning.specs.declared.surroundings.Surroundings.{Surroundings}
use Rattle.md_text.specs.declared.options.CompileOptions.{CompileOptions}

-- the surroundings of the document's own nodes
abbrev pub outermost : Surroundings
outermost = record {
  container = Nothing;
  is_outermost = true;
  in_image = false;
  in_link = false;
  in_table = false;
  in_head = false;
  in_code = false;
  in_definition = false;
  is_escaping = true;
}

-- the surroundings of a node's children; `loose` says whether the node, as a list, is loose
abbrev pub inside : CompileOptions → Bool → Name → Surroundings → Surroundings
inside options loose name around = elim name [
  | BlockQuote ↦ record around { container = Another; is_outermost = false }
  | GfmFootnoteDefinition ↦ record around { container = Another; is_outermost = false }
  | ListOrdered ↦
      record around { container = if loose then Another else TightList; is_outermost = false }
  | ListUnordered ↦
      record around { container = if loose then Another else TightList; is_outermost = false }
  | Image ↦ record around { in_image = true; is_outermost = false }
  | Link ↦ record around { in_link = true; is_outermost = false }
  | GfmTable ↦ record around { in_table = true; is_outermost = false }
  | GfmTableHead ↦ record around { in_head = true; is_outermost = false }
  | CodeText ↦ record around { in_code = true; is_outermost = false }
  | MathText ↦ record around { in_code = true; is_outermost = false }
  | Definition ↦ record around { in_definition = true; is_outermost = false }
  | HtmlFlow ↦
      record around { is_escaping = not options.allow_dangerous_html; is_outermost = false }
  | HtmlText ↦
      record around { is_escaping = not options.allow_dangerous_html; is_outermost = false }
  | DefinitionDestinationString ↦ record around { is_escaping = false; is_outermost = false }
  | ResourceDestinationString ↦ record around { is_escaping = false; is_outermost = false }
  | _ ↦ record around { is_outermost = false }
]

-- directly in a tight list
abbrev pub is_tight : Container → Bool
is_tight container = elim container [ TightList ↦ true | _ ↦ false ]
