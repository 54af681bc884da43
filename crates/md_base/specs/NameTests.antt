-- Tests on names. Each returns true for the names that it lists.
use Rattle.std.specs.Prelude.{Bool, true, false, not, ◌||◌}
use Rattle.md_base.specs.declared.event.Name.{Name}
use Rattle.md_base.specs.declared.event.Name.TheVariants as name_variants
use name_variants.{LineEnding, BlankLineEnding, BlockQuotePrefix, ListItem}
use name_variants.{ListItemPrefix, ListItemValue, GfmFootnoteDefinition}
use name_variants.{GfmFootnoteDefinitionPrefix, GfmFootnoteDefinitionLabelString, GfmFootnoteCall}
use name_variants.{Definition, DefinitionLabelString, CodeFencedFence, MathFlowFence, CodeFlowChunk}
use name_variants.{MathFlowChunk, HeadingAtxSequence, GfmTable, GfmTableCell}
use name_variants.{GfmTableDelimiterRow}
use name_variants.{GfmTableHead, ReferenceString, Label, LabelText, SpaceOrTab, Other}
use Rattle.md_base.specs.Is.{is}

-- a node whose children count as children of its parent in that parent's pattern
abbrev pub is_transparent : Name → Bool
is_transparent name =
    elim name [ Other number ↦ true | BlockQuotePrefix ↦ true | SpaceOrTab ↦ true | _ ↦ false ]

-- a line ending, blank or not
abbrev pub is_line_ending : Name → Bool
is_line_ending name = elim name [ LineEnding ↦ true | BlankLineEnding ↦ true | _ ↦ false ]

abbrev pub is_space : Name → Bool
is_space name = elim name [ SpaceOrTab ↦ true | _ ↦ false ]

abbrev pub is_item : Name → Bool
is_item name = elim name [ ListItem ↦ true | _ ↦ false ]

abbrev pub is_item_prefix : Name → Bool
is_item_prefix name = elim name [ ListItemPrefix ↦ true | _ ↦ false ]

abbrev pub is_item_value : Name → Bool
is_item_value name = elim name [ ListItemValue ↦ true | _ ↦ false ]

-- a child after which a line ending isn't printed
abbrev pub is_definition : Name → Bool
is_definition name = elim name [ Definition ↦ true | GfmFootnoteDefinition ↦ true | _ ↦ false ]

-- a child that decides how an item ends
abbrev pub contributes : Name → Bool
contributes name = not (is_line_ending name || is_definition name || is SpaceOrTab name
    || is BlockQuotePrefix name)

abbrev pub is_fence : Name → Bool
is_fence name = elim name [ CodeFencedFence ↦ true | MathFlowFence ↦ true | _ ↦ false ]

abbrev pub is_chunk : Name → Bool
is_chunk name = elim name [ CodeFlowChunk ↦ true | MathFlowChunk ↦ true | _ ↦ false ]

abbrev pub is_heading_mark : Name → Bool
is_heading_mark name = elim name [ HeadingAtxSequence ↦ true | _ ↦ false ]

abbrev pub is_label : Name → Bool
is_label name = elim name [ Label ↦ true | _ ↦ false ]

abbrev pub is_label_text : Name → Bool
is_label_text name = elim name [ LabelText ↦ true | _ ↦ false ]

abbrev pub is_reference : Name → Bool
is_reference name = elim name [ ReferenceString ↦ true | _ ↦ false ]

abbrev pub is_definition_label : Name → Bool
is_definition_label name = elim name [ DefinitionLabelString ↦ true | _ ↦ false ]

abbrev pub is_footnote_prefix : Name → Bool
is_footnote_prefix name = elim name [ GfmFootnoteDefinitionPrefix ↦ true | _ ↦ false ]

abbrev pub is_footnote_label : Name → Bool
is_footnote_label name = elim name [ GfmFootnoteDefinitionLabelString ↦ true | _ ↦ false ]

abbrev pub is_link_definition : Name → Bool
is_link_definition name = elim name [ Definition ↦ true | _ ↦ false ]

abbrev pub is_footnote_definition : Name → Bool
is_footnote_definition name = elim name [ GfmFootnoteDefinition ↦ true | _ ↦ false ]

abbrev pub is_call : Name → Bool
is_call name = elim name [ GfmFootnoteCall ↦ true | _ ↦ false ]

abbrev pub is_cell : Name → Bool
is_cell name = elim name [ GfmTableCell ↦ true | _ ↦ false ]

abbrev pub is_table : Name → Bool
is_table name = elim name [ GfmTable ↦ true | _ ↦ false ]

abbrev pub is_table_head : Name → Bool
is_table_head name = elim name [ GfmTableHead ↦ true | _ ↦ false ]

abbrev pub is_delimiter_row : Name → Bool
is_delimiter_row name = elim name [ GfmTableDelimiterRow ↦ true | _ ↦ false ]

-- the nodes through which a table contains the values of its delimiter row
abbrev pub leads_to_values : Name → Bool
leads_to_values name =
    elim name [ GfmTableHead ↦ true | GfmTableDelimiterRow ↦ true | other ↦ is_transparent other ]
