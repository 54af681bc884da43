-- A worked tree with each name whose text depends on an option, under each option alone and with
-- the options that it interacts with.
use Rattle.std.specs.Prelude.{ℕ, true, List, [], ◌∷◌, ◌++◌, codes}
use Rattle.md_base.specs.declared.event.Name.TheVariants as name_variants
use name_variants.{AutolinkProtocol, Data, GfmFootnoteCall, GfmFootnoteDefinition}
use name_variants.{GfmFootnoteDefinitionLabelString, GfmFootnoteDefinitionPrefix}
use name_variants.{GfmTaskListItemCheck, HtmlFlow, HtmlFlowData, HtmlText, HtmlTextData, Image}
use name_variants.{Label, LabelText, Link, Paragraph, Resource, ResourceDestinationString}
use Rattle.md_text.specs.declared.line_ending.LineEnding.TheVariants.{CarriageReturn}
use Rattle.md_text.specs.declared.line_ending.LineEnding.TheVariants.{CarriageReturnLineFeed}
use Rattle.md_base.specs.Tree.{Forest, Empty, Node}
use Rattle.md_text.specs.Defaults.{default_options}
use Rattle.md_text.specs.declared.options.CompileOptions.{CompileOptions}
use Rattle.md_meaning.specs.Trees.{at}

-- a link, an image, an autolink, data, HTML in a text, a task and a call in a paragraph; a block of
-- HTML; a footnote
abbrev pub each_name : Forest
each_name =
    Node Paragraph (at 0) (at 35)
    (Node Link (at 0) (at 8)
    (Node Label (at 0) (at 3)
    (Node LabelText (at 1) (at 2) (Node Data (at 1) (at 2) Empty Empty) Empty)
    (Node Resource (at 3) (at 8)
    (Node ResourceDestinationString (at 4) (at 7)
    (Node Data (at 4) (at 7) Empty Empty) Empty) Empty))
    (Node Image (at 8) (at 17)
    (Node Label (at 9) (at 12)
    (Node LabelText (at 10) (at 11) (Node Data (at 10) (at 11) Empty Empty) Empty)
    (Node Resource (at 12) (at 17)
    (Node ResourceDestinationString (at 13) (at 16)
    (Node Data (at 13) (at 16) Empty Empty) Empty) Empty))
    (Node AutolinkProtocol (at 18) (at 21) Empty
    (Node Data (at 22) (at 23) Empty
    (Node HtmlText (at 23) (at 28) (Node HtmlTextData (at 23) (at 28) Empty Empty)
    (Node GfmTaskListItemCheck (at 28) (at 31) Empty
    (Node GfmFootnoteCall (at 33) (at 34)
    (Node Label (at 33) (at 34)
    (Node LabelText (at 33) (at 34)
    (Node Data (at 33) (at 34) Empty Empty) Empty) Empty) Empty)))))))
    (Node HtmlFlow (at 35) (at 42) (Node HtmlFlowData (at 35) (at 42) Empty Empty)
    (Node GfmFootnoteDefinition (at 42) (at 48)
    (Node GfmFootnoteDefinitionPrefix (at 42) (at 47)
    (Node GfmFootnoteDefinitionLabelString (at 44) (at 45)
    (Node Data (at 44) (at 45) Empty Empty) Empty)
    (Node Paragraph (at 47) (at 48) (Node Data (at 47) (at 48) Empty Empty) Empty)) Empty))

abbrev pub each_name_bytes : List ℕ
each_name_bytes = codes "[a](x:b)![a](x:c)<x:d>&<xmp>[ ][^e]<title>[^e]:f"

-- its text, with parameters for the parts that options change: the ids of the footnote and its
-- call, the addresses of the link, the autolink and the image, the HTML in the text and in the
-- block, the attribute of the task, the line ending
abbrev pub each_name_text_by : (footnote call link autolink image span block task ending : List ℕ) →
    List ℕ
each_name_text_by footnote call link autolink image span block task ending =
    codes "<p><a href=\"" ++ link ++ codes "\">a</a><img src=\"" ++ image ++ codes "\" alt=\"a\" />"
    ++ codes "<a href=\"" ++ autolink ++ codes "\">x:d</a>&amp;" ++ span
    ++ codes "<input type=\"checkbox\" " ++ task ++ codes "/>"
    ++ codes "<sup><a href=\"#user-content-fn-" ++ footnote ++ codes "\" id=\"user-content-fnref-"
    ++ call ++ codes "\" data-footnote-ref=\"\" "
    ++ codes "aria-describedby=\"footnote-label\">1</a></sup></p>" ++ ending ++ block ++ ending
    ++ codes "<section data-footnotes=\"\" class=\"footnotes\">"
    ++ codes "<h2 id=\"footnote-label\" class=\"sr-only\">Footnotes</h2>" ++ ending
    ++ codes "<ol>" ++ ending ++ codes "<li id=\"user-content-fn-" ++ footnote ++ codes "\">"
    ++ ending ++ codes "<p>f <a href=\"#user-content-fnref-" ++ call
    ++ codes "\" data-footnote-backref=\"\" aria-label=\"Back to content\" "
    ++ codes "class=\"data-footnote-backref\">" ++ (226 ∷ 134 ∷ 169 ∷ [])
    ++ codes "</a></p>" ++ ending
    ++ codes "</li>" ++ ending ++ codes "</ol>" ++ ending ++ codes "</section>" ++ ending

-- the same if ids are by identifier
abbrev pub each_name_text : (link autolink image span block task ending : List ℕ) → List ℕ
each_name_text link autolink image span block task ending =
    each_name_text_by (codes "e") (codes "e") link autolink image span block task ending

-- the attribute of a task that can't be checked, and the three line endings
abbrev pub disabled : List ℕ
disabled = codes "disabled=\"\" "

abbrev pub lf : List ℕ
lf = 10 ∷ []

abbrev pub cr : List ℕ
cr = 13 ∷ []

abbrev pub crlf : List ℕ
crlf = 13 ∷ 10 ∷ []

-- no option is on
abbrev pub no_option : CompileOptions
no_option = default_options

abbrev pub no_option_text : List ℕ
no_option_text = each_name_text [] [] [] (codes "&lt;xmp&gt;") (codes "&lt;title&gt;") disabled lf

-- images may have any source; links need a permitted protocol
abbrev pub any_image_source : CompileOptions
any_image_source = record default_options { allow_any_img_src = true }

abbrev pub any_image_source_text : List ℕ
any_image_source_text =
    each_name_text [] [] (codes "x:c") (codes "&lt;xmp&gt;") (codes "&lt;title&gt;") disabled lf

-- links and images may have any protocol
abbrev pub any_protocol : CompileOptions
any_protocol = record default_options { allow_dangerous_protocol = true }

abbrev pub any_protocol_text : List ℕ
any_protocol_text =
    each_name_text (codes "x:b") (codes "x:d") (codes "x:c") (codes "&lt;xmp&gt;")
    (codes "&lt;title&gt;") disabled lf

-- both of these together
abbrev pub any_protocol_and_source : CompileOptions
any_protocol_and_source =
    record default_options { allow_any_img_src = true; allow_dangerous_protocol = true }

abbrev pub any_protocol_and_source_text : List ℕ
any_protocol_and_source_text =
    each_name_text (codes "x:b") (codes "x:d") (codes "x:c") (codes "&lt;xmp&gt;")
    (codes "&lt;title&gt;") disabled lf

-- HTML stays as it is, and other text is escaped
abbrev pub html : CompileOptions
html = record default_options { allow_dangerous_html = true }

abbrev pub html_text : List ℕ
html_text = each_name_text [] [] [] (codes "<xmp>") (codes "<title>") disabled lf

-- only the tag filter, where HTML is escaped
abbrev pub tag_filter : CompileOptions
tag_filter = record default_options { gfm_tagfilter = true }

abbrev pub tag_filter_text : List ℕ
tag_filter_text = each_name_text [] [] [] (codes "&lt;xmp&gt;") (codes "&lt;title&gt;") disabled lf

-- HTML stays, and the tag filter escapes its tags
abbrev pub filtered_html : CompileOptions
filtered_html = record default_options { allow_dangerous_html = true; gfm_tagfilter = true }

abbrev pub filtered_html_text : List ℕ
filtered_html_text = each_name_text [] [] [] (codes "&lt;xmp>") (codes "&lt;title>") disabled lf

-- tasks are checkable
abbrev pub checkable_tasks : CompileOptions
checkable_tasks = record default_options { gfm_task_list_item_checkable = true }

abbrev pub checkable_tasks_text : List ℕ
checkable_tasks_text = each_name_text [] [] [] (codes "&lt;xmp&gt;") (codes "&lt;title&gt;") [] lf

-- lines end in CR
abbrev pub carriage_returns : CompileOptions
carriage_returns = record default_options { default_line_ending = CarriageReturn }

abbrev pub carriage_returns_text : List ℕ
carriage_returns_text =
    each_name_text [] [] [] (codes "&lt;xmp&gt;") (codes "&lt;title&gt;") disabled cr

-- lines end in CR and LF
abbrev pub both_ends_of_line : CompileOptions
both_ends_of_line = record default_options { default_line_ending = CarriageReturnLineFeed }

abbrev pub both_ends_of_line_text : List ℕ
both_ends_of_line_text =
    each_name_text [] [] [] (codes "&lt;xmp&gt;") (codes "&lt;title&gt;") disabled crlf

-- footnotes' ids are their numbers
abbrev pub ids_by_number : CompileOptions
ids_by_number = record default_options { gfm_footnote_number_ids = true }

abbrev pub ids_by_number_text : List ℕ
ids_by_number_text =
    each_name_text_by (codes "1") (codes "1-1") [] [] [] (codes "&lt;xmp&gt;")
    (codes "&lt;title&gt;") disabled lf
