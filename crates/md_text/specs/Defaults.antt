-- The default options.
use Rattle.std.specs.Prelude.{false, true, None}
use Rattle.md_text.specs.declared.line_ending.LineEnding.TheVariants.{LineFeed}
use Rattle.md_text.specs.declared.options.CompileOptions.{CompileOptions}

-- all off, all unset, and lines end in LF
abbrev pub default_options : CompileOptions
default_options = record {
  allow_any_img_src = false;
  allow_dangerous_html = false;
  allow_dangerous_protocol = false;
  gfm_task_list_item_checkable = false;
  gfm_tagfilter = false;
  gfm_footnote_number_ids = false;
  default_line_ending = LineFeed;
  gfm_footnote_back_label = None;
  gfm_footnote_clobber_prefix = None;
  gfm_footnote_label = None;
  gfm_footnote_label_attributes = None;
  gfm_footnote_label_tag_name = None;
}

-- the same with the tag filter on
abbrev pub gfm_options : CompileOptions
gfm_options = record default_options { gfm_tagfilter = true }
