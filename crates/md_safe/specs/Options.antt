-- The options under which output is safe.
use Rattle.std.specs.Prelude.{◌≡◌, true, false, None}
use Rattle.md_text.specs.declared.options.CompileOptions.{CompileOptions}

-- nothing is written unescaped: HTML is escaped, and the heading of the footnotes is the usual one
pub record KeepsGrammar (options : CompileOptions) : Type 0 where
  pub escapes_html : options.allow_dangerous_html ≡ false
  pub usual_tag : options.gfm_footnote_label_tag_name ≡ None
  pub usual_attributes : options.gfm_footnote_label_attributes ≡ None

-- besides, links use only the permitted protocols
pub record KeepsLinks (options : CompileOptions) : Type 0 where
  pub grammar : KeepsGrammar options
  pub permitted_links : options.allow_dangerous_protocol ≡ false

-- besides, images use only the permitted protocols: the safe options
pub record KeepsImages (options : CompileOptions) : Type 0 where
  pub links : KeepsLinks options
  pub permitted_images : options.allow_any_img_src ≡ false

-- nothing is written unescaped, and the ids of footnotes and of their calls are by number
pub record KeepsIds (options : CompileOptions) : Type 0 where
  pub grammar : KeepsGrammar options
  pub by_number : options.gfm_footnote_number_ids ≡ true
