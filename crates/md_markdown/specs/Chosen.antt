-- The options of the compiler for a Markdown document.
use Rattle.std.specs.Prelude.{◌≡◌, ℕ, List, false, codes, option_map, string_bytes}
use Rattle.std.specs.Option.{option_map_or}
use Rattle.md_text.specs.Encode.{encoded}
use Rattle.md_text.specs.declared.line_ending.LineEnding.TheVariants.{LineFeed}
use Rattle.md_text.specs.declared.options.CompileOptions.{CompileOptions}
use Rattle.md_safe.specs.Options.{KeepsImages}
use Rattle.md_blocks.specs.declared.options.MarkdownOptions.{MarkdownOptions}

-- the compiler's options are safe, and each text and flag that Markdown's options have is theirs
pub record AreChosenFor (markdown : MarkdownOptions) (options : CompileOptions) : Type 0 where
  pub safe : KeepsImages options
  pub disabled_tasks : options.gfm_task_list_item_checkable ≡ false
  pub no_tag_filter : options.gfm_tagfilter ≡ false
  pub line_ending : options.default_line_ending ≡ LineFeed
  pub number_ids : options.gfm_footnote_number_ids ≡ markdown.number_ids
  pub prefix : option_map string_bytes options.gfm_footnote_clobber_prefix
      ≡ option_map string_bytes markdown.footnote_prefix
  pub label : option_map string_bytes options.gfm_footnote_label
      ≡ option_map string_bytes markdown.footnote_label
  pub back_label : option_map string_bytes options.gfm_footnote_back_label
      ≡ option_map string_bytes markdown.footnote_back_label

-- the prefix of the ids of footnotes and of their calls, as it is read: U+FFFD replaces each NUL
abbrev pub footnote_prefix_of : MarkdownOptions → List ℕ
footnote_prefix_of markdown =
    option_map_or (encoded false) (option_map string_bytes markdown.footnote_prefix)
    (codes "user-content-")
