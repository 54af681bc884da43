-- The options that C's fields encode, and which of these are safe.
use Rattle.std.specs.Prelude.{◌≡◌, ℕ, ◌==◌, Bool, true, false, if◌then◌else◌, List, [], ◌∷◌, Option}
use Rattle.std.specs.Prelude.{Some, None, is_some, option_map, slice_get, string_bytes}
use Rattle.md_base.specs.Place.{text_when}
use Rattle.md_text.specs.declared.line_ending.LineEnding.{LineEnding}
use Rattle.md_text.specs.declared.line_ending.LineEnding.TheVariants.{CarriageReturnLineFeed}
use Rattle.md_text.specs.declared.line_ending.LineEnding.TheVariants.{CarriageReturn, LineFeed}
use Rattle.md_text.specs.declared.options.CompileOptions.{CompileOptions}
use Rattle.md_abi.specs.declared.option.CText.{CText}
use Rattle.md_abi.specs.declared.option.COptions.{COptions}

-- 0 is off, 1 is on
abbrev pub flag_of : ℕ → Option Bool
flag_of number = if number == 0 then Some false else if number == 1 then Some true else None

abbrev pub ending_of : ℕ → Option LineEnding
ending_of number =
    if number == 0 then Some LineFeed
    else if number == 1 then Some CarriageReturn
    else if number == 2 then Some CarriageReturnLineFeed
    else None

-- a text that is set is UTF-8; the bytes of an unset one are not read
abbrev pub text_of : CText → Option (Option (List ℕ))
text_of given =
    if given.is_set == 0 then Some None
    else if given.is_set == 1 then option_map Some (text_when true given.bytes.now)
    else None

-- each option is the one that its field encodes
pub record HasOptions (given : COptions) (options : CompileOptions) : Type 0 where
  pub any_img_src : flag_of given.allow_any_img_src ≡ Some options.allow_any_img_src
  pub dangerous_html : flag_of given.allow_dangerous_html ≡ Some options.allow_dangerous_html
  pub dangerous_protocol :
      flag_of given.allow_dangerous_protocol ≡ Some options.allow_dangerous_protocol
  pub checkable :
      flag_of given.gfm_task_list_item_checkable ≡ Some options.gfm_task_list_item_checkable
  pub tagfilter : flag_of given.gfm_tagfilter ≡ Some options.gfm_tagfilter
  pub ending : ending_of given.default_line_ending ≡ Some options.default_line_ending
  pub back_label : text_of given.gfm_footnote_back_label
      ≡ Some (option_map string_bytes options.gfm_footnote_back_label)
  pub clobber_prefix : text_of given.gfm_footnote_clobber_prefix
      ≡ Some (option_map string_bytes options.gfm_footnote_clobber_prefix)
  pub label :
      text_of given.gfm_footnote_label ≡ Some (option_map string_bytes options.gfm_footnote_label)
  pub label_attributes : text_of given.gfm_footnote_label_attributes
      ≡ Some (option_map string_bytes options.gfm_footnote_label_attributes)
  pub label_tag_name : text_of given.gfm_footnote_label_tag_name
      ≡ Some (option_map string_bytes options.gfm_footnote_label_tag_name)
  pub number_ids : flag_of given.gfm_footnote_number_ids ≡ Some options.gfm_footnote_number_ids

-- which fields encode an option, by the options' numbers from 0
abbrev pub readable_fields : COptions → List Bool
readable_fields given =
    is_some (flag_of given.allow_any_img_src) ∷
    is_some (flag_of given.allow_dangerous_html) ∷
    is_some (flag_of given.allow_dangerous_protocol) ∷
    is_some (flag_of given.gfm_task_list_item_checkable) ∷
    is_some (flag_of given.gfm_tagfilter) ∷
    is_some (ending_of given.default_line_ending) ∷
    is_some (text_of given.gfm_footnote_back_label) ∷
    is_some (text_of given.gfm_footnote_clobber_prefix) ∷
    is_some (text_of given.gfm_footnote_label) ∷
    is_some (text_of given.gfm_footnote_label_attributes) ∷
    is_some (text_of given.gfm_footnote_label_tag_name) ∷
    is_some (flag_of given.gfm_footnote_number_ids) ∷
    []

-- the field with this number encodes no option
abbrev pub StandsForNone : COptions → ℕ → Type 0
StandsForNone given number = slice_get (readable_fields given) number ≡ Some false

-- nothing is written unescaped: HTML is escaped, and the heading of the footnotes is the usual one
pub record KeepsGrammar (given : COptions) : Type 0 where
  pub escapes_html : given.allow_dangerous_html ≡ 0
  pub usual_tag : given.gfm_footnote_label_tag_name.is_set ≡ 0
  pub usual_attributes : given.gfm_footnote_label_attributes.is_set ≡ 0

-- besides, links use only the permitted protocols
pub record KeepsLinks (given : COptions) : Type 0 where
  pub grammar : KeepsGrammar given
  pub permitted_links : given.allow_dangerous_protocol ≡ 0

-- besides, images use only the permitted protocols: the safe options
pub record KeepsImages (given : COptions) : Type 0 where
  pub links : KeepsLinks given
  pub permitted_images : given.allow_any_img_src ≡ 0

-- nothing is written unescaped, and ids are by number
pub record KeepsIds (given : COptions) : Type 0 where
  pub grammar : KeepsGrammar given
  pub by_number : given.gfm_footnote_number_ids ≡ 1
