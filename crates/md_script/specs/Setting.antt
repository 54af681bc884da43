-- Lines that set options.
use Rattle.std.specs.Prelude.{◌≡◌, ℕ, Bool, true, false, not, ◌&&◌, ◌==◌, if◌then◌else◌, List, []}
use Rattle.std.specs.Prelude.{◌∷◌, map, Option, Some, None, option_map, option_and_then, unwrap_or}
use Rattle.std.specs.Prelude.{find, is_some, bytes_eq, codes, string_bytes}
use Rattle.std.specs.Borrow.{Bor}
use Rattle.std.specs.List.{list_any, before_first, after_first}
use Rattle.std.specs.Str.{is_utf8}
use Rattle.md_base.specs.Place.{text_when}
use Rattle.md_text.specs.declared.line_ending.LineEnding.{LineEnding}
use Rattle.md_text.specs.declared.line_ending.LineEnding.TheVariants.{CarriageReturnLineFeed}
use Rattle.md_text.specs.declared.line_ending.LineEnding.TheVariants.{CarriageReturn, LineFeed}
use Rattle.md_text.specs.declared.options.CompileOptions.{CompileOptions}

-- the texts that a slice of texts points to
abbrev pub texts_of : List (Bor (List ℕ)) → List (List ℕ)
texts_of = map (λ text. text.now)

-- the names of options that are flags
abbrev pub flag_names : List (List ℕ)
flag_names =
    codes "allow_any_img_src" ∷ codes "allow_dangerous_html" ∷ codes "allow_dangerous_protocol"
    ∷ codes "gfm_task_list_item_checkable"
    ∷ codes "gfm_tagfilter" ∷ codes "gfm_footnote_number_ids" ∷ []

-- the names of options that are texts
abbrev pub text_names : List (List ℕ)
text_names =
    codes "gfm_footnote_back_label" ∷ codes "gfm_footnote_clobber_prefix"
    ∷ codes "gfm_footnote_label"
    ∷ codes "gfm_footnote_label_attributes" ∷ codes "gfm_footnote_label_tag_name" ∷ []

abbrev pub ending_name : List ℕ
ending_name = codes "default_line_ending"

-- the line ending with this name
abbrev pub ending_named : List ℕ → Option LineEnding
ending_named text =
    if bytes_eq text (codes "lf") then Some LineFeed
    else if bytes_eq text (codes "cr") then Some CarriageReturn
    else if bytes_eq text (codes "crlf") then Some CarriageReturnLineFeed
    else None

abbrev pub is_among : List (List ℕ) → List ℕ → Bool
is_among names text = list_any (λ name. bytes_eq name text) names

abbrev pub is_equals : ℕ → Bool
is_equals byte = byte == 61

-- a name and a value that may be before and after the first `=`
abbrev pub is_assignment : List ℕ → List ℕ → Bool
is_assignment name value = if bytes_eq name ending_name then is_some (ending_named value)
    else is_among text_names name && is_utf8 value

-- `!`, and then the name of a flag, or an assignment
abbrev pub is_setting : List ℕ → Bool
is_setting [] = false
is_setting (sign ∷ rest) =
    sign == 33 && (if list_any is_equals rest then is_assignment (before_first is_equals rest)
    (after_first is_equals rest) else is_among flag_names rest)

-- the name after `!`
abbrev pub option_name : List ℕ → Option (List ℕ)
option_name [] = None
option_name (sign ∷ rest) = if sign == 33 then Some (before_first is_equals rest) else None

abbrev pub is_name : List ℕ → Option (List ℕ) → Bool
is_name name None = false
is_name name (Some other) = bytes_eq other name

-- one of these lines sets the option with this name
abbrev pub is_given : List (List ℕ) → List ℕ → Bool
is_given lines name = list_any (λ line. is_name name (option_name line)) lines

-- the text after the first `=`, which is UTF-8 in a valid line
abbrev pub value_of : List ℕ → Option (List ℕ)
value_of line = text_when true (after_first is_equals line)

-- the value of the first such line
abbrev pub text_given : List (List ℕ) → List ℕ → Option (List ℕ)
text_given lines name =
    option_and_then value_of (find (λ line. is_name name (option_name line)) lines)

-- the line sets an option that none of these sets
abbrev pub is_new : List (List ℕ) → Option (List ℕ) → Bool
is_new lines None = false
is_new lines (Some name) = not (is_given lines name)

-- the options that these lines set; all others are off or unset
pub record HasOptions (lines : List (List ℕ)) (options : CompileOptions) : Type 0 where
  pub any_img_src : options.allow_any_img_src ≡ is_given lines (codes "allow_any_img_src")
  pub dangerous_html : options.allow_dangerous_html ≡ is_given lines (codes "allow_dangerous_html")
  pub dangerous_protocol :
      options.allow_dangerous_protocol ≡ is_given lines (codes "allow_dangerous_protocol")
  pub checkable :
      options.gfm_task_list_item_checkable ≡ is_given lines (codes "gfm_task_list_item_checkable")
  pub tagfilter : options.gfm_tagfilter ≡ is_given lines (codes "gfm_tagfilter")
  pub number_ids :
      options.gfm_footnote_number_ids ≡ is_given lines (codes "gfm_footnote_number_ids")
  pub ending : options.default_line_ending
      ≡ unwrap_or (option_and_then ending_named (text_given lines ending_name)) LineFeed
  pub back_label : option_map string_bytes options.gfm_footnote_back_label
      ≡ text_given lines (codes "gfm_footnote_back_label")
  pub clobber_prefix : option_map string_bytes options.gfm_footnote_clobber_prefix
      ≡ text_given lines (codes "gfm_footnote_clobber_prefix")
  pub label : option_map string_bytes options.gfm_footnote_label
      ≡ text_given lines (codes "gfm_footnote_label")
  pub label_attributes : option_map string_bytes options.gfm_footnote_label_attributes
      ≡ text_given lines (codes "gfm_footnote_label_attributes")
  pub label_tag_name : option_map string_bytes options.gfm_footnote_label_tag_name
      ≡ text_given lines (codes "gfm_footnote_label_tag_name")
