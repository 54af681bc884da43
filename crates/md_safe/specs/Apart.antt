-- Two documents on one page.
use Rattle.std.specs.Str.{bytes_eq}
use Rattle.std.specs.Prelude.{ℕ, Bool, false, not, ◌||◌, IsTrue, List, option_map, codes}
use Rattle.std.specs.Prelude.{string_bytes}
use Rattle.std.specs.Option.{option_map_or}
use Rattle.std.specs.List.{list_any, list_all}
use Rattle.md_text.specs.Encode.{encoded}
use Rattle.md_text.specs.Html.{Forest, IsReading}
use Rattle.md_text.specs.Ids.{ids}
use Rattle.md_text.specs.declared.options.CompileOptions.{CompileOptions}

-- the prefix of the ids of footnotes and of their calls, as it is read: U+FFFD replaces each NUL
abbrev pub prefix_of : CompileOptions → List ℕ
prefix_of options =
    option_map_or (encoded false) (option_map string_bytes options.gfm_footnote_clobber_prefix)
    (codes "user-content-")

-- none of some ids is among others, except that of the heading of footnotes
abbrev pub are_apart : List (List ℕ) → List (List ℕ) → Bool
are_apart ids others =
    list_all (λ id. bytes_eq (codes "footnote-label") id
    || not (list_any (λ other. bytes_eq other id) others)) ids

-- two texts share no id but `footnote-label`, in any reading
abbrev pub ShareNoId : List ℕ → List ℕ → Type 0
ShareNoId text other = (forest others : Forest) → IsReading text forest → IsReading other others →
    IsTrue (are_apart (ids forest) (ids others))
