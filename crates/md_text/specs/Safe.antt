-- Safe links and images.
use Rattle.std.specs.Str.{bytes_eq}
use Rattle.std.specs.Prelude.{ℕ, Bool, true, if◌then◌else◌, List, codes}
use Rattle.md_text.specs.Url.{has_permitted_protocol, link_protocols, image_protocols}
use Rattle.md_text.specs.References.{read_back}
use Rattle.md_text.specs.Html.{Attribute}

-- a value, with its references read back, has no protocol or a permitted one
abbrev pub is_safe_value : List (List ℕ) → List ℕ → Bool
is_safe_value protocols value = has_permitted_protocol protocols (read_back value)

-- an `href` has no protocol or one that a link may have
abbrev pub is_safe_link : Attribute → Bool
is_safe_link a =
    if bytes_eq a.name (codes "href") then is_safe_value link_protocols a.value else true

-- a `src` has no protocol or one that an image may have
abbrev pub is_safe_image : Attribute → Bool
is_safe_image a =
    if bytes_eq a.name (codes "src") then is_safe_value image_protocols a.value else true
