-- The protocols that links and images may have.
use Rattle.std.specs.Prelude.{ℕ, Bool, true, ◌&&◌, if◌then◌else◌, List, map, codes, bytes_eq}
use Rattle.md_text.specs.Safe.{is_safe_value}
use Rattle.md_text.specs.Html.{Attribute}
use Rattle.md_reader.specs.declared.protocol.Protocols.{Protocols}

-- an `href` has no protocol or one of the first, and a `src` none or one of the others
abbrev pub is_permitted : List (List ℕ) → List (List ℕ) → Attribute → Bool
is_permitted links images a =
    (if bytes_eq a.name (codes "href") then is_safe_value links a.value else true)
    && (if bytes_eq a.name (codes "src") then is_safe_value images a.value else true)

-- the protocols of links, and those of images
abbrev pub links_of : Protocols → List (List ℕ)
links_of protocols = map (λ protocol. protocol.now) protocols.links.now

abbrev pub images_of : Protocols → List (List ℕ)
images_of protocols = map (λ protocol. protocol.now) protocols.images.now

-- the same as `is_permitted`, with these protocols
abbrev pub permits : Protocols → Attribute → Bool
permits protocols = is_permitted (links_of protocols) (images_of protocols)
