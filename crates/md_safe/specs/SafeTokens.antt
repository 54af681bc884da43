-- Safe tokens: each `href`, and each `src`, has by the URL Standard no scheme of its own or a
-- permitted one.
use Rattle.std.specs.Str.{bytes_eq}
use Rattle.std.specs.Prelude.{ℕ, Bool, true, if◌then◌else◌, List, codes}
use Rattle.std.specs.List.{list_all}
use Rattle.md_text.specs.Url.{link_protocols, image_protocols}
use Rattle.md_safe.specs.Token.{Token, StartTag, TokenAttribute}
use Rattle.md_safe.specs.Scheme.{has_permitted_scheme}

-- an attribute of this name has no scheme or one of the list, and any other attribute passes
abbrev pub is_permitted : List ℕ → List (List ℕ) → TokenAttribute → Bool
is_permitted name schemes a =
    if bytes_eq a.name name then has_permitted_scheme schemes a.value else true

-- each attribute of a start tag passes the test
abbrev pub attributes_pass : (TokenAttribute → Bool) → Token → Bool
attributes_pass p token =
    elim token [ StartTag name attributes flag ↦ list_all p attributes | _ ↦ true ]

-- an `href` has no scheme of its own, or http, https, irc, ircs, mailto or xmpp
abbrev pub has_safe_links : Token → Bool
has_safe_links token = attributes_pass (is_permitted (codes "href") link_protocols) token

-- a `src` has no scheme of its own, or http or https
abbrev pub has_safe_images : Token → Bool
has_safe_images token = attributes_pass (is_permitted (codes "src") image_protocols) token
