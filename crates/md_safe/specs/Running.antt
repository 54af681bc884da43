-- Names of tags and attributes by which a text would run something, or change how the surrounding
-- page is read.
use Rattle.std.specs.Prelude.{ℕ, Bool, true, not, ◌&&◌, ◌||◌, nat_eq, List, [], ◌∷◌, codes}
use Rattle.std.specs.List.{list_all, starts_with}
use Rattle.md_text.specs.Bytes.{is_one_of}
use Rattle.md_safe.specs.Token.{Token, StartTag}

-- elements that run or style something, embed a document, send a form, play media, or set
-- how a page is read
abbrev pub running_elements : List (List ℕ)
running_elements =
    codes "script" ∷ codes "style" ∷ codes "iframe" ∷ codes "frame" ∷ codes "object" ∷ codes "embed"
    ∷ codes "applet" ∷ codes "audio" ∷ codes "video" ∷ codes "source" ∷ codes "track" ∷ codes "form"
    ∷ codes "button" ∷ codes "base" ∷ codes "meta" ∷ codes "link" ∷ codes "svg" ∷ codes "math" ∷ []

-- an event handler, whose name begins with `on`; a style; or an attribute with an address, other
-- than `href` and `src`
abbrev pub is_running_attribute : List ℕ → Bool
is_running_attribute name =
    starts_with nat_eq name (codes "on") || is_one_of (codes "style" ∷ codes "srcdoc"
    ∷ codes "srcset" ∷ codes "imagesrcset" ∷ codes "action" ∷ codes "formaction" ∷ codes "poster"
    ∷ codes "background" ∷ codes "data" ∷ codes "ping" ∷ codes "xlink:href" ∷ []) name

-- no start tag of such an element, or with such an attribute
abbrev pub runs_nothing : Token → Bool
runs_nothing token = elim token [
  | StartTag name attributes flag ↦ not (is_one_of running_elements name)
      && list_all (λ a. not (is_running_attribute a.name)) attributes
  | _ ↦ true
]
