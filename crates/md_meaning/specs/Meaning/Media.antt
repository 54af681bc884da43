-- What links, images and autolinks mean.
use Rattle.std.specs.Prelude.{ℕ, Bool, true, ◌||◌, if◌then◌else◌, List, [], ◌∷◌, ◌++◌, Option, None}
use Rattle.std.specs.Prelude.{unwrap_or, find, bytes_eq, codes}
use Rattle.std.specs.Option.{option_map_or}
use Rattle.md_text.specs.Encode.{encoded}
use Rattle.md_text.specs.Url.{sanitized, sanitized_with, link_protocols, image_protocols}
use Rattle.md_text.specs.declared.options.CompileOptions.{CompileOptions}
use Rattle.md_meaning.specs.Meaning.Layout.{Piece, Text, said}
use Rattle.md_meaning.specs.Meaning.At.{Target, Context, At, nothing_found, target_in, text_in}
use Rattle.md_meaning.specs.Meaning.At.{identifier_of}

-- a destination as a URL: with any protocol if `any` is set, else with none or one of `protocols`
abbrev pub url : Bool → List (List ℕ) → List ℕ → List ℕ
url any protocols destination =
    if any then sanitized destination else sanitized_with protocols destination

abbrev pub href : CompileOptions → List ℕ → List ℕ
href options destination = url options.allow_dangerous_protocol link_protocols destination

abbrev pub src : CompileOptions → List ℕ → List ℕ
src options destination =
    url (options.allow_any_img_src || options.allow_dangerous_protocol) image_protocols destination

-- the target of the first definition with an identifier
abbrev pub target_defined : Context → List ℕ → Target
target_defined context identifier = option_map_or (λ defined. defined.target)
    (find (λ defined. bytes_eq defined.identifier identifier) context.definitions)
    (target_in nothing_found)

-- the target of a link or an image: its resource, else the definition that it refers to
abbrev pub leads_to : Context → At → Target
leads_to context at =
    unwrap_or at.found.resource (target_defined context (identifier_of context.bytes at.children))

-- ` title="` title `"`, if there is one
abbrev pub title_attribute : Option (List ℕ) → List Piece
title_attribute title =
    option_map_or (λ text. Text (codes " title=\"") ∷ Text text ∷ Text (codes "\"") ∷ []) title []

-- a link with a label
abbrev pub anchor : CompileOptions → Target → List ℕ → List Piece
anchor options target label =
    Text (codes "<a href=\"") ∷ Text (href options target.destination) ∷ Text (codes "\"")
    ∷ (title_attribute target.title ++ (Text (codes ">") ∷ Text label ∷ Text (codes "</a>") ∷ []))

-- an image with an alternative text
abbrev pub picture : CompileOptions → Target → List ℕ → List Piece
picture options target label =
    Text (codes "<img src=\"") ∷ Text (src options target.destination)
    ∷ Text (codes "\" alt=\"") ∷ Text label ∷ Text (codes "\"")
    ∷ (title_attribute target.title ++ said (codes " />"))

-- a link or an image with a label; inside an image, only the label
abbrev pub medium : (CompileOptions → Target → List ℕ → List Piece) → Context →
    At → List ℕ → List Piece
medium tag context at label =
    if at.around.in_image then said label else tag context.options (leads_to context at) label

-- an autolink: its text, linked to itself with a prefix, unless it is plain
abbrev pub autolink : Context → At → Bool → List ℕ → List Piece
autolink context at plain prefix =
    let text = text_in context.bytes at.place in
    if plain then said (encoded true text)
    else anchor context.options (record { destination = prefix ++ text; title = None })
    (encoded true text)

-- a literal one is plain in a link as well
abbrev pub literal : Context → At → List ℕ → List Piece
literal context at prefix = autolink context at (at.around.in_image || at.around.in_link) prefix
