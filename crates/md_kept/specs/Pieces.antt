-- What the HTML of a document with kept tags is.
use Rattle.std.specs.Prelude.{◌≡◌, ℕ, Bool, true, false, List, [], ◌∷◌, All, drop, slice_range}
use Rattle.std.specs.Prelude.{if◌then◌else◌}
use Rattle.std.specs.List.{concat}
use Rattle.md_base.specs.Place.{byte_index}
use Rattle.md_base.specs.declared.event.Event.{Event}
use Rattle.md_base.specs.declared.event.Kind.TheVariants.{Enter, Exit}
use Rattle.md_base.specs.declared.event.Name.{Name}
use Rattle.md_base.specs.declared.event.Name.TheVariants.{HtmlFlowData, HtmlTextData}
use Rattle.md_reader.specs.Pieces.{IsAuthorsPiece}

-- a node that is HTML as it stands
abbrev pub is_html_data : Name → Bool
is_html_data name = elim name [ HtmlFlowData ↦ true | HtmlTextData ↦ true | _ ↦ false ]

-- the texts of the HTML of some events, in order: each is between the points where its node is
-- entered and exited; the first begins here, if its node was entered before
abbrev pub html_texts : List ℕ → ℕ → List Event → List (List ℕ)
html_texts bytes start [] = []
html_texts bytes start (e ∷ rest) =
    if is_html_data e.name then elim e.kind [
      | Enter ↦ html_texts bytes (byte_index e.point) rest
      | Exit ↦ slice_range bytes start (byte_index e.point)
          ∷ html_texts bytes (byte_index e.point) rest
    ] else html_texts bytes start rest

-- each HTML of some events is a piece that authors may write, and these pieces are the bytes from
-- an index on
pub record ArePieces (bytes : List ℕ) (from : ℕ) (events : List Event) : Type 0 where
  pub each : All IsAuthorsPiece (html_texts bytes from events)
  pub joined : drop from bytes ≡ concat (html_texts bytes from events)
