-- What a caller's options say of a text.
use Rattle.std.specs.Prelude.{ℕ, List, Option, Some, None, map}
use denote.Ref.{Bor}
use Rattle.md_reader.specs.Chosen.{HasChosenOnly}
use Rattle.md_reader.specs.Safe.{IsSafeHtml}

-- the texts of some names
abbrev pub texts : Bor (List (Bor (List ℕ))) → List (List ℕ)
texts names = map (λ name. name.now) names.now

-- its elements are chosen, or a chosen one needs them
abbrev pub HasChosen : Option (Bor (List (Bor (List ℕ)))) → List ℕ → Type 0
HasChosen None text = Unit {0}
HasChosen (Some names) text = HasChosenOnly (texts names) text

-- each `href` and `src` has no protocol or a chosen one
abbrev pub HasProtocols : Option (Bor (List (Bor (List ℕ)))) → List ℕ → Type 0
HasProtocols None text = Unit {0}
HasProtocols (Some names) text = IsSafeHtml (texts names) (texts names) text
