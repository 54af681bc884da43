-- What may be appended to a document.
use Rattle.std.specs.Prelude.{◌≡◌, ℕ, List, [], Option, Some, None, All, Bool, false, not}
use Rattle.std.specs.Prelude.{if◌then◌else◌}
use Rattle.std.specs.List.{concat}
use Rattle.md_urls.specs.Resolved.{resolved, stays}

-- a document's base, and what was appended to the document
pub record Addition : Type 0 where
  pub base : Option (List ℕ)
  pub bytes : List ℕ

-- a URL that doesn't stay as it is, resolved against a base
pub record IsResolved (base piece : List ℕ) : Type 0 where
  pub url : List ℕ
  pub changes : stays url ≡ false
  pub is : piece ≡ resolved base url

-- what may be appended for a base: a URL that is resolved against it
abbrev pub IsPiece : Option (List ℕ) → List ℕ → Type 0
IsPiece None piece = ⊥
IsPiece (Some base) piece = IsResolved base piece

-- such pieces, each after the other
pub record AreAdded (base : Option (List ℕ)) (bytes : List ℕ) : Type 0 where
  pub pieces : List (List ℕ)
  pub each : All (IsPiece base) pieces
  pub joined : bytes ≡ concat pieces

-- whether a URL changes where a document has this base
abbrev pub is_changed : Option (List ℕ) → List ℕ → Bool
is_changed None url = false
is_changed (Some base) url = not (stays url)

-- what is appended for a URL
abbrev pub piece_of : Option (List ℕ) → List ℕ → List ℕ
piece_of None url = []
piece_of (Some base) url = if stays url then [] else resolved base url
