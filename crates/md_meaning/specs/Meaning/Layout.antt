-- The pieces that nodes print, and their layout as one text.
use Rattle.std.specs.Prelude.{ℕ, ◌-◌, Bool, true, ◌||◌, ◌==◌, if◌then◌else◌, List, [], ◌∷◌, ◌++◌}
use Rattle.std.specs.Prelude.{length, slice_get}
use Rattle.std.specs.Option.{option_map_or}

-- a part of what a node prints: a text, a line ending if one is needed, a line ending in any case
pub data Piece : Type 0 where
  Text : (text : List ℕ) → Piece
  Needed : Piece
  Forced : Piece

-- a text that is empty or ends in CR or LF
abbrev pub begins_line : List ℕ → Bool
begins_line text =
    option_map_or (λ byte. byte == 13 || byte == 10) (slice_get text (length text - 1)) true

-- some pieces after a text, with `ending` as the line ending
abbrev pub laid_after : List ℕ → List ℕ → List Piece → List ℕ
laid_after ending text [] = text
laid_after ending text (Text more ∷ pieces) = laid_after ending (text ++ more) pieces
laid_after ending text (Needed ∷ pieces) =
    laid_after ending (if begins_line text then text else text ++ ending) pieces
laid_after ending text (Forced ∷ pieces) = laid_after ending (text ++ ending) pieces

-- some pieces alone
abbrev pub layout : List ℕ → List Piece → List ℕ
layout ending pieces = laid_after ending [] pieces

-- a text as one piece
abbrev pub said : List ℕ → List Piece
said text = Text text ∷ []

-- a line ending if needed, and a tag
abbrev pub on_own_line : List ℕ → List Piece
on_own_line tag = Needed ∷ said tag

-- a list if a test holds, else the empty list
abbrev pub when : {A : Type 0} → Bool → List A → List A
when holds things = if holds then things else []
