-- How long pieces are, where a line ending has at most two bytes.
use Rattle.std.proofs.Common.{◌≡◌, ℕ, ◌+◌, ◌≤◌, Bool, List, [], ◌∷◌, ◌++◌, length, arith, Option}
use Rattle.std.proofs.Common.{unwrap_or}
use Rattle.std.specs.Prelude.{if◌then◌else◌, max}
use Rattle.std.specs.Option.{option_map_or}
use Rattle.md_base.specs.Children.{or_else}
use Rattle.std.proofs.lemmas.List.{length-append}
use Rattle.md_meaning.specs.Meaning.Layout.{Piece, Text, Needed, Forced, begins_line, laid_after}
use Rattle.md_meaning.specs.Meaning.Layout.{layout}

abbrev pub piece_size : Piece → ℕ
piece_size (Text text) = length text
piece_size Needed = 2
piece_size Forced = 2

abbrev pub size : List Piece → ℕ
size [] = 0
size (piece ∷ pieces) = piece_size piece + size pieces

pub size-append : (xs ys : List Piece) → size (xs ++ ys) ≡ size xs + size ys
size-append [] ys = omega arith
size-append (x ∷ xs) ys = omega (arith, size-append xs ys)

pub bytes-append : (xs ys : List ℕ) → length (xs ++ ys) ≡ length xs + length ys
bytes-append xs ys = length-append xs ys

-- one of two texts, or of two lists of pieces, is no longer than the longer one
pub either-length : (b : Bool) (xs ys : List ℕ) →
    length (if b then xs else ys) ≤ max (length xs) (length ys)
either-length b xs ys = grind arith

pub either-size : (b : Bool) (xs ys : List Piece) →
    size (if b then xs else ys) ≤ max (size xs) (size ys)
either-size b xs ys = grind arith

pub either-found : (b : Bool) (x y : Option (List ℕ)) →
    length (unwrap_or (if b then x else y) [])
    ≤ max (length (unwrap_or x [])) (length (unwrap_or y []))
either-found b x y = grind arith

pub either-number : (b : Bool) (m n : ℕ) → (if b then m else n) ≤ max m n
either-number b m n = grind arith

-- the first of two options that has a value counts
pub either-some : {A : Type 0} (f : A → ℕ) (first later : Option A) →
    option_map_or f (or_else first later) 0
    ≤ max (option_map_or f first 0) (option_map_or f later 0)
either-some f first later = grind arith

-- the lengths of what is joined, and of what a test chooses
pub ruleset sizes = (arith, bytes-append, size-append, either-length, either-size, either-found)

pub laid-short : (ending text : List ℕ) (pieces : List Piece) → length ending ≤ 2 →
    length (laid_after ending text pieces) ≤ length text + size pieces
laid-short ending text [] few = omega arith
laid-short ending text (Text more ∷ pieces) few =
    omega (sizes, laid-short ending (text ++ more) pieces few)
laid-short ending text (Needed ∷ pieces) few =
    omega (
      sizes,
      laid-short ending (if begins_line text then text else text ++ ending) pieces few,
    )
laid-short ending text (Forced ∷ pieces) few =
    omega (sizes, laid-short ending (text ++ ending) pieces few)

pub layout-short : (ending : List ℕ) (pieces : List Piece) → length ending ≤ 2 →
    length (layout ending pieces) ≤ size pieces
layout-short ending pieces few = omega (arith, laid-short ending [] pieces few)
