-- A URL's protocol, byte by byte: only contracts of private functions cite this.
use Rattle.std.specs.Prelude.{ℕ, Bool, false, ◌&&◌, ◌==◌, List, [], ◌∷◌}
use Rattle.md_text.specs.Bytes.{lower}
use Rattle.md_text.specs.Kept.{goes_on}

-- a byte of a URL doesn't end its protocol, and lowered it is this byte
abbrev pub continues : ℕ → ℕ → Bool
continues byte b = goes_on b && (lower b == byte)

-- the protocol of a URL, with its ASCII letters lowered, is this one
abbrev pub has_this_protocol : List ℕ → List ℕ → Bool
has_this_protocol protocol [] = false
has_this_protocol [] (b ∷ rest) = b == 58
has_this_protocol (byte ∷ protocol) (b ∷ rest) =
    continues byte b && has_this_protocol protocol rest
