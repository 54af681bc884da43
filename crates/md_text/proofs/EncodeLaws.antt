-- What is escaped is clean, and reads back: two of the laws. `md_safe` reads attributes and
-- ids back by them.
use Rattle.std.proofs.Common.{arith, ◌≡◌, ◌≢◌, ℕ, true, false, List, [], ◌∷◌, ◌++◌, refl, ◌∙◌}
use Rattle.std.proofs.Common.{append_assoc}
use Rattle.md_text.specs.Encode.{encoded, encoded_byte}
use Rattle.md_text.specs.References.{is_escaped, read_back}

escaped_first : (b : ℕ) (rest : List ℕ) → is_escaped (encoded_byte true b ++ rest) ≡ is_escaped rest
escaped_first b rest = grind arith

-- what is escaped holds no special character but in the four references
pub is_escaped-encoded : (text : List ℕ) → is_escaped (encoded true text) ≡ true
is_escaped-encoded [] = refl
is_escaped-encoded (b ∷ rest) = escaped_first b (encoded true rest) ∙ is_escaped-encoded rest

-- a byte that isn't `&` reads as itself
pub read_back-other : (b : ℕ) (rest : List ℕ) → b ≢ 38 → read_back (b ∷ rest) ≡ b ∷ read_back rest
read_back-other b rest ne = grind arith

read_back_first : (b : ℕ) (rest : List ℕ) →
    read_back (encoded_byte true b ++ rest) ≡ encoded_byte false b ++ read_back rest
read_back_first b rest = grind arith

-- what is escaped reads back
pub read_back-encoded : (text : List ℕ) → read_back (encoded true text) ≡ encoded false text
read_back-encoded [] = refl
read_back-encoded (b ∷ rest) = rw (read_back_first, read_back-encoded rest) refl

-- an encoded text is read back before what follows it
pub read_back-before : (text rest : List ℕ) →
    read_back (encoded true text ++ rest) ≡ encoded false text ++ read_back rest
read_back-before [] rest = refl
read_back-before (b ∷ text) rest =
    simp (append_assoc, read_back_first, read_back-before text rest)
