-- The definitions that the laws use.
use Rattle.std.specs.Prelude.{◌≡◌, ℕ, ◌⊎◌, ◌<◌, ◌||◌, ◌==◌, Bool, true, not, ◌&&◌, List, [], ◌∷◌}
use Rattle.std.specs.Prelude.{◌++◌, All, codes}
use Rattle.std.specs.Str.{bytes_eq}
use Rattle.md_base.specs.Leaves.{bytes_where}
use Rattle.md_text.specs.Url.{completes_triple}

-- the second text is the first with some of its `<` changed to `&lt;`
abbrev pub ChangesOnlyAngles : List ℕ → List ℕ → Type 0
ChangesOnlyAngles [] after = after ≡ []
ChangesOnlyAngles (b ∷ rest) after =
    ((more : List ℕ) × (after ≡ b ∷ more) × ChangesOnlyAngles rest more)
    ⊎ ((b ≡ 60) × ((more : List ℕ) × (after ≡ codes "&lt;" ++ more) × ChangesOnlyAngles rest more))

-- numbers that fit a byte
abbrev pub AreBytes : List ℕ → Type 0
AreBytes text = All (λ b. b < 256) text

-- ASCII characters
abbrev pub AreAscii : List ℕ → Type 0
AreAscii text = All (λ b. b < 128) text

-- carriage returns (13) and line feeds (10)
abbrev pub is_line_ends : List ℕ → Bool
is_line_ends [] = true
is_line_ends (b ∷ rest) = ((b == 13) || (b == 10)) && is_line_ends rest

-- each `%` is followed by two hexadecimal digits
abbrev pub percents_begin_triples : List ℕ → Bool
percents_begin_triples [] = true
percents_begin_triples (b ∷ rest) =
    (not (b == 37) || completes_triple rest) && percents_begin_triples rest

-- the bytes between these texts that stay unchanged
abbrev pub kept_between : (List ℕ → List ℕ) → List ℕ → List ℕ → List ℕ
kept_between change before after =
    bytes_where (λ b. bytes_eq (change (before ++ b ∷ after)) (before ++ b ∷ after))

-- the bytes that change, each alone
abbrev pub changed : (List ℕ → List ℕ) → List ℕ
changed change = bytes_where (λ b. not (bytes_eq (change (b ∷ [])) (b ∷ [])))
