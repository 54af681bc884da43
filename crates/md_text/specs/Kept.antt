-- Bytes that are written unchanged; no public contract cites these definitions.
use Rattle.std.specs.Str.{bytes_eq}
use Rattle.std.specs.Prelude.{◌≡◌, ◌≤◌, ℕ, Bool, false, not, ◌&&◌, ◌||◌, ◌==◌, if◌then◌else◌, List}
use Rattle.std.specs.Prelude.{[], ◌∷◌, ◌++◌, length, take, drop, codes}
use Rattle.md_text.specs.Encode.{encoded_byte}
use Rattle.md_text.specs.Laws.{AreAscii}
use Rattle.md_text.specs.Url.{stays_anywhere, completes_triple, percent, sanitized}

-- a byte that escaping doesn't change
abbrev pub is_kept : Bool → ℕ → Bool
is_kept html b = bytes_eq (encoded_byte html b) (b ∷ [])

-- a byte of a URL that stays whatever follows it, and that escaping doesn't change
abbrev pub is_plain : ℕ → Bool
is_plain b = stays_anywhere b && not (b == 38)

-- the text begins with a percent triple
abbrev pub begins_triple : List ℕ → Bool
begins_triple text = elim text [ [] ↦ false | b ∷ rest ↦ (b == 37) && completes_triple rest ]

-- the text begins with a plain byte or a percent triple
abbrev pub begins_kept : List ℕ → Bool
begins_kept text =
    elim text [ [] ↦ false | b ∷ rest ↦ is_plain b || ((b == 37) && completes_triple rest) ]

-- so many bytes at the front of a URL are written unchanged
abbrev pub AreKept : List ℕ → ℕ → Type 0
AreKept text n =
    (n ≤ length text) × AreAscii (take n text)
    × (take n text ++ sanitized (drop n text) ≡ sanitized text)

-- the replacement of a byte of a URL
abbrev pub changed_byte : ℕ → List ℕ
changed_byte b = if b == 38 then codes "&amp;" else percent b

-- a byte that neither ends a protocol nor shows that there is none: not `:`, `?`, `#` or `/`
abbrev pub goes_on : ℕ → Bool
goes_on b = not (b == 58) && not ((b == 63) || (b == 35) || (b == 47))

-- a byte that isn't `<`
abbrev pub opens_no_tag : ℕ → Bool
opens_no_tag b = not (b == 60)
