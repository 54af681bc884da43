-- URLs: their encoding, their protocols, and which protocols are kept.
use Rattle.std.specs.Prelude.{ℕ, ◌+◌, ◌/◌, ◌%◌, Bool, true, false, ◌&&◌, ◌||◌, ◌==◌, if◌then◌else◌}
use Rattle.std.specs.Prelude.{nat_lt, List, [], ◌∷◌, ◌++◌, Option, Some, None, option_map, codes}
use Rattle.std.specs.Option.{option_map_or}
use Rattle.md_text.specs.Bytes.{is_between, lowered, is_one_of}
use Rattle.md_text.specs.Encode.{encoded}

-- `!`, `#`, `$`, from `&` to `;`, `=`, from `?` to `Z`, `_`, a lower-case letter, `~`
abbrev pub stays_anywhere : ℕ → Bool
stays_anywhere b =
    (b == 33) || (b == 35) || (b == 36) || is_between 38 59 b || (b == 61) || is_between 63 90 b
    || (b == 95) || is_between 97 122 b || (b == 126)

-- a byte that may follow the `%` of a percent triple: an ASCII hexadecimal digit of either case
abbrev pub is_triple_byte : ℕ → Bool
is_triple_byte b = is_between 48 57 b || is_between 65 70 b || is_between 97 102 b

-- the bytes after a `%` make it begin a percent triple: two such bytes
abbrev pub completes_triple : List ℕ → Bool
completes_triple rest = elim rest [ a ∷ b ∷ _ ↦ is_triple_byte a && is_triple_byte b | _ ↦ false ]

-- a byte stays, given the bytes after it
abbrev pub stays : ℕ → List ℕ → Bool
stays b rest = stays_anywhere b || ((b == 37) && completes_triple rest)

-- a hexadecimal digit, in upper case
abbrev pub hex_digit : ℕ → ℕ
hex_digit d = if nat_lt d 10 then 48 + d else 55 + d

-- `%` and a byte in two hexadecimal digits
abbrev pub percent : ℕ → List ℕ
percent b = 37 ∷ hex_digit (b / 16) ∷ hex_digit (b % 16) ∷ []

-- each byte, depending on itself and the bytes after it; a character that doesn't stay is written
-- byte by byte
abbrev pub normalized_url : List ℕ → List ℕ
normalized_url [] = []
normalized_url (b ∷ rest) = (if stays b rest then b ∷ [] else percent b) ++ normalized_url rest

-- a URL encoded for HTML
abbrev pub sanitized : List ℕ → List ℕ
sanitized text = encoded true (normalized_url text)

-- the text before the first colon, unless a `?`, `#` or `/` comes earlier
abbrev pub protocol_of : List ℕ → Option (List ℕ)
protocol_of [] = None
protocol_of (b ∷ rest) = if b == 58 then Some [] else (if (b == 63) || (b == 35) || (b == 47)
    then None else option_map (λ before. b ∷ before) (protocol_of rest))

-- no protocol, or one that is in the list once its ASCII letters are lowered
abbrev pub has_permitted_protocol : List (List ℕ) → List ℕ → Bool
has_permitted_protocol list url =
    option_map_or (λ protocol. is_one_of list (lowered protocol)) (protocol_of url) true

-- the sanitized URL, or the empty text if its protocol isn't permitted
abbrev pub sanitized_with : List (List ℕ) → List ℕ → List ℕ
sanitized_with protocols text =
    if has_permitted_protocol protocols (sanitized text) then sanitized text else []

-- the replacement of a byte, depending on the bytes after it; only private contracts cite it
abbrev pub normalized_byte : ℕ → List ℕ → List ℕ
normalized_byte b rest = if stays b rest then b ∷ [] else percent b

-- the protocols that a link may have
abbrev pub link_protocols : List (List ℕ)
link_protocols = codes "http" ∷ codes "https" ∷ codes "irc" ∷ codes "ircs" ∷ codes "mailto"
    ∷ codes "xmpp" ∷ []

-- the protocols that an image may have
abbrev pub image_protocols : List (List ℕ)
image_protocols = codes "http" ∷ codes "https" ∷ []
