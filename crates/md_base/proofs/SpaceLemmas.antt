-- Spaces around a text leave it a text, and make no text of other bytes: a slice with cut tabs is a
-- text where its bytes are.
use Rattle.std.proofs.Common.{◌≡◌, ℕ, zero, suc, Bool, true, cond, Option, Some, None}
use Rattle.std.proofs.Common.{List, [], ◌∷◌, ◌++◌, length, replicate, IsUtf8, IsAscii}
use Rattle.std.proofs.Common.{Decides, refl, sym, ap, arith, subst, lit<}
use Rattle.std.specs.Str.{is_utf8}
use Rattle.std.proofs.lemmas.List.{append_assoc, append-nil, length-append, get_or_at, take_at}
use Rattle.std.proofs.lemmas.Str.{IsUtf8-append, IsUtf8-from_ascii, IsUtf8-take, IsUtf8-past_char}
use Rattle.std.proofs.lemmas.Str.{IsCharBoundary-before_ascii, encode_ascii, IsUtf8-from_is_utf8}
use Rattle.std.proofs.lemmas.Str.{is_utf8-from_IsUtf8}
use Rattle.std.proofs.lemmas.Str.Ascii.{IsAscii-nil, IsAscii-cons}
use Rattle.md_base.specs.Place.{text_when}
use Rattle.std.proofs.lemmas.Bool.Decides.{same_from_decides, Decides-like}

ascii_spaces : (count : ℕ) → IsAscii (replicate count 32)
ascii_spaces zero = IsAscii-nil
ascii_spaces (suc count) = IsAscii-cons 32 (replicate count 32) (lit< tt) (ascii_spaces count)

utf8_spaces : (count : ℕ) → IsUtf8 (replicate count 32)
utf8_spaces count = IsUtf8-from_ascii (replicate count 32) (ascii_spaces count)

without_left : (count : ℕ) (text : List ℕ) → IsUtf8 (replicate count 32 ++ text) → IsUtf8 text
without_left zero text utf8 = utf8
without_left (suc count) text utf8 =
    without_left count text
    (IsUtf8-past_char (32 ∷ (replicate count 32 ++ text)) (replicate count 32 ++ text) 32 utf8
    (ap (λ first. first ++ (replicate count 32 ++ text)) (sym (encode_ascii 32 (lit< tt)))))

without_one : (text : List ℕ) → IsUtf8 (text ++ 32 ∷ []) → IsUtf8 text
without_one text utf8 =
    let at_end = get_or_at text 32 [] 0 (length text) refl in
    let edge = IsCharBoundary-before_ascii (text ++ 32 ∷ []) (length text)
    (omega (arith, length-append text (32 ∷ []))) (omega (arith, at_end)) in
    rw take_at at (IsUtf8-take (text ++ 32 ∷ []) (length text) utf8 edge)

without_right : (count : ℕ) (text : List ℕ) → IsUtf8 (text ++ replicate count 32) → IsUtf8 text
without_right zero text utf8 = subst IsUtf8 (append-nil text) utf8
without_right (suc count) text utf8 =
    without_one text (without_right count (text ++ 32 ∷ []) (rw append_assoc utf8))

is_utf8-Decides : (bytes : List ℕ) → Decides (is_utf8 bytes) (IsUtf8 bytes)
is_utf8-Decides bytes = (IsUtf8-from_is_utf8 bytes, is_utf8-from_IsUtf8 bytes)

pub is_utf8-padded : (before after : ℕ) (bytes : List ℕ) →
    is_utf8 (replicate before 32 ++ bytes ++ replicate after 32) ≡ is_utf8 bytes
is_utf8-padded before after bytes =
    let padded = replicate before 32 ++ bytes ++ replicate after 32 in
    same_from_decides (is_utf8 padded) (is_utf8 bytes)
    (Decides-like (is_utf8 padded)
    (λ utf8. without_left before bytes (without_right after (replicate before 32 ++ bytes) utf8))
    (λ utf8. IsUtf8-append (replicate before 32 ++ bytes) (replicate after 32)
    (IsUtf8-append (replicate before 32) bytes (utf8_spaces before) utf8) (utf8_spaces after))
    (is_utf8-Decides padded))
    (is_utf8-Decides bytes)

-- ---- the result of `serialize`

abbrev pub chosen : List ℕ → Bool → Option (List ℕ)
chosen bytes test = cond test (Some bytes) None

pub padded_none : (before after : ℕ) (bytes : List ℕ) → None ≡ text_when true bytes →
    None ≡ text_when true (replicate before 32 ++ bytes ++ replicate after 32)
padded_none before after bytes h = grind (arith, is_utf8-padded)

pub padded_some : (before after : ℕ) (bytes inner all : List ℕ) →
    Some inner ≡ text_when true bytes →
    all ≡ replicate before 32 ++ inner ++ replicate after 32 →
    Some all ≡ text_when true (replicate before 32 ++ bytes ++ replicate after 32)
padded_some before after bytes inner all h e = grind (arith, is_utf8-padded)
