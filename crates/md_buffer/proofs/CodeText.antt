-- The text of code: backslashes before pipes, character by character, and that it is what is meant.
use Rattle.std.proofs.Common.{◌≡◌, ◌≢◌, ℕ, Bool, true, false, ◌&&◌, cond, eqb, List, [], ◌∷◌, ◌++◌}
use Rattle.std.proofs.Common.{refl, ap, ◌∙◌, encode_utf8, arith, ne_eqb}
use Rattle.std.specs.Prelude.{if◌then◌else◌, ◌==◌}
use Rattle.std.proofs.lemmas.Str.{encode_ascii}
use Rattle.md_text.proofs.HighBytes.{AllHigh, encode_utf8-high}
use Rattle.md_buffer.specs.Code.{unescaped_pipes, escapes_pipe, begins_with_pipe, without_padding}
use Rattle.md_meaning.specs.Meaning.Spans.{is_at, without_escapes, trimmed}

-- a byte that is no backslash stays
other_stays : (b : ℕ) (rest : List ℕ) → b ≢ 92 →
    unescaped_pipes (b ∷ rest) ≡ b ∷ unescaped_pipes rest
other_stays b rest ne = grind (arith, ne_eqb)

high_stay : (bs rest : List ℕ) → AllHigh bs →
    unescaped_pipes (bs ++ rest) ≡ bs ++ unescaped_pipes rest
high_stay [] rest h = refl
high_stay (b ∷ bs) rest h = let later = high_stay bs rest h.1 in grind (arith, other_stays, later)

-- a character that is no backslash stays
character_stays : (c : ℕ) (rest : List ℕ) → c ≢ 92 →
    unescaped_pipes (encode_utf8 c ++ rest) ≡ encode_utf8 c ++ unescaped_pipes rest
character_stays c rest ne = grind (arith, encode_ascii, other_stays, high_stay, encode_utf8-high)

-- a character by what follows it: a backslash before a pipe goes
step_by : (c : ℕ) (rest : List ℕ) (t : Bool) → begins_with_pipe rest ≡ t →
    unescaped_pipes (encode_utf8 c ++ rest)
    ≡ cond (eqb c 92 && t) [] (encode_utf8 c) ++ unescaped_pipes rest
step_by c rest t e = grind (arith, encode_ascii, character_stays, ne_eqb)

pub unescaped_pipes-step : (c : ℕ) (rest : List ℕ) (t : Bool) → t ≡ escapes_pipe c rest →
    unescaped_pipes (encode_utf8 c ++ rest) ≡ cond t [] (encode_utf8 c) ++ unescaped_pipes rest
unescaped_pipes-step c rest t e = grind (arith, step_by)

pipe-same : (text : List ℕ) → begins_with_pipe text ≡ is_at 124 text 0
pipe-same text = grind arith

pub escapes-same : (text : List ℕ) → unescaped_pipes text ≡ without_escapes text
escapes-same [] = refl
escapes-same (byte ∷ bytes) =
    ap (λ b. if (byte == 92) && b then unescaped_pipes bytes else byte
    ∷ unescaped_pipes bytes) (pipe-same bytes)
    ∙ here ((byte == 92) && is_at 124 bytes 0)
    ∙ ap (λ ps. (if (byte == 92) && is_at 124 bytes 0 then [] else byte ∷ []) ++ ps)
    (escapes-same bytes)
  where
    here : (b : Bool) → (if b then unescaped_pipes bytes else byte ∷ unescaped_pipes bytes)
        ≡ (if b then [] else byte ∷ []) ++ unescaped_pipes bytes
    here true = refl
    here false = refl

pub trimmed-same : (text : List ℕ) → without_padding text ≡ trimmed text
trimmed-same text = grind arith
