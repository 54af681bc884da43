-- How many bytes come before the first that isn't escaped and passes a test: what one step adds.
use Rattle.std.proofs.Common.{◌≡◌, ◌<◌, ◌+◌, ℕ, Bool, true, false, List, [], ◌∷◌, suc}
use Rattle.std.proofs.Common.{length, drop, drop-cons, get_or, arith, refl, sym, ap, ◌∙◌, subst}
use Rattle.std.specs.Prelude.{if◌then◌else◌}
use Rattle.std.proofs.Common.{◌≤◌, inl, inr}
use Rattle.std.proofs.lemmas.Bool.{cases_Bool, ne_eqb}
use Rattle.std.specs.Prelude.{◌&&◌}
use Rattle.std.specs.Char.{is_ascii_punctuation}
use Rattle.md_lines.specs.Lines.{goes_on_in_label}
use Rattle.md_lines.specs.LinkParts.{is_bracket}
use Rattle.std.proofs.lemmas.List.{drop-drop}
use Rattle.md_lines.specs.Escapes.{before_unescaped, is_escape, width}

module _ (test : ℕ → Bool) where
  stops : (byte : ℕ) (rest : List ℕ) → test byte ≡ true → before_unescaped test (byte ∷ rest) ≡ 0
  stops byte [] passes = ap (λ b. if b then 0 else 1) passes
  stops byte (next ∷ rest) passes =
      ap (λ b. if b then 0 else if is_escape byte next then 2 + before_unescaped test rest
      else suc (before_unescaped test (next ∷ rest))) passes

  either : (escape : Bool) (byte next : ℕ) (rest : List ℕ) →
      (if escape then 2 + before_unescaped test rest else suc (before_unescaped test (next ∷ rest)))
      ≡ (if escape then 2 else 1)
      + before_unescaped test (drop (if escape then 2 else 1) (byte ∷ next ∷ rest))
  either true byte next rest = refl
  either false byte next rest = omega arith

  goes : (byte : ℕ) (rest : List ℕ) → test byte ≡ false → before_unescaped test (byte ∷ rest)
      ≡ width (byte ∷ rest) + before_unescaped test (drop (width (byte ∷ rest)) (byte ∷ rest))
  goes byte [] fails = ap (λ b. if b then 0 else 1) fails
  goes byte (next ∷ rest) fails =
      ap (λ b. if b then 0 else if is_escape byte next then 2 + before_unescaped test rest
      else suc (before_unescaped test (next ∷ rest))) fails
      ∙ either (is_escape byte next) byte next rest

  pub stop : (text : List ℕ) (at : ℕ) → at < length text → test (get_or text at 0) ≡ true →
      before_unescaped test (drop at text) ≡ 0
  stop text at within passes =
      ap (before_unescaped test) (drop-cons text at 0 within)
      ∙ stops (get_or text at 0) (drop (suc at) text) passes

  pub step : (text : List ℕ) (at : ℕ) → at < length text → test (get_or text at 0) ≡ false →
      before_unescaped test (drop at text) ≡ width (drop at text)
      + before_unescaped test (drop (at + width (drop at text)) text)
  step text at within fails =
      subst (λ xs. before_unescaped test xs
      ≡ width xs + before_unescaped test (drop (width xs) xs)) (sym (drop-cons text at 0 within))
      (goes (get_or text at 0) (drop (suc at) text) fails)
      ∙ ap (λ xs. width (drop at text) + before_unescaped test xs)
      (drop-drop (width (drop at text)) at text)

pub width-le : (text : List ℕ) → width text ≤ 2
width-le [] = omega arith
width-le (byte ∷ []) = omega arith
width-le (byte ∷ next ∷ rest) = elim (cases_Bool (is_escape byte next)) [
  | inl is ↦ rw is (omega arith)
  | inr is_not ↦ rw is_not (omega arith)
]

pub before-le : (test : ℕ → Bool) (text : List ℕ) → before_unescaped test text ≤ length text
before-le test [] = omega arith
before-le test (byte ∷ []) = elim (cases_Bool (test byte)) [
  | inl is ↦ rw is (omega arith)
  | inr is_not ↦ rw is_not (omega arith)
]
before-le test (byte ∷ next ∷ rest) = elim (cases_Bool (test byte)) [
  | inl is ↦ rw is (omega arith)
  | inr is_not ↦ elim (cases_Bool (is_escape byte next)) [
    | inl two ↦ rw (is_not, two) (omega (arith, before-le test rest))
    | inr one ↦ rw (is_not, one) (omega (arith, before-le test (next ∷ rest)))
  ]
]

-- a byte that is no backslash is passed alone
pub width-one : (text : List ℕ) (at : ℕ) → at < length text → (get_or text at 0 ≡ 92 → ⊥) →
    width (drop at text) ≡ 1
width-one text at within other =
    ap width (drop-cons text at 0 within)
    ∙ alone (get_or text at 0) (drop (suc at) text) other where
      alone : (byte : ℕ) (rest : List ℕ) → (byte ≡ 92 → ⊥) → width (byte ∷ rest) ≡ 1
      alone byte [] other = refl
      alone byte (next ∷ rest) other =
          ap (λ b. if b && is_ascii_punctuation next then 2 else 1) (ne_eqb byte 92 other)

pub no_bracket : (byte : ℕ) → goes_on_in_label byte ≡ true → is_bracket byte ≡ false
no_bracket byte is = grind arith

pub no_escape : (byte : ℕ) → goes_on_in_label byte ≡ true → byte ≡ 92 → ⊥
no_escape byte is same = let both : true ≡ false = sym is ∙ ap goes_on_in_label same in cc
