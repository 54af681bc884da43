-- A text around its `"`, and before its first `>`.
use Rattle.std.specs.Str.{bytes_eq}
use Rattle.std.proofs.Common.{◌≡◌, ℕ, suc, MatchOption, ◌<◌, ◌+◌, ◌-◌, ◌==◌, Bool, true, false, not}
use Rattle.std.proofs.Common.{cond, List, [], ◌∷◌, ◌++◌, length, get_or, take, drop, refl, sym, ap}
use Rattle.std.proofs.Common.{◌∙◌, Option, Some, None, arith}
use Rattle.std.specs.List.{list_all}
use Rattle.std.proofs.lemmas.Bool.{and_from, eqb-true, false_from_ne_true}
use Rattle.std.proofs.lemmas.List.{take-append-drop, drop_more, length-take, length-drop}
use Rattle.std.proofs.lemmas.List.{get_or-take, take_rest}
use Rattle.memchr.specs.Find.{IsFirstByte, is_byte}
use Rattle.md_base.proofs.Lies.{lie}
use Rattle.md_page.specs.Scan.{differs, IsFirstOf, before_angle, parts_of, value_in}
use Rattle.md_page.specs.Scan.{value_of}

-- ---- the parts of attributes

abbrev pub is_filled : List (List ℕ) → Bool
is_filled [] = false
is_filled (part ∷ more) = true

pub parts-filled : (x : List ℕ) → is_filled (parts_of x) ≡ true
parts-filled [] = refl
parts-filled (b ∷ x) = grind arith

-- up to a `"`
pub parts-run : (x r : List ℕ) → list_all (differs 34) x ≡ true →
    parts_of (x ++ (34 ∷ r)) ≡ x ∷ parts_of r
parts-run [] r h = refl
parts-run (b ∷ x) r h = let later = parts-run x r in grind (arith, later, h)

pub value_in-step : (key name value : List ℕ) (parts : List (List ℕ)) → is_filled parts ≡ true →
    value_in key (name ∷ value ∷ parts) ≡ cond (bytes_eq key name) (Some value) (value_in key parts)
value_in-step key name value [] h = lie h
value_in-step key name value (part ∷ more) h = refl

-- no `"`
pub parts-none : (x : List ℕ) → list_all (differs 34) x ≡ true → parts_of x ≡ x ∷ []
parts-none [] h = refl
parts-none (b ∷ x) h = let later = parts-none x in grind (arith, later, h)

pub before-run : (x r : List ℕ) → list_all (differs 62) x ≡ true →
    before_angle (x ++ (62 ∷ r)) ≡ Some x
before-run [] r h = refl
before-run (b ∷ x) r h = let later = before-run x r in grind (arith, later, h)

pub before-none : (x : List ℕ) → list_all (differs 62) x ≡ true → before_angle x ≡ None
before-none [] h = refl
before-none (b ∷ x) h = let later = before-none x in grind (arith, later, h)

-- ---- the first of a byte

-- a text at one of its bytes
pub around : (byte : ℕ) (text : List ℕ) (at : ℕ) → IsFirstOf byte text at →
    text ≡ take at text ++ (byte ∷ drop (at + 1) text)
around byte text at h = grind (arith, drop_more, take-append-drop)

-- where a test fails at each place, it fails of each byte
pub nowhere : (byte : ℕ) (x : List ℕ) →
    ((k : ℕ) → k < length x → (get_or x k 0 == byte) ≡ true → ⊥) →
    list_all (differs byte) x ≡ true
nowhere byte [] f = refl
nowhere byte (b ∷ x) f =
    and_from _ _ (ap not (false_from_ne_true _ (f 0 (omega arith))))
    (nowhere byte x (λ k l e. f (suc k) (omega arith) e))

-- what a search finds
pub first : (byte : ℕ) (x : List ℕ) (r : Option ℕ) → IsFirstByte (is_byte byte) x r →
    MatchOption r (list_all (differs byte) x ≡ true) (λ at. IsFirstOf byte x at)
first byte x r h = grind (arith, nowhere, eqb-true, length-take, get_or-take)

pub parts-found : (x : List ℕ) (at : ℕ) → IsFirstOf 34 x at →
    (parts_of x ≡ take at x ∷ parts_of (take (length x - (at + 1)) (drop (at + 1) x)))
    × (length (take (length x - (at + 1)) (drop (at + 1) x)) < length x)
parts-found x at h =
    let rest = take_rest x (at + 1) in (
      ap parts_of (around 34 x at h) ∙ parts-run (take at x) (drop (at + 1) x) h.before
          ∙ ap (λ y. take at x ∷ parts_of y) (sym rest),
      omega (arith, ap length rest, length-drop (at + 1) x, h.within),
    )

pub before-found : (x : List ℕ) (at : ℕ) → IsFirstOf 62 x at → before_angle x ≡ Some (take at x)
before-found x at h =
    ap before_angle (around 62 x at h) ∙ before-run (take at x) (drop (at + 1) x) h.before

-- a value, if its name is the target
pub value-found : (key rest more : List ℕ) {name value : List ℕ} {parts : List (List ℕ)} →
    parts_of rest ≡ name ∷ parts → parts ≡ value ∷ parts_of more → bytes_eq key name ≡ true →
    value_of key rest ≡ Some value
value-found key rest more {name = name} {value = value} e f same =
    rw (e, f, value_in-step key name value (parts_of more) (parts-filled more), same) refl
