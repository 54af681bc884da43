-- Escaped text is split in one way into its longest beginning and a rest.
use Rattle.std.proofs.Common.{arith, ◌≡◌, ℕ, ◌==◌, Bool, true, false, not, ◌||◌}
use Rattle.std.proofs.Common.{List, [], ◌∷◌, ◌++◌, refl, sym, ap, ◌∙◌, subst}
use Rattle.std.proofs.Common.{append_assoc, inl, inr, codes, take, drop}
use Rattle.std.proofs.lemmas.List.{take-append-drop}
use Rattle.std.specs.List.{prefix_len}
use Rattle.std.proofs.Common.{if◌then◌else◌}
use Rattle.std.proofs.lemmas.Bool.{or_from, or_parts, and_parts, and_from, cases_Bool}
use Rattle.md_base.proofs.Lies.{lie}
use Rattle.md_text.specs.References.{is_escaped, is_escaped_byte, begins_with, read_back}
use Rattle.md_text.proofs.EscapedLemmas.{completes_reference, completes-any, escaped-append}
use Rattle.md_text.proofs.KeptLemmas.{next}
use Rattle.md_reader.specs.Runs.{begins_plain, is_plain, begins_escaped, IsEscapedBefore}
use Rattle.md_reader.specs.Runs.{IsReference}

-- ---- bytes
pub escaped-plain : (b : ℕ) (front : List ℕ) → is_plain b ≡ true → is_escaped_byte b front ≡ true
escaped-plain b front e = by-tests (b == 0) (b == 60) (b == 62) (b == 34) (b == 38) _ e
  where
    by-tests : (p q r s t u : Bool) → not (p || q || r || s || t) ≡ true →
        (if p || q || r || s then false else (if t then u else true)) ≡ true
    by-tests true q r s t u e = lie e
    by-tests false true r s t u e = lie e
    by-tests false false true s t u e = lie e
    by-tests false false false true t u e = lie e
    by-tests false false false false true u e = lie e
    by-tests false false false false false u e = refl

-- the plain bytes that a text begins with are escaped, and no plain byte follows them
plain-front : (text : List ℕ) → is_escaped (take (prefix_len is_plain text) text) ≡ true
plain-front [] = refl
plain-front (b ∷ rest) = elim (cases_Bool (is_plain b)) [
  | inl e ↦
      let front = take (prefix_len is_plain rest) rest in
      rw e (rw (← next (prefix_len is_plain rest))
      (and_from (is_escaped_byte b front) _ (escaped-plain b front e) (plain-front rest)))
  | inr e ↦ rw e refl
]

pub plain-stops : (text : List ℕ) →
    begins_plain (drop (prefix_len is_plain text) text) ≡ false
plain-stops [] = refl
plain-stops (b ∷ rest) = elim (cases_Bool (is_plain b)) [
  | inl e ↦ rw e (rw (← next (prefix_len is_plain rest)) (plain-stops rest))
  | inr e ↦ rw e e
]

-- ---- what follows
begins-append : (start text more : List ℕ) → begins_with start text ≡ true →
    begins_with start (text ++ more) ≡ true
begins-append [] text more h = refl
begins-append (s ∷ start) [] more h = lie h
begins-append (s ∷ start) (b ∷ text) more h =
    let later = begins-append start text more in grind (arith, later, h)

begins-cut : (start text more : List ℕ) → begins_with start (text ++ more) ≡ false →
    begins_with start text ≡ false
begins-cut start text more lacks =
    elim (cases_Bool (begins_with start text)) [
      | inl begins ↦ lie (sym lacks ∙ begins-append start text more begins)
      | inr none ↦ none
    ]

completes-cut : (rest more : List ℕ) → completes_reference (rest ++ more) ≡ false →
    completes_reference rest ≡ false
completes-cut rest more lacks =
    let cut = λ (start : List ℕ). begins-cut start rest more in
    let one = or_parts _ _ (sym (completes-any (rest ++ more)) ∙ lacks) in
    let two = or_parts _ _ one.0 in
    let three = or_parts _ _ two.0 in
    completes-any rest
    ∙ or_from _ _ (or_from _ _ (or_from _ _ (cut (codes "amp;") three.0)
    (cut (codes "quot;") three.1)) (cut (codes "lt;") two.1)) (cut (codes "gt;") one.1)

-- a byte that isn't escaped before a longer text isn't before the text's beginning
escaped_byte-cut : (b : ℕ) (rest more : List ℕ) → is_escaped_byte b (rest ++ more) ≡ false →
    is_escaped_byte b rest ≡ false
escaped_byte-cut b rest more =
    elim (cases_Bool ((b == 0) || (b == 60) || (b == 62) || (b == 34))) [
      | inl special ↦ rw special (λ h. h)
      | inr plain ↦ rw plain (elim (cases_Bool (b == 38)) [
        | inl is ↦ rw is (completes-cut rest more)
        | inr other ↦ rw other (λ h. h)
      ])
    ]

-- ---- beginnings
pub before-then : (text rest later : List ℕ) → IsEscapedBefore text rest →
    IsEscapedBefore rest later → IsEscapedBefore text later
before-then text rest later first next = record {
  front = first.front ++ next.front;
  is = first.is ∙ ap (λ x. first.front ++ x) next.is
      ∙ sym (append_assoc first.front next.front later);
  escaped = escaped-append first.front next.front first.escaped next.escaped;
}

-- the plain bytes that a text begins with
pub before-plain : (text : List ℕ) → IsEscapedBefore text (drop (prefix_len is_plain text) text)
before-plain text = record {
  front = take (prefix_len is_plain text) text;
  is = sym (take-append-drop (prefix_len is_plain text) text);
  escaped = plain-front text;
}

pub before-reference : (text after : List ℕ) (character : ℕ) (rest : List ℕ) →
    text ≡ 38 ∷ after → IsReference after character rest → IsEscapedBefore text rest
before-reference text after character rest is found = record {
  front = 38 ∷ found.name;
  is = is ∙ ap (λ x. 38 ∷ x) found.is;
  escaped = found.escaped;
}

-- ---- one split
pub same-run : (x a y b : List ℕ) → x ++ a ≡ y ++ b → is_escaped x ≡ true → is_escaped y ≡ true →
    begins_escaped a ≡ false → begins_escaped b ≡ false → (x ≡ y) × (a ≡ b)
same-run [] a [] b e hx hy sa sb = (refl, e)
same-run [] a (c ∷ y) b e hx hy sa sb =
    let parts = and_parts (is_escaped_byte c y) (is_escaped y) hy in
    lie (sym (escaped_byte-cut c y b (subst (λ z. begins_escaped z ≡ false) e sa)) ∙ parts.0)
same-run (c ∷ x) a [] b e hx hy sa sb =
    let parts = and_parts (is_escaped_byte c x) (is_escaped x) hx in
    lie (sym (escaped_byte-cut c x a (subst (λ z. begins_escaped z ≡ false) (sym e) sb)) ∙ parts.0)
same-run (c ∷ x) a (d ∷ y) b e hx hy sa sb =
    let px = and_parts (is_escaped_byte c x) (is_escaped x) hx in
    let py = and_parts (is_escaped_byte d y) (is_escaped y) hy in
    let tails : x ++ a ≡ y ++ b = cc in
    let heads : c ≡ d = cc in
    let later = same-run x a y b tails px.1 py.1 sa sb in
    ((λ i. heads i ∷ later.0 i), later.1)

-- ---- references
pub reference-amp : (text rest : List ℕ) → text ≡ codes "amp;" ++ rest → IsReference text 38 rest
reference-amp text rest e = record {
  name = codes "amp;";
  is = e;
  escaped = refl;
  reads = ap (λ x. read_back (38 ∷ x)) e;
}

pub reference-quot : (text rest : List ℕ) → text ≡ codes "quot;" ++ rest → IsReference text 34 rest
reference-quot text rest e = record {
  name = codes "quot;";
  is = e;
  escaped = refl;
  reads = ap (λ x. read_back (38 ∷ x)) e;
}

pub reference-lt : (text rest : List ℕ) → text ≡ codes "lt;" ++ rest → IsReference text 60 rest
reference-lt text rest e = record {
  name = codes "lt;";
  is = e;
  escaped = refl;
  reads = ap (λ x. read_back (38 ∷ x)) e;
}

pub reference-gt : (text rest : List ℕ) → text ≡ codes "gt;" ++ rest → IsReference text 62 rest
reference-gt text rest e = record {
  name = codes "gt;";
  is = e;
  escaped = refl;
  reads = ap (λ x. read_back (38 ∷ x)) e;
}
