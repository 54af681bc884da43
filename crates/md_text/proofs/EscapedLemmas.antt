-- Escaped texts: joined, cut and with a byte taken out. So a text that is printed in parts is a
-- text of the HTML grammar.
use Rattle.std.proofs.Common.{arith, ◌≡◌, ℕ, ◌==◌, Bool, true, not, ◌||◌, List, [], ◌∷◌}
use Rattle.std.proofs.Common.{◌++◌, refl, sym, ◌∙◌, inl, inr, codes, Some, None}
use Rattle.std.specs.Prelude.{if◌then◌else◌, is_some}
use Rattle.std.specs.List.{list_all}
use Rattle.std.proofs.lemmas.Bool.{and_parts, and_from, cond_both, cases_Bool}
use Rattle.md_text.specs.References.{is_escaped, is_escaped_byte, reference_before, begins_with}
use Rattle.md_text.specs.References.{outside_references}
use Rattle.md_text.specs.Url.{sanitized, sanitized_with, normalized_url}
use Rattle.md_text.proofs.EncodeLaws.{is_escaped-encoded}

-- a text that begins so still does when more follows
begins-append : (start text more : List ℕ) → begins_with start text ≡ true →
    begins_with start (text ++ more) ≡ true
begins-append [] text more h = refl
begins-append (s ∷ start) [] more h = cc
begins-append (s ∷ start) (b ∷ text) more h =
    let later = begins-append start text more in grind (arith, later, h)

-- a `&` begins a reference before these bytes
abbrev pub completes_reference : List ℕ → Bool
completes_reference rest = is_some (reference_before rest)

-- it is one of the four
pub completes-any : (rest : List ℕ) → completes_reference rest
    ≡ (begins_with (codes "amp;") rest || begins_with (codes "quot;") rest
    || begins_with (codes "lt;") rest || begins_with (codes "gt;") rest)
completes-any rest =
    by (begins_with (codes "amp;") rest) (begins_with (codes "quot;") rest)
    (begins_with (codes "lt;") rest) (begins_with (codes "gt;") rest)
  where
    by : (amp quot lt gt : Bool) → is_some {T = List ℕ × ℕ} (if amp then Some (codes "amp;", 38)
        else (if quot then Some (codes "quot;", 34) else (if lt then Some (codes "lt;", 60)
        else (if gt then Some (codes "gt;", 62) else None)))) ≡ (amp || quot || lt || gt)
    by amp quot lt gt = grind arith

or_keeps : (a b c d : Bool) → (a ≡ true → c ≡ true) → (b ≡ true → d ≡ true) →
    (a || b) ≡ true → (c || d) ≡ true
or_keeps a b c d f g h = grind (arith, f, g, h)

completes-append : (rest more : List ℕ) → completes_reference rest ≡ true →
    completes_reference (rest ++ more) ≡ true
completes-append rest more h =
    let on = λ (start : List ℕ). begins-append start rest more in
    completes-any (rest ++ more)
    ∙ or_keeps _ _ _ _ (or_keeps _ _ _ _ (or_keeps _ _ _ _ (on (codes "amp;")) (on (codes "quot;")))
    (on (codes "lt;"))) (on (codes "gt;")) (sym (completes-any rest) ∙ h)

escaped_byte-append : (b : ℕ) (rest more : List ℕ) → is_escaped_byte b rest ≡ true →
    is_escaped_byte b (rest ++ more) ≡ true
escaped_byte-append b rest more =
    elim (cases_Bool ((b == 0) || (b == 60) || (b == 62) || (b == 34))) [
      | inl special ↦ rw special (λ h. h)
      | inr plain ↦ rw plain (elim (cases_Bool (b == 38)) [
        | inl is ↦ rw is (completes-append rest more)
        | inr other ↦ rw other (λ h. h)
      ])
    ]

pub escaped-append : (x y : List ℕ) → is_escaped x ≡ true → is_escaped y ≡ true →
    is_escaped (x ++ y) ≡ true
escaped-append [] y hx hy = hy
escaped-append (b ∷ x) y hx hy =
    let parts = and_parts (is_escaped_byte b x) (is_escaped x) hx in
    search (and_from, escaped_byte-append b x y parts.0, escaped-append x y parts.1 hy)

-- the rest of an escaped text after its first byte is escaped
pub escaped-tail : (b : ℕ) (rest : List ℕ) → is_escaped (b ∷ rest) ≡ true → is_escaped rest ≡ true
escaped-tail b rest h = (and_parts (is_escaped_byte b rest) (is_escaped rest) h).1

-- taken out, it changes no beginning that it isn't in
begins-without : (b : ℕ) (start text more : List ℕ) → list_all (λ c. not (c == b)) start ≡ true →
    begins_with start (text ++ (b ∷ more)) ≡ true → begins_with start (text ++ more) ≡ true
begins-without b [] text more out h = refl
begins-without b (s ∷ start) [] more out h = grind (arith, out, h)
begins-without b (s ∷ start) (c ∷ text) more out h =
    let later = begins-without b start text more in grind (arith, later, out, h)

completes-without : (b : ℕ) (text more : List ℕ) → outside_references b ≡ true →
    completes_reference (text ++ (b ∷ more)) ≡ true → completes_reference (text ++ more) ≡ true
completes-without b text more out h =
    let on = λ (start : List ℕ). begins-without b start text more in
    completes-any (text ++ more) ∙ or_keeps _ _ _ _ (or_keeps _ _ _ _ (or_keeps _ _ _ _
    (on (codes "amp;") (grind (arith, out))) (on (codes "quot;") (grind (arith, out))))
    (on (codes "lt;") (grind (arith, out)))) (on (codes "gt;") (grind (arith, out)))
    (sym (completes-any (text ++ (b ∷ more))) ∙ h)

escaped_byte-without : (b c : ℕ) (text more : List ℕ) → outside_references b ≡ true →
    is_escaped_byte c (text ++ (b ∷ more)) ≡ true → is_escaped_byte c (text ++ more) ≡ true
escaped_byte-without b c text more out =
    elim (cases_Bool ((c == 0) || (c == 60) || (c == 62) || (c == 34))) [
      | inl special ↦ rw special (λ h. h)
      | inr plain ↦ rw plain (elim (cases_Bool (c == 38)) [
        | inl is ↦ rw is (completes-without b text more out)
        | inr other ↦ rw other (λ h. h)
      ])
    ]

-- such a byte may be removed from an escaped text
pub escaped-without : (b : ℕ) (text more : List ℕ) → outside_references b ≡ true →
    is_escaped (text ++ (b ∷ more)) ≡ true → is_escaped (text ++ more) ≡ true
escaped-without b [] more out h = escaped-tail b more h
escaped-without b (c ∷ text) more out h =
    let parts = and_parts (is_escaped_byte c (text ++ (b ∷ more))) _ h in
    and_from (is_escaped_byte c (text ++ more)) (is_escaped (text ++ more))
    (escaped_byte-without b c text more out parts.0) (escaped-without b text more out parts.1)

-- URLs are escaped
pub sanitized-escaped : (x : List ℕ) → is_escaped (sanitized x) ≡ true
sanitized-escaped x = is_escaped-encoded (normalized_url x)

pub sanitized_with-escaped : (protocols : List (List ℕ)) (x : List ℕ) →
    is_escaped (sanitized_with protocols x) ≡ true
sanitized_with-escaped protocols x = grind (arith, cond_both, sanitized-escaped)
