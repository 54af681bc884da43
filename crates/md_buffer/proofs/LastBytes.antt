-- The last byte of some bytes with heads inserted, and their minimum length.
use Rattle.std.proofs.Common.{◌≡◌, ℕ, ◌+◌, ◌≤◌, ◌<◌, ◌⊎◌, inl, inr, List, [], ◌∷◌, ◌++◌, length}
use Rattle.std.proofs.Common.{take, drop, refl, ap, sym, ◌∙◌, arith, append_assoc, length-append}
use Rattle.std.proofs.lemmas.List.{length-drop}
use Rattle.md_meaning.specs.Meaning.Layout.{begins_line}
use Rattle.md_buffer.specs.declared.heads.Head.{Head}
use Rattle.md_buffer.specs.Waiting.{text_of, merged, Fit}
use Rattle.md_buffer.proofs.HeadsFit.{fit-bound, fit-from}
use Rattle.md_buffer.proofs.Merged.{two, empty, skip}

last-cons : (first next : ℕ) (bytes : List ℕ) →
    begins_line (first ∷ next ∷ bytes) ≡ begins_line (next ∷ bytes)
last-cons first next bytes = grind arith

-- what comes before a text makes no difference to its last byte
begins-after : (front back : List ℕ) → 0 < length back →
    begins_line (front ++ back) ≡ begins_line back
begins-after [] back long = refl
begins-after (x ∷ []) [] long = absurd (omega arith)
begins-after (x ∷ []) (y ∷ back) long = last-cons x y back
begins-after (x ∷ z ∷ front) back long =
    last-cons x z (front ++ back) ∙ begins-after (z ∷ front) back long

-- no text is shorter than its bytes
pub merged-long : (bytes heads : List ℕ) (from : ℕ) (waiting : List Head) →
    Fit bytes heads (length bytes) from waiting →
    length (drop from bytes) ≤ length (merged bytes heads from waiting)
merged-long bytes heads from [] fit = omega arith
merged-long bytes heads from (head ∷ waiting) fit =
    let front = drop from (take head.place bytes) in
    let rest = merged bytes heads head.place waiting in
    let e : length (drop from bytes) ≡ length front + length (drop head.place bytes) =
    ap (λ (t : List ℕ). length t) (sym (two bytes from head.place fit.0
    (fit-bound bytes heads (length bytes) head.place waiting fit.4)))
    ∙ length-append front (drop head.place bytes) in
    let f : length (front ++ (text_of heads head ++ rest))
    ≡ length front + (length (text_of heads head) + length rest) =
    length-append front (text_of heads head ++ rest)
    ∙ ap (λ n. length front + n) (length-append (text_of heads head) rest) in
    let k : length (drop head.place bytes) ≤ length rest =
    merged-long bytes heads head.place waiting fit.4 in
    omega arith

-- the last byte is not a head's
pub merged-ends : (bytes heads : List ℕ) (from : ℕ) (waiting : List Head) →
    Fit bytes heads (length bytes) from waiting →
    begins_line (merged bytes heads from waiting) ≡ begins_line (drop from bytes)
merged-ends bytes heads from [] fit = refl
merged-ends bytes heads from (head ∷ waiting) fit =
    by fit.3 (merged-ends bytes heads head.place waiting fit.4)
    (merged-ends bytes heads from waiting
    (fit-from bytes heads (length bytes) from head.place waiting fit.0 fit.1 fit.4))
  where
    bound : head.place ≤ length bytes
    bound = fit-bound bytes heads (length bytes) head.place waiting fit.4

    long : head.place < length bytes → 0 < length (drop head.place bytes)
    long inside = (let l = length-drop head.place bytes in omega arith)

    by : ((head.from ≡ head.to) ⊎ (head.place < length bytes)) →
        begins_line (merged bytes heads head.place waiting) ≡ begins_line (drop head.place bytes) →
        begins_line (merged bytes heads from waiting) ≡ begins_line (drop from bytes) →
        begins_line (merged bytes heads from (head ∷ waiting)) ≡ begins_line (drop from bytes)
    by (inl same) there here =
        ap (λ t. begins_line (drop from (take head.place bytes)
        ++ (t ++ merged bytes heads head.place waiting))) (empty heads head same)
        ∙ ap (λ t. begins_line t) (skip bytes heads from head.place waiting fit.0 fit.4) ∙ here
    by (inr inside) there here =
        ap (λ t. begins_line t)
        (sym (append_assoc (drop from (take head.place bytes)) (text_of heads head)
        (merged bytes heads head.place waiting)))
        ∙ begins-after (drop from (take head.place bytes) ++ text_of heads head) (merged bytes heads
        head.place waiting) (let l = merged-long bytes heads head.place waiting fit.4 in
        let m = long inside in omega arith)
        ∙ there ∙ sym (begins-after (drop from (take head.place bytes)) (drop head.place bytes)
        (long inside)) ∙ ap (λ t. begins_line t) (two bytes from head.place fit.0 bound)
