-- After an ASCII byte a text may be cut, and a byte that doesn't stay is one.
use Rattle.std.proofs.Common.{◌≡◌, ◌+◌, ◌-◌, ◌<◌, ℕ, Bool, true, false, List, ◌++◌, length}
use Rattle.std.proofs.Common.{slice_range, get_or, take, drop, string_bytes, [], ◌∷◌, ap₂, refl}
use Rattle.std.proofs.Common.{sym, ap, subst, ◌∙◌, append_assoc, arith}
use Rattle.std.proofs.lemmas.Grind.{common_steps}
use Rattle.std.proofs.lemmas.List.Sums.{prefix_len_stops}
use Rattle.std.proofs.lemmas.Str.{IsCharBoundary-after_ascii}
use Rattle.std.specs.List.{prefix_len}
use Rattle.md_base.proofs.Lies.{lie}
use Rattle.md_text.specs.Encode.{encoded, encoded_byte}
use Rattle.md_text.specs.Kept.{is_kept}
use Rattle.md_text.proofs.EncodeLemmas.{encoded-at}
use Rattle.md_text.proofs.KeptLemmas.{changed-ascii, encoded-kept, encoded-all_kept}
use Rattle.md_text.proofs.escape.push_encoded.Goals as goal

abbrev is_filled : List ℕ → Bool
is_filled [] = false
is_filled (b ∷ bs) = true

-- an existing text stays at the front
goes_on : (before now more : List ℕ) → take (length before) now ≡ before →
    take (length before) (now ++ more) ≡ before
goes_on [] now more e = refl
goes_on (b ∷ before) [] more e = lie (ap is_filled e)
goes_on (b ∷ before) (x ∷ now) more e =
    ap₂ (λ x xs. x ∷ xs) (ap (λ xs. get_or xs 0 0) e) (goes_on before now more (ap (drop 1) e))

-- the byte after those that stay
changes : (html : _) (rest : List ℕ) (index : ℕ) → index ≡ prefix_len (is_kept html) rest →
    index < length rest →
    is_kept html (get_or rest index 0) ≡ false
changes html rest index place inside =
    rw place (prefix_len_stops (is_kept html) rest 0 (omega (arith, place)))

pub range-requires-clause-end_boundary : goal.range-requires-clause-end_boundary
range-requires-clause-end_boundary c =
    let html = c.args.encode_html in
    let rest : List ℕ = c.loop-index.rest.now in
    let index = c.loop-index.index in
    let inside = c.loop-index-test.true in
    let low : get_or rest index 0 < 128 =
    changed-ascii html (get_or rest index 0)
    (changes html rest index c.loop-index.invariant.2 inside) in
    (omega (arith, inside), λ later high. absurd (omega (arith, low, high)))

pub push_replacement-requires : goal.push_replacement-requires
push_replacement-requires c =
    rw c.as_bytes-in-loop-index.ensures.value (changes c.args.encode_html c.loop-index.rest.now
    c.loop-index.index c.loop-index.invariant.2 c.loop-index-test.true)

pub range_from-rest-requires : goal.range_from-rest-requires
range_from-rest-requires c =
    let html = c.args.encode_html in
    let rest : List ℕ = c.loop-index.rest.now in
    let inside = c.loop-index-test.true in
    let low =
    changed-ascii html _ (changes html rest c.loop-index.index c.loop-index.invariant.2 inside) in
    λ later. IsCharBoundary-after_ascii rest c.loop-index.index c.loop-index.invariant.3 inside low

pub loop-index-preserved : goal.loop-index-preserved
loop-index-preserved c =
    let html = c.args.encode_html in
    let rest : List ℕ = c.loop-index.rest.now in
    let index = c.loop-index.index in
    let out : List ℕ = string_bytes c.loop-index.out in
    let other : List ℕ = encoded_byte html (get_or rest index 0) in
    let later : List ℕ = encoded html (drop (index + 1) rest) in
    let before : List ℕ = string_bytes c.args.out.now in
    let added : List ℕ = encoded_byte html (get_or c.as_bytes-in-loop-index.result.now index 0) in
    let kept : encoded html (take index rest) ≡ take index rest =
    subst (λ n. encoded html (take n rest) ≡ take n rest) (sym c.loop-index.invariant.2)
    (encoded-kept html rest) in (
      ap (λ text. string_bytes c.push_replacement.new.out ++ encoded html text)
          c.range_from-rest.ensures.value
          ∙ ap (λ text. text ++ later) (c.in_ok-push_replacement.ensures
          ∙ ap (λ bytes. string_bytes c.push_str.new.self
          ++ encoded_byte html (get_or bytes index 0)) c.as_bytes-in-loop-index.ensures.value
          ∙ ap (λ text. text ++ other) (c.in_ok-push_str.ensures.bytes
          ∙ ap (λ text. out ++ text) (c.range.ensures.value ∙ from_start rest index)))
          ∙ append_assoc (out ++ take index rest) other later
          ∙ append_assoc out (take index rest) (other ++ later)
          ∙ ap (λ text. out ++ text)
          (encoded-at html rest other index c.loop-index-test.true kept refl)
          ∙ c.loop-index.invariant.0,
      subst (λ text. take (length before) text ≡ before) (sym (c.in_ok-push_replacement.ensures
          ∙ ap (λ text. text ++ added) c.in_ok-push_str.ensures.bytes))
          (goes_on before (out ++ c.range.result.now) added
          (goes_on before out c.range.result.now c.loop-index.invariant.1)),
      c.run_length-index-in-loop-index.ensures
          ∙ ap (λ bytes. prefix_len (is_kept html) bytes) c.as_bytes-in-loop-index-2.ensures.value,
      c.range_from-rest.utf8,
    )
  where
    whole : (n : ℕ) → n - 0 ≡ n
    whole n = omega arith

    from_start : (bytes : List ℕ) (n : ℕ) → slice_range bytes 0 n ≡ take n bytes
    from_start bytes n = ap (λ m. take m bytes) (whole n)

pub returns-clause-added : goal.returns-clause-added
returns-clause-added c =
    let all = encoded-all_kept c.args.encode_html c.loop-index.rest.now
    (omega (arith, c.loop-index.invariant.2, c.loop-index-test.false)) in
    grind (arith, common_steps, all)
