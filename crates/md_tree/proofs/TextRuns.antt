-- Runs of bytes that are texts: a part of a run is that part of the bytes.
use Rattle.std.proofs.Common.{◌≡◌, ℕ, ◌+◌, ◌-◌, ◌≤◌, ◌&&◌, nat_le, Option, Some, List, ◌++◌, length}
use Rattle.std.proofs.Common.{take, drop, take-add, sym, ap, ◌∙◌, arith}
use Rattle.std.specs.Prelude.{slice_range, IfSome}
use Rattle.std.proofs.lemmas.Str.{IsUtf8-append, is_utf8-from_IsUtf8}
use Rattle.std.proofs.lemmas.List.{take-take, drop-drop, drop-take}
use Rattle.md_tree.proofs.Common.{IsUtf8}
use Rattle.md_base.specs.Place.{text_when}

-- the part of a run
pub slice_range-run : (bytes text : List ℕ) (s start end : ℕ) →
    take (length text) (drop s bytes) ≡ text → s ≤ start → start ≤ end → end - s ≤ length text →
    slice_range text (start - s) (end - s) ≡ slice_range bytes start end
slice_range-run bytes text s start end is low ordered high =
    let from = start - s in
    let left = length text - from in
    let all : from + left ≡ length text = omega arith in
    let there : s + from ≡ start = omega arith in
    let count : (end - s) - from ≡ end - start = omega arith in
    let rest : drop from text ≡ take left (drop start bytes) =
    ap (drop from) (sym is ∙ ap (λ n. take n (drop s bytes)) (sym all)) ∙ drop-take from left
    (drop s bytes) ∙ ap (take left) (drop-drop from s bytes ∙ ap (λ n. drop n bytes) there) in
    ap (λ n. take n (drop from text)) count ∙ ap (take _) rest ∙ take-take _ left _ (omega arith)

-- a part of a run's text is a text of the bytes
pub run-part : (bytes text part : List ℕ) (s start end : ℕ) → s + length text ≤ length bytes →
    take (length text) (drop s bytes) ≡ text → s ≤ start → s ≤ end → start - s ≤ end - s →
    end - s ≤ length text → part ≡ slice_range text (start - s) (end - s) → IsUtf8 part → text_when
    (nat_le start end && nat_le end (length bytes)) (slice_range bytes start end) ≡ Some part
run-part bytes text part s start end within is low low_end ordered high same utf8 =
    grind (arith, slice_range-run, is_utf8-from_IsUtf8)

-- what holds of an answer, where there is one
pub some-weaken : {A : Type 0} (P Q : A → Type 0) → ((a : A) → P a → Q a) → (o : Option A) →
    IfSome o P → IfSome o Q
some-weaken P Q weaken o holds = grind arith

-- a text that continues where another ends
pub IsUtf8-on : (bytes : List ℕ) (start at end : ℕ) → start ≤ at → at ≤ end →
    IsUtf8 (slice_range bytes start at) →
    IsUtf8 (slice_range bytes at end) → IsUtf8 (slice_range bytes start end)
IsUtf8-on bytes start at end before after front rest =
    let m = at - start in
    let n = end - at in
    let all : end - start ≡ m + n = omega arith in
    let there : start + m ≡ at = omega arith in
    let left : drop m (drop start bytes) ≡ drop at bytes =
    drop-drop m start bytes ∙ ap (λ k. drop k bytes) there in
    let parts :
    take (end - start) (drop start bytes) ≡ take m (drop start bytes) ++ take n (drop at bytes) =
    ap (λ k. take k (drop start bytes)) all ∙ take-add m n (drop start bytes)
    ∙ ap (λ xs. take m (drop start bytes) ++ take n xs) left in
    rw parts (IsUtf8-append _ _ front rest)
