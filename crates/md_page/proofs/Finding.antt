-- A scan up to the first tag that is picked, and past it, by places.
use Rattle.std.proofs.Common.{◌≡◌, ℕ, ◌+◌, ◌-◌, ◌≤◌, suc, Bool, true, false, List, ◌++◌, refl}
use Rattle.std.proofs.Common.{length, take, drop, ◌∙◌, subst, append_assoc}
use Rattle.std.proofs.Common.{append-nil, slice_range, add-one, arith}
use Rattle.std.specs.List.{list_all}
use Rattle.std.proofs.lemmas.List.{take_rest, drop-drop, drop_more, take-append-drop, length-drop}
use Rattle.std.proofs.lemmas.List.{take_all, drop_all}
use Rattle.std.proofs.Math.Seq.{take-add}
use Rattle.md_page.specs.Scan.{differs, IsFirstOf, IsTagAt, IsEndAt, clear, scanned}
use Rattle.md_page.proofs.Parts.{around}
use Rattle.md_page.proofs.Scanning.{scanned-inside, scanned-unclosed}
use Rattle.md_page.proofs.Passing.{clear-scanned, drop-at, take-at}

-- of the bytes from a place on
pub from_place : (byte : ℕ) (text : List ℕ) (at run : ℕ) →
    IsFirstOf byte (take (length text - at) (drop at text)) run → IsFirstOf byte (drop at text) run
from_place byte text at run h = subst (λ x. IsFirstOf byte x run) (take_rest text at) h

-- into the first tag that is picked
into : (picks : List ℕ → Bool) (add : ℕ → List ℕ) (n : ℕ) (text : List ℕ) (at : ℕ) →
    IsTagAt picks text at →
    scanned picks add false n text
    ≡ take (at + 1) text ++ scanned picks add true n (drop (at + 1) text)
into picks add n text at h =
    rw (clear-scanned picks add n at text h.before, drop-at text at h.within h.angle, h.picked)
    (rw (add-one at, take-at text at h.within h.angle, append_assoc) refl)

-- to the end of a tag that is picked
to_end : (picks : List ℕ → Bool) (add : ℕ → List ℕ) (n : ℕ) (text : List ℕ) (at end : ℕ) →
    IsFirstOf 62 (drop at text) end →
    take at text ++ scanned picks add true n (drop at text)
    ≡ take (at + end) text ++ (add n ++ scanned picks add false (suc n) (drop (at + end) text))
to_end picks add n text at end h =
    let tag = drop at text in
    let inside = scanned-inside picks add n (take end tag) (drop (end + 1) tag) h.before in
    rw (rw (← around 62 tag end h) at inside, take-add at end text, ← drop-drop end at text)
    (rw (drop_more tag end 0 h.within, h.is) (simp append_assoc))

-- up to the end of the first tag that is picked
pub picked : (picks : List ℕ → Bool) (add : ℕ → List ℕ) (n : ℕ) (text : List ℕ) (at end : ℕ) →
    IsTagAt picks text at →
    IsFirstOf 62 (drop (at + 1) text) end →
    scanned picks add false n text ≡ take (at + 1 + end) text
    ++ (add n ++ scanned picks add false (suc n) (drop (at + 1 + end) text))
picked picks add n text at end h ends =
    into picks add n text at h ∙ to_end picks add n text (at + 1) end ends

-- a tag that is picked and never ends
pub unended : (picks : List ℕ → Bool) (add : ℕ → List ℕ) (n : ℕ) (text : List ℕ) (at : ℕ) →
    IsTagAt picks text at →
    list_all (differs 62) (drop (at + 1) text) ≡ true → scanned picks add false n text ≡ text
unended picks add n text at h none =
    rw (into picks add n text at h, scanned-unclosed picks add n (drop (at + 1) text) none)
    (take-append-drop (at + 1) text)

-- no tag is picked
pub done : (picks : List ℕ → Bool) (add : ℕ → List ℕ) (n : ℕ) (text : List ℕ) →
    clear picks (length text) text ≡ true → scanned picks add false n text ≡ text
done picks add n text h =
    rw (clear-scanned picks add n (length text) text h, take_all (length text) text (omega arith))
    (rw (drop_all (length text) text (omega arith)) (append-nil text))

-- ---- one iteration of the loop that writes the text

-- the written text, followed by the result for the rest, stays the whole; and the rest is shorter
pub turned : (picks : List ℕ → Bool) (add : ℕ → List ℕ) (n : ℕ) (rest : List ℕ) (end : ℕ)
    (out : List ℕ) {out' out'' front attribute rest' whole : List ℕ} → IsEndAt rest end →
    scanned picks add false n rest
    ≡ take end rest ++ (add n ++ scanned picks add false (suc n) (drop end rest)) →
    out' ≡ out ++ front → front ≡ slice_range rest 0 end →
    out'' ≡ out' ++ attribute → attribute ≡ add n → rest' ≡ drop end rest →
    out ++ scanned picks add false n rest ≡ whole →
    (n + 1 + length rest' ≤ n + length rest)
    × (out'' ++ scanned picks add false (n + 1) rest' ≡ whole)
turned picks add n rest end out place scan first fronted second added later all =
    grind (arith, length-drop, add-one, append_assoc)
