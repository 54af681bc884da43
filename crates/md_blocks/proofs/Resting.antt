-- The rest of a line, step by step.
use Rattle.std.proofs.Common.{ℕ, Bool, List, [], ◌∷◌, zero, suc, true, false, ◌≡◌, ◌+◌, ◌-◌, ◌%◌, ◌++◌}
use Rattle.std.proofs.Common.{◌<◌, ◌≤◌, ◌∙◌, length, drop, get_or, min, arith, refl, sym, ap, inl, inr, add-one}
use Rattle.std.proofs.Math.ListN.{replicate}
use Rattle.std.proofs.Math.Numerals.{one-add}
use Rattle.std.proofs.Math.Seq.{drop-cons}
use Rattle.std.proofs.lemmas.Bool.{cases_lt}
use Rattle.std.proofs.lemmas.List.{drop-drop, drop_all}
use Rattle.std.proofs.lemmas.List.Sums.{prefix_len_passes}
use Rattle.std.proofs.Common.{add-zero}
use Rattle.std.proofs.lemmas.List.{get_or-drop}
use Rattle.std.proofs.lemmas.Grind.{common_steps}
use Rattle.md_lines.specs.Lines.{is_blank}
use Rattle.md_blocks.specs.Rests.{rest_at, width, columns_at, skipped_at, text_of, unindented, is_none}
use Rattle.md_blocks.specs.Leaves.{blanks}

-- a column within the columns of a tab
pub in_tab : (c left : ℕ) → left < 4 - c % 4 → (c + left) % 4 ≡ c % 4 + left
in_tab c left h = omega arith

pub columns_yes : (c byte : ℕ) (rest : List ℕ) → is_blank byte ≡ true
    → columns_at c (byte ∷ rest) ≡ width c byte + columns_at (c + width c byte) rest
columns_yes c byte rest is = rw is refl

pub columns_no : (c byte : ℕ) (rest : List ℕ) → is_blank byte ≡ false → columns_at c (byte ∷ rest) ≡ 0
columns_no c byte rest is = rw is refl

pub drop_columns : (c : ℕ) (line : List ℕ) (at : ℕ) → at < length line → is_blank (get_or line at 0) ≡ true
    → columns_at c (drop at line)
    ≡ width c (get_or line at 0) + columns_at (c + width c (get_or line at 0)) (drop (at + 1) line)
drop_columns c line at h is = rw (drop-cons line at 0 h, add-one at) (columns_yes c (get_or line at 0) (drop (suc at) line) is)

pub columns_spaces : (n c : ℕ) (text : List ℕ)
    → columns_at c (replicate n 32 ++ text) ≡ n + columns_at (c + n) text
columns_spaces zero c text = grind (arith, common_steps)
columns_spaces (suc n) c text =
    let moved : c + 1 + n ≡ c + suc n = omega arith in
    let step = columns_spaces n (c + 1) text in
    rw step (rw moved (omega arith))

pub blanks_spaces : (n : ℕ) (text : List ℕ)
    → drop (blanks (replicate n 32 ++ text)) (replicate n 32 ++ text) ≡ drop (blanks text) text
blanks_spaces zero text = refl
blanks_spaces (suc n) text = rw one-add (blanks_spaces n text)

pub skip_none : (c : ℕ) (text : List ℕ) → skipped_at 0 c text ≡ rest_at c text
skip_none c [] = refl
skip_none c (byte ∷ rest) = refl

pub skip_all : (left c byte : ℕ) (rest : List ℕ) → 0 < left → is_blank byte ≡ true
    → width c byte ≤ left
    → skipped_at left c (byte ∷ rest) ≡ skipped_at (left - width c byte) (c + width c byte) rest
skip_all left c byte rest some is enough = grind (arith, common_steps, some, is, enough)

pub skip_part : (left c byte : ℕ) (rest : List ℕ) → 0 < left → is_blank byte ≡ true
    → left < width c byte
    → skipped_at left c (byte ∷ rest) ≡ rest_at (c + left) (replicate (width c byte - left) 32 ++ rest)
skip_part left c byte rest some is few = grind (arith, common_steps, some, is, few)

pub unindented_is : (line : List ℕ) (at c text : ℕ) (tab : Bool) → text ≡ at + blanks (drop at line)
    → (tab ≡ true → drop at line ≡ 9 ∷ drop (suc at) line)
    → unindented (rest_at c (text_of line at c tab)) ≡ drop text line
unindented_is line at c text false there is =
    drop-drop (blanks (drop at line)) at line ∙ ap (λ n. drop n line) (sym there)
unindented_is line at c text true there is =
    let after = drop (suc at) line in
    let here : text ≡ suc at + blanks after = there ∙ ap (λ l. at + blanks l) (is refl) ∙ omega arith in
    blanks_spaces (4 - c % 4) after ∙ drop-drop (blanks after) (suc at) line ∙ ap (λ n. drop n line) (sym here)

pub is_none_drop : (line : List ℕ) (at : ℕ) → length line ≤ at → is_none (drop at line) ≡ true
is_none_drop line at h = rw (drop_all at line h) refl

pub is_some_drop : (line : List ℕ) (at : ℕ) → at < length line → is_none (drop at line) ≡ false
is_some_drop line at h = rw (drop-cons line at 0 h) refl

pub spaces_all : (n left c : ℕ) (text : List ℕ) → n ≤ left
    → skipped_at left c (replicate n 32 ++ text) ≡ skipped_at (left - n) (c + n) text
spaces_all zero left c text h =
    let a : left - 0 ≡ left = omega arith in
    let b : c + 0 ≡ c = omega arith in
    rw (a, b) refl
spaces_all (suc n) left c text h =
    let a : left - 1 - n ≡ left - suc n = omega arith in
    let b : c + 1 + n ≡ c + suc n = omega arith in
    skip_all left c 32 (replicate n 32 ++ text) (omega arith) refl (omega arith)
    ∙ spaces_all n (left - 1) (c + 1) text (omega arith)
    ∙ ap (λ l. skipped_at l (c + 1 + n) text) a ∙ ap (λ k. skipped_at (left - suc n) k text) b

pub spaces_part : (n left c : ℕ) (text : List ℕ) → left < n
    → skipped_at left c (replicate n 32 ++ text) ≡ rest_at (c + left) (replicate (n - left) 32 ++ text)
spaces_part zero left c text h = absurd (omega arith)
spaces_part (suc n) zero c text h =
    let b : c + 0 ≡ c = omega arith in
    let d : suc n ≡ suc n - 0 = omega arith in
    ap (λ k. rest_at k (replicate (suc n) 32 ++ text)) (sym b)
    ∙ ap (λ k. rest_at (c + 0) (replicate k 32 ++ text)) d
spaces_part (suc n) (suc left) c text h =
    let a : suc left - 1 ≡ left = omega arith in
    let b : c + 1 + left ≡ c + suc left = omega arith in
    let d : n - left ≡ suc n - suc left = omega arith in
    skip_all (suc left) c 32 (replicate n 32 ++ text) (omega arith) refl (omega arith)
    ∙ ap (λ l. skipped_at l (c + 1) (replicate n 32 ++ text)) a
    ∙ spaces_part n left (c + 1) text (omega arith)
    ∙ ap (λ k. rest_at k (replicate (n - left) 32 ++ text)) b
    ∙ ap (λ k. rest_at (c + suc left) (replicate k 32 ++ text)) d

-- the byte at a tab that is used in part
pub tab_there : (line : List ℕ) (at : ℕ) → at < length line → drop at line ≡ 9 ∷ drop (suc at) line
    → get_or line at 0 ≡ 9
tab_there line at h is = ap (λ l. get_or l 0 0) (sym (drop-cons line at 0 h) ∙ is)

-- a byte before the text is a space or a tab
pub blank_there : (line : List ℕ) (at : ℕ) → at < at + blanks (drop at line)
    → is_blank (get_or line at 0) ≡ true
blank_there line at h =
    let first = prefix_len_passes is_blank (drop at line) 0 0 (omega (arith, h)) in
    rw (get_or-drop, add-zero) at first

pub columns_next : (line : List ℕ) (at c : ℕ) (tab : Bool) → at < length line
    → is_blank (get_or line at 0) ≡ true → (tab ≡ true → drop at line ≡ 9 ∷ drop (suc at) line)
    → columns_at c (text_of line at c tab)
    ≡ width c (get_or line at 0) + columns_at (c + width c (get_or line at 0)) (drop (at + 1) line)
columns_next line at c false within blank tabbed = drop_columns c line at within blank
columns_next line at c true within blank tabbed =
    rw (tab_there line at within (tabbed refl), add-one at) (columns_spaces (4 - c % 4) c (drop (suc at) line))

pub skip_next : (line : List ℕ) (at c : ℕ) (tab : Bool) → at < length line
    → is_blank (get_or line at 0) ≡ true → (tab ≡ true → drop at line ≡ 9 ∷ drop (suc at) line)
    → (left : ℕ) → 0 < left → width c (get_or line at 0) ≤ left
    → skipped_at left c (text_of line at c tab)
    ≡ skipped_at (left - width c (get_or line at 0)) (c + width c (get_or line at 0)) (drop (at + 1) line)
skip_next line at c false within blank tabbed left some enough =
    ap (skipped_at left c) (drop-cons line at 0 within)
    ∙ skip_all left c (get_or line at 0) (drop (suc at) line) some blank enough
    ∙ ap (λ i. skipped_at (left - width c (get_or line at 0)) (c + width c (get_or line at 0)) (drop i line))
    (sym (add-one at))
skip_next line at c true within blank tabbed left some enough =
    let e = tab_there line at within (tabbed refl) in
    let w : width c (get_or line at 0) ≡ 4 - c % 4 = ap (width c) e in
    spaces_all (4 - c % 4) left c (drop (suc at) line) (omega (arith, enough, w))
    ∙ ap (λ n. skipped_at (left - n) (c + n) (drop (suc at) line)) (sym w)
    ∙ ap (λ i. skipped_at (left - width c (get_or line at 0)) (c + width c (get_or line at 0)) (drop i line))
    (sym (add-one at))

-- only a tab has more than one column
wide : (c byte left : ℕ) → 0 < left → left < width c byte → byte ≡ 9
wide c byte left some few = grind (arith, common_steps, some, few)

-- a tab that is used in part isn't whole
pub part_left : (c byte left : ℕ) → 0 < left → left < width c byte → 0 < (c + left) % 4
part_left c byte left some few =
    let w : width c byte ≡ 4 - c % 4 = ap (width c) (wide c byte left some few) in
    omega (arith, some, in_tab c left (omega (arith, few, w)))

pub skip_within : (line : List ℕ) (at c : ℕ) (tab : Bool) → at < length line
    → is_blank (get_or line at 0) ≡ true
    → (left : ℕ) → 0 < left → left < width c (get_or line at 0)
    → skipped_at left c (text_of line at c tab) ≡ rest_at (c + left) (text_of line at (c + left) true)
skip_within line at c tab within blank left some few =
    let e = wide c (get_or line at 0) left some few in
    let w : width c (get_or line at 0) ≡ 4 - c % 4 = ap (width c) e in
    let m = in_tab c left (omega (arith, few, w)) in
    let q : 4 - c % 4 - left ≡ 4 - (c + left) % 4 = omega (arith, m) in
    elim tab as (λ t. skipped_at left c (text_of line at c t) ≡ rest_at (c + left) (text_of line at (c + left) true)) [
      | false ↦ ap (skipped_at left c) (drop-cons line at 0 within)
          ∙ skip_part left c (get_or line at 0) (drop (suc at) line) some blank few
          ∙ ap (λ n. rest_at (c + left) (replicate (n - left) 32 ++ drop (suc at) line)) w
          ∙ ap (λ n. rest_at (c + left) (replicate n 32 ++ drop (suc at) line)) q
      | true ↦ spaces_part (4 - c % 4) left c (drop (suc at) line) (omega (arith, few, w))
          ∙ ap (λ n. rest_at (c + left) (replicate n 32 ++ drop (suc at) line)) q
    ]

pub columns_within : (line : List ℕ) (at c : ℕ) (tab : Bool) → at < length line
    → is_blank (get_or line at 0) ≡ true → (tab ≡ true → drop at line ≡ 9 ∷ drop (suc at) line)
    → (left : ℕ) → 0 < left → left < width c (get_or line at 0)
    → columns_at (c + left) (text_of line at (c + left) true) + left ≡ columns_at c (text_of line at c tab)
columns_within line at c tab within blank tabbed left some few =
    let e = wide c (get_or line at 0) left some few in
    let w : width c (get_or line at 0) ≡ 4 - c % 4 = ap (width c) e in
    let m = in_tab c left (omega (arith, few, w)) in
    let after = drop (suc at) line in
    let l = columns_spaces (4 - (c + left) % 4) (c + left) after in
    let r = columns_next line at c tab within blank tabbed in
    let k : c + left + (4 - (c + left) % 4) ≡ c + width c (get_or line at 0) = omega (arith, m, w) in
    let s : columns_at (c + left + (4 - (c + left) % 4)) after
    ≡ columns_at (c + width c (get_or line at 0)) (drop (at + 1) line) =
    ap (λ n. columns_at n after) k
    ∙ ap (λ i. columns_at (c + width c (get_or line at 0)) (drop i line)) (sym (add-one at)) in
    omega (arith, l, r, s, k, w, m)

pub blanks_next : (line : List ℕ) (at : ℕ) → at < length line → is_blank (get_or line at 0) ≡ true
    → at + blanks (drop at line) ≡ at + 1 + blanks (drop (at + 1) line)
blanks_next line at h is = rw (drop-cons line at 0 h, add-one at) (rw is (omega arith))

no_columns_by : (v : Bool) (c byte : ℕ) (rest : List ℕ) → is_blank byte ≡ v → blanks (byte ∷ rest) ≡ 0
    → columns_at c (byte ∷ rest) ≡ 0
no_columns_by true c byte rest is none =
    let some : blanks (byte ∷ rest) ≡ 1 + blanks rest = rw is refl in absurd (omega (arith, none, some))
no_columns_by false c byte rest is none = columns_no c byte rest is

pub no_columns : (c : ℕ) (text : List ℕ) → blanks text ≡ 0 → columns_at c text ≡ 0
no_columns c [] none = refl
no_columns c (byte ∷ rest) none = no_columns_by (is_blank byte) c byte rest refl none

-- at the text nothing is left to skip
pub none_left : (line : List ℕ) (at c : ℕ) (tab : Bool) → blanks (drop at line) ≡ 0
    → (tab ≡ true → drop at line ≡ 9 ∷ drop (suc at) line) → columns_at c (text_of line at c tab) ≡ 0
none_left line at c false none tabbed = no_columns c (drop at line) none
none_left line at c true none tabbed =
    let some : blanks (drop at line) ≡ 1 + blanks (drop (suc at) line) = ap blanks (tabbed refl) in
    absurd (omega (arith, none, some))

skip_text : (left c byte : ℕ) (rest : List ℕ) → is_blank byte ≡ false
    → skipped_at left c (byte ∷ rest) ≡ rest_at c (byte ∷ rest)
skip_text left c byte rest is = grind (arith, common_steps, is)

width_some : (c byte : ℕ) → 1 ≤ width c byte
width_some c byte = grind (arith, common_steps)

-- more columns than there are change nothing
skip_min_by : (v : Bool) (columns c byte : ℕ) (rest : List ℕ) → is_blank byte ≡ v
    → ((columns c : ℕ) → skipped_at (min columns (columns_at c rest)) c rest ≡ skipped_at columns c rest)
    → skipped_at (min columns (columns_at c (byte ∷ rest))) c (byte ∷ rest) ≡ skipped_at columns c (byte ∷ rest)
skip_min_by false columns c byte rest is others =
    skip_text (min columns (columns_at c (byte ∷ rest))) c byte rest is ∙ sym (skip_text columns c byte rest is)
skip_min_by true columns c byte rest is others =
    let w = width c byte in
    let k = columns_at (c + w) rest in
    let p = width_some c byte in
    let yes : columns_at c (byte ∷ rest) ≡ w + k = columns_yes c byte rest is in
    elim (cases_lt columns w) [
      | inl few ↦
          let m : min columns (w + k) ≡ columns = omega arith in
          ap (λ n. skipped_at (min columns n) c (byte ∷ rest)) yes ∙ ap (λ n. skipped_at n c (byte ∷ rest)) m
      | inr enough ↦
          let m : min columns (w + k) - w ≡ min (columns - w) k = omega arith in
          ap (λ n. skipped_at (min columns n) c (byte ∷ rest)) yes
          ∙ skip_all (min columns (w + k)) c byte rest (omega (arith, p)) is (omega arith)
          ∙ ap (λ n. skipped_at n (c + w) rest) m
          ∙ others (columns - w) (c + w)
          ∙ sym (skip_all columns c byte rest (omega (arith, p)) is enough)
    ]

pub skip_min : (columns c : ℕ) (text : List ℕ)
    → skipped_at (min columns (columns_at c text)) c text ≡ skipped_at columns c text
skip_min columns c [] = refl
skip_min columns c (byte ∷ rest) =
    skip_min_by (is_blank byte) columns c byte rest refl (λ n k. skip_min n k rest)

-- no space or tab follows the last one of those that begin a text
blanks_done_by : (v : Bool) (byte : ℕ) (rest : List ℕ) → is_blank byte ≡ v
    → blanks (drop (blanks rest) rest) ≡ 0
    → blanks (drop (blanks (byte ∷ rest)) (byte ∷ rest)) ≡ 0
blanks_done_by true byte rest is more = rw is (rw one-add more)
blanks_done_by false byte rest is more = rw is (rw is refl)

pub blanks_done : (text : List ℕ) → blanks (drop (blanks text) text) ≡ 0
blanks_done [] = refl
blanks_done (byte ∷ rest) = blanks_done_by (is_blank byte) byte rest refl (blanks_done rest)

pub blanks_at : (line : List ℕ) (at text : ℕ) → text ≡ at + blanks (drop at line)
    → blanks (drop text line) ≡ 0
blanks_at line at text there =
    ap (λ n. blanks (drop n line)) there
    ∙ sym (ap blanks (drop-drop (blanks (drop at line)) at line)) ∙ blanks_done (drop at line)
