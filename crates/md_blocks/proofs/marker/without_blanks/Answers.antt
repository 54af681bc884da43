-- What is trimmed is the blank suffix.
use Rattle.std.proofs.Common.{ℕ, List, true, false, ◌≡◌, ◌≤◌, ◌<◌, ◌+◌, ◌-◌, ◌∙◌, length, drop}
use Rattle.std.proofs.Common.{take, get_or, ap, sym, arith}
use Rattle.std.specs.List.{prefix_len, suffix_len}
use Rattle.std.proofs.lemmas.List.{get_or-drop}
use Rattle.std.proofs.lemmas.List.Sums.{prefix_len_passes, suffix_len_is}
use Rattle.md_lines.specs.Lines.{is_blank}
use Rattle.md_blocks.specs.Leaves.{without_blanks}
use Rattle.md_blocks.proofs.marker.without_blanks.Goals as goal

blank_from : (text : List ℕ) (n k : ℕ) → length text ≤ n + prefix_len is_blank (drop n text)
    → n ≤ k → k < length text → is_blank (get_or text k 0) ≡ true
blank_from text n k blank after within =
    let at : n + (k - n) ≡ k = omega arith in
    ap (λ m. is_blank (get_or text m 0)) (sym at)
    ∙ ap is_blank (sym (get_or-drop n text (k - n) 0))
    ∙ prefix_len_passes is_blank (drop n text) (k - n) 0 (omega arith)

trimmed : (text : List ℕ) (n : ℕ) → n ≤ length text
    → length text ≤ n + prefix_len is_blank (drop n text)
    → (0 < n → is_blank (get_or text (n - 1) 0) ≡ false) → take n text ≡ without_blanks text
trimmed text n within blank last =
    let all = suffix_len_is is_blank text n 0 within (λ k. blank_from text n k blank) last in
    let left : n ≡ length text - suffix_len is_blank text = omega (arith, all, within) in
    ap (λ m. take m text) left

pub returns-clause-value : goal.returns-clause-value
returns-clause-value c =
    let ends = c.trim_end.ensures in
    trimmed c.args.text.now c.trim_end.result ends.within ends.blank ends.last
