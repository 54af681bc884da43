-- Spaces that are left of a tab are around a row.
use Rattle.std.proofs.Common.{ℕ, List, ◌≡◌, ◌≤◌, ◌-◌, ◌++◌, ◌∙◌, suc, false, ap, sym, arith, length, take, drop}
use Rattle.std.specs.Prelude.{replicate, if◌then◌else◌}
use Rattle.std.proofs.lemmas.Bool.{ne_eqb}
use Rattle.std.proofs.lemmas.List.{length-take}
use Rattle.md_blocks.specs.Leaves.{without_blanks, without_first}
use Rattle.md_blocks.specs.Tables.{cells_after, row_cells}
use Rattle.md_blocks.specs.Tapes.{between}
use Rattle.md_blocks.proofs.LineLemmas.{cut, next}
use Rattle.md_blocks.proofs.Resting.{blanks_spaces}
use Rattle.md_blocks.proofs.table.cells_of_line.Goals as goal

abbrev count : List ℕ → ℕ
count text = length (row_cells text)

spaces_around : (n : ℕ) (text : List ℕ) → count text ≡ count (replicate n 32 ++ text)
spaces_around n text =
    ap (λ those. length (cells_after false (without_first 124 (without_blanks those))))
    (sym (blanks_spaces n text))

pub returns-else-line-eq0 : goal.returns-else-line-eq0
returns-else-line-eq0 c =
    let bytes = c.args.bytes.now in
    let line = c.args.line in
    let to = c.min.result in
    let text = take to bytes in
    let short : length text ≤ 18446744073709551615 =
    omega (arith, length-take to bytes, c.min.type_inv) in
    let rest : c.text_from-else-line-eq0.result.now ≡ drop (suc line.start) text =
    c.text_from-else-line-eq0.ensures
    ∙ next line.start _ 18446744073709551615 text c.saturating_add.ensures short in
    c.count_cells-else-line-eq0.ensures
    ∙ ap count (rest ∙ ap (drop (suc line.start)) (cut to line.end bytes c.min.ensures))
    ∙ spaces_around (4 - line.columns) (between (suc line.start) line.end bytes)
    ∙ ap (λ is. count (if is then between line.start line.end bytes
    else replicate (4 - line.columns) 32 ++ between (suc line.start) line.end bytes))
    (sym (ne_eqb line.columns 0 c.if-line-eq0.false))
