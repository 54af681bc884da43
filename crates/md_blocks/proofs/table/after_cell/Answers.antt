-- The first cell ends at the first bar that no backslash precedes.
use Rattle.std.proofs.Common.{ℕ, Bool, List, [], ◌∷◌, suc, true, false, ◌≡◌, ◌+◌, ◌<◌}
use Rattle.std.proofs.Common.{◌==◌, ◌∙◌, cond, length, take, drop, ap, refl, sym, arith}
use Rattle.std.proofs.lemmas.List.{drop_min, take_rest}
use Rattle.std.specs.List.{onto_first}
use Rattle.md_blocks.specs.Tables.{bar_at, cells_after, ends_cell}
use Rattle.md_blocks.proofs.table.after_cell.Goals as goal

abbrev split : ℕ → List ℕ → List (List ℕ)
split end row = take end row ∷ cells_after false (drop (suc end) row)

at_byte : (is_end : Bool) (byte : ℕ) (rest : List ℕ) → (0 < length rest →
    cells_after (byte == 92) rest ≡ split (bar_at (byte == 92) rest) rest) →
    (cond is_end ([] ∷ cells_after false rest) (onto_first byte (cells_after (byte == 92) rest)))
    ≡ split (cond is_end 0 (suc (bar_at (byte == 92) rest))) (byte ∷ rest)
at_byte true byte rest later = refl
at_byte false byte [] later = refl
at_byte false byte (next ∷ rest) later = ap (onto_first byte) (later (omega arith))

first_cell : (is_escaped : Bool) (row : List ℕ) → 0 < length row →
    cells_after is_escaped row ≡ split (bar_at is_escaped row) row
first_cell is_escaped [] some = absurd (omega arith)
first_cell is_escaped (byte ∷ rest) some =
    at_byte (ends_cell is_escaped byte) byte rest (first_cell (byte == 92) rest)

pub returns-clause-cells : goal.returns-clause-cells
returns-clause-cells c =
    let row = c.args.row.now in
    let end = c.cell_end.result in
    let next = c.min-next.result in
    let one : end + 1 ≡ suc (bar_at false row) = omega (arith, c.cell_end.ensures.value) in
    let rest : drop next row ≡ drop (suc (bar_at false row)) row =
    ap (λ at. drop at row) c.min-next.ensures ∙ drop_min (end + 1) row
    ∙ ap (λ at. drop at row) one in
    first_cell false row c.requires
    ∙ ap (λ after. take (bar_at false row) row ∷ cells_after false after) (sym (take_rest row next ∙ rest))
