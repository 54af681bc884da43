-- The first cell ends at the first bar.
use Rattle.std.proofs.Common.{ℕ, Bool, List, [], ◌∷◌, suc, true, false, ◌≡◌, ◌+◌, ◌<◌}
use Rattle.std.proofs.Common.{◌==◌, ◌∙◌, not, cond, length, take, drop, ap, refl, sym, arith}
use Rattle.std.proofs.lemmas.List.{drop_min, take_rest}
use Rattle.std.specs.List.{onto_first}
use Rattle.md_blocks.specs.Leaves.{cells, cell_length}
use Rattle.md_blocks.proofs.table.split_cell.Goals as goal

abbrev split : ℕ → List ℕ → List (List ℕ)
split end row = take end row ∷ cells (drop (suc end) row)

at_byte : (is_bar : Bool) (byte : ℕ) (rest : List ℕ)
    → (0 < length rest → cells rest ≡ split (cell_length rest) rest)
    → (cond is_bar ([] ∷ cells rest) (onto_first byte (cells rest)))
    ≡ split (cond (not is_bar) (1 + cell_length rest) 0) (byte ∷ rest)
at_byte true byte rest later = refl
at_byte false byte [] later = refl
at_byte false byte (next ∷ rest) later =
    let one : suc (cell_length (next ∷ rest)) ≡ 1 + cell_length (next ∷ rest) = omega arith in
    ap (onto_first byte) (later (omega arith))
    ∙ ap (λ end. split end (byte ∷ next ∷ rest)) one

first_cell : (row : List ℕ) → 0 < length row → cells row ≡ split (cell_length row) row
first_cell [] some = absurd (omega arith)
first_cell (byte ∷ rest) some = at_byte (byte == 124) byte rest (first_cell rest)

pub returns-clause-cells : goal.returns-clause-cells
returns-clause-cells c some =
    let row = c.args.row.now in
    let end = c.cell_length-end.result in
    let next = c.min-next.result in
    let one : end + 1 ≡ suc end = omega arith in
    let rest : drop next row ≡ drop (suc end) row =
    ap (λ at. drop at row) c.min-next.ensures ∙ drop_min (end + 1) row
    ∙ ap (λ at. drop at row) one in
    first_cell row some
    ∙ ap (λ at. split at row) (sym c.cell_length-end.ensures.value)
    ∙ ap (λ after. take end row ∷ cells after) (sym (take_rest row next ∙ rest))
