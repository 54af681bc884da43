-- The paragraph's last line has another number of cells.
use Rattle.std.proofs.Common.{ℕ, List, ap, sym, ◌∙◌, ◌≡◌, ◌==◌, ◌&&◌, length, false, ◌-◌, [], drop, map}
use Rattle.std.proofs.Common.{get_or, subst, Some}
use Rattle.std.specs.Prelude.{slice_get}
use Rattle.std.proofs.lemmas.Bool.{ne_eqb}
use Rattle.std.proofs.lemmas.List.{get_or-map, length-map, take_rest}
use Rattle.std.proofs.lemmas.Option.{get_or_from_slice_get, slice_get_within}
use Rattle.md_lines.specs.declared.line.Line.{Line as Place}
use Rattle.md_blocks.specs.Entries.{Line, last_line}
use Rattle.md_blocks.specs.Leaves.{delimiters, is_delimiter_row}
use Rattle.md_blocks.specs.Passes.{leaf_lines}
use Rattle.md_blocks.specs.Positions.{text_at}
use Rattle.md_blocks.specs.Tables.{row_cells}
use Rattle.md_blocks.specs.Tapes.{line_of}
use Rattle.md_blocks.proofs.TextBytes.{and_false}
use Rattle.md_blocks.proofs.pass.Pass.columns_begun.Goals as goal

-- the last line of a leaf
last_of : (bytes : List ℕ) (lines : List Place) (head : Place) →
    slice_get lines (length lines - 1) ≡ Some head →
    last_line (map (line_of bytes) lines) ≡ line_of bytes head
last_of bytes lines head is =
    let f = line_of bytes in
    let none : Line = record { text = []; ending = [] } in
    let last = length lines - 1 in
    ap (λ n. get_or (map f lines) (n - 1) none) (length-map lines f)
    ∙ get_or-map f lines last head none (slice_get_within lines last head is)
    ∙ ap f (get_or_from_slice_get lines last head head is)

pub returns-else-cells_of_line-columns-clause-there :
    goal.returns-else-cells_of_line-columns-clause-there
returns-else-cells_of_line-columns-clause-there c =
    let p = c.args.self.now in
    let bytes = p.bytes.now in
    let start = p.nesting.leaves.start in
    let text = text_at c.args.position.now in
    let last = ap (λ those. last_line (map (line_of bytes) (drop start those))) (sym c.deref.ensures.value)
    ∙ last_of bytes (drop start c.deref.result.now) c.in_ok-head.field-0.now
    (subst (λ those. slice_get those (length those - 1) ≡ Some c.in_ok-head.field-0.now)
    (take_rest c.deref.result.now start) (sym c.in_ok-head.ensures.value)) in
    let count : length (row_cells (last_line (leaf_lines p)).text) ≡ c.cells_of_line.result =
    ap (λ line. length (row_cells line.text)) last ∙ sym c.cells_of_line.ensures in
    let columns : length (delimiters text) ≡ c.in_ok-columns.columns =
    sym (c.in_ok-columns.ensures.columns ∙ ap (λ t. length (delimiters t)) c.bytes.ensures) in
    let others : (length (row_cells (last_line (leaf_lines p)).text) == length (delimiters text)) ≡ false =
    ap (λ n. n == length (delimiters text)) count ∙ ap (λ n. c.cells_of_line.result == n) columns
    ∙ ne_eqb c.cells_of_line.result c.in_ok-columns.columns c.if-cells_of_line-columns.false in
    let tables = p.options.now.tables in
    sym (ap (λ so. tables && (is_delimiter_row text && so)) others
    ∙ ap (λ so. tables && so) (and_false (is_delimiter_row text)) ∙ and_false tables)
