-- The letter of the table at this row and symbol encodes the next place; past the rows there is
-- none.
use Rattle.std.proofs.Common.{arith, rules, [], ◌≡◌, get_or}
use Rattle.md_pattern.proofs.PlaceLemmas.{letter-decoded, letter-led, moved-outside, rows-count}
use Rattle.md_pattern.proofs.spine_state.letter_at.Goals as goal

pub returns-in_err-get-clause-lacking : goal.returns-in_err-get-clause-lacking
returns-in_err-get-clause-lacking c = grind (arith, moved-outside, rows-count)

pub returns-clause-decoded : goal.returns-clause-decoded
returns-clause-decoded c =
    let is : c.in_ok-get.field-0.now ≡ get_or c.rows.result.now c.args.row [] = search rules in
    rw is (letter-decoded c.rows.result.now c.args.row c.column.result c.args.symbol
    c.rows.ensures (search rules) c.column.ensures.few c.column.ensures.symbol)

pub returns-clause-encodes_row : goal.returns-clause-encodes_row
returns-clause-encodes_row c =
    let is : c.in_ok-get.field-0.now ≡ get_or c.rows.result.now c.args.row [] = search rules in
    rw is (letter-led c.rows.result.now c.args.row c.column.result c.rows.ensures
    (search rules) c.column.ensures.few)

pub returns-clause-within : goal.returns-clause-within
returns-clause-within c = grind (arith, rows-count)
