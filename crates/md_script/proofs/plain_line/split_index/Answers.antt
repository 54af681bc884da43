-- A line feed after some digits ends the index; so few digits write less than 10^9, which fits; one
-- more is a step. By itself the search does no induction over the digits.
use Rattle.std.proofs.Common.{◌+◌, ◌*◌, sym, ◌∙◌, ap, arith}
use Rattle.md_script.proofs.NumberLemmas.{value_few, value_more, digits_more}
use Rattle.md_script.proofs.PlainLemmas.{index_read_at}
use Rattle.md_script.proofs.plain_line.split_index.Goals as goal

pub returns-then-length-gt0 : goal.returns-then-length-gt0
returns-then-length-gt0 c =
    let known = c.loop-byte.invariant in
    index_read_at c.args.bytes.now c.loop-byte.byte-index c.loop-byte.length
    c.loop-byte.index known.place
    c.loop-byte-test.true c.if-byte-eq10.true c.if-length-gt0.true
    known.few known.value known.digits

pub overflow_mul-index : goal.overflow_mul-index
overflow_mul-index c =
    let known = c.loop-byte.invariant in
    let small = value_few c.args.bytes.now c.loop-byte.byte-index known.digits
    (omega (arith, c.loop-byte-test.true)) (omega (arith, known.place, known.few)) in
    omega (arith, small, known.value)

pub overflow_add-index : goal.overflow_add-index
overflow_add-index c =
    let known = c.loop-byte.invariant in
    let small = value_few c.args.bytes.now c.loop-byte.byte-index known.digits
    (omega (arith, c.loop-byte-test.true)) (omega (arith, known.place, known.few)) in
    omega (arith, small, known.value, c.type_inv.bytes c.loop-byte.byte-index, c.from.ensures)

pub loop-byte-preserved : goal.loop-byte-preserved
loop-byte-preserved c =
    let bytes = c.args.bytes.now in
    let i = c.loop-byte.byte-index in
    let known = c.loop-byte.invariant in
    let digit = sym c.if-not-is_ascii_digit.ensures.value in
    record {
      place = ap (λ n. n + 1) known.place;
      few = omega (arith, known.few, c.if-length-eq9.false);
      value = ap (λ d. c.loop-byte.index * 10 + d) c.from.ensures
          ∙ value_more bytes i c.loop-byte.index c.loop-byte-test.true known.value digit;
      digits = digits_more bytes i c.loop-byte-test.true known.digits digit;
    }
