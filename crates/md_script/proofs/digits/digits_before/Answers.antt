-- Another byte ends the number; so few digits write less than 10^9, which fits with one more; one
-- more is a step. By itself the search does no induction over the digits.
use Rattle.std.proofs.Common.{◌+◌, ◌*◌, ◌∙◌, ap, arith}
use Rattle.md_script.proofs.NumberLemmas.{value_few, value_more, digits_more}
use Rattle.md_script.proofs.PlainLemmas.{number_read}
use Rattle.md_script.proofs.digits.digits_before.Goals as goal

pub returns-then-digit-gt9 : goal.returns-then-digit-gt9
returns-then-digit-gt9 c =
    let known = c.loop-length.invariant in
    number_read c.args.bytes.now c.loop-length.length c.args.most c.args.end
    c.loop-length.number (omega arith)
    c.if-bytes-length.false (omega arith) (omega arith) known.value known.digits

pub overflow_mul-number : goal.overflow_mul-number
overflow_mul-number c =
    let known = c.loop-length.invariant in
    let small =
    value_few c.args.bytes.now c.loop-length.length known.digits (omega arith) (omega arith) in
    omega (arith, small, known.value)

pub overflow_add-number : goal.overflow_add-number
overflow_add-number c =
    let known = c.loop-length.invariant in
    let small =
    value_few c.args.bytes.now c.loop-length.length known.digits (omega arith) (omega arith) in
    omega (arith, small, known.value, c.if-digit-gt9.false)

pub loop-length-preserved : goal.loop-length-preserved
loop-length-preserved c =
    let bytes = c.args.bytes.now in
    let i = c.loop-length.length in
    let known = c.loop-length.invariant in
    let digit = c.digit_of-digit.ensures c.if-digit-gt9.false in
    record {
      value = ap (λ d. c.loop-length.number * 10 + d) digit.1
          ∙ value_more bytes i c.loop-length.number (omega arith) known.value digit.0;
      digits = digits_more bytes i (omega arith) known.digits digit.0;
    }
