-- Where a byte is no digit there is no number; so few digits write less than 10^9, which fits; one
-- more is a step. By itself the search does no induction over the digits.
use Rattle.std.proofs.Common.{◌+◌, ◌*◌, sym, ◌∙◌, ap, arith}
use Rattle.md_script.proofs.NumberLemmas.{value_few, value_more, digits_more, number_none}
use Rattle.md_script.proofs.number.read_number.Goals as goal

pub returns-then-not-is_ascii_digit : goal.returns-then-not-is_ascii_digit
returns-then-not-is_ascii_digit c =
    number_none c.args.most c.args.digits.now c.loop-digit.digit-index c.loop-digit-test.true
    (sym c.if-not-is_ascii_digit.ensures.value)

pub overflow_mul-number : goal.overflow_mul-number
overflow_mul-number c =
    let small =
    value_few c.args.digits.now c.loop-digit.digit-index c.loop-digit.invariant.digits
    (omega arith) (omega arith) in
    omega (arith, small, c.loop-digit.invariant.value)

pub overflow_add-number : goal.overflow_add-number
overflow_add-number c =
    let small =
    value_few c.args.digits.now c.loop-digit.digit-index c.loop-digit.invariant.digits
    (omega arith) (omega arith) in
    omega (
      arith,
      small,
      c.loop-digit.invariant.value,
      c.type_inv.digits c.loop-digit.digit-index,
      c.from.ensures,
    )

pub loop-digit-preserved : goal.loop-digit-preserved
loop-digit-preserved c =
    let digits = c.args.digits.now in
    let i = c.loop-digit.digit-index in
    let digit = sym c.if-not-is_ascii_digit.ensures.value in
    record {
      value = ap (λ d. c.loop-digit.number * 10 + d) c.from.ensures ∙ value_more digits i
          c.loop-digit.number c.loop-digit-test.true c.loop-digit.invariant.value digit;
      digits = digits_more digits i c.loop-digit-test.true c.loop-digit.invariant.digits digit;
    }
