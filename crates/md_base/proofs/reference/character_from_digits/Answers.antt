-- A number is read where the digits are no sign: std takes a `+` before them, and the rules don't.
use Rattle.std.proofs.Common.{arith, get_or, Some, sym, ap, ◌∙◌, lit<}
use Rattle.std.proofs.lemmas.Bool.{eqb-false}
use Rattle.md_base.proofs.ReferenceLemmas.{numbered_ok, numbered_none}
use Rattle.md_base.proofs.reference.character_from_digits.Goals as goal

pub returns-in_err-code : goal.returns-in_err-code
returns-in_err-code c = grind (arith, eqb-false, numbered_none)

pub returns : goal.returns
returns c =
    let no_plus = eqb-false (get_or c.args.digits.now 0 0) 43
    (sym (c.if-starts_with.ensures.byte (lit< tt) (lit< tt) (λ _ _ found. found))) in
    ap Some c.character_from_code.ensures
    ∙ numbered_ok c.args.radix c.args.digits.now c.from_str_radix.result c.in_ok-code.code no_plus
    c.from_str_radix.ensures.value c.in_ok-code.ensures.value
