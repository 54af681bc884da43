-- The rank's digit.
use Rattle.std.proofs.Common.{◌++◌, ap, sym, ◌∙◌, arith}
use Rattle.std.specs.Prelude.{codes, if◌then◌else◌}
use Rattle.std.proofs.lemmas.Fmt.{decimal_digit}
use Rattle.md_meaning.specs.Meaning.Blocks.{heading_tag}
use Rattle.md_printer.proofs.headings.setext_end.Goals as goal

pub returns-then-dashed : goal.returns-then-dashed
returns-then-dashed c =
    ap (λ d. codes "</h" ++ (d ++ codes ">")) (sym (decimal_digit 2 (omega arith)))
    ∙ ap (λ b. heading_tag (codes "</h") (if b then 2 else 1)) (sym c.if-dashed.true)

pub returns-else-dashed : goal.returns-else-dashed
returns-else-dashed c =
    ap (λ d. codes "</h" ++ (d ++ codes ">")) (sym (decimal_digit 1 (omega arith)))
    ∙ ap (λ b. heading_tag (codes "</h") (if b then 2 else 1)) (sym c.if-dashed.false)
