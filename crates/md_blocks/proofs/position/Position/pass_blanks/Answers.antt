-- The rest is that of the text, before which no space and no tab is left.
use Rattle.std.proofs.Common.{ap, sym, ◌∙◌, ◌+◌, drop, add-zero, arith, false}
use Rattle.std.proofs.lemmas.Bool.{false≢true}
use Rattle.md_blocks.specs.Rests.{rest_at, unindented}
use Rattle.md_blocks.specs.Positions.{rest_of}
use Rattle.md_blocks.proofs.Resting.{blanks_at, none_left, unindented_is}
use Rattle.md_blocks.proofs.position.Position.pass_blanks.Goals as goal

pub invariant_of-self : goal.invariant_of-self
invariant_of-self c =
    let p = c.args.self.now in
    let none = blanks_at p.line.now p.at p.text p.text_there in
    record {
      before_text = omega arith;
      in_line = p.in_line;
      short = p.short;
      few = omega (arith, p.few);
      in_tab = λ is. absurd (false≢true is);
      indents = sym (none_left p.line.now p.text (p.column + p.indent) false none
          (λ is. absurd (false≢true is)));
      text_there = omega (arith, none);
      part_of_tab = λ is. absurd (false≢true is);
    }

pub returns-clause-rest : goal.returns-clause-rest
returns-clause-rest c =
    let p = c.args.self.now in
    ap (λ n. rest_at n (drop p.text p.line.now)) (sym (add-zero (p.column + p.indent)))
    ∙ ap (λ text. rest_at (p.column + p.indent + 0) text)
    (sym (unindented_is p.line.now p.at p.column p.text p.is_in_tab p.text_there p.in_tab))
    ∙ ap (λ n. rest_at (p.column + n + 0) (unindented (rest_of p))) p.indents
