-- The leaf begins after its definitions.
use Rattle.std.proofs.Common.{◌∙◌, ap, take, drop, sym, arith}
use Rattle.std.proofs.lemmas.Bool.{false≢true}
use Rattle.md_blocks.specs.Tapes.{are_whole}
use Rattle.md_blocks.specs.LinkDefinitions.{defined_from}
use Rattle.md_blocks.specs.Passes.{texts_from}
use Rattle.md_blocks.proofs.LinkLemmas.{moved_by, whole_later, whole_texts}
use Rattle.md_blocks.proofs.pass.Pass.take_definitions.Goals as goal

pub returns-clause-defined : goal.returns-clause-defined
returns-clause-defined c =
    let pass = c.args.self.now in
    let start = pass.nesting.leaves.start in
    moved_by start _ c.in_ok-start.start _ c.begin_leaf_at.ensures.start c.in_ok-start.ensures.value
    ∙ ap (λ lines. defined_from 0 (texts_from pass.bytes.now (take c.args.end lines) start))
    c.deref.ensures.value

pub returns-clause-whole : goal.returns-clause-whole
returns-clause-whole c whole =
    let pass = c.args.self.now in
    let leaves = pass.nesting.leaves in
    ap (defined_from 0) (whole_texts pass.bytes.now
    (drop leaves.start (take c.args.end leaves.lines.items)) whole)

pub invariant_of-self-2 : goal.invariant_of-self-2
invariant_of-self-2 c =
    let p = c.args.self.now in
    let leaves = p.nesting.leaves in
    let later = c.begin_leaf_at.new.self.leaves in
    record {
      short = p.short;
      info = λ is. absurd (false≢true (sym c.requires.no_info ∙ is));
      whole = λ is. ap (λ n. are_whole (drop n later.lines.items)) c.begin_leaf_at.ensures.start
          ∙ ap (λ those. are_whole (drop c.in_ok-start.start those.items)) c.begin_leaf_at.ensures.lines
          ∙ whole_later leaves.start c.in_ok-start.start leaves.lines.items
          (omega (arith, c.in_ok-start.ensures.after)) (p.whole is);
    }
