-- The leaf has one line.
use Rattle.std.proofs.Common.{ap, sym, ◌∙◌, refl}
use Rattle.md_blocks.specs.Passes.{leaf_of}
use Rattle.md_blocks.specs.Tapes.{entries_of}
use Rattle.md_blocks.proofs.StateLemmas.{alike, only}
use Rattle.md_blocks.proofs.pass.Pass.begin.Goals as goal

pub returns-clause-state : goal.returns-clause-state
returns-clause-state c =
    let p = c.args.self.now in
    let bytes = p.bytes.now in
    let b = c.begin_leaf.new.self in
    let n = c.push_line.new.self in
    alike _ _ (c.in_ok-push_line.ensures.entries bytes
    ∙ ap (λ lines. entries_of bytes lines.items b.tape.items) c.begin_leaf.ensures.lines
    ∙ ap (λ tape. entries_of bytes p.nesting.leaves.lines.items tape.items) c.begin_leaf.ensures.tape)
    (ap (λ stack. stack.items) (c.push_line.ensures.stack ∙ c.begin_leaf.ensures.stack))
    (ap (leaf_of c.args.leaf) (only bytes b.leaves.lines n.leaves.lines.items c.args.line
    b.leaves.start n.leaves.start c.in_ok-push_line.ensures.lines c.push_line.ensures.start
    (c.begin_leaf.ensures.start ∙ ap (λ lines. lines.len) (sym c.begin_leaf.ensures.lines))))
    refl refl
