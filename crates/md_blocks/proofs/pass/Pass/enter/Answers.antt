-- The beginning of the container is the last entry.
use Rattle.std.proofs.Common.{ap, ◌∙◌, refl, map, drop}
use Rattle.md_blocks.specs.Passes.{leaf_of}
use Rattle.md_blocks.specs.Tapes.{line_of, entries_of}
use Rattle.md_blocks.proofs.StateLemmas.{alike, appended}
use Rattle.md_blocks.proofs.pass.Pass.enter.Goals as goal

pub returns-clause-state : goal.returns-clause-state
returns-clause-state c =
    let p = c.args.self.now in
    let bytes = p.bytes.now in
    let n = c.enter.new.self in
    alike _ _ (ap (λ leaves. entries_of bytes leaves.lines.items n.tape.items) c.enter.ensures.leaves
    ∙ appended bytes p.nesting.leaves.lines.items p.nesting.tape.items n.tape.items c.args.block
    c.in_ok-enter.ensures.tape)
    c.in_ok-enter.ensures.stack
    (ap (λ leaves. leaf_of p.leaf (map (line_of bytes) (drop leaves.start leaves.lines.items)))
    c.enter.ensures.leaves) refl refl
