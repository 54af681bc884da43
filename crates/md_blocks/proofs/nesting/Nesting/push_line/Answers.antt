-- No entry of the tape has the line that is pushed.
use Rattle.std.proofs.Common.{ap, subst, ◌∙◌, [], ◌∷◌}
use Rattle.std.specs.List.{All}
use Rattle.md_blocks.specs.Tapes.{entries_of}
use Rattle.md_blocks.proofs.Written.{Kept, same_entries}
use Rattle.md_blocks.proofs.nesting.Nesting.push_line.Goals as goal

pub returns-clause-entries : goal.returns-clause-entries
returns-clause-entries c = λ bytes.
    let n = c.args.self.now in
    let lines = n.leaves.lines in
    ap (λ those. entries_of bytes those n.tape.items) c.in_ok-push.ensures.items
    ∙ same_entries bytes lines.items (c.args.line ∷ []) n.tape.items
    (subst (λ count. All (Kept count) n.tape.items) lines.ok.0 n.kept)
