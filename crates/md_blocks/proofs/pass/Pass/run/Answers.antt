-- The lines after front matter or a byte order mark are read, and what is open is closed.
use Rattle.std.proofs.Common.{ap, ◌∙◌, sym, drop}
use Rattle.md_blocks.specs.Documents.{lines_of, lines_read}
use Rattle.md_blocks.specs.Passes.{state_of}
use Rattle.md_blocks.proofs.DocumentLemmas.{document_closed}
use Rattle.md_blocks.proofs.pass.Pass.run.Goals as goal

pub returns-clause-state : goal.returns-clause-state
returns-clause-state c first =
    let p = c.args.self.now in
    let f = c.read_front_matter.new.self in
    let from = c.in_ok-from.from in
    document_closed c.close_unmatched.result (state_of c.close_unmatched.new.self)
    (state_of c.read_lines.new.self) p.options.now p.bytes.now (c.in_ok-read_lines.ensures.state
    ∙ ap (λ o. lines_read o.now (lines_of (drop from f.bytes.now)) (state_of f))
    c.read_front_matter.ensures.options
    ∙ ap (λ b. lines_read p.options.now (lines_of (drop from b.now)) (state_of f))
    c.read_front_matter.ensures.document
    ∙ ap (λ b. lines_read p.options.now b.lines b.state)
    (sym (c.in_ok-from.ensures.state first))) c.close_unmatched.ensures.state
