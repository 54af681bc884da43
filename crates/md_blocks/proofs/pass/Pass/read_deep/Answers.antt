-- A paragraph goes on, or code is read.
use Rattle.std.proofs.Common.{ap, sym, ◌∙◌}
use Rattle.std.specs.Prelude.{if◌then◌else◌}
use Rattle.std.proofs.lemmas.Result.{on_ok_weaker}
use Rattle.md_blocks.specs.LeafBlocks.{a_line, indented_read, text_read}
use Rattle.md_blocks.specs.Passes.{defined_in, leaf_lines, state_of}
use Rattle.md_blocks.specs.Positions.{ending_of, rest_of}
use Rattle.md_blocks.specs.Rests.{unindented}
use Rattle.md_blocks.proofs.LineLemmas.{text_is}
use Rattle.md_blocks.proofs.pass.Pass.read_deep.Goals as goal

pub returns-then-not-is_paragraph-clause-state : goal.returns-then-not-is_paragraph-clause-state
returns-then-not-is_paragraph-clause-state c =
    let p = c.args.self.now in
    let place = c.args.position.now in
    let rest = rest_of place in
    let depth = c.args.depth in
    let whole = c.args.is_whole in
    let ending = ending_of p.bytes.now place in
    let defined = defined_in p in
    let line = a_line (unindented rest) ending in
    on_ok_weaker c.read_indented.result (λ read. read
    ∙ ap (λ so. if so then text_read defined depth whole line (state_of p)
    else indented_read depth whole rest ending (state_of p))
    (sym (sym (c.is_paragraph.ensures.state (leaf_lines p)) ∙ c.if-not-is_paragraph.true)))
    c.read_indented.ensures.state

pub returns-clause-state : goal.returns-clause-state
returns-clause-state c =
    let p = c.args.self.now in
    let place = c.args.position.now in
    let rest = rest_of place in
    let depth = c.args.depth in
    let whole = c.args.is_whole in
    let ending = ending_of p.bytes.now place in
    let defined = defined_in p in
    let line = a_line (unindented rest) ending in
    on_ok_weaker c.read_text.result (λ read. read
    ∙ ap (λ t. text_read defined depth whole (a_line t ending) (state_of p)) (sym (text_is place))
    ∙ ap (λ so. if so then text_read defined depth whole line (state_of p)
    else indented_read depth whole rest ending (state_of p))
    (sym (sym (c.is_paragraph.ensures.state (leaf_lines p)) ∙ c.if-not-is_paragraph.false)))
    c.read_text.ensures.state
