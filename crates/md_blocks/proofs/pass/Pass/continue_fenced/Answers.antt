-- A closing fence, or a line without the opening fence's indentation.
use Rattle.std.proofs.Common.{ap, sym, ◌∙◌, ◌≡◌, ◌&&◌, nat_lt, true, false}
use Rattle.std.specs.Prelude.{if◌then◌else◌}
use Rattle.std.proofs.Common.{inl, inr}
use Rattle.std.proofs.lemmas.Result.{on_ok_weaker}
use Rattle.md_blocks.specs.LeafBlocks.{a_line, line_added}
use Rattle.md_blocks.specs.Leaves.{closes_fence}
use Rattle.md_blocks.specs.Passes.{defined_in, leaf_of, leaf_lines, state_of}
use Rattle.md_blocks.specs.Positions.{ending_of, rest_of}
use Rattle.md_blocks.specs.Rests.{indent, skipped, unindented}
use Rattle.md_blocks.specs.States.{is_in_paragraph, leaf_closed}
use Rattle.md_blocks.proofs.LineLemmas.{closes_is, is_in_after, skipped_line}
use Rattle.md_blocks.proofs.StateLemmas.{closed_alike}
use Rattle.md_blocks.proofs.pass.Pass.continue_fenced.Goals as goal

pub returns-then-is_closed_by-clause-state : goal.returns-then-is_closed_by-clause-state
returns-then-is_closed_by-clause-state c =
    let p = c.args.self.now in
    let place = c.args.position.now in
    let fence = c.args.fence in
    let state = state_of p in
    let line = a_line (skipped fence.indent (rest_of place)).text (ending_of p.bytes.now place) in
    let fenced : is_in_paragraph (leaf_of p.leaf (leaf_lines p)) ≡ false = elim c.requires.is_fenced [
      | inl is ↦ ap (λ l. is_in_paragraph (leaf_of l (leaf_lines p))) is
      | inr is ↦ ap (λ l. is_in_paragraph (leaf_of l (leaf_lines p))) is
    ] in
    let closes : (nat_lt (indent (rest_of place)) 4
    && closes_fence fence.mark fence.length (unindented (rest_of place))) ≡ true =
    sym (closes_is place fence.mark fence.length) ∙ sym c.is_closed_by.ensures ∙ c.if-is_closed_by.true in
    on_ok_weaker c.close_leaf.result (λ is. is
    ∙ closed_alike p.leaf (leaf_lines p) state (defined_in p) 0 fenced
    ∙ ap (λ b. if b then leaf_closed 0 state else line_added line state) (sym closes))
    c.close_leaf.ensures.state

pub returns-clause-state : goal.returns-clause-state
returns-clause-state c =
    let p = c.args.self.now in
    let place = c.args.position.now in
    let after = c.advance.new.self in
    let fence = c.args.fence in
    let state = state_of p in
    let line = a_line (skipped fence.indent (rest_of place)).text (ending_of p.bytes.now place) in
    let closes : (nat_lt (indent (rest_of place)) 4
    && closes_fence fence.mark fence.length (unindented (rest_of place))) ≡ false =
    sym (closes_is place fence.mark fence.length) ∙ sym c.is_closed_by.ensures ∙ c.if-is_closed_by.false in
    c.in_ok-push_line.ensures.state
    ∙ ap (λ l. line_added l state) (c.rest.ensures.line p.bytes.now
    (is_in_after p.bytes.now place after c.advance.ensures.line c.requires.in_document)
    ∙ skipped_line p.bytes.now place after fence.indent c.advance.ensures.line
    c.advance.ensures.ending c.advance.ensures.rest)
    ∙ ap (λ b. if b then leaf_closed 0 state else line_added line state) (sym closes)
