-- Indented code goes on, or begins.
use Rattle.std.proofs.Common.{Bool, ap, sym, ◌∙◌, ◌≡◌, ◌&&◌, [], ◌∷◌, true, false}
use Rattle.std.specs.Prelude.{if◌then◌else◌}
use Rattle.std.proofs.lemmas.Result.{on_ok_weaker}
use Rattle.md_blocks.specs.LeafBlocks.{a_line, is_indented, line_added}
use Rattle.md_blocks.specs.Passes.{defined_in, leaf_lines, state_of}
use Rattle.md_blocks.specs.Positions.{ending_of, rest_of}
use Rattle.md_blocks.specs.Rests.{skipped}
use Rattle.md_blocks.specs.Tapes.{line_of}
use Rattle.md_blocks.specs.Entries.{Line}
use Rattle.md_blocks.specs.States.{State, InIndented, room, with_leaf, without_blank}
use Rattle.md_blocks.proofs.LineLemmas.{is_in_after, skipped_line}
use Rattle.md_blocks.proofs.StateLemmas.{room_alike}
use Rattle.md_blocks.proofs.pass.Pass.read_indented.Goals as goal
use Rattle.md_blocks.proofs.pass.Pass.read_indented.Goals.{else-is_whole-via-then-is_whole+else-is_indented}
use Rattle.md_blocks.proofs.pass.Pass.read_indented.Goals.{else-is_whole-via-else-is_whole}

-- the two states after the line, by whether it goes on with indented code
abbrev after : Bool → Line → State → State → State
after goes_on line state made =
    without_blank (if goes_on then line_added line state
    else with_leaf (InIndented (line ∷ [])) made)

pub returns-then-is_indented-clause-state : goal.returns-then-is_indented-clause-state
returns-then-is_indented-clause-state c =
    let p = c.args.self.now in
    let place = c.args.position.now in
    let skip = c.advance.new.self in
    let state = state_of p in
    let line = a_line (skipped 4 (rest_of place)).text (ending_of p.bytes.now place) in
    let line_is = c.rest-line.ensures.line p.bytes.now
    (is_in_after p.bytes.now place skip c.advance.ensures.line c.requires.in_document)
    ∙ skipped_line p.bytes.now place skip 4 c.advance.ensures.line c.advance.ensures.ending
    c.advance.ensures.rest in
    let goes_on : (c.args.is_whole && is_indented state.leaf) ≡ true =
    ap (λ whole. whole && is_indented state.leaf) c.if-is_whole.true
    ∙ sym (c.is_indented.ensures.state (leaf_lines p)) ∙ c.if-is_indented.true in
    on_ok_weaker c.push_line.result (λ is. is
    ∙ ap (λ l. line_added l (without_blank state)) line_is
    ∙ ap (λ on. after on line state (room 0 c.args.depth state)) (sym goes_on))
    c.push_line.ensures.state

pub returns-clause-state : goal.returns-clause-state
returns-clause-state c =
    let p = c.args.self.now in
    let m = c.make_room.new.self in
    let place = c.args.position.now in
    let skip = c.advance.new.self in
    let state = state_of p in
    let line = a_line (skipped 4 (rest_of place)).text (ending_of p.bytes.now place) in
    let made = room 0 c.args.depth state in
    let line_is = c.rest-line.ensures.line p.bytes.now
    (is_in_after p.bytes.now place skip c.advance.ensures.line c.requires.in_document)
    ∙ skipped_line p.bytes.now place skip 4 c.advance.ensures.line c.advance.ensures.ending
    c.advance.ensures.rest in
    let none : (c.args.is_whole && is_indented state.leaf) ≡ false = elim c.else-is_whole.branch [
      | else-is_whole-via-then-is_whole+else-is_indented w ↦
          ap (λ whole. whole && is_indented state.leaf) w.if-is_whole.true
          ∙ sym (w.is_indented.ensures.state (leaf_lines p)) ∙ w.if-is_indented.false
      | else-is_whole-via-else-is_whole w ↦
          ap (λ whole. whole && is_indented state.leaf) w.if-is_whole.false
    ] in
    on_ok_weaker c.begin.result (λ is. is
    ∙ ap (λ bytes. with_leaf (InIndented (line_of bytes.now c.rest-line.result ∷ [])) (without_blank (state_of m)))
    c.make_room.ensures.document
    ∙ ap (λ l. with_leaf (InIndented (l ∷ [])) (without_blank (state_of m))) line_is
    ∙ ap (λ s. with_leaf (InIndented (line ∷ [])) (without_blank s)) (c.in_ok-make_room.ensures.state
    ∙ room_alike p.leaf (leaf_lines p) state (defined_in p) 0 c.args.depth c.requires.no_paragraph)
    ∙ ap (λ on. after on line state made) (sym none)) c.begin.ensures.state
