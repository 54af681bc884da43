-- A line of HTML, which may end it.
use Rattle.std.proofs.Common.{ap, sym, ◌∙◌, ◌≡◌, ◌&&◌, true, false, not, Bool, Some}
use Rattle.std.specs.Prelude.{if◌then◌else◌}
use Rattle.std.proofs.lemmas.List.{take_rest}
use Rattle.md_blocks.specs.HtmlBlocks.{ends_at_blank_line, is_html_end}
use Rattle.md_blocks.specs.LeafBlocks.{a_line, if_begun, line_added}
use Rattle.md_blocks.specs.Passes.{defined_in, leaf_of, leaf_lines, state_of}
use Rattle.md_blocks.specs.Positions.{ending_of, rest_of}
use Rattle.md_blocks.specs.Rests.{is_blank_rest}
use Rattle.md_blocks.specs.States.{State, is_in_paragraph, leaf_closed}
use Rattle.md_blocks.proofs.Somewhere.{ends_alike}
use Rattle.md_blocks.proofs.StateLemmas.{closed_alike}
use Rattle.md_blocks.proofs.pass.Pass.continue_html.Goals as goal
use Rattle.md_blocks.proofs.pass.Pass.continue_html.Goals.{else-is_blank-via-then-is_blank+else-ends_at_blank_line}
use Rattle.md_blocks.proofs.pass.Pass.continue_html.Goals.{else-is_blank-via-else-is_blank}

abbrev after : Bool → State → State
after ends longer = if ends then leaf_closed 0 longer else longer

pub returns-in_ok-close_leaf-clause-state : goal.returns-in_ok-close_leaf-clause-state
returns-in_ok-close_leaf-clause-state c =
    let p = c.args.self.now in
    let q = c.push_line.new.self in
    let kind = c.args.kind in
    let place = c.args.position.now in
    let rest = rest_of place in
    let longer = line_added (a_line rest.text (ending_of p.bytes.now place)) (state_of p) in
    let ends = is_html_end kind rest.text in
    let goes_on : not (is_blank_rest rest && ends_at_blank_line kind) ≡ true = elim c.else-is_blank.branch [
      | else-is_blank-via-then-is_blank+else-ends_at_blank_line w ↦
          ap (λ b. not (b && ends_at_blank_line kind)) (sym c.is_blank.ensures ∙ w.if-is_blank.true)
          ∙ ap not (sym w.ends_at_blank_line.ensures ∙ w.if-ends_at_blank_line.false)
      | else-is_blank-via-else-is_blank w ↦
          ap (λ b. not (b && ends_at_blank_line kind)) (sym c.is_blank.ensures ∙ w.if-is_blank.false)
    ] in
    let ended : ends ≡ true =
    sym (ends_alike kind place.line.now place.at place.column place.is_in_tab place.in_tab)
    ∙ ap (is_html_end kind) (sym (take_rest place.line.now place.at))
    ∙ sym c.is_ended_by.ensures ∙ c.if-is_ended_by.true in
    let is_html : is_in_paragraph (leaf_of q.leaf (leaf_lines q)) ≡ false =
    ap (λ l. is_in_paragraph (leaf_of l (leaf_lines q))) (c.push_line.ensures.leaf ∙ c.requires.is_html) in
    ap (λ on. if_begun on (after ends longer)) goes_on
    ∙ ap (λ is. Some (after is longer)) ended
    ∙ ap Some (sym (c.in_ok-close_leaf.ensures.state
    ∙ closed_alike q.leaf (leaf_lines q) (state_of q) (defined_in q) 0 is_html
    ∙ ap (leaf_closed 0) (c.in_ok-push_line.ensures.state
    ∙ ap (λ l. line_added l (state_of p)) (c.rest.ensures.line p.bytes.now c.requires.in_document))))

pub returns-else-is_ended_by-clause-state : goal.returns-else-is_ended_by-clause-state
returns-else-is_ended_by-clause-state c =
    let p = c.args.self.now in
    let kind = c.args.kind in
    let place = c.args.position.now in
    let rest = rest_of place in
    let longer = line_added (a_line rest.text (ending_of p.bytes.now place)) (state_of p) in
    let ends = is_html_end kind rest.text in
    let goes_on : not (is_blank_rest rest && ends_at_blank_line kind) ≡ true = elim c.else-is_blank.branch [
      | else-is_blank-via-then-is_blank+else-ends_at_blank_line w ↦
          ap (λ b. not (b && ends_at_blank_line kind)) (sym c.is_blank.ensures ∙ w.if-is_blank.true)
          ∙ ap not (sym w.ends_at_blank_line.ensures ∙ w.if-ends_at_blank_line.false)
      | else-is_blank-via-else-is_blank w ↦
          ap (λ b. not (b && ends_at_blank_line kind)) (sym c.is_blank.ensures ∙ w.if-is_blank.false)
    ] in
    let ended : ends ≡ false =
    sym (ends_alike kind place.line.now place.at place.column place.is_in_tab place.in_tab)
    ∙ ap (is_html_end kind) (sym (take_rest place.line.now place.at))
    ∙ sym c.is_ended_by.ensures ∙ c.if-is_ended_by.false in
    ap (λ on. if_begun on (after ends longer)) goes_on
    ∙ ap (λ is. Some (after is longer)) ended
    ∙ ap Some (sym (c.in_ok-push_line.ensures.state
    ∙ ap (λ l. line_added l (state_of p)) (c.rest.ensures.line p.bytes.now c.requires.in_document)))
