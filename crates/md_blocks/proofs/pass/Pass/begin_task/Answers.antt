-- The text after the box is a paragraph, if there is any.
use Rattle.std.proofs.Common.{Bool, ap, sym, ◌∙◌, ◌≡◌, ◌==◌, ◌∷◌, [], get_or, not}
use Rattle.std.specs.Prelude.{if◌then◌else◌}
use Rattle.md_blocks.specs.Entries.{Task}
use Rattle.md_blocks.specs.LeafBlocks.{a_line}
use Rattle.md_blocks.specs.Passes.{state_of}
use Rattle.md_blocks.specs.Positions.{ending_of, rest_of}
use Rattle.md_blocks.specs.Rests.{is_blank_rest, passed, unindented}
use Rattle.md_blocks.specs.States.{State, InParagraph, with_a_child, with_entries, with_leaf}
use Rattle.md_blocks.specs.Tapes.{line_of}
use Rattle.md_blocks.proofs.LineLemmas.{is_in_after, text_is}
use Rattle.md_blocks.proofs.Markers.{later_text}
use Rattle.md_blocks.proofs.pass.Pass.begin_task.Goals as goal
use Rattle.md_blocks.proofs.pass.Pass.begin_task.Goals.{then-not-is_blank+in_ok-begin}
use Rattle.md_blocks.proofs.pass.Pass.begin_task.Goals.{else-not-is_blank}

abbrev either : Bool → State → State → State
either is one other = if is then one else other

pub returns-clause-state : goal.returns-clause-state
returns-clause-state c =
    let p = c.args.self.now in
    let n = c.note_child.new.self in
    let place = c.args.position.now in
    let q = c.pass.new.self in
    let rest = rest_of place in
    let left = passed 3 rest in
    let state = state_of p in
    let done = not (get_or (unindented rest) 1 0 == 32) in
    let begun = with_a_child (with_entries (Task done ∷ []) state) in
    let line = a_line (unindented left) (ending_of p.bytes.now place) in
    let paragraph = with_leaf (InParagraph (line ∷ [])) begun in
    let done_is : c.args.is_checked ≡ done =
    c.requires.done ∙ ap (λ t. not (get_or t 1 0 == 32)) (sym (text_is place)) in
    let begun_is : state_of n ≡ begun =
    c.note_child.ensures.state ∙ ap with_a_child (c.in_ok-put.ensures.state
    ∙ ap (λ d. with_entries (Task d ∷ []) state) done_is) in
    let blank_is = c.is_blank.ensures ∙ ap is_blank_rest c.pass.ensures.rest in
    elim c.if-not-is_blank.branch [
      | then-not-is_blank+in_ok-begin w ↦
          ap state_of w.self-is ∙ w.in_ok-begin.ensures.state
          ∙ ap (λ bytes. with_leaf (InParagraph (line_of bytes.now w.text_line.result ∷ [])) (state_of n))
          (c.note_child.ensures.document ∙ c.put.ensures.document)
          ∙ ap (λ l. with_leaf (InParagraph (l ∷ [])) (state_of n))
          (w.text_line.ensures.line p.bytes.now
          (is_in_after p.bytes.now place q c.pass.ensures.line c.requires.in_document)
          ∙ later_text p.bytes.now place q left c.pass.ensures.line c.pass.ensures.ending c.pass.ensures.rest)
          ∙ ap (with_leaf (InParagraph (line ∷ []))) begun_is
          ∙ ap (λ is. either is begun paragraph) (sym w.if-not-is_blank.true ∙ blank_is)
      | else-not-is_blank w ↦
          ap state_of w.self-is ∙ begun_is
          ∙ ap (λ is. either is begun paragraph) (sym w.if-not-is_blank.false ∙ blank_is)
    ]
