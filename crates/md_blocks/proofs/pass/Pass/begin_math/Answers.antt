-- The fence, and the text after it.
use Rattle.std.proofs.Common.{ap, sym, ◌∙◌, ◌≡◌, ◌∷◌, [], length, drop, take, true, false, Some}
use Rattle.std.specs.Prelude.{if◌then◌else◌}
use Rattle.std.proofs.lemmas.List.{drop-drop}
use Rattle.md_blocks.specs.Leaves.{blanks, opens_math}
use Rattle.md_blocks.specs.Marks.{run_of}
use Rattle.md_blocks.specs.LeafBlocks.{a_line, fence_of, if_begun, line_added}
use Rattle.md_blocks.specs.OwnBlocks.{after_dollars}
use Rattle.md_blocks.specs.Passes.{defined_in, state_of}
use Rattle.md_blocks.specs.Positions.{ending_of, rest_of, text_at}
use Rattle.md_blocks.specs.Rests.{is_none, unindented}
use Rattle.md_blocks.specs.States.{InMath, room, with_leaf}
use Rattle.md_blocks.specs.Tapes.{between}
use Rattle.md_blocks.proofs.Fences.{fence_at}
use Rattle.md_blocks.proofs.LineLemmas.{text_is}
use Rattle.md_blocks.proofs.Resting.{is_none_drop, is_some_drop}
use Rattle.md_blocks.proofs.Trimming.{trimmed}
use Rattle.md_blocks.proofs.pass.Pass.begin_math.Goals as goal

pub returns-in_default-clause-state : goal.returns-in_default-clause-state
returns-in_default-clause-state c =
    let p = c.args.self.now in
    let place = c.args.position.now in
    let rest = rest_of place in
    let content = after_dollars (unindented rest) in
    let line = a_line content (ending_of p.bytes.now place) in
    ap (λ is. if_begun is (with_leaf (InMath (fence_of 36 rest)
    (if is_none content then [] else line ∷ [])) (room (defined_in p) c.args.depth (state_of p))))
    (ap opens_math (text_is place) ∙ sym c.in_default.ensures.there)

pub returns-in_ok-push_line-clause-state : goal.returns-in_ok-push_line-clause-state
returns-in_ok-push_line-clause-state c =
    let p = c.args.self.now in
    let m = c.make_room.new.self in
    let b = c.begin.new.self in
    let place = c.args.position.now in
    let line = place.line.now in
    let at = place.text in
    let rest = rest_of place in
    let text = unindented rest in
    let ending = ending_of p.bytes.now place in
    let fence = c.in-Some.fence in
    let found = c.in-Some.ensures in
    let from = c.run_end-after.result in
    let start = c.trim_start-start.result in
    let defined = defined_in p in
    let made = room defined c.args.depth (state_of p) in
    let one = a_line (after_dollars text) ending in
    let fence_is : fence ≡ fence_of 36 rest =
    fence_at place 36 fence found.mark found.length found.indent in
    let begun_is : state_of b ≡ with_leaf (InMath (fence_of 36 rest) []) made =
    c.in_ok-begin.ensures.state ∙ ap (λ f. with_leaf (InMath f []) (state_of m)) fence_is
    ∙ ap (with_leaf (InMath (fence_of 36 rest) [])) c.in_ok-make_room.ensures.state in
    let trim = c.trim_start-start.ensures in
    let after_is : drop from line ≡ drop (run_of 36 text) text =
    ap (λ i. drop i line) c.run_end-after.ensures.value ∙ sym (drop-drop (run_of 36 (text_at place)) at line)
    ∙ ap (λ t. drop (run_of 36 t) t) (sym (text_is place)) in
    let content_is : drop start line ≡ after_dollars text =
    ap (λ i. drop i line) (trimmed line from start trim.after trim.none_skipped trim.first)
    ∙ sym (drop-drop (blanks (drop from line)) from line)
    ∙ ap (λ t. drop (blanks t) t) after_is in
    let some : is_none (after_dollars text) ≡ false =
    ap is_none (sym content_is) ∙ is_some_drop line start c.if-start-end.true in
    ap (λ is. if_begun is (with_leaf (InMath (fence_of 36 rest)
    (if is_none (after_dollars text) then [] else one ∷ [])) made))
    (ap opens_math (text_is place) ∙ sym found.there)
    ∙ ap Some (sym (c.in_ok-push_line.ensures.state
    ∙ ap (λ bytes. line_added (a_line (between start (length line) bytes.now)
    (take place.ending (drop (length line) bytes.now))) (state_of b))
    (c.begin.ensures.document ∙ c.make_room.ensures.document)
    ∙ ap (λ t. line_added (a_line t ending) (state_of b))
    (ap (drop start) (sym c.requires.in_document) ∙ content_is)
    ∙ ap (line_added one) begun_is
    ∙ ap (λ is. with_leaf (InMath (fence_of 36 rest) (if is then [] else one ∷ [])) made) (sym some)))

pub returns-else-start-end-clause-state : goal.returns-else-start-end-clause-state
returns-else-start-end-clause-state c =
    let p = c.args.self.now in
    let m = c.make_room.new.self in
    let b = c.begin.new.self in
    let place = c.args.position.now in
    let line = place.line.now in
    let at = place.text in
    let rest = rest_of place in
    let text = unindented rest in
    let ending = ending_of p.bytes.now place in
    let fence = c.in-Some.fence in
    let found = c.in-Some.ensures in
    let from = c.run_end-after.result in
    let start = c.trim_start-start.result in
    let defined = defined_in p in
    let made = room defined c.args.depth (state_of p) in
    let one = a_line (after_dollars text) ending in
    let fence_is : fence ≡ fence_of 36 rest =
    fence_at place 36 fence found.mark found.length found.indent in
    let begun_is : state_of b ≡ with_leaf (InMath (fence_of 36 rest) []) made =
    c.in_ok-begin.ensures.state ∙ ap (λ f. with_leaf (InMath f []) (state_of m)) fence_is
    ∙ ap (with_leaf (InMath (fence_of 36 rest) [])) c.in_ok-make_room.ensures.state in
    let trim = c.trim_start-start.ensures in
    let after_is : drop from line ≡ drop (run_of 36 text) text =
    ap (λ i. drop i line) c.run_end-after.ensures.value ∙ sym (drop-drop (run_of 36 (text_at place)) at line)
    ∙ ap (λ t. drop (run_of 36 t) t) (sym (text_is place)) in
    let content_is : drop start line ≡ after_dollars text =
    ap (λ i. drop i line) (trimmed line from start trim.after trim.none_skipped trim.first)
    ∙ sym (drop-drop (blanks (drop from line)) from line)
    ∙ ap (λ t. drop (blanks t) t) after_is in
    let none : is_none (after_dollars text) ≡ true =
    ap is_none (sym content_is) ∙ is_none_drop line start c.if-start-end.false in
    ap (λ is. if_begun is (with_leaf (InMath (fence_of 36 rest)
    (if is_none (after_dollars text) then [] else one ∷ [])) made))
    (ap opens_math (text_is place) ∙ sym found.there)
    ∙ ap Some (sym (begun_is
    ∙ ap (λ is. with_leaf (InMath (fence_of 36 rest) (if is then [] else one ∷ [])) made) (sym none)))
