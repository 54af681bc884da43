-- The fence, and the first word after it.
use Rattle.std.proofs.Common.{ap, sym, ◌∙◌, ◌≡◌, ◌≤◌, [], length, drop, arith, Some}
use Rattle.std.proofs.lemmas.List.{drop-drop}
use Rattle.md_blocks.specs.Leaves.{opens_code}
use Rattle.md_blocks.specs.Marks.{run_of}
use Rattle.md_blocks.specs.LeafBlocks.{fence_of, first_word, if_begun}
use Rattle.md_blocks.specs.Passes.{defined_in, state_of}
use Rattle.md_blocks.specs.Positions.{rest_of, text_at}
use Rattle.md_blocks.specs.Rests.{unindented}
use Rattle.md_blocks.specs.States.{InFenced, room, with_leaf}
use Rattle.md_blocks.specs.Tapes.{text_between, text_of_line}
use Rattle.md_blocks.proofs.Fences.{fence_at}
use Rattle.md_blocks.proofs.LineLemmas.{text_is, word_is}
use Rattle.md_blocks.proofs.pass.Pass.begin_fenced.Goals as goal

pub returns-clause-state : goal.returns-clause-state
returns-clause-state c =
    let p = c.args.self.now in
    let m = c.make_room.new.self in
    let place = c.args.position.now in
    let mark = c.args.mark in
    let line = place.line.now in
    let at = place.text in
    let rest = rest_of place in
    let text = unindented rest in
    let state = state_of p in
    let fence = c.in-Some.fence in
    let found = c.in-Some.ensures in
    let info = c.first_word-info.result in
    let from = c.run_end.result in
    let defined = defined_in p in
    let made = room defined c.args.depth state in
    let fence_is : fence ≡ fence_of mark rest =
    fence_at place mark fence found.mark found.length found.indent in
    let after : drop from line ≡ drop (run_of mark text) text =
    ap (λ i. drop i line) c.run_end.ensures.value ∙ sym (drop-drop (run_of mark (text_at place)) at line)
    ∙ ap (λ t. drop (run_of mark t) t) (sym (text_is place)) in
    let inside : from ≤ length line = omega (arith, c.run_end.ensures.within, place.in_line) in
    let word : text_of_line m.bytes.now c.part.result ≡ first_word (drop (run_of mark text) text) =
    c.part.ensures.text m.bytes.now
    ∙ ap (λ bytes. text_between info bytes.now) c.make_room.ensures.document
    ∙ word_is p.bytes.now line from info.start info.end c.requires.in_document inside
    c.first_word-info.ensures.start c.first_word-info.ensures.end
    ∙ ap first_word after in
    ap (λ is. if_begun is (with_leaf (InFenced (fence_of mark rest) (first_word (drop (run_of mark text) text)) []) made))
    (ap (opens_code mark) (text_is place) ∙ sym found.there)
    ∙ ap Some (sym (c.in_ok-begin.ensures.state
    ∙ ap (λ t. with_leaf (InFenced fence t []) (state_of m)) word
    ∙ ap (λ f. with_leaf (InFenced f (first_word (drop (run_of mark text) text)) []) (state_of m)) fence_is
    ∙ ap (with_leaf (InFenced (fence_of mark rest) (first_word (drop (run_of mark text) text)) []))
    c.in_ok-make_room.ensures.state))

pub returns-in_default-clause-state : goal.returns-in_default-clause-state
returns-in_default-clause-state c =
    let place = c.args.position.now in
    let mark = c.args.mark in
    let rest = rest_of place in
    let text = unindented rest in
    ap (λ is. if_begun is (with_leaf (InFenced (fence_of mark rest) (first_word (drop (run_of mark text) text)) [])
    (room (defined_in c.args.self.now) c.args.depth (state_of c.args.self.now))))
    (ap (opens_code mark) (text_is place) ∙ sym c.in_default.ensures.there)
