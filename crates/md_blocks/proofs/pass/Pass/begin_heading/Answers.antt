-- The content follows the number signs.
use Rattle.std.proofs.Common.{ℕ, List, ap, sym, ◌∙◌, ◌≡◌, ◌≤◌, ◌+◌, ◌-◌, ◌∷◌, [], drop, take}
use Rattle.std.proofs.Common.{length, arith, subst, Some}
use Rattle.std.proofs.lemmas.List.{drop-drop, length-drop, take_rest}
use Rattle.md_blocks.specs.Marks.{run_of}
use Rattle.md_blocks.specs.Leaves.{blanks, heading_content}
use Rattle.md_blocks.specs.Entries.{Entry, Heading}
use Rattle.md_blocks.specs.States.{room, with_entries}
use Rattle.md_blocks.specs.LeafBlocks.{a_line, if_begun}
use Rattle.md_blocks.specs.Passes.{defined_in, state_of}
use Rattle.md_blocks.specs.Positions.{text_at}
use Rattle.md_blocks.specs.Tapes.{text_between}
use Rattle.md_blocks.proofs.LineLemmas.{content_begins, part_is}
use Rattle.md_blocks.proofs.pass.Pass.begin_heading.Goals as goal

abbrev entry : ℕ → List ℕ → Entry
entry level content = Heading level (a_line (drop (blanks content) content) [] ∷ [])

pub returns-clause-state : goal.returns-clause-state
returns-clause-state c =
    let p = c.args.self.now in
    let m = c.make_room.new.self in
    let line = c.args.position.now.line.now in
    let at = c.args.position.now.text in
    let text = text_at c.args.position.now in
    let marks = c.in-Some.marks in
    let found = c.in-Some.ensures in
    let span = c.new.result in
    let content = c.heading_content-content.result.now in
    let inside = heading_content (drop (run_of 35 text) text) in
    let made = room (defined_in p) c.args.depth (state_of p) in
    let level : marks.end - marks.start ≡ run_of 35 text = omega (arith, found.start, found.end) in
    let to : marks.start + (marks.end - marks.start) ≡ marks.end = omega (arith, marks.in_order) in
    let after : drop marks.end line ≡ drop (run_of 35 text) text =
    ap (λ i. drop i line) found.end ∙ sym (drop-drop (run_of 35 text) at line) in
    let content_is : content ≡ heading_content (drop marks.end line) =
    c.heading_content-content.ensures.value ∙ ap heading_content (take_rest line marks.end) in
    let few : length content ≤ length (drop marks.end line) =
    subst (λ those. length content ≤ length those) (take_rest line marks.end)
    c.heading_content-content.ensures.within in
    let within : marks.end + length content ≤ length line =
    omega (arith, few, found.within, length-drop marks.end line) in
    let end : span.end ≡ marks.end + length content =
    omega (arith, c.new.ensures.end, marks.in_order) in
    let whole : drop (marks.end - marks.start) (text_between span m.bytes.now) ≡ inside =
    ap (λ bytes. drop (marks.end - marks.start) (text_between span bytes.now)) c.make_room.ensures.document
    ∙ drop-drop (marks.end - marks.start) span.start (take span.end p.bytes.now)
    ∙ ap (λ i. drop (i + (marks.end - marks.start)) (take span.end p.bytes.now)) c.new.ensures.start
    ∙ ap (λ i. drop i (take span.end p.bytes.now)) to
    ∙ ap (λ i. drop marks.end (take i p.bytes.now)) end
    ∙ part_is p.bytes.now line marks.end (length content) c.requires.in_document within
    ∙ ap (λ those. take (length those) (drop marks.end line)) content_is
    ∙ sym (content_begins (drop marks.end line))
    ∙ ap heading_content after in
    ap (λ is. if_begun is (with_entries (entry (run_of 35 text) inside ∷ []) made)) (sym found.there)
    ∙ ap Some (sym (c.in_ok-put.ensures.state
    ∙ ap (λ l. with_entries (entry l (drop (marks.end - marks.start) (text_between span m.bytes.now)) ∷ []) (state_of m)) level
    ∙ ap (λ those. with_entries (entry (run_of 35 text) those ∷ []) (state_of m)) whole
    ∙ ap (with_entries (entry (run_of 35 text) inside ∷ [])) c.in_ok-make_room.ensures.state))
