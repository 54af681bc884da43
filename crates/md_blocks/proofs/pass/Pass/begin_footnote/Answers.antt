-- The label is what follows the caret.
use Rattle.std.proofs.Common.{ℕ, List, ap, sym, ◌∙◌, ◌≡◌, ◌≤◌, ◌+◌, ◌-◌, ◌∷◌, [], length, drop, take, arith, Some}
use Rattle.std.proofs.lemmas.List.{drop-drop}
use Rattle.md_blocks.specs.declared.block.ContainerKind.TheVariants.{FootnoteDefinition}
use Rattle.md_blocks.specs.ContainerBlocks.{container_of}
use Rattle.md_blocks.specs.Entries.{FootnoteBegins}
use Rattle.md_blocks.specs.LeafBlocks.{if_begun}
use Rattle.md_blocks.specs.OwnBlocks.{label_length, label_of, opens_footnote}
use Rattle.md_blocks.specs.Passes.{defined_in, state_of}
use Rattle.md_blocks.specs.Positions.{rest_of}
use Rattle.md_blocks.specs.Rests.{passed, unindented}
use Rattle.md_blocks.specs.States.{State, opened_in, room, with_entries}
use Rattle.md_blocks.specs.Tapes.{text_between}
use Rattle.md_blocks.proofs.LineLemmas.{part_is, text_is}
use Rattle.md_blocks.proofs.pass.Pass.begin_footnote.Goals as goal

abbrev begun : ℕ → ℕ → List ℕ → State → State
begun defined depth text state =
    opened_in (container_of FootnoteDefinition 0 0)
    (with_entries (FootnoteBegins (label_of text) ∷ []) (room defined depth state))

pub returns-in_default-clause-state : goal.returns-in_default-clause-state
returns-in_default-clause-state c =
    let p = c.args.self.now in
    let place = c.args.position.now in
    ap (λ is. if_begun is (begun (defined_in p) c.args.depth (unindented (rest_of place)) (state_of p)))
    (ap opens_footnote (text_is place) ∙ sym c.in_default.ensures.there)

pub returns-clause-state : goal.returns-clause-state
returns-clause-state c =
    let p = c.args.self.now in
    let m = c.make_room.new.self in
    let place = c.args.position.now in
    let line = place.line.now in
    let at = place.text in
    let text = unindented (rest_of place) in
    let label = c.in-Some.label in
    let found = c.in-Some.ensures in
    let count = label_length (drop 2 (drop at line)) in
    let depth = c.args.depth in
    let state = state_of p in
    let within : at + 2 + count ≤ length line = omega (arith, found.within.1, found.end) in
    let label_is : text_between label m.bytes.now ≡ label_of text =
    ap (λ bytes. text_between label bytes.now) c.make_room.ensures.document
    ∙ ap (λ i. drop i (take label.end p.bytes.now)) found.start
    ∙ ap (λ i. drop (at + 2) (take i p.bytes.now)) found.end
    ∙ part_is p.bytes.now line (at + 2) count c.requires.in_document within
    ∙ ap (take count) (sym (drop-drop 2 at line))
    ∙ ap label_of (sym (text_is place)) in
    ap (λ is. if_begun is (begun (defined_in p) depth text state))
    (ap opens_footnote (text_is place) ∙ sym found.there)
    ∙ ap Some (sym (c.in_ok-enter.ensures.state
    ∙ ap (λ one. opened_in one (with_entries (FootnoteBegins (text_between label m.bytes.now) ∷ [])
    (state_of m))) c.open_block-open.ensures
    ∙ ap (λ t. opened_in (container_of FootnoteDefinition 0 0)
    (with_entries (FootnoteBegins t ∷ []) (state_of m))) label_is
    ∙ ap (λ s. opened_in (container_of FootnoteDefinition 0 0)
    (with_entries (FootnoteBegins (label_of text) ∷ []) s)) c.in_ok-make_room.ensures.state))

pub returns-clause-rest : goal.returns-clause-rest
returns-clause-rest c is =
    let place = c.args.position.now in
    let rest = rest_of place in
    let label = c.in-Some.label in
    let found = c.in-Some.ensures in
    let width : label.end + 2 - place.text ≡ label_length (drop 2 (drop place.text place.line.now)) + 4 =
    omega (arith, found.end) in
    c.pass_blanks.ensures.rest ∙ ap (passed 0) (c.pass.ensures.rest ∙ ap (λ n. passed n rest) width
    ∙ ap (λ t. passed (label_length (drop 2 t) + 4) rest) (sym (text_is place)))
