-- Which HTML begins, and whether its first line ends it.
use Rattle.std.proofs.Common.{ap, sym, ◌∙◌, ◌≡◌, [], ◌∷◌, true, false, not, Some}
use Rattle.std.proofs.lemmas.List.{take_rest}
use Rattle.md_blocks.specs.HtmlBlocks.{is_html_end}
use Rattle.md_blocks.specs.LeafBlocks.{a_line, html_begun, html_ended, kind_begun}
use Rattle.md_blocks.specs.Passes.{defined_in, leaf_of, leaf_lines, state_of}
use Rattle.md_blocks.specs.Positions.{ending_of, rest_of, text_at}
use Rattle.md_blocks.specs.Rests.{unindented}
use Rattle.md_blocks.specs.States.{InHtml, is_in_paragraph, leaf_closed, room, with_leaf}
use Rattle.md_blocks.specs.Tapes.{line_of}
use Rattle.md_blocks.proofs.LineLemmas.{text_is}
use Rattle.md_blocks.proofs.StateLemmas.{closed_alike}
use Rattle.md_blocks.proofs.pass.Pass.begin_html.Goals as goal

pub returns-in_ok-close_leaf-clause-state : goal.returns-in_ok-close_leaf-clause-state
returns-in_ok-close_leaf-clause-state c =
    let p = c.args.self.now in
    let m = c.make_room.new.self in
    let b = c.begin.new.self in
    let place = c.args.position.now in
    let rest = rest_of place in
    let ending = ending_of p.bytes.now place in
    let kind = c.in-Some.kind in
    let rested = take_rest place.line.now place.text in
    let defined = defined_in p in
    let line = a_line rest.text ending in
    let begun = with_leaf (InHtml kind (line ∷ [])) (room defined c.args.depth (state_of p)) in
    let kinds : kind_begun (not c.args.in_paragraph) (text_at place) ≡ Some kind =
    ap (kind_begun (not c.args.in_paragraph)) (sym rested) ∙ sym c.in-Some.ensures.value in
    let ended : is_html_end kind (unindented rest) ≡ true =
    ap (is_html_end kind) (text_is place ∙ sym rested) ∙ sym c.is_ended_by.ensures
    ∙ c.if-is_ended_by.true in
    let is_html : is_in_paragraph (leaf_of b.leaf (leaf_lines b)) ≡ false =
    ap (λ l. is_in_paragraph (leaf_of l (leaf_lines b))) c.in_ok-begin.ensures.leaf in
    let begun_is = c.in_ok-begin.ensures.state
    ∙ ap (λ bytes. with_leaf (InHtml kind (line_of bytes.now c.rest.result ∷ [])) (state_of m))
    c.make_room.ensures.document
    ∙ ap (λ l. with_leaf (InHtml kind (l ∷ [])) (state_of m))
    (c.rest.ensures.line p.bytes.now c.requires.in_document)
    ∙ ap (with_leaf (InHtml kind (line ∷ []))) c.in_ok-make_room.ensures.state in
    ap (λ f. html_begun defined c.args.depth f rest ending (state_of p)) kinds
    ∙ ap (λ is. Some (html_ended is begun)) ended
    ∙ ap Some (sym (c.in_ok-close_leaf.ensures.state
    ∙ closed_alike b.leaf (leaf_lines b) (state_of b) (defined_in b) 0 is_html
    ∙ ap (leaf_closed 0) begun_is))

pub returns-else-is_ended_by-clause-state : goal.returns-else-is_ended_by-clause-state
returns-else-is_ended_by-clause-state c =
    let p = c.args.self.now in
    let m = c.make_room.new.self in
    let place = c.args.position.now in
    let rest = rest_of place in
    let ending = ending_of p.bytes.now place in
    let kind = c.in-Some.kind in
    let rested = take_rest place.line.now place.text in
    let defined = defined_in p in
    let line = a_line rest.text ending in
    let begun = with_leaf (InHtml kind (line ∷ [])) (room defined c.args.depth (state_of p)) in
    let kinds : kind_begun (not c.args.in_paragraph) (text_at place) ≡ Some kind =
    ap (kind_begun (not c.args.in_paragraph)) (sym rested) ∙ sym c.in-Some.ensures.value in
    let ended : is_html_end kind (unindented rest) ≡ false =
    ap (is_html_end kind) (text_is place ∙ sym rested) ∙ sym c.is_ended_by.ensures
    ∙ c.if-is_ended_by.false in
    let begun_is = c.in_ok-begin.ensures.state
    ∙ ap (λ bytes. with_leaf (InHtml kind (line_of bytes.now c.rest.result ∷ [])) (state_of m))
    c.make_room.ensures.document
    ∙ ap (λ l. with_leaf (InHtml kind (l ∷ [])) (state_of m))
    (c.rest.ensures.line p.bytes.now c.requires.in_document)
    ∙ ap (with_leaf (InHtml kind (line ∷ []))) c.in_ok-make_room.ensures.state in
    ap (λ f. html_begun defined c.args.depth f rest ending (state_of p)) kinds
    ∙ ap (λ is. Some (html_ended is begun)) ended ∙ ap Some (sym begun_is)

pub returns-in_default-clause-state : goal.returns-in_default-clause-state
returns-in_default-clause-state c =
    let p = c.args.self.now in
    let place = c.args.position.now in
    let may = not c.args.in_paragraph in
    ap (λ f. html_begun (defined_in p) c.args.depth f (rest_of place) (ending_of p.bytes.now place) (state_of p))
    (ap (kind_begun may) (sym (take_rest place.line.now place.text)) ∙ sym c.in_default.ensures.value)
