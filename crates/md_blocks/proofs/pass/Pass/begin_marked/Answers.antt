-- An item begins where its marker is.
use Rattle.std.proofs.Common.{ap, sym, ◌∙◌, ◌&&◌, nat_lt, true, false, Some, None}
use Rattle.std.specs.Prelude.{if◌then◌else◌}
use Rattle.std.proofs.lemmas.Bool.{lt-ltb}
use Rattle.md_blocks.specs.BlockStructure.{begins_item}
use Rattle.md_blocks.specs.ContainerBlocks.{item_begun}
use Rattle.md_blocks.specs.Passes.{defined_in, state_of}
use Rattle.md_blocks.specs.Positions.{ending_of, rest_of}
use Rattle.md_blocks.proofs.LineLemmas.{text_is}
use Rattle.md_blocks.proofs.Steps.{with_rest}
use Rattle.md_blocks.proofs.pass.Pass.begin_marked.Goals as goal

pub returns-in_default-clause-state : goal.returns-in_default-clause-state
returns-in_default-clause-state c =
    let p = c.args.self.now in
    let place = c.args.position.now in
    let rest = rest_of place in
    let depth = c.args.depth in
    let one = item_begun (defined_in p) depth rest (ending_of p.bytes.now place) (state_of p) in
    ap (λ is. if nat_lt depth 95 && is then Some one else None)
    (ap (begins_item c.args.in_paragraph) (text_is place) ∙ sym c.in_default.ensures.there)
    ∙ ap (λ is. if is && false then Some one else None) (lt-ltb depth 95 c.requires.shallow)

pub returns-clause-state : goal.returns-clause-state
returns-clause-state c =
    let p = c.args.self.now in
    let place = c.args.position.now in
    let rest = rest_of place in
    let depth = c.args.depth in
    let new = c.begin_item.new in
    let state = c.in_ok-begin_item.ensures.state in
    let one = item_begun (defined_in p) depth rest (ending_of p.bytes.now place) (state_of p) in
    ap (λ is. if nat_lt depth 95 && is then Some one else None)
    (ap (begins_item c.args.in_paragraph) (text_is place) ∙ sym c.in-Some.ensures.there)
    ∙ ap (λ is. if is && true then Some one else None) (lt-ltb depth 95 c.requires.shallow)
    ∙ ap (λ s. Some (with_rest one.rest s)) (sym state)
    ∙ ap (λ r. Some (with_rest r (state_of new.self))) (sym c.in_ok-begin_item.ensures.rest)
