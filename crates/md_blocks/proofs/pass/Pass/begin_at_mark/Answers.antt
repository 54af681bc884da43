-- A leaf is tried first, then a container, then text.
use Rattle.std.proofs.Common.{ap, sym, refl, ◌∙◌, ◌≡◌, ◌&&◌, Some, None}
use Rattle.std.specs.Prelude.{if◌then◌else◌}
use Rattle.md_blocks.specs.BlockStructure.{Ends, GoesOn, container_begun, lines_defined, text_begun}
use Rattle.md_blocks.specs.LeafBlocks.{if_begun}
use Rattle.md_blocks.specs.Passes.{defined_in, state_of}
use Rattle.md_blocks.specs.Positions.{ending_of, rest_of}
use Rattle.md_blocks.specs.Progress.{begun_of}
use Rattle.md_blocks.specs.Rests.{unindented}
use Rattle.md_blocks.specs.States.{is_in_paragraph}
use Rattle.md_blocks.proofs.Choices.{block_is, container_none, is_underlined, leaf_ends, or_ends}
use Rattle.md_blocks.proofs.pass.Pass.begin_at_mark.Goals as goal

pub returns-then-branch-clause-state : goal.returns-then-branch-clause-state
returns-then-branch-clause-state c is =
    let p = c.args.self.now in
    let l = c.begin_leaf.new.self in
    let place = c.args.position.now in
    let begun = c.in_ok-begin_leaf.ensures.state is in
    leaf_ends p.options.now (defined_in p) c.args.depth c.args.is_whole (rest_of place)
    (ending_of p.bytes.now place) (state_of p) (state_of l)
    (begun.0 ∙ ap (λ so. if_begun so (state_of l)) c.if-branch.true)

pub returns-then-branch-2-clause-state : goal.returns-then-branch-2-clause-state
returns-then-branch-2-clause-state c is =
    let p = c.args.self.now in
    let l = c.begin_leaf.new.self in
    let new = c.begin_container.new in
    let place = c.args.position.now in
    let rest = rest_of place in
    let depth = c.args.depth in
    let whole = c.args.is_whole in
    let on = whole && is_in_paragraph (state_of p).leaf in
    let ending = ending_of p.bytes.now place in
    let leaf = c.in_ok-begin_leaf.ensures.state is in
    let found = c.in_ok-begin_container.ensures.state is in
    let still = whole && is_in_paragraph (state_of l).leaf in
    block_is p.options.now (defined_in p) (defined_in l) depth whole (is_underlined on (unindented rest)) rest ending
    (state_of p) (state_of l) (GoesOn (begun_of new.self new.position)) refl
    (leaf.0 ∙ ap (λ so. if_begun so (state_of l)) c.if-branch.false)
    (leaf.1 c.if-branch.false) (λ alike. ap lines_defined alike)
    (ap (λ b. or_ends b (text_begun p.options.now (defined_in l) depth whole rest ending (state_of l)))
    (ap (λ o. container_begun o.now (defined_in l) depth still rest ending (state_of l))
    (sym c.begin_leaf.ensures.options)
    ∙ ap (λ b. container_begun l.options.now (defined_in l) depth still rest (ending_of b.now place) (state_of l))
    (sym c.begin_leaf.ensures.document)
    ∙ found ∙ ap (λ so. if so then Some (begun_of new.self new.position) else None) c.if-branch-2.true))

pub returns-clause-state : goal.returns-clause-state
returns-clause-state c is =
    let p = c.args.self.now in
    let l = c.begin_leaf.new.self in
    let k = c.begin_container.new in
    let new = c.begin_text.new.self in
    let place = c.args.position.now in
    let rest = rest_of place in
    let depth = c.args.depth in
    let whole = c.args.is_whole in
    let on = whole && is_in_paragraph (state_of p).leaf in
    let ending = ending_of p.bytes.now place in
    let leaf = c.in_ok-begin_leaf.ensures.state is in
    let found = c.in_ok-begin_container.ensures.state is in
    let text = c.in_ok-begin_text.ensures.state in
    let stays = c.in_ok-begin_container.ensures.stays c.if-branch-2.false in
    let still = whole && is_in_paragraph (state_of l).leaf in
    let none : container_begun p.options.now (defined_in l) depth still rest ending (state_of l) ≡ None =
    ap (λ o. container_begun o.now (defined_in l) depth still rest ending (state_of l))
    (sym c.begin_leaf.ensures.options)
    ∙ ap (λ b. container_begun l.options.now (defined_in l) depth still rest (ending_of b.now place) (state_of l))
    (sym c.begin_leaf.ensures.document)
    ∙ found ∙ ap (λ so. if so then Some (begun_of k.self k.position) else None) c.if-branch-2.false in
    block_is p.options.now (defined_in p) (defined_in l) depth whole (is_underlined on (unindented rest)) rest ending
    (state_of p) (state_of l) (Ends (state_of new)) refl
    (leaf.0 ∙ ap (λ so. if_begun so (state_of l)) c.if-branch.false)
    (leaf.1 c.if-branch.false) (λ alike. ap lines_defined alike)
    (ap (λ b. or_ends b (text_begun p.options.now (defined_in l) depth whole rest ending (state_of l)))
    (container_none p.options.now (defined_in l) (defined_in l) depth still rest ending (state_of l) none)
    ∙ ap (λ o. Ends (text_begun o.now (defined_in l) depth whole rest ending (state_of l)))
    (sym c.begin_leaf.ensures.options)
    ∙ ap (λ b. Ends (text_begun l.options.now (defined_in l) depth whole rest (ending_of b.now place) (state_of l)))
    (sym c.begin_leaf.ensures.document)
    ∙ ap (λ s. Ends (text_begun s.options.now (defined_in s) depth whole rest
    (ending_of s.bytes.now place) (state_of s)))
    (sym stays.0)
    ∙ ap (λ q. Ends (text_begun k.self.options.now (defined_in k.self) depth whole (rest_of q)
    (ending_of k.self.bytes.now q) (state_of k.self)))
    (sym stays.1)
    ∙ ap Ends (sym text))
