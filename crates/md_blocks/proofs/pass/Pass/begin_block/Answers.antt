-- The indentation and the first byte decide.
use Rattle.std.proofs.Common.{Bool, ap, sym, ◌∙◌, ◌≡◌, true}
use Rattle.std.specs.Prelude.{get_or, nat_lt, if◌then◌else◌}
use Rattle.std.proofs.lemmas.Bool.{le-ltb, lt-ltb}
use Rattle.std.proofs.lemmas.Result.{IfOk-weaker}
use Rattle.md_blocks.specs.BlockStructure.{Step, Ends, GoesOn, block_begun, deep_read}
use Rattle.md_blocks.specs.LeafBlocks.{a_line, text_read}
use Rattle.md_blocks.specs.Passes.{defined_in, state_of}
use Rattle.md_blocks.specs.Positions.{ending_of, rest_of, text_at}
use Rattle.md_blocks.specs.Progress.{begun_of, is_text}
use Rattle.md_blocks.specs.Rests.{indent, unindented}
use Rattle.md_blocks.specs.States.{State}
use Rattle.md_blocks.proofs.Choices.{text_block}
use Rattle.md_blocks.proofs.LineLemmas.{text_is}
use Rattle.md_blocks.proofs.pass.Pass.begin_block.Goals as goal

abbrev shallow : Bool → Step → State → Step
shallow is block deep = if is then block else Ends deep

pub returns-then-position-ge-CODE_INDENT-clause-state :
    goal.returns-then-position-ge-CODE_INDENT-clause-state
returns-then-position-ge-CODE_INDENT-clause-state c is =
    let p = c.args.self.now in
    let new = c.read_deep.new.self in
    let place = c.args.position.now in
    let rest = rest_of place in
    let depth = c.args.depth in
    let whole = c.args.is_whole in
    let ending = ending_of p.bytes.now place in
    let n = defined_in p in
    ap (λ so. shallow so (block_begun p.options.now n depth whole rest ending (state_of p))
    (deep_read n depth whole rest ending (state_of p)))
    (ap (λ i. nat_lt i 4) (sym place.indents) ∙ le-ltb place.indent 4 c.if-position-ge-CODE_INDENT.true)
    ∙ ap Ends (sym c.in_ok-read_deep.ensures.state)

pub returns-then-is_text-clause-state : goal.returns-then-is_text-clause-state
returns-then-is_text-clause-state c is =
    let p = c.args.self.now in
    let new = c.read_text.new.self in
    let place = c.args.position.now in
    let rest = rest_of place in
    let depth = c.args.depth in
    let whole = c.args.is_whole in
    let ending = ending_of p.bytes.now place in
    let n = defined_in p in
    let text : is_text (get_or (unindented rest) 0 0) ≡ true =
    ap is_text (ap (λ t. get_or t 0 0) (text_is place) ∙ sym is) ∙ sym c.is_text.ensures
    ∙ c.if-is_text.true in
    ap (λ so. shallow so (block_begun p.options.now n depth whole rest ending (state_of p))
    (deep_read n depth whole rest ending (state_of p)))
    (ap (λ i. nat_lt i 4) (sym place.indents)
    ∙ lt-ltb place.indent 4 c.if-position-ge-CODE_INDENT.false)
    ∙ text_block p.options.now n depth whole rest ending (state_of p) text
    ∙ ap (λ t. Ends (text_read n depth whole (a_line t ending) (state_of p))) (text_is place)
    ∙ ap Ends (sym c.in_ok-read_text.ensures.state)

pub returns-clause-state : goal.returns-clause-state
returns-clause-state c =
    let p = c.args.self.now in
    let new = c.begin_at_mark.new in
    let place = c.args.position.now in
    let rest = rest_of place in
    let byte = c.args.byte in
    let depth = c.args.depth in
    let whole = c.args.is_whole in
    let ending = ending_of p.bytes.now place in
    let few = ap (λ i. nat_lt i 4) (sym place.indents)
    ∙ lt-ltb place.indent 4 c.if-position-ge-CODE_INDENT.false in
    IfOk-weaker c.begin_at_mark.result
    (λ on. byte ≡ get_or (text_at place) 0 0
    → (block_begun p.options.now (defined_in p) depth whole rest ending (state_of p)
    ≡ (if on then GoesOn (begun_of new.self new.position) else Ends (state_of new.self))))
    (λ on. byte ≡ get_or (text_at place) 0 0
    → (shallow (nat_lt (indent rest) 4) (block_begun p.options.now (defined_in p) depth whole rest ending
    (state_of p))
    (deep_read (defined_in p) depth whole rest ending (state_of p))
    ≡ (if on then GoesOn (begun_of new.self new.position) else Ends (state_of new.self))))
    (λ on found is. let begun = found is in
    ap (λ so. shallow so (block_begun p.options.now (defined_in p) depth whole rest ending (state_of p))
    (deep_read (defined_in p) depth whole rest ending (state_of p))) few ∙ begun)
    c.begin_at_mark.ensures.state
