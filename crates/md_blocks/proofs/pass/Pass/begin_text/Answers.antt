-- A table is tried in a paragraph.
use Rattle.std.proofs.Common.{None, ap, sym, ◌∙◌, ◌≡◌}
use Rattle.std.specs.Prelude.{if◌then◌else◌}
use Rattle.std.proofs.lemmas.Bool.{and_parts}
use Rattle.std.proofs.lemmas.Result.{on_ok_weaker}
use Rattle.md_blocks.specs.BlockStructure.{paragraph_lines}
use Rattle.md_blocks.specs.LeafBlocks.{a_line, if_begun, table_begun, text_read}
use Rattle.md_blocks.specs.Passes.{defined_in, leaf_lines, leaf_of, state_of}
use Rattle.md_blocks.specs.Positions.{ending_of, rest_of, text_at}
use Rattle.md_blocks.specs.Rests.{unindented}
use Rattle.md_blocks.proofs.LineLemmas.{text_is}
use Rattle.md_blocks.proofs.Steps.{or_text, texts_alike}
use Rattle.md_blocks.proofs.pass.Pass.begin_text.Goals as goal

pub returns-then-not-is_in_paragraph-clause-state :
    goal.returns-then-not-is_in_paragraph-clause-state
returns-then-not-is_in_paragraph-clause-state c =
    let p = c.args.self.now in
    let place = c.args.position.now in
    let rest = rest_of place in
    let depth = c.args.depth in
    let whole = c.args.is_whole in
    let ending = ending_of p.bytes.now place in
    let defined = defined_in p in
    let text = unindented rest in
    let state = state_of p in
    let table = table_begun p.options.now.tables text ending (paragraph_lines state.leaf) state in
    on_ok_weaker c.read_text.result (λ read. read
    ∙ ap (λ t. text_read defined depth whole (a_line t ending) state) (sym (text_is place))
    ∙ ap (λ so. or_text (if so then table else None)
    (text_read defined depth whole (a_line text ending) state))
    (sym (sym c.is_in_paragraph.ensures.value ∙ c.if-not-is_in_paragraph.true)))
    c.read_text.ensures.state

pub returns-then-branch-clause-state : goal.returns-then-branch-clause-state
returns-then-branch-clause-state c =
    let p = c.args.self.now in
    let new = c.begin_table.new.self in
    let place = c.args.position.now in
    let rest = rest_of place in
    let depth = c.args.depth in
    let whole = c.args.is_whole in
    let ending = ending_of p.bytes.now place in
    let found = c.in_ok-begin_table.ensures.state in
    let text = unindented rest in
    let state = state_of p in
    let tables = p.options.now.tables in
    let on = sym c.is_in_paragraph.ensures.value ∙ c.if-not-is_in_paragraph.false in
    let lines : paragraph_lines state.leaf ≡ leaf_lines p =
    ap (λ l. paragraph_lines (leaf_of l (leaf_lines p)))
    (c.is_in_paragraph.ensures.is c.if-not-is_in_paragraph.false) in
    let table = table_begun tables text ending (paragraph_lines state.leaf) state in
    let read = text_read (defined_in p) depth whole (a_line text ending) state in
    sym (ap (λ so. or_text (if so then table else None) read) on
    ∙ ap (λ t. or_text (table_begun tables t ending
    (paragraph_lines state.leaf) state) read) (text_is place)
    ∙ ap (λ those. or_text (table_begun tables (text_at place) ending those state) read) lines
    ∙ ap (λ t. or_text t read) (found ∙ ap (λ so. if_begun so (state_of new)) c.if-branch.true))

pub returns-clause-state : goal.returns-clause-state
returns-clause-state c =
    let p = c.args.self.now in
    let t = c.begin_table.new.self in
    let new = c.read_text-2.new.self in
    let place = c.args.position.now in
    let rest = rest_of place in
    let depth = c.args.depth in
    let whole = c.args.is_whole in
    let ending = ending_of p.bytes.now place in
    let found = c.in_ok-begin_table.ensures.state in
    let text = unindented rest in
    let state = state_of p in
    let tables = p.options.now.tables in
    let on = sym c.is_in_paragraph.ensures.value ∙ c.if-not-is_in_paragraph.false in
    let lines : paragraph_lines state.leaf ≡ leaf_lines p =
    ap (λ l. paragraph_lines (leaf_of l (leaf_lines p)))
    (c.is_in_paragraph.ensures.is c.if-not-is_in_paragraph.false) in
    let table = table_begun tables text ending (paragraph_lines state.leaf) state in
    let same = c.in_ok-begin_table.ensures.same c.if-branch.false in
    let line = a_line text ending in
    let read = text_read (defined_in p) depth whole line state in
    on_ok_weaker c.read_text-2.result (λ begun. begun
    ∙ ap (λ q. text_read (defined_in t) depth whole (a_line (text_at place)
    (ending_of q.bytes.now place)) (state_of q)) same
    ∙ ap (λ those. text_read (defined_in t) depth whole (a_line those ending) state)
    (sym (text_is place))
    ∙ texts_alike (defined_in t) (defined_in p) depth whole line state (and_parts _ _ on).1
    ∙ sym (ap (λ so. or_text (if so then table else None) read) on
    ∙ ap (λ those. or_text (table_begun tables those ending
    (paragraph_lines state.leaf) state) read) (text_is place)
    ∙ ap (λ those. or_text (table_begun tables (text_at place) ending those state) read) lines
    ∙ ap (λ so. or_text so read) (found ∙ ap (λ so. if_begun so (state_of t)) c.if-branch.false)))
    c.read_text-2.ensures.state
