-- The first byte says which container may begin.
use Rattle.std.proofs.Common.{ℕ, Bool, List, ap, sym, ◌∙◌, ◌≡◌, ◌==◌, ◌&&◌, true, false}
use Rattle.std.proofs.Common.{Some, None, Option}
use Rattle.std.specs.Prelude.{get_or, if◌then◌else◌}
use Rattle.std.proofs.lemmas.Bool.{le-ltb, lt-ltb, ne_eqb}
use Rattle.std.proofs.lemmas.Result.{IfOk-weaker}
use Rattle.md_blocks.specs.declared.options.MarkdownOptions.{MarkdownOptions}
use Rattle.md_blocks.specs.BlockStructure.{begins_item, footnote_at, item_at, quote_at}
use Rattle.md_blocks.specs.ContainerBlocks.{Begun, item_begun, quote_begun}
use Rattle.md_blocks.specs.LeafBlocks.{if_begun}
use Rattle.md_blocks.specs.OwnBlocks.{after_footnote, footnote_begun}
use Rattle.md_blocks.specs.Passes.{defined_in, state_of}
use Rattle.md_blocks.specs.Positions.{ending_of, rest_of, text_at}
use Rattle.md_blocks.specs.Progress.{begun_of}
use Rattle.md_blocks.specs.Rests.{Rest, unindented}
use Rattle.md_blocks.specs.States.{State, is_in_paragraph}
use Rattle.md_blocks.proofs.LineLemmas.{text_is}
use Rattle.md_blocks.proofs.Steps.{both_ok, footnote_is, with_rest}
use Rattle.md_blocks.proofs.pass.Pass.begin_container.Goals as goal

-- the container that begins at a first byte
abbrev chosen : ℕ → MarkdownOptions → ℕ → ℕ → Bool → Rest → List ℕ → State → Option Begun
chosen first options defined depth in_paragraph rest ending state =
    if first == 62 then quote_at defined depth rest state
    else if first == 91 then footnote_at options.footnotes defined depth rest state
    else item_at defined depth in_paragraph rest ending state

-- a footnote, if it is read there
abbrev within_depth : Bool → ℕ → ℕ → Rest → State → Option Begun
within_depth is defined depth rest state = if is then elim (footnote_begun defined depth rest state) [
  | Some begun ↦ Some (with_rest (after_footnote rest) begun)
  | None ↦ None
] else None

-- it, by tests of that byte
abbrev by_tests : Bool → Bool → MarkdownOptions → ℕ → ℕ → Bool → Rest → List ℕ → State → Option Begun
by_tests quote footnote options defined depth in_paragraph rest ending state =
    if quote then quote_at defined depth rest state
    else if footnote then footnote_at options.footnotes defined depth rest state
    else item_at defined depth in_paragraph rest ending state

pub returns-then-depth-ge-MOST_CONTAINERS-clause-state :
    goal.returns-then-depth-ge-MOST_CONTAINERS-clause-state
returns-then-depth-ge-MOST_CONTAINERS-clause-state c is =
    let p = c.args.self.now in
    let place = c.args.position.now in
    let rest = rest_of place in
    let depth = c.args.depth in
    let ending = ending_of p.bytes.now place in
    let on = c.args.is_whole && is_in_paragraph (state_of p).leaf in
    let first = ap (λ t. get_or t 0 0) (text_is place) ∙ sym is ∙ c.if-byte-eq62.true in
    ap (λ byte. chosen byte p.options.now (defined_in p) depth on rest ending (state_of p)) first
    ∙ ap (λ so. if so then Some (quote_begun (defined_in p) depth rest (state_of p)) else None)
    (le-ltb depth 96 c.if-depth-ge-MOST_CONTAINERS.true)

pub returns-then-byte-eq62-clause-state : goal.returns-then-byte-eq62-clause-state
returns-then-byte-eq62-clause-state c is =
    let p = c.args.self.now in
    let new = c.begin_quote.new in
    let place = c.args.position.now in
    let rest = rest_of place in
    let depth = c.args.depth in
    let ending = ending_of p.bytes.now place in
    let on = c.args.is_whole && is_in_paragraph (state_of p).leaf in
    let first = ap (λ t. get_or t 0 0) (text_is place) ∙ sym is ∙ c.if-byte-eq62.true in
    let defined = defined_in p in
    let one = quote_begun defined depth rest (state_of p) in
    ap (λ byte. chosen byte p.options.now defined depth on rest ending (state_of p)) first
    ∙ ap (λ so. if so then Some one else None)
    (lt-ltb depth 96 c.if-depth-ge-MOST_CONTAINERS.false)
    ∙ ap (λ s. Some (with_rest one.rest s)) (sym c.in_ok-begin_quote.ensures.state)
    ∙ ap (λ r. Some (with_rest r (state_of new.self))) (sym c.in_ok-begin_quote.ensures.rest)

pub returns-then-not-self-clause-state : goal.returns-then-not-self-clause-state
returns-then-not-self-clause-state c is =
    let p = c.args.self.now in
    let place = c.args.position.now in
    let rest = rest_of place in
    let depth = c.args.depth in
    let ending = ending_of p.bytes.now place in
    let on = c.args.is_whole && is_in_paragraph (state_of p).leaf in
    let first = ap (λ t. get_or t 0 0) (text_is place) ∙ sym is ∙ c.if-byte-eq91.true in
    ap (λ byte. chosen byte p.options.now (defined_in p) depth on rest ending (state_of p)) first
    ∙ ap (λ so. footnote_at so (defined_in p) depth rest (state_of p)) c.if-not-self.true

pub returns-then-depth-ge-MOST_CONTAINERS-2-clause-state :
    goal.returns-then-depth-ge-MOST_CONTAINERS-2-clause-state
returns-then-depth-ge-MOST_CONTAINERS-2-clause-state c is =
    let p = c.args.self.now in
    let place = c.args.position.now in
    let rest = rest_of place in
    let depth = c.args.depth in
    let ending = ending_of p.bytes.now place in
    let on = c.args.is_whole && is_in_paragraph (state_of p).leaf in
    let first = ap (λ t. get_or t 0 0) (text_is place) ∙ sym is ∙ c.if-byte-eq91.true in
    ap (λ byte. chosen byte p.options.now (defined_in p) depth on rest ending (state_of p)) first
    ∙ ap (λ so. footnote_at so (defined_in p) depth rest (state_of p)) c.if-not-self.false
    ∙ ap (λ so. within_depth so (defined_in p) depth rest (state_of p))
    (le-ltb depth 96 c.if-depth-ge-MOST_CONTAINERS-2.true)

pub returns-then-byte-eq91-clause-state : goal.returns-then-byte-eq91-clause-state
returns-then-byte-eq91-clause-state c =
    let p = c.args.self.now in
    let new = c.begin_footnote.new in
    let place = c.args.position.now in
    let rest = rest_of place in
    let depth = c.args.depth in
    let ending = ending_of p.bytes.now place in
    let on = c.args.is_whole && is_in_paragraph (state_of p).leaf in
    let defined = defined_in p in
    let found = footnote_begun defined depth rest (state_of p) in
    both_ok c.begin_footnote.result
    (λ has. found ≡ if_begun has (state_of new.self))
    (λ has. has ≡ true → rest_of new.position ≡ after_footnote rest)
    (λ has. c.args.byte ≡ get_or (text_at place) 0 0
    → (chosen (get_or (unindented rest) 0 0) p.options.now (defined_in p) depth on rest ending (state_of p)
    ≡ (if has then Some (begun_of new.self new.position) else None)))
    (λ has begun ends is.
    ap (λ byte. chosen byte p.options.now defined depth on rest ending (state_of p))
    (ap (λ t. get_or t 0 0) (text_is place) ∙ sym is ∙ c.if-byte-eq91.true)
    ∙ ap (λ so. footnote_at so defined depth rest (state_of p)) c.if-not-self.false
    ∙ ap (λ so. within_depth so defined depth rest (state_of p))
    (lt-ltb depth 96 c.if-depth-ge-MOST_CONTAINERS-2.false)
    ∙ footnote_is has found (state_of new.self) (after_footnote rest) (rest_of new.position) begun ends)
    c.begin_footnote.ensures.state c.begin_footnote.ensures.rest

pub returns-then-depth-clause-state : goal.returns-then-depth-clause-state
returns-then-depth-clause-state c is =
    let p = c.args.self.now in
    let place = c.args.position.now in
    let rest = rest_of place in
    let depth = c.args.depth in
    let ending = ending_of p.bytes.now place in
    let on = c.args.is_whole && is_in_paragraph (state_of p).leaf in
    let first = ap (λ t. get_or t 0 0) (text_is place) ∙ sym is in
    ap (λ byte. chosen byte p.options.now (defined_in p) depth on rest ending (state_of p)) first
    ∙ ap (λ so. by_tests so (c.args.byte == 91) p.options.now (defined_in p) depth on rest ending (state_of p))
    (ne_eqb c.args.byte 62 c.if-byte-eq62.false)
    ∙ ap (λ so. by_tests false so p.options.now (defined_in p) depth on rest ending (state_of p))
    (ne_eqb c.args.byte 91 c.if-byte-eq91.false)
    ∙ ap (λ so. if so && begins_item on (unindented rest)
    then Some (item_begun (defined_in p) depth rest ending (state_of p)) else None)
    (le-ltb depth 95 c.if-depth.true)

pub returns-clause-state : goal.returns-clause-state
returns-clause-state c =
    let p = c.args.self.now in
    let new = c.begin_marked.new in
    let place = c.args.position.now in
    let rest = rest_of place in
    let depth = c.args.depth in
    let ending = ending_of p.bytes.now place in
    let on = c.args.is_whole && is_in_paragraph (state_of p).leaf in
    IfOk-weaker c.begin_marked.result
    (λ has. (item_at (defined_in p) depth c.is_in_paragraph-in_paragraph.result rest ending (state_of p)
    ≡ (if has then Some (begun_of new.self new.position) else None)))
    (λ has. c.args.byte ≡ get_or (text_at place) 0 0
    → (chosen (get_or (unindented rest) 0 0) p.options.now (defined_in p) depth on rest ending (state_of p)
    ≡ (if has then Some (begun_of new.self new.position) else None)))
    (λ has found is.
    ap (λ byte. chosen byte p.options.now (defined_in p) depth on rest ending (state_of p))
    (ap (λ t. get_or t 0 0) (text_is place) ∙ sym is)
    ∙ ap (λ so. by_tests so (c.args.byte == 91) p.options.now (defined_in p) depth on rest ending (state_of p))
    (ne_eqb c.args.byte 62 c.if-byte-eq62.false)
    ∙ ap (λ so. by_tests false so p.options.now (defined_in p) depth on rest ending (state_of p))
    (ne_eqb c.args.byte 91 c.if-byte-eq91.false)
    ∙ ap (λ so. item_at (defined_in p) depth so rest ending (state_of p))
    (sym c.is_in_paragraph-in_paragraph.ensures.value)
    ∙ found)
    c.begin_marked.ensures.state
