-- The item is open in its list; a task, or the rest of the line, follows.
use Rattle.std.proofs.Common.{ℕ, List, ap, sym, ◌∙◌, ◌≡◌, ◌<◌, ◌+◌, ◌∷◌, [], length, drop, take, get_or}
use Rattle.std.proofs.Common.{arith, nat_lt, true, false}
use Rattle.std.specs.Prelude.{if◌then◌else◌}
use Rattle.std.proofs.lemmas.List.{get_or-drop, length-drop}
use Rattle.std.proofs.lemmas.Result.{on_ok_weaker}
use Rattle.md_blocks.specs.declared.block.ContainerKind.TheVariants.{Item}
use Rattle.md_blocks.specs.ContainerBlocks.{container_of, is_task, item_begun, list_begun, padding, task_begun}
use Rattle.md_blocks.specs.Entries.{ItemBegins}
use Rattle.md_blocks.specs.Marks.{number_length}
use Rattle.md_blocks.specs.Passes.{defined_in, state_of}
use Rattle.md_blocks.specs.Positions.{ending_of, rest_of}
use Rattle.md_blocks.specs.Rests.{Rest, rest_at, indent, passed, skipped, unindented}
use Rattle.md_blocks.specs.States.{State, opened_in, with_entries}
use Rattle.md_blocks.proofs.LineLemmas.{text_is}
use Rattle.md_blocks.proofs.Markers.{digits_are, number_is, same_ending}
use Rattle.md_blocks.proofs.Steps.{ok_to}
use Rattle.md_blocks.proofs.pass.Pass.begin_item.Goals as goal

-- the item, if its marker has so many digits and ends with a byte
abbrev begun : ℕ → ℕ → Rest → State → ℕ → ℕ → State
begun defined depth rest state digits marker =
    opened_in (container_of Item (indent rest + digits + 1 + padding (passed (digits + 1) rest)) marker)
    (with_entries (ItemBegins ∷ [])
    (list_begun defined depth (nat_lt 0 digits) (take digits (unindented rest)) marker state))

abbrev whole : ℕ → ℕ → Rest → List ℕ → State → ℕ → ℕ → State
whole defined depth rest ending state digits marker =
    if is_task (passed (digits + 1) rest)
    then task_begun (passed (digits + 1) rest) ending (begun defined depth rest state digits marker)
    else begun defined depth rest state digits marker

abbrev after : Rest → ℕ → Rest
after rest digits =
    if is_task (passed (digits + 1) rest)
    then rest_at (passed 3 (passed (digits + 1) rest)).column []
    else skipped (padding (passed (digits + 1) rest)) (passed (digits + 1) rest)

same_marker : (defined depth : ℕ) (rest : Rest) (ending : List ℕ) (state : State)
    (digits marker : ℕ) → digits ≡ number_length (unindented rest) →
    marker ≡ get_or (unindented rest) digits 0 →
    whole defined depth rest ending state digits marker
    ≡ whole defined depth rest ending state (number_length (unindented rest))
    (get_or (unindented rest) (number_length (unindented rest)) 0)
same_marker defined depth rest ending state digits marker digits_is marker_is =
    ap (whole defined depth rest ending state digits) marker_is
    ∙ ap (λ n. whole defined depth rest ending state n (get_or (unindented rest) n 0)) digits_is

-- the item after its marker: with a task, or without
with_task : (n depth : ℕ) (rest : Rest) (ending : List ℕ) (state entered : State)
    (digits marker : ℕ) → entered ≡ begun n depth rest state digits marker →
    is_task (passed (digits + 1) rest) ≡ true → digits ≡ number_length (unindented rest) →
    marker ≡ get_or (unindented rest) digits 0 →
    task_begun (passed (digits + 1) rest) ending entered ≡ (item_begun n depth rest ending state).state
with_task n depth rest ending state entered digits marker entered_is is digits_is marker_is =
    let there = passed (digits + 1) rest in
    ap (task_begun there ending) entered_is
    ∙ ap (λ so. if so then task_begun there ending (begun n depth rest state digits marker)
    else begun n depth rest state digits marker) (sym is)
    ∙ same_marker n depth rest ending state digits marker digits_is marker_is

without_task : (n depth : ℕ) (rest : Rest) (ending : List ℕ) (state entered : State)
    (digits marker : ℕ) → entered ≡ begun n depth rest state digits marker →
    is_task (passed (digits + 1) rest) ≡ false → digits ≡ number_length (unindented rest) →
    marker ≡ get_or (unindented rest) digits 0 →
    entered ≡ (item_begun n depth rest ending state).state
without_task n depth rest ending state entered digits marker entered_is is digits_is marker_is =
    let there = passed (digits + 1) rest in
    entered_is
    ∙ ap (λ so. if so then task_begun there ending (begun n depth rest state digits marker)
    else begun n depth rest state digits marker) (sym is)
    ∙ same_marker n depth rest ending state digits marker digits_is marker_is

pub begin_list-requires-clause-number : goal.begin_list-requires-clause-number
begin_list-requires-clause-number c =
    let place = c.args.position.now in
    let line = place.line.now in
    let some : number_length (drop place.text line) < length (drop place.text line) =
    omega (arith, c.requires.within, c.requires.number, length-drop place.text line) in
    c.requires.number
    ∙ sym (number_is c.args.self.now.bytes.now line place.text c.requires.in_document some)

pub returns-in-Some-clause-state : goal.returns-in-Some-clause-state
returns-in-Some-clause-state c =
    let p = c.args.self.now in
    let l = c.begin_list.new.self in
    let e = c.enter.new.self in
    let place = c.args.position.now in
    let q = c.pass.new.self in
    let line = place.line.now in
    let at = place.text in
    let rest = rest_of place in
    let text = unindented rest in
    let digits = c.args.marker.digits in
    let marker = c.args.marker.byte in
    let depth = c.args.depth in
    let ending = ending_of p.bytes.now place in
    let state = state_of p in
    let defined = defined_in p in
    let pad = c.padding-padding.result in
    let there = passed (digits + 1) rest in
    let digits_is = c.requires.number ∙ ap number_length (sym (text_is place)) in
    let marker_is = c.requires.byte ∙ sym (get_or-drop at line digits 0)
    ∙ ap (λ t. get_or t digits 0) (sym (text_is place)) in
    let listed = list_begun defined depth (nat_lt 0 digits) (take digits text) marker state in
    let entered : state_of e ≡ begun defined depth rest state digits marker =
    c.in_ok-enter.ensures.state
    ∙ ap (λ s. opened_in (container_of Item (place.indent + digits + 1 + pad) marker)
    (with_entries (ItemBegins ∷ []) s)) (c.in_ok-begin_list.ensures.state
    ∙ ap (λ t. list_begun defined depth (nat_lt 0 digits) t marker state)
    (digits_are p.bytes.now line at digits c.requires.in_document (omega (arith, c.requires.within))
    ∙ ap (take digits) (sym (text_is place))))
    ∙ ap (λ n. opened_in (container_of Item (n + digits + 1 + pad) marker)
    (with_entries (ItemBegins ∷ []) listed)) place.indents
    ∙ ap (λ n. opened_in (container_of Item (indent rest + digits + 1 + n) marker)
    (with_entries (ItemBegins ∷ []) listed))
    (c.padding-padding.ensures.value ∙ ap padding c.pass.ensures.rest) in
    let is : is_task there ≡ true =
    ap is_task (sym c.pass.ensures.rest) ∙ sym c.in-Some.ensures.there in
    let same = ap (λ b. ending_of b.now q) (c.enter.ensures.document ∙ c.begin_list.ensures.document)
    ∙ same_ending p.bytes.now place q c.pass.ensures.line c.pass.ensures.ending in
    let begins = task_begun (rest_of q) (ending_of e.bytes.now q) (state_of e) in
    let done : begins ≡ (item_begun defined depth rest ending state).state =
    ap (λ r. task_begun r (ending_of e.bytes.now q) (state_of e)) c.pass.ensures.rest
    ∙ ap (λ x. task_begun there x (state_of e)) same
    ∙ with_task defined depth rest ending state (state_of e) digits marker entered is digits_is marker_is in
    ok_to c.begin_task.result (state_of c.begin_task.new.self) begins
    (item_begun defined depth rest ending state).state done c.begin_task.ensures.state

pub returns-in-Some-clause-rest : goal.returns-in-Some-clause-rest
returns-in-Some-clause-rest c =
    let place = c.args.position.now in
    let rest = rest_of place in
    let digits = c.args.marker.digits in
    let there = passed (digits + 1) rest in
    let digits_is = c.requires.number ∙ ap number_length (sym (text_is place)) in
    let is : is_task there ≡ true =
    ap is_task (sym c.pass.ensures.rest) ∙ sym c.in-Some.ensures.there in
    on_ok_weaker c.begin_task.result (λ left. left
    ∙ ap (λ r. rest_at (passed 3 r).column []) c.pass.ensures.rest
    ∙ ap (λ so. if so then rest_at (passed 3 there).column [] else skipped (padding there) there) (sym is)
    ∙ ap (after rest) digits_is) c.begin_task.ensures.rest

pub returns-in-None-clause-state : goal.returns-in-None-clause-state
returns-in-None-clause-state c =
    let p = c.args.self.now in
    let l = c.begin_list.new.self in
    let e = c.enter.new.self in
    let place = c.args.position.now in
    let line = place.line.now in
    let at = place.text in
    let rest = rest_of place in
    let text = unindented rest in
    let digits = c.args.marker.digits in
    let marker = c.args.marker.byte in
    let depth = c.args.depth in
    let ending = ending_of p.bytes.now place in
    let state = state_of p in
    let defined = defined_in p in
    let pad = c.padding-padding.result in
    let there = passed (digits + 1) rest in
    let digits_is = c.requires.number ∙ ap number_length (sym (text_is place)) in
    let marker_is = c.requires.byte ∙ sym (get_or-drop at line digits 0)
    ∙ ap (λ t. get_or t digits 0) (sym (text_is place)) in
    let listed = list_begun defined depth (nat_lt 0 digits) (take digits text) marker state in
    let entered : state_of e ≡ begun defined depth rest state digits marker =
    c.in_ok-enter.ensures.state
    ∙ ap (λ s. opened_in (container_of Item (place.indent + digits + 1 + pad) marker)
    (with_entries (ItemBegins ∷ []) s)) (c.in_ok-begin_list.ensures.state
    ∙ ap (λ t. list_begun defined depth (nat_lt 0 digits) t marker state)
    (digits_are p.bytes.now line at digits c.requires.in_document (omega (arith, c.requires.within))
    ∙ ap (take digits) (sym (text_is place))))
    ∙ ap (λ n. opened_in (container_of Item (n + digits + 1 + pad) marker)
    (with_entries (ItemBegins ∷ []) listed)) place.indents
    ∙ ap (λ n. opened_in (container_of Item (indent rest + digits + 1 + n) marker)
    (with_entries (ItemBegins ∷ []) listed))
    (c.padding-padding.ensures.value ∙ ap padding c.pass.ensures.rest) in
    let none : is_task there ≡ false =
    ap is_task (sym c.pass.ensures.rest) ∙ sym c.in-None.ensures.there in
    without_task defined depth rest ending state (state_of e) digits marker entered none digits_is marker_is

pub returns-in-None-clause-rest : goal.returns-in-None-clause-rest
returns-in-None-clause-rest c =
    let place = c.args.position.now in
    let rest = rest_of place in
    let digits = c.args.marker.digits in
    let there = passed (digits + 1) rest in
    let digits_is = c.requires.number ∙ ap number_length (sym (text_is place)) in
    let none : is_task there ≡ false =
    ap is_task (sym c.pass.ensures.rest) ∙ sym c.in-None.ensures.there in
    c.advance.ensures.rest ∙ ap (skipped c.padding-padding.result) c.pass.ensures.rest
    ∙ ap (λ n. skipped n there) (c.padding-padding.ensures.value ∙ ap padding c.pass.ensures.rest)
    ∙ ap (λ so. if so then rest_at (passed 3 there).column [] else skipped (padding there) there) (sym none)
    ∙ ap (after rest) digits_is
