-- What a line begins, with one number of definitions for all steps.
use Rattle.std.proofs.Common.{ℕ, Bool, List, [], ◌∷◌, ◌≡◌, ◌∙◌, ◌==◌, ◌&&◌, ◌+◌, true, false}
use Rattle.std.proofs.Common.{refl, sym, ap, Option, Some, None}
use Rattle.std.proofs.Common.{arith, length, drop, take, get_or, nat_lt, not, inl, inr}
use Rattle.std.specs.Prelude.{◌||◌, if◌then◌else◌}
use Rattle.std.proofs.lemmas.Bool.{and_parts, cases_Bool, eqb-true, ltb-false}
use Rattle.std.proofs.lemmas.List.{drop_all}
use Rattle.md_blocks.specs.declared.block.ContainerKind.TheVariants.{FootnoteDefinition, Item, Quote}
use Rattle.md_blocks.specs.declared.options.MarkdownOptions.{MarkdownOptions}
use Rattle.md_blocks.specs.BlockStructure.{Step, Ends, GoesOn, begins_item, block_begun}
use Rattle.md_blocks.specs.BlockStructure.{container_begun}
use Rattle.md_blocks.specs.BlockStructure.{footnote_at, item_at, leaf_begun, marks_begun, may_underline}
use Rattle.md_blocks.specs.BlockStructure.{paragraph_lines, quote_at, text_begun, unless_underlined}
use Rattle.md_blocks.specs.ContainerBlocks.{Begun, container_of, is_list_of, is_task, item_begun, list_kind}
use Rattle.md_blocks.specs.ContainerBlocks.{padding, quote_begun, task_begun}
use Rattle.md_blocks.specs.Entries.{FootnoteBegins, Heading, ItemBegins, Line, ListBegins}
use Rattle.md_blocks.specs.Entries.{QuoteBegins, last_line}
use Rattle.md_blocks.specs.LeafBlocks.{code_begun, definitions_taken, heading_begun, heading_underlined}
use Rattle.md_blocks.specs.LeafBlocks.{a_line, break_begun, html_begun, if_begun, kind_begun}
use Rattle.md_blocks.specs.LeafBlocks.{paragraph_split, table_begun, text_read}
use Rattle.md_blocks.specs.Progress.{is_text}
use Rattle.md_blocks.specs.Leaves.{delimiters, is_delimiter_row, is_underline}
use Rattle.md_blocks.specs.Tables.{row_cells}
use Rattle.md_blocks.specs.Marks.{may_interrupt, number_length}
use Rattle.md_blocks.specs.OwnBlocks.{after_footnote, label_of, math_begun, opens_footnote}
use Rattle.md_blocks.specs.Rests.{Rest, indent, passed, rest_at, skipped, unindented}
use Rattle.md_blocks.specs.Stack.{innermost}
use Rattle.md_blocks.specs.States.{State, InParagraph, InTable, NoLeaf, blank_written}
use Rattle.md_blocks.specs.States.{containers_closed, is_in_paragraph}
use Rattle.md_blocks.specs.States.{opened_in, with_entries, with_leaf, without_blank}
use Rattle.md_blocks.proofs.Steps.{IsAlike, all_defined, alike_taken, left_of}
use Rattle.md_blocks.proofs.Steps.{no_underline, or_break, or_text}
use Rattle.md_blocks.proofs.Steps.{room_after, tried, unchanged, untried, with_rest}
use Rattle.md_blocks.proofs.TextBytes.{and_false, and_mid, no_item, no_row, other}

-- an item after the leaf is closed
abbrev list_after : ℕ → Bool → List ℕ → ℕ → State → State
list_after depth is_ordered number marker closed =
    let those = containers_closed depth closed in
    if innermost (is_list_of is_ordered marker) those.containers then blank_written those
    else opened_in (container_of (list_kind is_ordered) 0 marker)
    (with_entries (ListBegins is_ordered number ∷ []) (room_after depth closed))

abbrev item_after : ℕ → Rest → List ℕ → State → Begun
item_after depth rest ending closed =
    let text = unindented rest in
    let digits = number_length text in
    let marker = get_or text digits 0 in
    let after = passed (digits + 1) rest in
    let begun = opened_in (container_of Item (indent rest + digits + 1 + padding after) marker)
    (with_entries (ItemBegins ∷ [])
    (list_after depth (nat_lt 0 digits) (take digits text) marker closed)) in
    record {
      state = if is_task after then task_begun after ending begun else begun;
      rest = if is_task after then rest_at (passed 3 after).column []
          else skipped (padding after) after;
    }

-- a container after the leaf is closed
abbrev container_after : MarkdownOptions → ℕ → Bool → Rest → List ℕ → State → Option Begun
container_after options depth on rest ending closed =
    let first = get_or (unindented rest) 0 0 in
    let room = room_after depth closed in
    let quote = opened_in (container_of Quote 0 0) (with_entries (QuoteBegins ∷ []) room) in
    let footnote = opened_in (container_of FootnoteDefinition 0 0)
    (with_entries (FootnoteBegins (label_of (unindented rest)) ∷ []) room) in
    if first == 62
    then (if nat_lt depth 96 then Some (with_rest (skipped 1 (passed 1 rest)) quote) else None)
    else if first == 91
    then (if options.footnotes && nat_lt depth 96
    then elim (if_begun (opens_footnote (unindented rest)) footnote) [
      | Some begun ↦ Some (with_rest (after_footnote rest) begun)
      | None ↦ None
    ] else None)
    else if nat_lt depth 95 && begins_item on (unindented rest)
    then Some (item_after depth rest ending closed) else None

pub containers_alike : (options : MarkdownOptions) (one other depth : ℕ) (on : Bool) (rest : Rest)
    (ending : List ℕ) (state : State) → IsAlike state →
    container_begun options one depth on rest ending state
    ≡ container_begun options other depth on rest ending state
containers_alike options one other depth on rest ending state alike =
    ap (container_after options depth on rest ending) (alike one other)

-- whether a container begins doesn't depend on the definitions
some_if : {A : Type 0} (is : Bool) (x y : A) → (if is then Some x else None) ≡ None →
    (if is then Some y else None) ≡ None
some_if true x y is = grind arith
some_if false x y is = refl

abbrev pub followed : Rest → Option State → Option Begun
followed rest found = elim found [ Some begun ↦ Some (with_rest rest begun) | None ↦ None ]

none_followed : (is : Bool) (rest : Rest) (x y : State) → followed rest (if_begun is x) ≡ None →
    followed rest (if_begun is y) ≡ None
none_followed true rest x y is = grind arith
none_followed false rest x y is = refl

footnote_none : (are opens : Bool) (rest : Rest) (x y : State) →
    (if are then followed rest (if_begun opens x) else None) ≡ None →
    (if are then followed rest (if_begun opens y) else None) ≡ None
footnote_none true opens rest x y is = none_followed opens rest x y is
footnote_none false opens rest x y is = refl

either_none : {A : Type 0} (is : Bool) (a b c d : Option A) → (a ≡ None → c ≡ None) →
    (b ≡ None → d ≡ None) → (if is then a else b) ≡ None → (if is then c else d) ≡ None
either_none true a b c d first second = first
either_none false a b c d first second = second

pub container_none : (options : MarkdownOptions) (one other depth : ℕ) (on : Bool) (rest : Rest)
    (ending : List ℕ) (state : State) →
    container_begun options one depth on rest ending state ≡ None →
    container_begun options other depth on rest ending state ≡ None
container_none options one other depth on rest ending state =
    let first = get_or (unindented rest) 0 0 in
    either_none (first == 62) _ _ _ _
    (some_if (nat_lt depth 96) (quote_begun one depth rest state) (quote_begun other depth rest state))
    (either_none (first == 91) _ _ _ _
    (footnote_none (options.footnotes && nat_lt depth 96) (opens_footnote (unindented rest))
    (after_footnote rest) _ _)
    (some_if (nat_lt depth 95 && begins_item on (unindented rest)) (item_begun one depth rest ending state)
    (item_begun other depth rest ending state)))

abbrev pub is_underlined : Bool → List ℕ → Bool
is_underlined on text = may_underline on (get_or text 0 0) && is_underline (get_or text 0 0) text

abbrev pub tested : Bool → Bool → Bool → Bool → ℕ → MarkdownOptions → ℕ → ℕ → Bool → Rest →
    List ℕ → State → Option State
tested heading fence math html first options defined depth on rest ending state =
    if heading then heading_begun defined depth (unindented rest) state
    else if fence then code_begun defined first depth rest state
    else if math then (if options.math then math_begun defined depth rest ending state else None)
    else if html
    then html_begun defined depth (kind_begun (not on) (unindented rest)) rest ending state
    else marks_begun defined depth on rest state

-- which leaf begins, by the first byte
abbrev pub chosen : ℕ → MarkdownOptions → ℕ → ℕ → Bool → Rest → List ℕ → State → Option State
chosen first options defined depth on rest ending state =
    tested (first == 35) (first == 96 || first == 126) (first == 36) (first == 60) first options
    defined depth on rest ending state

-- an underline's first byte begins no other leaf
at_line : (options : MarkdownOptions) (n depth : ℕ) (on : Bool) (rest : Rest)
    (ending : List ℕ) (state : State) → is_underlined on (unindented rest) ≡ true →
    leaf_begun options n depth on rest ending state ≡ marks_begun n depth on rest state
at_line options n depth on rest ending state line =
    let first = get_or (unindented rest) 0 0 in
    let may = (and_parts _ _ line).0 in
    let mark = (and_parts on (first == 61 || first == 45) may).1 in
    elim (cases_Bool (first == 61)) [
      | inl e ↦ ap (λ b. chosen b options n depth on rest ending state) (eqb-true first 61 e)
      | inr e ↦ ap (λ b. chosen b options n depth on rest ending state)
          (eqb-true first 45 (ap (λ so. so || first == 45) (sym e) ∙ mark))
    ]

or_none : (n depth : ℕ) (text : List ℕ) (left : State) (found : Option State) →
    or_break n depth text left found ≡ None → found ≡ None
or_none n depth text left None is = refl
or_none n depth text left (Some heading) is = grind arith

-- so if none begins there, all lines of the paragraph are definitions
all_are : (options : MarkdownOptions) (n depth : ℕ) (on : Bool) (rest : Rest)
    (ending : List ℕ) (state : State) → is_underlined on (unindented rest) ≡ true →
    leaf_begun options n depth on rest ending state ≡ None →
    nat_lt n (length (paragraph_lines state.leaf)) ≡ false
all_are options n depth on rest ending state line is =
    let text = unindented rest in
    let first = get_or text 0 0 in
    let parts = and_parts (may_underline on first) (is_underline first text) line in
    let lines = paragraph_lines state.leaf in
    let none = or_none n depth text (left_of text n on state)
    (heading_underlined n first text lines state)
    (sym (tried first n depth on text state refl parts.0)
    ∙ sym (at_line options n depth on rest ending state line) ∙ is) in
    let made = with_leaf NoLeaf (with_entries
    (Heading (if first == 61 then 1 else 2) (drop n lines) ∷ []) (blank_written state)) in
    all_defined (nat_lt n (length lines)) state made
    (ap (λ so. if_begun (so && nat_lt n (length lines)) made) (sym parts.1) ∙ none)

-- the line continues a paragraph still
on_kept : (whole p m line : Bool) (taken state : State) → is_in_paragraph taken.leaf ≡ true →
    is_in_paragraph state.leaf ≡ p →
    (whole && is_in_paragraph (if ((whole && p) && m) && line then taken else state).leaf) ≡ (whole && p)
on_kept false p m line taken state there is = refl
on_kept true false m line taken state there is = is
on_kept true true false line taken state there is = is
on_kept true true true false taken state there is = is
on_kept true true true true taken state there is = there

-- a container, or else text
abbrev pub container_or : MarkdownOptions → ℕ → ℕ → Bool → Bool → Rest → List ℕ → State → Step
container_or options n depth whole on rest ending left =
    elim (container_begun options n depth on rest ending left) [
      | Some begun ↦ GoesOn begun
      | None ↦ Ends (text_begun options n depth whole rest ending left)
    ]

abbrev pub leaf_or : Option State → Step → Step
leaf_or found other = elim found [ Some begun ↦ Ends (without_blank begun) | None ↦ other ]

abbrev pub or_ends : Option Begun → State → Step
or_ends found text = elim found [ Some begun ↦ GoesOn begun | None ↦ Ends text ]

-- the same of a paragraph without lines, whatever is defined
emptied : (options : MarkdownOptions) (one other depth : ℕ) (whole on : Bool) (rest : Rest)
    (ending : List ℕ) (defined : ℕ) (lines : List Line) (state : State) →
    nat_lt defined (length lines) ≡ false →
    container_or options one depth whole on rest ending (definitions_taken defined lines state)
    ≡ container_or options other depth whole on rest ending (definitions_taken defined lines state)
emptied options one other depth whole on rest ending defined lines state all =
    let left = definitions_taken defined lines state in
    let none : left ≡ with_leaf (InParagraph []) state =
    ap (λ those. with_leaf (InParagraph those) state)
    (drop_all defined lines (ltb-false defined (length lines) all)) in
    ap (λ found. or_ends found (text_begun options one depth whole rest ending left))
    (containers_alike options one other depth on rest ending left (alike_taken defined lines state all))
    ∙ ap (λ s. or_ends (container_begun options other depth on rest ending left)
    (text_begun options one depth whole rest ending s)) none
    ∙ ap (λ s. or_ends (container_begun options other depth on rest ending left)
    (text_begun options other depth whole rest ending s)) (sym none)

-- a block that begins where no leaf does, with one number for both
pub block_is : (options : MarkdownOptions) (taken defined depth : ℕ) (whole is_line : Bool)
    (rest : Rest) (ending : List ℕ) (state left : State) (step : Step) →
    is_underlined (whole && is_in_paragraph state.leaf) (unindented rest) ≡ is_line →
    leaf_begun options taken depth (whole && is_in_paragraph state.leaf) rest ending state ≡ None →
    left ≡ unless_underlined taken (whole && is_in_paragraph state.leaf) rest state →
    (left ≡ state → defined ≡ taken) →
    container_or options defined depth whole (whole && is_in_paragraph left.leaf) rest ending left ≡ step →
    block_begun options taken depth whole rest ending state ≡ step
block_is options taken defined depth whole true rest ending state left step line no_leaf is_left alike is =
    let on = whole && is_in_paragraph state.leaf in
    let text = unindented rest in
    let lines = paragraph_lines state.leaf in
    let gone = definitions_taken taken lines state in
    let lost : left ≡ gone = is_left ∙ ap (λ so. if so then gone else state) line in
    let kept : (whole && is_in_paragraph left.leaf) ≡ on =
    ap (λ s. whole && is_in_paragraph s.leaf) is_left
    ∙ on_kept whole (is_in_paragraph state.leaf) (get_or text 0 0 == 61 || get_or text 0 0 == 45)
    (is_underline (get_or text 0 0) text) gone state refl refl in
    ap (λ l. leaf_or l (container_or options taken depth whole on rest ending
    (unless_underlined taken on rest state))) no_leaf
    ∙ ap (container_or options taken depth whole on rest ending) (sym is_left ∙ lost)
    ∙ emptied options taken defined depth whole on rest ending taken lines state
    (all_are options taken depth on rest ending state line no_leaf)
    ∙ ap (container_or options defined depth whole on rest ending) (sym lost)
    ∙ ap (λ o. container_or options defined depth whole o rest ending left) (sym kept) ∙ is
block_is options taken defined depth whole false rest ending state left step line no_leaf is_left alike is =
    let on = whole && is_in_paragraph state.leaf in
    let lines = paragraph_lines state.leaf in
    let same : left ≡ state = is_left
    ∙ ap (λ so. if so then definitions_taken taken lines state else state) line in
    let kept : (whole && is_in_paragraph left.leaf) ≡ on = ap (λ s. whole && is_in_paragraph s.leaf) same in
    ap (λ l. leaf_or l (container_or options taken depth whole on rest ending
    (unless_underlined taken on rest state))) no_leaf
    ∙ ap (λ so. container_or options taken depth whole on rest ending
    (if so then definitions_taken taken lines state else state)) line
    ∙ ap (container_or options taken depth whole on rest ending) (sym same)
    ∙ ap (λ n. container_or options n depth whole on rest ending left) (sym (alike same))
    ∙ ap (λ o. container_or options defined depth whole o rest ending left) (sym kept) ∙ is

-- where a leaf begins
pub leaf_ends : (options : MarkdownOptions) (n depth : ℕ) (whole : Bool) (rest : Rest)
    (ending : List ℕ) (state begun : State) →
    leaf_begun options n depth (whole && is_in_paragraph state.leaf) rest ending state ≡ Some begun →
    block_begun options n depth whole rest ending state ≡ Ends (without_blank begun)
leaf_ends options n depth whole rest ending state begun =
    let on = whole && is_in_paragraph state.leaf in
    ap (λ found. leaf_or found (container_or options n depth whole on rest ending
    (unless_underlined n on rest state)))

-- where a byte begins nothing but text
texted : (options : MarkdownOptions) (n : ℕ) (on : Bool) (rest : Rest) (ending : List ℕ)
    (state text : State) →
    is_delimiter_row (unindented rest) ≡ false →
    or_text (if on then table_begun options.tables (unindented rest) ending
    (paragraph_lines state.leaf) state
    else None) text ≡ text
texted options n false rest ending state text none = refl
texted options n true rest ending state text none =
    let those = unindented rest in
    let lines = paragraph_lines state.leaf in
    ap (λ so. or_text (if_begun so (with_leaf
    (InTable (length (delimiters those)) (last_line lines ∷ a_line those ending ∷ []))
    (blank_written (paragraph_split lines state)))) text)
    (and_mid options.tables (is_delimiter_row those)
    (length (row_cells (last_line lines).text) == length (delimiters those)) none)

pub text_block : (options : MarkdownOptions) (n depth : ℕ) (whole : Bool) (rest : Rest)
    (ending : List ℕ) (state : State) → is_text (get_or (unindented rest) 0 0) ≡ true →
    block_begun options n depth whole rest ending state
    ≡ Ends (text_read n depth whole (a_line (unindented rest) ending) state)
text_block options n depth whole rest ending state is =
    let on = whole && is_in_paragraph state.leaf in
    let text = unindented rest in
    let first = get_or text 0 0 in
    let may : may_underline on first ≡ false = no_underline on first
    (ap (λ so. so || first == 45) (other 61 first is refl) ∙ other 45 first is refl) in
    let read = text_read n depth whole (a_line text ending) state in
    let no_leaf : leaf_begun options n depth on rest ending state ≡ None =
    ap (λ so. tested so (first == 96 || first == 126) (first == 36)
    (first == 60) first options n depth on rest ending state)
    (other 35 first is refl)
    ∙ ap (λ so. tested false (so || first == 126) (first == 36)
    (first == 60) first options n depth on rest ending state)
    (other 96 first is refl)
    ∙ ap (λ so. tested false so (first == 36) (first == 60) first options n depth on rest ending state)
    (other 126 first is refl)
    ∙ ap (λ so. tested false false so (first == 60) first options n depth on rest ending state)
    (other 36 first is refl)
    ∙ ap (λ so. tested false false false so first options n depth on rest ending state)
    (other 60 first is refl)
    ∙ untried first n depth on text state refl may
    ∙ ap (λ so. if so || (first == 45 || first == 95) then break_begun n first depth text state else None)
    (other 42 first is refl)
    ∙ ap (λ so. if so || first == 95 then break_begun n first depth text state else None)
    (other 45 first is refl)
    ∙ ap (λ so. if so then break_begun n first depth text state else None) (other 95 first is refl) in
    let no_container : container_begun options n depth on rest ending state ≡ None =
    ap (λ so. if so then quote_at n depth rest state
    else if first == 91 then footnote_at options.footnotes n depth rest state
    else item_at n depth on rest ending state) (other 62 first is refl)
    ∙ ap (λ so. if so then footnote_at options.footnotes n depth rest state
    else item_at n depth on rest ending state) (other 91 first is refl)
    ∙ ap (λ so. if nat_lt depth 95 && (so && (not on || may_interrupt text))
    then Some (item_begun n depth rest ending state) else None) (no_item text is)
    ∙ ap (λ so. if so then Some (item_begun n depth rest ending state) else None) (and_false
    (nat_lt depth 95)) in
    ap (λ found. leaf_or found (container_or options n depth whole on rest ending
    (unless_underlined n on rest state)))
    no_leaf
    ∙ ap (container_or options n depth whole on rest ending) (unchanged first n on text state refl may)
    ∙ ap (λ found. or_ends found (text_begun options n depth whole rest ending state)) no_container
    ∙ ap Ends (texted options n on rest ending state read (no_row text is))
