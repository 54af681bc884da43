-- The blocks of a line, with one number of definitions for all of them.
use Rattle.std.proofs.Common.{ℕ, Bool, List, [], ◌∷◌, ◌≡◌, ◌∙◌, ◌==◌, ◌&&◌, ◌+◌, ◌≤◌, ◌<◌, true}
use Rattle.std.proofs.Common.{false, refl, sym, ap, Option, Some, None}
use Rattle.std.proofs.Common.{arith, length, drop, get_or, nat_lt, not, zero, suc}
use Rattle.std.specs.Prelude.{◌||◌, ◌-◌, ◌%◌, replicate, if◌then◌else◌}
use Rattle.std.proofs.lemmas.List.{length-append, length-drop, length-replicate}
use Rattle.std.proofs.lemmas.Bool.{false≢true}
use Rattle.md_blocks.specs.declared.html.HtmlKind.{HtmlKind}
use Rattle.md_blocks.specs.declared.options.MarkdownOptions.{MarkdownOptions}
use Rattle.md_blocks.specs.BlockStructure.{Step, Ends, GoesOn, begins_item, begun, blank_or, block_begun}
use Rattle.md_blocks.specs.BlockStructure.{container_begun, deep_read, leaf_begun}
use Rattle.md_blocks.specs.BlockStructure.{lines_defined, paragraph_lines, step_read, text_begun}
use Rattle.md_blocks.specs.BlockStructure.{unless_underlined}
use Rattle.md_blocks.specs.ContainerBlocks.{Begun, is_list_of, is_task, item_begun, quote_begun}
use Rattle.md_blocks.specs.Entries.{Heading, Line}
use Rattle.md_blocks.specs.HtmlBlocks.{is_html_end}
use Rattle.md_blocks.specs.LeafBlocks.{a_line, fence_of, first_word, heading_of, html_ended}
use Rattle.md_blocks.specs.LeafBlocks.{if_begun, indented_read, kind_begun}
use Rattle.md_blocks.specs.LeafBlocks.{line_added, row_read, table_begun, text_read}
use Rattle.md_blocks.specs.Leaves.{opens_code, opens_math}
use Rattle.md_blocks.specs.Marks.{number_length, opens_heading, run_of}
use Rattle.md_blocks.specs.OwnBlocks.{after_dollars, after_footnote, opens_footnote}
use Rattle.md_blocks.specs.Rests.{Rest, first_of, indent, is_blank_rest, is_none, passed, rest_at}
use Rattle.md_blocks.specs.Rests.{text_of, unindented}
use Rattle.md_blocks.specs.Stack.{innermost}
use Rattle.md_blocks.specs.States.{State, Leaf, InFenced, InHtml, InIndented, InMath, InParagraph}
use Rattle.md_blocks.specs.States.{InTable, NoLeaf}
use Rattle.md_blocks.specs.States.{closed_to, containers_closed, is_in_paragraph, leaf_closed}
use Rattle.md_blocks.specs.States.{list_closed, with_a_child}
use Rattle.md_blocks.specs.States.{with_entries, with_leaf}
use Rattle.md_blocks.proofs.Choices.{container_or, containers_alike, followed, leaf_or}
use Rattle.md_blocks.proofs.Choices.{or_ends}
use Rattle.md_blocks.proofs.Steps.{IsAlike, break_after, or_text, room_after, with_rest}
use Rattle.md_blocks.proofs.TextBytes.{and_false}

-- a leaf that is no paragraph is closed alike
closed_by : (leaf : Leaf) (state : State) → is_in_paragraph leaf ≡ false →
    IsAlike (with_leaf leaf state)
closed_by NoLeaf state is one other = refl
closed_by (InParagraph lines) state is one other = absurd (false≢true (sym is))
closed_by (InIndented lines) state is one other = refl
closed_by (InFenced fence info lines) state is one other = refl
closed_by (InMath fence lines) state is one other = refl
closed_by (InHtml kind lines) state is one other = refl
closed_by (InTable columns lines) state is one other = refl

pub alike_there : (state : State) → is_in_paragraph state.leaf ≡ false → IsAlike state
alike_there state is = closed_by state.leaf state is

-- what ends or begins after the leaf is closed, where no paragraph is open
abbrev html_after : Option HtmlKind → ℕ → Rest → List ℕ → State → Option State
html_after found depth rest ending closed = elim found [
  | None ↦ None
  | Some kind ↦ Some (html_ended (is_html_end kind (unindented rest))
      (with_leaf (InHtml kind (a_line rest.text ending ∷ [])) (room_after depth closed)))
]

abbrev leaf_after : MarkdownOptions → ℕ → Rest → List ℕ → State → Option State
leaf_after options depth rest ending closed =
    let text = unindented rest in
    let first = get_or text 0 0 in
    let room = room_after depth closed in
    let content = after_dollars text in
    if first == 35
    then if_begun (opens_heading text)
    (with_entries (Heading (run_of 35 text) (a_line (heading_of text) [] ∷ []) ∷ []) room)
    else if first == 96 || first == 126
    then if_begun (opens_code first text)
    (with_leaf (InFenced (fence_of first rest) (first_word (drop (run_of first text) text)) []) room)
    else if first == 36
    then (if options.math then if_begun (opens_math text) (with_leaf (InMath (fence_of 36 rest)
    (if is_none content then [] else a_line content ending ∷ [])) room) else None)
    else if first == 60 then html_after (kind_begun true text) depth rest ending closed
    else break_after depth text closed

leaves_alike : (options : MarkdownOptions) (one other depth : ℕ) (rest : Rest)
    (ending : List ℕ) (state : State) → IsAlike state →
    leaf_begun options one depth false rest ending state
    ≡ leaf_begun options other depth false rest ending state
leaves_alike options one other depth rest ending state alike =
    ap (leaf_after options depth rest ending) (alike one other)

abbrev text_after : ℕ → Line → State → State
text_after depth line closed =
    with_leaf (InParagraph (line ∷ [])) (with_a_child (list_closed (containers_closed depth closed)))

texts_after : (one other depth : ℕ) (whole : Bool) (line : Line) (state : State) → IsAlike state →
    text_read one depth whole line state ≡ text_read other depth whole line state
texts_after one other depth whole line state alike =
    ap (λ closed. if is_in_paragraph state.leaf then line_added line state
    else elim (if whole then row_read line state else None) [
      | Some longer ↦ longer
      | None ↦ text_after depth line closed
    ]) (alike one other)

outside : (options : MarkdownOptions) (n depth : ℕ) (whole on : Bool) (rest : Rest) (ending : List ℕ)
    (state : State) → on ≡ false → is_in_paragraph state.leaf ≡ false →
    container_or options n depth whole on rest ending (unless_underlined n on rest state)
    ≡ or_ends (container_begun options n depth false rest ending state)
    (text_read n depth whole (a_line (unindented rest) ending) state)
outside options n depth true on rest ending state off is =
    ap (λ o. container_or options n depth true o rest ending (unless_underlined n o rest state)) off
    ∙ ap (λ so. or_ends (container_begun options n depth false rest ending state)
    (or_text (if so
    then table_begun options.tables (unindented rest) ending (paragraph_lines state.leaf) state else None)
    (text_read n depth true (a_line (unindented rest) ending) state))) is
outside options n depth false on rest ending state off is =
    ap (λ o. container_or options n depth false o rest ending (unless_underlined n o rest state)) off

-- a step where no paragraph is open
steps_alike : (options : MarkdownOptions) (one other depth : ℕ) (whole : Bool) (rest : Rest)
    (ending : List ℕ) (state : State) → is_in_paragraph state.leaf ≡ false →
    step_read options one depth whole rest ending state
    ≡ step_read options other depth whole rest ending state
steps_alike options one other depth whole rest ending state is =
    let on = whole && is_in_paragraph state.leaf in
    let off : on ≡ false = ap (λ so. whole && so) is ∙ and_false whole in
    let alike = alike_there state is in
    let line = a_line (unindented rest) ending in
    let few = nat_lt (indent rest) 4 in
    let deep = ap (λ so. if so then text_read one depth whole line state
    else indented_read depth whole rest ending state) is
    ∙ sym (ap (λ so. if so then text_read other depth whole line state
    else indented_read depth whole rest ending state) is) in
    let to : (n : ℕ) → block_begun options n depth whole rest ending state
    ≡ leaf_or (leaf_begun options n depth false rest ending state)
    (or_ends (container_begun options n depth false rest ending state) (text_read n depth whole line state)) =
    λ n. ap (λ o. leaf_or (leaf_begun options n depth o rest ending state)
    (container_or options n depth whole on rest ending (unless_underlined n on rest state))) off
    ∙ ap (leaf_or (leaf_begun options n depth false rest ending state))
    (outside options n depth whole on rest ending state off is) in
    ap (λ d. if few then block_begun options one depth whole rest ending state else Ends d) deep
    ∙ ap (λ b. if few then b else Ends (deep_read other depth whole rest ending state)) (to one
    ∙ ap (λ l. leaf_or l (or_ends (container_begun options one depth false rest ending state)
    (text_read one depth whole line state)))
    (leaves_alike options one other depth rest ending state alike)
    ∙ ap (λ c. leaf_or (leaf_begun options other depth false rest ending state) (or_ends c
    (text_read one depth whole line state)))
    (containers_alike options one other depth false rest ending state alike)
    ∙ ap (λ t. leaf_or (leaf_begun options other depth false rest ending state)
    (or_ends (container_begun options other depth false rest ending state) t))
    (texts_after one other depth whole line state alike)
    ∙ sym (to other))

-- whether a step ends the line, and what begins if it doesn't
abbrev is_end : Step → Bool
is_end step = elim step [ Ends _ ↦ true | GoesOn _ ↦ false ]

abbrev begun_in : Step → Option Begun
begun_in step = elim step [ Ends _ ↦ None | GoesOn next ↦ Some next ]

-- a container that begins at a step
container_of_step : (found : Option State) (container : Option Begun) (text : State) (next : Begun) →
    leaf_or found (or_ends container text) ≡ GoesOn next → container ≡ Some next
container_of_step None None text next is = ap begun_in is
container_of_step None (Some begun) text next is = ap begun_in is
container_of_step (Some leaf) container text next is = absurd (false≢true (sym (ap is_end is)))

abbrev shallow : Bool → Step → State → Step
shallow few block deep = if few then block else Ends deep

-- after a container no paragraph is open, or nothing is left of the line
abbrev pub is_settled : Begun → Bool
is_settled begun = is_blank_rest begun.rest || not (is_in_paragraph begun.state.leaf)

abbrev settles : Option Begun → Bool
settles found = elim found [ Some begun ↦ is_settled begun | None ↦ true ]

or_true : (x : Bool) → (x || true) ≡ true
or_true true = refl
or_true false = refl

closed_none : (leaf : Leaf) (n : ℕ) (state : State) →
    is_in_paragraph (leaf_closed n (with_leaf leaf state)).leaf ≡ false
closed_none NoLeaf n state = refl
closed_none (InParagraph lines) n state = refl
closed_none (InIndented lines) n state = refl
closed_none (InFenced fence info lines) n state = refl
closed_none (InMath fence lines) n state = refl
closed_none (InHtml kind lines) n state = refl
closed_none (InTable columns lines) n state = refl

settled_with : (rest : Rest) (state : State) → is_in_paragraph state.leaf ≡ false →
    is_settled (with_rest rest state) ≡ true
settled_with rest state is = ap (λ so. is_blank_rest rest || not so) is ∙ or_true (is_blank_rest rest)

settles_if : (is : Bool) (begun : Begun) → is_settled begun ≡ true →
    settles (if is then Some begun else None) ≡ true
settles_if true begun settled = settled
settles_if false begun settled = refl

settles_footnote : (are opens : Bool) (rest : Rest) (state : State) → is_in_paragraph state.leaf ≡ false →
    settles (if are then followed rest (if_begun opens state) else None) ≡ true
settles_footnote true true rest state is = settled_with rest state is
settles_footnote true false rest state is = refl
settles_footnote false opens rest state is = refl

in_list_leaf : (same : Bool) (one other : State) → is_in_paragraph one.leaf ≡ false →
    is_in_paragraph other.leaf ≡ false → is_in_paragraph (if same then one else other).leaf ≡ false
in_list_leaf true one other first second = first
in_list_leaf false one other first second = second

settled_item : (task : Bool) (after rest : Rest) (column : ℕ) (tasked begun : State) →
    is_in_paragraph begun.leaf ≡ false →
    is_settled (with_rest (if task then rest_at column [] else rest) (if task then tasked else begun)) ≡ true
settled_item true after rest column tasked begun is = refl
settled_item false after rest column tasked begun is = settled_with rest begun is

settled_there : (options : MarkdownOptions) (n depth : ℕ) (on : Bool) (rest : Rest) (ending : List ℕ)
    (state : State) → settles (container_begun options n depth on rest ending state) ≡ true
settled_there options n depth on rest ending state =
    let text = unindented rest in
    let first = get_or text 0 0 in
    let closed = closed_none state.leaf n state in
    let digits = number_length text in
    let marker = get_or text digits 0 in
    let after = passed (digits + 1) rest in
    either (first == 62) _ _
    (settles_if (nat_lt depth 96) (quote_begun n depth rest state) (settled_with
    (quote_begun n depth rest state).rest (quote_begun n depth rest state).state closed))
    (either (first == 91) _ _
    (settles_footnote (options.footnotes && nat_lt depth 96) (opens_footnote text)
    (after_footnote rest) _ closed)
    (settles_if (nat_lt depth 95 && begins_item on text) (item_begun n depth rest ending state)
    (settled_item (is_task after) after _ _ _ _
    (in_list_leaf (innermost (is_list_of (nat_lt 0 digits) marker) (closed_to n depth state).containers) _ _
    closed closed)))) where
      either : (is : Bool) (a b : Option Begun) → settles a ≡ true → settles b ≡ true →
          settles (if is then a else b) ≡ true
      either true a b first second = first
      either false a b first second = second

step_settles : (options : MarkdownOptions) (n depth : ℕ) (whole : Bool) (rest : Rest)
    (ending : List ℕ) (state : State) (next : Begun) →
    step_read options n depth whole rest ending state ≡ GoesOn next → is_settled next ≡ true
step_settles options n depth whole rest ending state next =
    settle (nat_lt (indent rest) 4) where
      on : Bool
      on = whole && is_in_paragraph state.leaf

      left : State
      left = unless_underlined n on rest state

      settle : (few : Bool) →
          shallow few (block_begun options n depth whole rest ending state)
          (deep_read n depth whole rest ending state) ≡ GoesOn next → is_settled next ≡ true
      settle true is = sym (ap settles (container_of_step
          (leaf_begun options n depth on rest ending state)
          (container_begun options n depth on rest ending left)
          (text_begun options n depth whole rest ending left) next is))
          ∙ settled_there options n depth on rest ending left
      settle false is = absurd (false≢true (sym (ap is_end is)))

-- the rest of a line after a step
abbrev followed_by : ℕ → MarkdownOptions → ℕ → Bool → Bool → List ℕ → Step → State
followed_by fuel options n whole ended ending step = elim step [
  | Ends after ↦ after
  | GoesOn next ↦ begun fuel options n (length next.state.containers) whole ended true next.rest
      ending next.state
]

unopened : (blank p : Bool) → (blank || not p) ≡ true → blank ≡ false → p ≡ false
unopened true p is no_blank = absurd (false≢true (sym no_blank))
unopened false true is no_blank = absurd (false≢true is)
unopened false false is no_blank = refl

steps_follow : (fuel : ℕ) (options : MarkdownOptions) (one other depth : ℕ)
    (whole ended : Bool) (rest : Rest) (ending : List ℕ) (state : State) (step : Step) →
    step_read options other depth whole rest ending state ≡ step →
    ((next : Begun) → is_settled next ≡ true →
    begun fuel options one (length next.state.containers) whole ended true next.rest ending next.state
    ≡ begun fuel options other
    (length next.state.containers) whole ended true next.rest ending next.state) →
    followed_by fuel options one whole ended ending step
    ≡ followed_by fuel options other whole ended ending step
steps_follow fuel options one other depth whole ended rest ending state (Ends after) is inner = refl
steps_follow fuel options one other depth whole ended rest ending state (GoesOn next) is inner =
    inner next (step_settles options other depth whole rest ending state next is)

blank_case : (blank : Bool) (state one other : State) → (blank ≡ false → one ≡ other) →
    (if blank then state else one) ≡ (if blank then state else other)
blank_case true state one other same = refl
blank_case false state one other same = same refl

-- after a container the number counts for nothing
pub begun_alike : (fuel : ℕ) (options : MarkdownOptions) (one other depth : ℕ)
    (whole ended : Bool) (rest : Rest) (ending : List ℕ) (state : State) →
    is_settled (with_rest rest state) ≡ true →
    begun fuel options one depth whole ended true rest ending state
    ≡ begun fuel options other depth whole ended true rest ending state
begun_alike zero options one other depth whole ended rest ending state settled = refl
begun_alike (suc fuel) options one other depth whole ended rest ending state settled =
    blank_case (is_blank_rest rest) state _ _ (λ no_blank.
    ap (followed_by fuel options one whole ended ending)
    (steps_alike options one other depth whole rest ending state
    (unopened (is_blank_rest rest) (is_in_paragraph state.leaf) settled no_blank))
    ∙ steps_follow fuel options one other depth whole ended rest ending state
    (step_read options other depth whole rest ending state) refl
    (λ next there. begun_alike fuel options one other (length next.state.containers) whole ended
    next.rest ending next.state there))

-- a line whose rest is blank, whose text ends it, or after whose text a container is open
pub begun_blank : (fuel : ℕ) (options : MarkdownOptions) (n depth : ℕ)
    (whole ended has : Bool) (rest : Rest) (ending : List ℕ) (state : State) →
    is_blank_rest rest ≡ true →
    begun fuel options n depth whole ended has rest ending state
    ≡ blank_or n depth whole ended has rest ending state
begun_blank zero options n depth whole ended has rest ending state is = refl
begun_blank (suc fuel) options n depth whole ended has rest ending state is =
    ap (λ so. if so then blank_or n depth whole ended has rest ending state
    else followed_by fuel options n whole ended ending
    (step_read options n depth whole rest ending state)) is

pub begun_step : (fuel : ℕ) (options : MarkdownOptions) (n depth : ℕ)
    (whole ended has : Bool) (rest : Rest) (ending : List ℕ) (state : State) (step : Step) →
    is_blank_rest rest ≡ false → step_read options n depth whole rest ending state ≡ step →
    begun (suc fuel) options n depth whole ended has rest ending state
    ≡ followed_by fuel options n whole ended ending step
begun_step fuel options n depth whole ended has rest ending state step no_blank is =
    ap (λ so. if so then blank_or n depth whole ended has rest ending state
    else followed_by fuel options n whole ended ending
    (step_read options n depth whole rest ending state)) no_blank
    ∙ ap (followed_by fuel options n whole ended ending) is

-- what is left of a line gives the state that the whole line gives
abbrev pub Reads : ℕ → MarkdownOptions → ℕ → Bool → Bool → Bool → Rest → List ℕ → State →
    State → Type 0
Reads fuel options depth whole ended has rest ending state line =
    begun fuel options (lines_defined state) depth whole ended has rest ending state ≡ line

abbrev pub Left : ℕ → MarkdownOptions → ℕ → Bool → Bool → Bool → Rest → List ℕ → State →
    State → Type 0
Left count options depth whole ended has rest ending state line =
    (fuel : ℕ) × (count ≤ fuel) × Reads fuel options depth whole ended has rest ending state line

-- a container leaves it so
pub goes_on : (count later : ℕ) (options : MarkdownOptions) (depth : ℕ)
    (whole ended has : Bool) (rest : Rest) (ending : List ℕ) (state : State) (next : Begun)
    (line : State) → is_blank_rest rest ≡ false → later < count →
    step_read options (lines_defined state) depth whole rest ending state ≡ GoesOn next →
    Left count options depth whole ended has rest ending state line →
    Left later options (length next.state.containers) whole ended true next.rest ending next.state line
goes_on count later options depth whole ended has rest ending state next line
    no_blank less is (zero, enough, reads) =
    absurd (omega (arith, less, enough))
goes_on count later options depth whole ended has rest ending state next line
    no_blank less is (suc fuel, enough, reads) = (
      fuel,
      omega (arith, less, enough),
      begun_alike fuel options (lines_defined next.state) (lines_defined state)
          (length next.state.containers) whole ended next.rest ending next.state
          (step_settles options (lines_defined state) depth whole rest ending state next is)
          ∙ sym (begun_step fuel options (lines_defined state) depth whole ended has rest ending state
          (GoesOn next) no_blank is)
          ∙ reads,
    )

-- what ends the line gives its state
pub ends_so : (count : ℕ) (options : MarkdownOptions) (depth : ℕ)
    (whole ended has : Bool) (rest : Rest) (ending : List ℕ) (state after : State)
    (line : State) → is_blank_rest rest ≡ false → 0 < count →
    step_read options (lines_defined state) depth whole rest ending state ≡ Ends after →
    Left count options depth whole ended has rest ending state line →
    after ≡ line
ends_so count options depth whole ended has rest ending state after line no_blank
    some is (zero, enough, reads) =
    absurd (omega (arith, some, enough))
ends_so count options depth whole ended has rest ending state after line no_blank
    some is (suc fuel, enough, reads) =
    sym (begun_step fuel options (lines_defined state) depth whole ended has rest ending state
    (Ends after) no_blank is)
    ∙ reads

-- the rest of a line has as many bytes as the line has after a position, or more
pub long : (line : List ℕ) (at column : ℕ) (tab : Bool) →
    length line - at ≤ length (text_of line at column tab)
long line at column true =
    omega (
      arith,
      length-append (replicate (4 - column % 4) 32) (drop (suc at) line),
      length-replicate {A = ℕ} (4 - column % 4) 32,
      length-drop (suc at) line,
      in_four column,
    ) where
      in_four : (n : ℕ) → n % 4 < 4
      in_four n = omega arith
long line at column false = omega (arith, length-drop at line)

-- the first byte of a text
pub first_is : (text : List ℕ) (byte : ℕ) → first_of text ≡ Some byte → byte ≡ get_or text 0 0
first_is [] byte is = absurd (false≢true (ap (λ found. elim found [ Some _ ↦ true | None ↦ false ]) is))
first_is (one ∷ rest) byte is = sym (ap (λ found. elim found [ Some x ↦ x | None ↦ 0 ]) is)

pub some_text : (text : List ℕ) (byte : ℕ) → first_of text ≡ Some byte → is_none text ≡ false
some_text [] byte is = absurd (false≢true (ap (λ found. elim found [ Some _ ↦ true | None ↦ false ]) is))
some_text (one ∷ rest) byte is = refl

pub no_text : (text : List ℕ) → first_of text ≡ None → is_none text ≡ true
no_text [] is = refl
no_text (one ∷ rest) is =
    absurd (false≢true (sym (ap (λ found. elim found [ Some _ ↦ true | None ↦ false ]) is)))
