-- How a line begins a block.
use Rattle.std.proofs.Common.{ℕ, Bool, List, [], ◌∷◌, ◌≡◌, ◌∙◌, ◌==◌, true, false, refl, sym, ap}
use Rattle.std.proofs.Common.{Option, Some, None}
use Rattle.std.proofs.Common.{arith, length, drop, get_or, nat_lt, ◌&&◌}
use Rattle.std.specs.Prelude.{Result, Ok, Err, IfOk, OnOk, ◌||◌, if◌then◌else◌}
use Rattle.std.proofs.Common.{inl, inr}
use Rattle.std.proofs.lemmas.Bool.{cases_Bool, eqb-true, le-ltb, ltb-false}
use Rattle.std.proofs.lemmas.List.{drop_all}
use Rattle.md_blocks.specs.BlockStructure.{break_at, may_underline, paragraph_lines}
use Rattle.md_blocks.specs.ContainerBlocks.{Begun}
use Rattle.md_blocks.specs.Entries.{Break, Heading, Line, OnlyDefinitions, Paragraph}
use Rattle.md_blocks.specs.LeafBlocks.{definitions_taken, heading_underlined, if_begun}
use Rattle.md_blocks.specs.LeafBlocks.{line_added, row_read, text_read}
use Rattle.md_blocks.specs.Leaves.{is_break, is_underline}
use Rattle.md_blocks.specs.Rests.{Rest}
use Rattle.md_blocks.specs.States.{State, InParagraph, NoLeaf, blank_written, containers_closed}
use Rattle.md_blocks.specs.States.{is_in_paragraph, room_for_text}
use Rattle.md_blocks.specs.States.{leaf_closed, list_closed, with_a_child, with_entries, with_leaf}

-- two facts of a result are a third one
pub both_ok : {A E : Type 0} (r : Result A E) (P Q R : A → Type 0) →
    ((a : A) → P a → Q a → R a) → IfOk r P → IfOk r Q → IfOk r R
both_ok (Ok a) P Q R f p q = f a p q
both_ok (Err e) P Q R f p q = tt

-- a state that a result has is another one
pub ok_to : {A E : Type 0} (r : Result A E) (new mid last : State) → mid ≡ last →
    OnOk r (new ≡ mid) → OnOk r (new ≡ last)
ok_to (Ok _) new mid last same is = is ∙ same
ok_to (Err _) new mid last same is = tt

abbrev pub with_rest : Rest → State → Begun
with_rest rest state = record { state = state; rest = rest }

-- a footnote that begins
pub footnote_is : (is : Bool) (found : Option State) (state : State) (rest there : Rest) →
    found ≡ if_begun is state → (is ≡ true → there ≡ rest) →
    elim found [ Some begun ↦ Some (with_rest rest begun) | None ↦ None ]
    ≡ (if is then Some (with_rest there state) else None)
footnote_is true found state rest there begun ends =
    rw begun (ap (λ r. Some (with_rest r state)) (sym (ends refl)))
footnote_is false found state rest there begun ends = rw begun refl

-- a state whose leaf is closed alike, however many lines are definitions
abbrev pub IsAlike : State → Type 0
IsAlike state = (one other : ℕ) → leaf_closed one state ≡ leaf_closed other state

-- one that loses the definitions that are all its lines
pub alike_taken : (defined : ℕ) (lines : List Line) (state : State) →
    nat_lt defined (length lines) ≡ false → IsAlike (definitions_taken defined lines state)
alike_taken defined lines state all one other =
    let none : drop defined lines ≡ [] = drop_all defined lines (ltb-false defined (length lines) all) in
    let left = with_leaf (InParagraph []) state in
    let closed : (n : ℕ) → leaf_closed n (definitions_taken defined lines state)
    ≡ with_leaf NoLeaf (with_entries (OnlyDefinitions ∷ []) left) =
    λ n. ap (λ those. leaf_closed n (with_leaf (InParagraph those) state)) none
    ∙ ap (λ so. with_leaf NoLeaf (if so then with_entries (Paragraph (drop n []) ∷ []) (blank_written left)
    else with_entries (OnlyDefinitions ∷ []) left)) (le-ltb n 0 (omega arith)) in
    closed one ∙ sym (closed other)

-- room, and a thematic break, after the leaf is closed
abbrev pub room_after : ℕ → State → State
room_after depth closed = blank_written (with_a_child (list_closed (containers_closed depth closed)))

abbrev pub break_after : ℕ → List ℕ → State → Option State
break_after depth text closed =
    let mark = get_or text 0 0 in
    if mark == 42 || (mark == 45 || mark == 95)
    then if_begun (is_break mark text) (with_entries (Break ∷ []) (room_after depth closed)) else None

pub breaks_alike : (one other depth : ℕ) (text : List ℕ) (state : State) → IsAlike state →
    break_at one depth text state ≡ break_at other depth text state
breaks_alike one other depth text state alike = ap (break_after depth text) (alike one other)

-- what a line of marks begins, and else leaves of the state, by its text
abbrev pub left_of : List ℕ → ℕ → Bool → State → State
left_of text defined on state =
    if may_underline on (get_or text 0 0) && is_underline (get_or text 0 0) text
    then definitions_taken defined (paragraph_lines state.leaf) state else state

abbrev pub or_break : ℕ → ℕ → List ℕ → State → Option State → Option State
or_break defined depth text left found = elim found [
  | Some heading ↦ Some heading
  | None ↦ break_at defined depth text left
]

abbrev pub marks_of : List ℕ → ℕ → ℕ → Bool → State → Option State
marks_of text defined depth on state =
    if may_underline on (get_or text 0 0)
    then or_break defined depth text (left_of text defined on state)
    (heading_underlined defined (get_or text 0 0) text (paragraph_lines state.leaf) state)
    else break_at defined depth text state

-- where no line may be an underline
pub untried : (mark defined depth : ℕ) (on : Bool) (text : List ℕ) (state : State) →
    mark ≡ get_or text 0 0 → may_underline on mark ≡ false →
    marks_of text defined depth on state ≡ break_at defined depth text state
untried mark defined depth on text state is none =
    ap (λ so. if so then or_break defined depth text (left_of text defined on state)
    (heading_underlined defined (get_or text 0 0) text (paragraph_lines state.leaf) state)
    else break_at defined depth text state)
    (ap (may_underline on) (sym is) ∙ none)

pub unchanged : (mark defined : ℕ) (on : Bool) (text : List ℕ) (state : State) →
    mark ≡ get_or text 0 0 → may_underline on mark ≡ false →
    left_of text defined on state ≡ state
unchanged mark defined on text state is none =
    ap (λ so. if so && is_underline (get_or text 0 0) text
    then definitions_taken defined (paragraph_lines state.leaf) state else state)
    (ap (may_underline on) (sym is) ∙ none)

-- where a line may be an underline: a heading, if it is one
pub tried : (mark defined depth : ℕ) (on : Bool) (text : List ℕ) (state : State) →
    mark ≡ get_or text 0 0 → may_underline on mark ≡ true →
    marks_of text defined depth on state
    ≡ or_break defined depth text (left_of text defined on state)
    (heading_underlined defined mark text (paragraph_lines state.leaf) state)
tried mark defined depth on text state is may =
    ap (λ so. if so then or_break defined depth text (left_of text defined on state)
    (heading_underlined defined (get_or text 0 0) text (paragraph_lines state.leaf) state)
    else break_at defined depth text state)
    (ap (may_underline on) (sym is) ∙ may)
    ∙ ap (λ m. or_break defined depth text (left_of text defined on state)
    (heading_underlined defined m text (paragraph_lines state.leaf) state)) (sym is)

pub heads : (mark defined depth : ℕ) (on : Bool) (text : List ℕ) (state new : State) →
    mark ≡ get_or text 0 0 → may_underline on mark ≡ true →
    heading_underlined defined mark text (paragraph_lines state.leaf) state ≡ Some new →
    marks_of text defined depth on state ≡ Some new
heads mark defined depth on text state new is may heading =
    tried mark defined depth on text state is may
    ∙ ap (or_break defined depth text (left_of text defined on state)) heading

-- and else a break: where the line is an underline, all lines of the paragraph are definitions
abbrev pub BreakOr : List ℕ → ℕ → ℕ → Bool → State → Bool → State → Type 0
BreakOr text n depth on state has new =
    (marks_of text n depth on state ≡ if_begun has new)
    × (has ≡ false → new ≡ left_of text n on state)

left_is : (mark defined : ℕ) (on is_line : Bool) (text : List ℕ) (state : State) →
    mark ≡ get_or text 0 0 → may_underline on mark ≡ true → is_underline mark text ≡ is_line →
    left_of text defined on state
    ≡ (if is_line then definitions_taken defined (paragraph_lines state.leaf) state else state)
left_is mark defined on is_line text state is may line =
    ap (λ m. if may_underline on m && is_underline m text
    then definitions_taken defined (paragraph_lines state.leaf) state else state) (sym is)
    ∙ ap (λ so. if so && is_underline mark text
    then definitions_taken defined (paragraph_lines state.leaf) state else state) may
    ∙ ap (λ so. if so then definitions_taken defined (paragraph_lines state.leaf) state else state) line

pub all_defined : (rest : Bool) (state new : State) → if_begun rest new ≡ None → rest ≡ false
all_defined false state new is = refl
all_defined true state new is = grind arith

pub breaks_or : (mark taken defined depth : ℕ) (on is_line has : Bool) (text : List ℕ)
    (state left new : State) → mark ≡ get_or text 0 0 → may_underline on mark ≡ true →
    is_underline mark text ≡ is_line →
    heading_underlined taken mark text (paragraph_lines state.leaf) state ≡ None →
    (is_line ≡ true → left ≡ definitions_taken taken (paragraph_lines state.leaf) state) →
    (is_line ≡ false → left ≡ state) → (left ≡ state → defined ≡ taken) →
    break_at defined depth text left ≡ if_begun has new → (has ≡ false → new ≡ left) →
    BreakOr text taken depth on state has new
breaks_or mark taken defined depth on true has text state left new is may line not_head is_left
    same alike begun stays =
    let lines = paragraph_lines state.leaf in
    let left_there = left_is mark taken on true text state is may line in
    let made = with_leaf NoLeaf (with_entries (Heading (if mark == 61 then 1 else 2) (drop taken lines) ∷ [])
    (blank_written state)) in
    let all : nat_lt taken (length lines) ≡ false =
    all_defined (nat_lt taken (length lines)) state made
    (ap (λ so. if_begun (so && nat_lt taken (length lines)) made) (sym line) ∙ not_head) in (
      tried mark taken depth on text state is may
          ∙ ap (or_break taken depth text (left_of text taken on state)) not_head
          ∙ ap (break_at taken depth text) left_there
          ∙ breaks_alike taken defined depth text (definitions_taken taken lines state)
          (alike_taken taken lines state all)
          ∙ ap (break_at defined depth text) (sym (is_left refl)) ∙ begun,
      λ none. stays none ∙ is_left refl ∙ sym left_there,
    )
breaks_or mark taken defined depth on false has text state left new is may line not_head is_left
    same alike begun stays =
    let lines = paragraph_lines state.leaf in
    let left_there = left_is mark taken on false text state is may line in
    let made = with_leaf NoLeaf (with_entries (Heading (if mark == 61 then 1 else 2)
    (drop taken lines) ∷ [])
    (blank_written state)) in (
      tried mark taken depth on text state is may
          ∙ ap (λ so. or_break taken depth text (left_of text taken on state)
          (if_begun (so && nat_lt taken (length lines)) made)) line
          ∙ ap (break_at taken depth text) (left_there ∙ sym (same refl))
          ∙ ap (λ n. break_at n depth text left) (sym (alike (same refl))) ∙ begun,
      λ none. stays none ∙ same refl ∙ sym left_there,
    )

-- a byte that is no mark of an underline
pub no_underline : (on : Bool) (mark : ℕ) → (mark == 61 || mark == 45) ≡ false →
    may_underline on mark ≡ false
no_underline true mark is = is
no_underline false mark is = refl

pub fence_is_none : (mark : ℕ) → (mark == 96 || mark == 126) ≡ true →
    (mark == 61 || mark == 45) ≡ false
fence_is_none mark is = elim (cases_Bool (mark == 96)) [
  | inl e ↦ ap (λ m. m == 61 || m == 45) (eqb-true mark 96 e)
  | inr e ↦ ap (λ m. m == 61 || m == 45)
      (eqb-true mark 126 (ap (λ so. so || mark == 126) (sym e) ∙ is))
]

-- a table, or else text
abbrev pub or_text : Option State → State → State
or_text found text = elim found [ Some table ↦ table | None ↦ text ]

-- text in a paragraph is read alike, however many of its lines are definitions
pub texts_alike : (one other depth : ℕ) (whole : Bool) (line : Line) (state : State) →
    is_in_paragraph state.leaf ≡ true →
    text_read one depth whole line state ≡ text_read other depth whole line state
texts_alike one other depth whole line state is =
    by_row one depth whole line state is ∙ sym (by_row other depth whole line state is) where
      by_row : (n depth : ℕ) (whole : Bool) (line : Line) (state : State) →
          is_in_paragraph state.leaf ≡ true → text_read n depth whole line state ≡ line_added line state
      by_row n depth whole line state is = ap (λ so. if so then line_added line state
          else elim (if whole then row_read line state else None) [
            | Some longer ↦ longer
            | None ↦ with_leaf (InParagraph (line ∷ [])) (room_for_text n depth state)
          ]) is
