-- The state between two lines, and how it closes what is open (the specification's phase 1).
use Rattle.std.specs.Prelude.{ℕ, Bool, Option, List, [], ◌∷◌, ◌++◌, ◌-◌, ◌&&◌, not, nat_lt, false}
use Rattle.std.specs.Prelude.{true, None, length, take, drop, replicate, if◌then◌else◌}
use Rattle.std.specs.Option.{option_map_or}
use Rattle.std.specs.List.{suffix_len}
use Rattle.md_blocks.specs.declared.nesting.Open.{Open}
use Rattle.md_blocks.specs.declared.code.Fence.{Fence}
use Rattle.md_blocks.specs.declared.html.HtmlKind.{HtmlKind}
use Rattle.md_blocks.specs.Marks.{is_blank_text}
use Rattle.md_blocks.specs.Stack.{innermost, with_child, without_list}
use Rattle.md_blocks.specs.BlankLines.{in_list}
use Rattle.md_blocks.specs.Entries.{Line, Entry, ContainerEnds, Paragraph, IndentedCode}
use Rattle.md_blocks.specs.Entries.{FencedCode, Html, Table, Math, Blank, OnlyDefinitions}

-- the open leaf and its lines; of fenced code also the first word after the fence
pub data Leaf : Type 0 where
  NoLeaf : Leaf
  InParagraph : List Line → Leaf
  InIndented : List Line → Leaf
  InFenced : Fence → List ℕ → List Line → Leaf
  InMath : Fence → List Line → Leaf
  InHtml : HtmlKind → List Line → Leaf
  InTable : ℕ → List Line → Leaf

-- the entries so far; the open containers, the outermost first; the open leaf; after a blank line,
-- how many containers must stay open for it to count; how many cells the rows of all tables lack
pub record State : Type 0 where
  pub entries : List Entry
  pub containers : List Open
  pub leaf : Leaf
  pub blank : Option ℕ
  pub lacking : ℕ

abbrev pub is_in_paragraph : Leaf → Bool
is_in_paragraph leaf = elim leaf [ InParagraph _ ↦ true | _ ↦ false ]

abbrev pub with_entries : List Entry → State → State
with_entries entries state = record state { entries = state.entries ++ entries }

abbrev pub with_leaf : Leaf → State → State
with_leaf leaf state = record state { leaf = leaf }

abbrev pub without_blank : State → State
without_blank state = record state { blank = None }

-- the innermost container has a child
abbrev pub with_a_child : State → State
with_a_child state = record state { containers = with_child state.containers }

-- another container is open
abbrev pub opened_in : Open → State → State
opened_in container state = record state { containers = state.containers ++ container ∷ [] }

-- lines without the blank ones at their end
abbrev pub without_blank_end : List Line → List Line
without_blank_end lines =
    take (length lines - suffix_len (λ line. is_blank_text line.text) lines) lines

-- whether the blank line before a child counts: what encloses it for good is open still, and the
-- innermost container is an item or a list (5.3)
abbrev pub blank_counts : State → Bool
blank_counts state =
    option_map_or (λ depth. not (nat_lt (length state.containers) depth)) state.blank false
    && innermost in_list state.containers

-- that blank line, written if it counts
abbrev pub blank_written : State → State
blank_written state =
    record state {
      entries = state.entries ++ (if blank_counts state then Blank ∷ [] else []);
      blank = None;
    }

-- a closed paragraph (4.8), the first of whose lines are definitions of links (4.7): if all are,
-- then it is no child
abbrev pub paragraph_closed : ℕ → List Line → State → State
paragraph_closed defined lines state =
    if nat_lt defined (length lines)
    then with_entries (Paragraph (drop defined lines) ∷ []) (blank_written state)
    else with_entries (OnlyDefinitions ∷ []) state

-- the open leaf closed
abbrev pub leaf_closed : ℕ → State → State
leaf_closed defined state = elim state.leaf [
  | NoLeaf ↦ state
  | InParagraph lines ↦ with_leaf NoLeaf (paragraph_closed defined lines state)
  | InIndented lines ↦
      with_leaf NoLeaf (with_entries (IndentedCode (without_blank_end lines) ∷ []) state)
  | InFenced fence info lines ↦
      with_leaf NoLeaf (with_entries (FencedCode info lines ∷ []) state)
  | InMath fence lines ↦ with_leaf NoLeaf (with_entries (Math lines ∷ []) state)
  | InHtml kind lines ↦ with_leaf NoLeaf (with_entries (Html lines ∷ []) state)
  | InTable columns lines ↦ with_leaf NoLeaf (with_entries (Table lines ∷ []) state)
]

-- the containers beyond a depth closed
abbrev pub containers_closed : ℕ → State → State
containers_closed depth state =
    record state {
      entries = state.entries ++ replicate (length (drop depth state.containers)) ContainerEnds;
      containers = take depth state.containers;
    }

-- the leaf and the containers beyond a depth closed
abbrev pub closed_to : ℕ → ℕ → State → State
closed_to defined depth state = containers_closed depth (leaf_closed defined state)

-- the innermost container closed if it is a list
abbrev pub list_closed : State → State
list_closed state = containers_closed (without_list state.containers) state

-- ready for a child that is no item: a list that is open at this depth ends (5.3)
abbrev pub room_for_text : ℕ → ℕ → State → State
room_for_text defined depth state =
    with_a_child (list_closed (closed_to defined depth state))

-- the same, with the blank line before the child; that before a paragraph is written with it
abbrev pub room : ℕ → ℕ → State → State
room defined depth state = blank_written (room_for_text defined depth state)
