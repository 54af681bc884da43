-- How a line begins containers (5): one function for each section.
use Rattle.std.specs.Prelude.{ℕ, Bool, List, [], ◌∷◌, ◌+◌, ◌==◌, ◌&&◌, not, nat_lt, false}
use Rattle.std.specs.Prelude.{take, get_or, if◌then◌else◌}
use Rattle.md_blocks.specs.declared.nesting.Open.{Open}
use Rattle.md_blocks.specs.declared.block.ContainerKind.{ContainerKind}
use Rattle.md_blocks.specs.declared.block.ContainerKind.TheVariants.{Quote, Item, OrderedList}
use Rattle.md_blocks.specs.declared.block.ContainerKind.TheVariants.{UnorderedList}
use Rattle.md_blocks.specs.Marks.{number_length, opens_task}
use Rattle.md_blocks.specs.Stack.{innermost}
use Rattle.md_blocks.specs.Rests.{Rest, rest_at, indent, unindented, is_blank_rest, skipped, passed}
use Rattle.md_blocks.specs.Entries.{QuoteBegins, ListBegins, ItemBegins, Task}
use Rattle.md_blocks.specs.States.{State, InParagraph, room, opened_in, with_entries, with_leaf}
use Rattle.md_blocks.specs.States.{with_a_child, blank_written, closed_to}
use Rattle.md_blocks.specs.LeafBlocks.{a_line}

-- the state after a container has begun, and what is left of the line
pub record Begun : Type 0 where
  pub state : State
  pub rest : Rest

-- a container that has no child yet
abbrev pub container_of : ContainerKind → ℕ → ℕ → Open
container_of kind indent marker = record {
  kind = kind;
  indent = indent;
  marker = marker;
  has_child = false;
}

-- 5.1 Block quotes: at `>`, and after it a column of space if any
abbrev pub quote_begun : ℕ → ℕ → Rest → State → Begun
quote_begun defined depth rest state = record {
  state = opened_in (container_of Quote 0 0)
      (with_entries (QuoteBegins ∷ []) (room defined depth state));
  rest = skipped 1 (passed 1 rest);
}

-- 5.3 Lists: an item continues the list that is open at its depth, if that is ordered as it is and
-- its marker ends with the same byte, and the blank line before the item is written; else it begins
-- a list
abbrev pub is_list_of : Bool → ℕ → Open → Bool
is_list_of is_ordered marker container = elim container.kind [
  | OrderedList ↦ is_ordered && container.marker == marker
  | UnorderedList ↦ not is_ordered && container.marker == marker
  | _ ↦ false
]

abbrev pub list_kind : Bool → ContainerKind
list_kind is_ordered = if is_ordered then OrderedList else UnorderedList

abbrev pub list_begun : ℕ → ℕ → Bool → List ℕ → ℕ → State → State
list_begun defined depth is_ordered number marker state =
    let closed = closed_to defined depth state in
    if innermost (is_list_of is_ordered marker) closed.containers then blank_written closed
    else opened_in (container_of (list_kind is_ordered) 0 marker)
    (with_entries (ListBegins is_ordered number ∷ []) (room defined depth state))

-- 5.2 List items: whether text follows the marker after at most four columns, and the columns that
-- belong to the marker: those before the text, or one before code or where there is no text
abbrev pub is_padded : Rest → Bool
is_padded rest = not (nat_lt 4 (indent rest)) && not (is_blank_rest rest)

abbrev pub padding : Rest → ℕ
padding rest = if is_padded rest then indent rest else 1

-- GFM 5.3 Task list items: an item whose text begins with a box; the text after the box is a
-- paragraph, whatever it begins with
abbrev pub is_task : Rest → Bool
is_task rest = is_padded rest && opens_task (unindented rest)

abbrev pub task_begun : Rest → List ℕ → State → State
task_begun rest ending state =
    let left = passed 3 rest in
    let task = Task (not (get_or (unindented rest) 1 0 == 32)) in
    let begun = with_a_child (with_entries (task ∷ []) state) in
    if is_blank_rest left then begun
    else with_leaf (InParagraph (a_line (unindented left) ending ∷ [])) begun

-- an item: the lines that continue it are indented by the columns up to its text
abbrev pub item_begun : ℕ → ℕ → Rest → List ℕ → State → Begun
item_begun defined depth rest ending state =
    let text = unindented rest in
    let digits = number_length text in
    let marker = get_or text digits 0 in
    let after = passed (digits + 1) rest in
    let begun = opened_in (container_of Item (indent rest + digits + 1 + padding after) marker)
    (with_entries (ItemBegins ∷ [])
    (list_begun defined depth (nat_lt 0 digits) (take digits text) marker state)) in
    record {
      state = if is_task after then task_begun after ending begun else begun;
      rest = if is_task after then rest_at (passed 3 after).column []
          else skipped (padding after) after;
    }
