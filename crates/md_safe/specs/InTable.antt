-- The insertion modes of tables (HTML Standard, 13.2.6.4.9 and .10 to .15), for the grammar's tags.
-- Foster parenting, missing elements of a table, and tags that end several of its parts at once
-- aren't written out.
use Rattle.std.specs.Prelude.{ℕ, Bool, not, if◌then◌else◌, List, [], ◌∷◌, Option, Some, None}
use Rattle.std.specs.Prelude.{bytes_eq, codes}
use Rattle.std.specs.List.{list_all}
use Rattle.md_text.specs.Bytes.{is_one_of}
use Rattle.md_safe.specs.Token.{TokenAttribute}
use Rattle.md_safe.specs.Contents.{is_space}
use Rattle.md_safe.specs.Node.{Open, Mode, InBody, InTable, InTableBody, InRow, InCell, InTableText}
use Rattle.md_safe.specs.Node.{Marker, Parser}
use Rattle.md_safe.specs.Elements.{table_scope, sections, cells, parts}
use Rattle.md_safe.specs.Stack.{is_named, is_among, has_in_scope, current, popped, pop_while}
use Rattle.md_safe.specs.Stack.{pop_until, insert, say}
use Rattle.md_safe.specs.Formatting.{cleared}
use Rattle.md_safe.specs.InBody.{imply_except, start_in_body, end_in_body}

-- pops elements up to one of these, the root, or a template (13.2.6.4.9: clearing back to a
-- context)
abbrev pub back_to : List (List ℕ) → List Open → List Open
back_to names stack =
    pop_while (λ node. not (is_among (codes "template" ∷ codes "html" ∷ names) node)) stack

-- the insertion mode is reset appropriately (13.2.4.1): by the innermost element that decides it
abbrev pub mode_for : List Open → Mode
mode_for [] = InBody
mode_for (node ∷ rest) = if is_among cells node then InCell
    else (if is_named (codes "tr") node then InRow
    else (if is_among sections node then InTableBody
    else (if is_named (codes "table") node then InTable else mode_for rest)))

abbrev pub start_in_table : List ℕ → List TokenAttribute → Parser → Option Parser
start_in_table name attributes parser = if is_one_of sections name then
    Some (insert name attributes (record parser {
      stack = back_to (codes "table" ∷ []) parser.stack;
      mode = InTableBody;
    }))
    else None

abbrev pub end_in_table : List ℕ → Parser → Option Parser
end_in_table name parser = if bytes_eq name (codes "table") then
    (if has_in_scope table_scope (is_named name) parser.stack then
    (let stack = pop_until (is_named name) parser.stack in
    Some (record parser { stack = stack; mode = mode_for stack })) else Some parser)
    else (if is_one_of parts name then Some parser else None)

abbrev pub start_in_table_body : List ℕ → List TokenAttribute → Parser → Option Parser
start_in_table_body name attributes parser = if bytes_eq name (codes "tr") then
    Some (insert name attributes
    (record parser { stack = back_to sections parser.stack; mode = InRow }))
    else None

abbrev pub end_in_table_body : List ℕ → Parser → Option Parser
end_in_table_body name parser = if is_one_of sections name then
    Some (if has_in_scope table_scope (is_named name) parser.stack
    then record parser { stack = popped (back_to sections parser.stack); mode = InTable }
    else parser) else (if is_one_of (codes "tr" ∷ cells) name then Some parser else None)

abbrev pub start_in_row : List ℕ → List TokenAttribute → Parser → Option Parser
start_in_row name attributes parser = if is_one_of cells name then
    Some (record (insert name attributes
    (record parser { stack = back_to (codes "tr" ∷ []) parser.stack })) {
      mode = InCell;
      active = Marker ∷ parser.active;
    })
    else None

abbrev pub end_in_row : List ℕ → Parser → Option Parser
end_in_row name parser = if bytes_eq name (codes "tr") then
    Some (if has_in_scope table_scope (is_named name) parser.stack
    then record parser {
      stack = popped (back_to (codes "tr" ∷ []) parser.stack);
      mode = InTableBody;
    }
    else parser) else (if is_one_of cells name then Some parser else None)

abbrev pub start_in_cell : List ℕ → List TokenAttribute → Parser → Option Parser
start_in_cell name attributes parser =
    if is_one_of parts name then None else start_in_body name attributes parser

abbrev pub end_in_cell : List ℕ → Parser → Option Parser
end_in_cell name parser = if is_one_of cells name then
    Some (if has_in_scope table_scope (is_named name) parser.stack then record parser {
      stack = pop_until (is_named name) (imply_except [] parser.stack);
      active = cleared parser.active;
      mode = InRow;
    } else parser)
    else (if is_one_of (codes "table" ∷ codes "tr" ∷ sections) name then
    (if has_in_scope table_scope (is_named name) parser.stack then None else Some parser)
    else end_in_body name parser)

-- the current node collects the pending characters of a table
abbrev pub is_tabular : Open → Bool
is_tabular node =
    is_among (codes "table" ∷ codes "tbody" ∷ codes "template" ∷ codes "tfoot" ∷ codes "thead"
    ∷ codes "tr" ∷ []) node

abbrev pub character_in_table : ℕ → Parser → Option Parser
character_in_table byte parser = if current is_tabular parser.stack
    then Some (record parser { mode = InTableText parser.mode; pending = byte ∷ [] }) else None

-- inserts characters in sequence
abbrev pub say_all : List ℕ → List Open → List Open
say_all [] stack = stack
say_all (byte ∷ bytes) stack = say_all bytes (say byte stack)

-- inserts the pending characters if they are white space, and restores the mode
abbrev pub end_table_text : Mode → Parser → Option Parser
end_table_text original parser = if list_all is_space parser.pending then Some
    (record parser { stack = say_all parser.pending parser.stack; mode = original; pending = [] })
    else None
