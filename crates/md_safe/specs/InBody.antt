-- The insertion mode "in body" (HTML Standard, 13.2.6.4.7), for the grammar's tags; any other tag
-- isn't written out.
use Rattle.std.specs.Prelude.{ℕ, Bool, true, false, not, ◌&&◌, ◌||◌, if◌then◌else◌, List, [], ◌∷◌}
use Rattle.std.specs.Prelude.{Option, Some, None, is_some, bytes_eq, codes}
use Rattle.md_text.specs.Bytes.{is_one_of}
use Rattle.md_safe.specs.Token.{TokenAttribute}
use Rattle.md_safe.specs.Node.{Open, InBody, InTable, AfterBody, AfterAfterBody, Parser}
use Rattle.md_safe.specs.Elements.{special, any_scope, list_item_scope, button_scope, implied}
use Rattle.md_safe.specs.Elements.{headings, blocks, formatting, ordinary, parts}
use Rattle.md_safe.specs.Stack.{is_named, is_among, has_in_scope, current, popped, pop_while}
use Rattle.md_safe.specs.Stack.{pop_until, insert, say}
use Rattle.md_safe.specs.Formatting.{needs_reconstruction, push, last_active, end_other}
use Rattle.md_safe.specs.Formatting.{end_formatting}

-- pops elements whose end tags are implied, except this name
abbrev pub imply_except : List ℕ → List Open → List Open
imply_except name stack =
    pop_while (λ node. is_among implied node && not (is_named name node)) stack

-- closes a `p` element, if there is one in button scope
abbrev pub close_p : List Open → List Open
close_p stack = if has_in_scope button_scope (is_named (codes "p")) stack
    then pop_until (is_named (codes "p")) (imply_except (codes "p") stack) else stack

-- inserts a block, after closing a `p` element
abbrev pub insert_block : List ℕ → List TokenAttribute → Parser → Parser
insert_block name attributes parser =
    insert name attributes (record parser { stack = close_p parser.stack })

-- a start tag of a list item looks for an open item, up to a special element that is none of three
abbrev pub has_item : List Open → Bool
has_item [] = false
has_item (node ∷ rest) = is_named (codes "li") node || (not (is_among special node)
    || is_among (codes "address" ∷ codes "div" ∷ codes "p" ∷ []) node) && has_item rest

abbrev pub close_item : List Open → List Open
close_item stack = if has_item stack
    then pop_until (is_named (codes "li")) (imply_except (codes "li") stack) else stack

-- a change after the active formatting elements are reconstructed, if that does nothing
abbrev pub reconstructed : Parser → (Parser → Parser) → Option Parser
reconstructed parser change = if needs_reconstruction parser then None else Some (change parser)

-- inserts a formatting element and pushes it onto the list
abbrev pub insert_formatting : List ℕ → List TokenAttribute → Parser → Parser
insert_formatting name attributes parser =
    record (insert name attributes
    parser) { active = push parser.created name attributes parser.active }

-- inserts a void element and pops it at once
abbrev pub insert_void : List ℕ → List TokenAttribute → Parser → Parser
insert_void name attributes parser =
    let inserted = insert name attributes parser in
    record inserted { stack = popped inserted.stack }

abbrev pub start_in_body : List ℕ → List TokenAttribute → Parser → Option Parser
start_in_body name attributes parser =
    if is_one_of blocks name || bytes_eq name (codes "p")
    then Some (insert_block name attributes parser) else (if is_one_of headings name then
    (let closed = close_p parser.stack in
    Some (insert name attributes (record parser {
      stack = if current (is_among headings) closed then popped closed else closed;
    })))
    else (if bytes_eq name (codes "pre")
    then Some (record (insert_block name attributes parser) { skips_line_feed = true })
    else (if bytes_eq name (codes "li")
    then Some (insert_block name attributes (record parser { stack = close_item parser.stack }))
    else (if bytes_eq name (codes "a") then (if is_some (last_active name parser.active) then None
    else reconstructed parser (insert_formatting name attributes))
    else (if is_one_of formatting name then reconstructed parser (insert_formatting name attributes)
    else (if bytes_eq name (codes "table") then
    (if has_in_scope button_scope (is_named (codes "p")) parser.stack then None
    else Some (record (insert name attributes parser) { mode = InTable }))
    else (if is_one_of (codes "br" ∷ codes "img" ∷ codes "input" ∷ codes "wbr" ∷ []) name
    then reconstructed parser (insert_void name attributes)
    else (if bytes_eq name (codes "hr")
    then Some (insert_void name attributes (record parser { stack = close_p parser.stack }))
    else (if is_one_of parts name then Some parser else (if is_one_of ordinary name
    then reconstructed parser (insert name attributes) else None))))))))))

-- the end tags of the body and of the root pop nothing: the mode is "after body", and at that of
-- the root, which is reprocessed there, "after after body"; inside a cell they aren't written out
abbrev pub end_body : List ℕ → Parser → Option Parser
end_body name parser = elim parser.mode [
  | InBody ↦ Some
      (if has_in_scope any_scope (is_named (codes "body")) parser.stack
      then record parser {
        mode = if bytes_eq name (codes "html") then AfterAfterBody else AfterBody;
      }
      else parser)
  | _ ↦ None
]

abbrev pub end_in_body : List ℕ → Parser → Option Parser
end_in_body name parser =
    if is_one_of blocks name || bytes_eq name (codes "pre") then
    Some (if has_in_scope any_scope (is_named name) parser.stack
    then record parser { stack = pop_until (is_named name) (imply_except [] parser.stack) }
    else parser) else (if bytes_eq name (codes "p") then
    (if has_in_scope button_scope (is_named name) parser.stack
    then Some (record parser { stack = close_p parser.stack }) else Some (record parser {
      stack = popped (insert name [] parser).stack;
      created = (insert name [] parser).created;
    }))
    else (if bytes_eq name (codes "li") then
    Some (if has_in_scope list_item_scope (is_named name) parser.stack
    then record parser { stack = pop_until (is_named name) (imply_except name parser.stack) }
    else parser) else (if is_one_of headings name then
    Some (if has_in_scope any_scope (is_among headings) parser.stack
    then record parser { stack = pop_until (is_among headings) (imply_except [] parser.stack) }
    else parser) else (if is_one_of (codes "a" ∷ formatting) name then end_formatting name parser
    else (if is_one_of ordinary name || is_one_of (codes "table" ∷ parts) name
    then end_other name parser else (if is_one_of (codes "body" ∷ codes "html" ∷ []) name
    then end_body name parser else None))))))

abbrev pub character_in_body : ℕ → Parser → Option Parser
character_in_body byte parser =
    reconstructed parser (λ parser. record parser { stack = say byte parser.stack })
