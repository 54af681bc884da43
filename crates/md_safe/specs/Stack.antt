-- The stack of open elements (HTML Standard, 13.2.4.2), and insertion at its current node
-- (13.2.6.1).
use Rattle.std.specs.Prelude.{ℕ, zero, suc, Bool, false, not, ◌&&◌, ◌||◌, ◌==◌, if◌then◌else◌, List}
use Rattle.std.specs.Prelude.{[], ◌∷◌, bytes_eq}
use Rattle.md_text.specs.Bytes.{is_one_of}
use Rattle.md_safe.specs.Token.{TokenAttribute}
use Rattle.md_safe.specs.Node.{Empty, with_element, with_character, Open, Parser}

abbrev pub is_named : List ℕ → Open → Bool
is_named name node = bytes_eq node.name name

abbrev pub is_among : List (List ℕ) → Open → Bool
is_among names node = is_one_of names node.name

abbrev pub has_identity : ℕ → Open → Bool
has_identity identity node = node.identity == identity

-- the stack has an element that passes the test in the scope with these ends (13.2.4.2)
abbrev pub has_in_scope : List (List ℕ) → (Open → Bool) → List Open → Bool
has_in_scope ends test [] = false
has_in_scope ends test (node ∷ rest) =
    test node || not (is_among ends node) && has_in_scope ends test rest

-- the current node passes the test
abbrev pub current : (Open → Bool) → List Open → Bool
current test stack = elim stack [ node ∷ rest ↦ test node | [] ↦ false ]

-- pops the current node, and appends it to its parent
abbrev pub popped : List Open → List Open
popped [] = []
popped (node ∷ []) = node ∷ []
popped (node ∷ parent ∷ rest) = record parent {
  children = with_element parent.children node.name node.attributes node.children;
}
    ∷ rest

-- pops so many nodes
abbrev pub popped_by : ℕ → List Open → List Open
popped_by zero stack = stack
popped_by (suc count) stack = popped_by count (popped stack)

-- how many nodes, from the current one, pass a test in sequence, and how many there are up to the
-- first that does
abbrev pub count_while : (Open → Bool) → List Open → ℕ
count_while test [] = 0
count_while test (node ∷ rest) = if test node then suc (count_while test rest) else 0

abbrev pub count_until : (Open → Bool) → List Open → ℕ
count_until test [] = 0
count_until test (node ∷ rest) = if test node then 1 else suc (count_until test rest)

-- pops elements while they pass a test, or until one that does has been popped
abbrev pub pop_while : (Open → Bool) → List Open → List Open
pop_while test stack = popped_by (count_while test stack) stack

abbrev pub pop_until : (Open → Bool) → List Open → List Open
pop_until test stack = popped_by (count_until test stack) stack

-- inserts an element, which becomes the current node
abbrev pub insert : List ℕ → List TokenAttribute → Parser → Parser
insert name attributes parser = record parser {
  stack =
      record { identity = parser.created; name = name; attributes = attributes; children = Empty }
      ∷ parser.stack;
  created = suc parser.created;
}

-- inserts a character at the current node
abbrev pub say : ℕ → List Open → List Open
say byte [] = []
say byte (node ∷ rest) = record node { children = with_character node.children byte } ∷ rest
