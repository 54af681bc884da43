-- Texts in a table wait as pending characters, and white space is inserted as it is.
use Rattle.std.proofs.Common.{◌≡◌, ℕ, Bool, true, false, ◌&&◌, List, [], ◌∷◌, ◌++◌, refl, map}
use Rattle.std.proofs.Common.{append_assoc, append-nil, arith, eqb-true}
use Rattle.std.specs.Prelude.{Some}
use Rattle.std.specs.List.{list_all}
use Rattle.std.proofs.lemmas.Bool.{and_parts, and_from, not-true}
use Rattle.md_base.proofs.Lies.{lie}
use Rattle.md_base.specs.Identifier.{is_nonempty}
use Rattle.md_text.specs.References.{is_escaped, read_back}
use Rattle.md_text.proofs.EncodeLaws.{read_back-other}
use Rattle.md_safe.specs.Input.{with_line_feeds, begins_with_line_feed}
use Rattle.md_safe.specs.Token.{Character, StartTag, EndTag, TokenAttribute}
use Rattle.md_safe.specs.Tokens.{seen}
use Rattle.md_safe.specs.Contents.{is_space}
use Rattle.md_safe.specs.Node.{Open, Entry, Mode, InTable, InTableBody, InRow, InTableText, Parser}
use Rattle.md_safe.specs.Node.{with_character}
use Rattle.md_safe.specs.InTable.{is_tabular, say_all}
use Rattle.md_safe.specs.Construction.{step, run}
use Rattle.md_safe.specs.Built.{with_characters, at}
use Rattle.md_safe.proofs.TreeSteps.{after-one, is_character, Position, parser_of, with_children}
use Rattle.md_safe.proofs.TreeSteps.{seen-characters}

-- ---- white space

-- a test that passes LF passes what is read
line_feeds-all : (p : ℕ → Bool) → p 10 ≡ true → (x : List ℕ) → list_all p x ≡ true →
    list_all p (with_line_feeds x) ≡ true
line_feeds-all p feed [] h = refl
line_feeds-all p feed (b ∷ x) h = grind (arith, feed, line_feeds-all p feed x)

space-read : (x : List ℕ) → list_all is_space x ≡ true → list_all is_space (read_back x) ≡ true
space-read [] h = refl
space-read (b ∷ x) h =
    let parts = and_parts (is_space b) (list_all is_space x) h in
    rw (read_back-other b x (λ e. lie (rw e at parts.0)))
    (and_from (is_space b) (list_all is_space (read_back x)) parts.0 (space-read x parts.1))

-- ---- the pending characters of a table

-- a parser to which a tag is the same as to another one
pub record Settles (p q : Parser) : Type 0 where
  pub starts : (name : List ℕ) (attributes : List TokenAttribute) (flag : Bool) →
      step p (StartTag name attributes flag) ≡ step q (StartTag name attributes flag)
  pub ends : (name : List ℕ) → step p (EndTag name) ≡ step q (EndTag name)

-- a parser with pending characters
abbrev pub waiting : Mode → List Open → List Entry → ℕ → List ℕ → Parser
waiting mode stack active created bytes = record {
  mode = InTableText mode;
  stack = stack;
  active = active;
  created = created;
  pending = bytes;
  skips_line_feed = false;
}

say-all : (bytes : List ℕ) (node : Open) (others : List Open) →
    say_all bytes (node ∷ others)
    ≡ record node { children = with_characters node.children bytes } ∷ others
say-all [] node others = refl
say-all (b ∷ bytes) node others =
    say-all bytes (record node { children = with_character node.children b }) others

-- modes of tables in which characters wait
abbrev pub is_tables : Mode → Bool
is_tables mode = elim mode [ InTable ↦ true | InTableBody ↦ true | InRow ↦ true | _ ↦ false ]

settled : (mode : Mode) → is_tables mode ≡ true →
    (node : Open) (others : List Open) (active : List Entry)
    (created : ℕ) (bytes : List ℕ) → list_all is_space bytes ≡ true →
    Settles (waiting mode (node ∷ others) active created bytes) (at mode
    (record node { children = with_characters node.children bytes } ∷ others) active created)
settled mode is node others active created bytes h = grind (arith, say-all)

more-waits : (mode : Mode) (stack : List Open) (active : List Entry) (created : ℕ)
    (before bytes : List ℕ) → list_all is_character bytes ≡ true → run
    (waiting mode stack active created before) (map Character bytes)
    ≡ Some (waiting mode stack active created (before ++ bytes))
more-waits mode stack active created before [] h = grind (arith, append-nil)
more-waits mode stack active created before (b ∷ bytes) h =
    let later = more-waits mode stack active created (before ++ (b ∷ [])) bytes in
    grind (arith, and_parts, after-one, not-true, append_assoc, later)

first-waits : (mode : Mode) → is_tables mode ≡ true → (node : Open) (others : List Open)
    (active : List Entry) (created : ℕ) (bytes : List ℕ) → is_tabular node ≡ true →
    is_nonempty bytes ≡ true → list_all is_character bytes ≡ true → run
    (at mode (node ∷ others) active created) (map Character bytes)
    ≡ Some (waiting mode (node ∷ others) active created bytes)
first-waits mode is node others active created bytes t f h =
    grind (arith, and_parts, after-one, not-true, more-waits)

-- something is read of a text
fed : (x : List ℕ) → begins_with_line_feed x ≡ true → is_nonempty (with_line_feeds x) ≡ true
fed x h = grind (arith, eqb-true)

read-filled : (x : List ℕ) → is_nonempty x ≡ true → is_nonempty (read_back x) ≡ true
read-filled x h = grind arith

-- a text in a table waits
pub record Waits (x : Position) (bytes : List ℕ) : Type 0 where
  pub wait : Parser
  pub runs : run (parser_of x) (map Character (seen bytes)) ≡ Some wait
  pub settles : Settles wait (parser_of
      (with_children x (with_characters x.node.children (seen bytes)) x.active x.created))

pub text-waits : (x : Position) (bytes : List ℕ) → is_tables x.mode ≡ true →
    is_tabular x.node ≡ true → (is_nonempty bytes && is_escaped bytes) ≡ true →
    list_all is_space bytes ≡ true → Waits x bytes
text-waits x bytes is tabular whole white =
    let parts = and_parts _ _ whole in
    record {
      wait = waiting x.mode (x.node ∷ x.others) x.active x.created (seen bytes);
      runs = first-waits x.mode is x.node x.others x.active x.created (seen bytes) tabular
          (read-filled (with_line_feeds bytes) (grind (arith, fed))) (seen-characters bytes
          parts.1);
      settles = grind (arith, settled, space-read, line_feeds-all);
    }
