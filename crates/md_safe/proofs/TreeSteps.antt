-- What a parser in a body or a cell does at a token of the grammar.
use Rattle.std.proofs.Common.{◌≡◌, ℕ, ◌==◌, Bool, true, false, not, List, [], ◌∷◌, ◌++◌, refl, suc}
use Rattle.std.proofs.Common.{ap, ◌∙◌, map, arith}
use Rattle.std.specs.Prelude.{Some, None, option_and_then}
use Rattle.std.specs.List.{list_all}
use Rattle.std.proofs.lemmas.Bool.{and_parts, not-true}
use Rattle.md_text.specs.Bytes.{is_one_of}
use Rattle.md_text.specs.References.{is_escaped, read_back}
use Rattle.md_safe.specs.Input.{with_line_feeds}
use Rattle.md_safe.specs.Token.{Token, Character, StartTag, TokenAttribute}
use Rattle.md_safe.specs.Tokens.{seen}
use Rattle.md_safe.proofs.EscapedCases.{IsPlain, by_escaped}
use Rattle.md_safe.proofs.LineFeeds.{line_feeds-escaped}
use Rattle.md_safe.specs.Node.{Nodes, Open, Entry, Marker, Formatting, Mode, Parser, with_character}
use Rattle.md_safe.specs.Node.{Empty as NoNode}
use Rattle.md_safe.specs.Elements.{parts}
use Rattle.md_safe.specs.InBody.{start_in_body, reconstructed}
use Rattle.md_safe.specs.Construction.{step, run}
use Rattle.md_safe.specs.Built.{at, is_body, AreOpen, with_characters}

pub run-append : (p : Parser) (xs ys : List Token) →
    run p (xs ++ ys) ≡ option_and_then (λ q. run q ys) (run p xs)
run-append p [] ys = refl
run-append p (x ∷ xs) ys = elim (step p x) as (λ next. option_and_then (λ q. run q (xs ++ ys)) next
    ≡ option_and_then (λ q. run q ys) (option_and_then (λ q. run q xs) next)) [
      | None ↦ refl
      | Some q ↦ run-append q xs ys
    ]

-- tokens that lead from one parser to another, and those after them
pub after : (p q : Parser) (xs ys : List Token) → run p xs ≡ Some q → run p (xs ++ ys) ≡ run q ys
after p q xs ys e = run-append p xs ys ∙ ap (λ r. option_and_then (λ q. run q ys) r) e

pub after-one : (p q : Parser) (x : Token) (ys : List Token) → step p x ≡ Some q →
    run p (x ∷ ys) ≡ run q ys
after-one p q x ys e = ap (λ r. option_and_then (λ q. run q ys) r) e

-- ---- where a parser is

-- the mode, the current node and those under it, the active formatting elements, and how many
-- elements were created
pub record Position : Type 0 where
  pub mode : Mode
  pub node : Open
  pub others : List Open
  pub active : List Entry
  pub created : ℕ

abbrev pub parser_of : Position → Parser
parser_of x = at x.mode (x.node ∷ x.others) x.active x.created

-- the same, with other children of the current node
abbrev pub with_children : Position → Nodes → List Entry → ℕ → Position
with_children x children active created =
    record x { node = record x.node { children = children }; active = active; created = created }

-- an element with this name
abbrev pub element_of : ℕ → List ℕ → List TokenAttribute → Nodes → Open
element_of identity name attributes children =
    record { identity = identity; name = name; attributes = attributes; children = children }

-- in a new element
abbrev pub within : Position → List ℕ → List TokenAttribute → List Entry → Position
within x name those active = record {
  mode = x.mode;
  node = element_of x.created name those NoNode;
  others = x.node ∷ x.others;
  active = active;
  created = suc x.created;
}

-- ---- tags

pub start-in-body : (x : Position) → is_body x.mode ≡ true →
    (name : List ℕ) (attributes : List TokenAttribute) (flag : Bool) →
    is_one_of parts name ≡ false →
    step (parser_of x) (StartTag name attributes flag) ≡ start_in_body name attributes (parser_of x)
start-in-body x is name attributes flag none = grind arith

-- nothing is to be reconstructed where all is open
pub reconstructs : (x : Position) (change : Parser → Parser) → AreOpen (x.node ∷ x.others)
    x.active → reconstructed (parser_of x) change ≡ Some (change (parser_of x))
reconstructs x change opened = grind arith

-- ---- characters

abbrev pub is_character : ℕ → Bool
is_character byte = not (byte == 0)

-- what is open stays open when nodes are inserted into it
pub same-open : (node : Open) (children : Nodes) (others : List Open) (active : List Entry) →
    AreOpen (node ∷ others) active → AreOpen (record node { children = children } ∷ others) active
same-open node children others [] o = tt
same-open node children others (Marker ∷ active) o = tt
same-open node children others (Formatting identity name attributes ∷ active) o =
    (o.0, same-open node children others active o.1)

pub characters-run : (bytes : List ℕ) (x : Position) → is_body x.mode ≡ true →
    list_all is_character bytes ≡ true → AreOpen (x.node ∷ x.others) x.active →
    run (parser_of x) (map Character bytes)
    ≡ Some (parser_of (with_children x (with_characters x.node.children bytes) x.active x.created))
characters-run [] x is h o = refl
characters-run (byte ∷ bytes) x is h o =
    let parts = and_parts (is_character byte) (list_all is_character bytes) h in
    let next = with_children x (with_character x.node.children byte) x.active x.created in
    let held = same-open x.node next.node.children x.others x.active o in
    grind (arith, after-one, not-true, reconstructs, characters-run bytes next is parts.1 held)

abbrev AreRead : List ℕ → Type 0
AreRead x = list_all is_character (read_back x) ≡ true

-- what is read of an escaped text has no NUL
pub seen-characters : (x : List ℕ) → is_escaped x ≡ true → list_all is_character (seen x) ≡ true
seen-characters x h =
    by_escaped AreRead refl plain (λ rest later. later) (λ rest later. later) (λ rest later. later)
    (λ rest later. later) (with_line_feeds x) (line_feeds-escaped x h)
  where
    plain : (b : ℕ) (rest : List ℕ) → IsPlain b → AreRead rest → AreRead (b ∷ rest)
    plain b rest p later = rw (p.no_and, p.no_nul) later
