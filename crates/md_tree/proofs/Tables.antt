-- The alignments of a table of the grammar are those of its delimiter row's values, and the tables
-- of a document of the grammar have a table's shape. First which symbols a spine may have that
-- matches a pattern.
use Rattle.std.proofs.Common.{arith, ◌≡◌, Bool, true, List, [], ◌∷◌, refl, ap, ◌∙◌, false, ◌||◌}
use Rattle.std.proofs.Common.{cond, Option, not, None, sym, ℕ, Some}
use Rattle.md_tree.proofs.Common.{list_all, list_all-append, Symbol, Role, Item, members, class_of}
use Rattle.md_tree.proofs.Common.{takes, pattern_of, Fits, spine, IsGrouped, Matches, begun_by}
use Rattle.md_tree.proofs.Common.{is_whole, the_type, AlignKind, Name, GfmTableDelimiterCellValue}
use Rattle.md_tree.proofs.Common.{Standing, Solid, Forest, Empty, Node, is_transparent}
use Rattle.md_tree.proofs.Common.{is_table_head, is_delimiter_row, standing_of, shown, EachNode}
use Rattle.md_tree.proofs.Common.{IsShapedNode, IsStanding, inner_role, inner_before, alignment_of}
use Rattle.md_tree.proofs.Common.{alignments, in_each, map, map-append, GfmTableHead, AreShaped}
use Rattle.md_tree.proofs.Common.{IsTable, All, Event, GfmTable, Handed, IsChecked, IsReadAs}
use Rattle.md_tree.proofs.Common.{IsGrammatical, EntersAt, IsEnteredAt}
use Rattle.md_tree.proofs.Patterns.{and_right, and_left, and_both, taken}
use denote.Enum.Bare.{sameb}
use Rattle.md_pattern.specs.declared.kinds.Symbol.TheVariants as symbol
use Rattle.md_base.specs.NameTests.{leads_to_values}
use Rattle.md_base.specs.Is.{is as is_named}
use Rattle.md_base.specs.declared.event.Name.TheVariants.{GfmTableDelimiterRow}
use Rattle.md_pattern.specs.declared.kinds.Role.TheVariants as role
use Rattle.md_tree.specs.Tables.{values_of_row, values_of_head, values_of_table}
use Rattle.md_tree.proofs.OneTree.{flatten_one}
use Rattle.md_tree.proofs.EventRows.{rows_all, Row, rows_of}
use Rattle.md_tree.proofs.Entering.{row_at}

-- each symbol of an item's class passes
abbrev pub passes : (Symbol → Bool) → Item → Bool
passes p item = list_all p (members (class_of item))

own_pass : (p : Symbol → Bool) (item : Item) (own : List Symbol) → passes p item ≡ true →
    list_all (takes (class_of item)) own ≡ true → list_all p own ≡ true
own_pass p item [] all there = refl
own_pass p item (seen ∷ own) all there =
    and_both _ _ (taken p (members _) seen (and_left _ _ there) all)
    (own_pass p item own all (and_right _ _ there))

fits_pass : (p : Symbol → Bool) (items : List Item) (symbols : List Symbol) →
    list_all (passes p) items ≡ true → Fits items symbols → list_all p symbols ≡ true
fits_pass p [] symbols all fit = ap (list_all p) fit
fits_pass p (item ∷ items) symbols all fit =
    grind (arith, own_pass, list_all-append, and_both, fits_pass p items)

-- a symbol that begins no group
abbrev pub alone : Symbol → Bool
alone seen = is_whole (begun_by seen)

grouped_alone : (firsts spine : List Symbol) → list_all alone firsts ≡ true →
    IsGrouped firsts spine → spine ≡ firsts
grouped_alone [] spine all is = is
grouped_alone (first ∷ firsts) spine all is = grind (arith, grouped_alone firsts)

-- the symbols of a spine that matches a pattern
pub matches_pass : (p : Symbol → Bool) (around : Role) (symbols : List Symbol) →
    list_all (passes p) (pattern_of around) ≡ true →
    list_all (passes alone) (pattern_of around) ≡ true →
    Matches around symbols → list_all p symbols ≡ true
matches_pass p around symbols all lone is = grind (arith, grouped_alone, fits_pass, alone)

-- What is found on a spine by the symbol of a name: the alignments of each node with it.

-- ---- names by their symbols

-- a name with this symbol
abbrev pub has_symbol : Symbol → Standing → Bool
has_symbol one (Solid other usual reading) = sameb the_type one other
has_symbol one _ = false

-- ---- one level: what is found on a spine

-- the alignments of a node
abbrev at_node : Name → Forest → List AlignKind
at_node name children =
    cond (is_named GfmTableDelimiterCellValue name) (alignment_of children ∷ [])
    (cond (leads_to_values name) (alignments children) [])

-- of the symbols of values, of heads and of delimiter rows it is this one, or none
abbrev pub only_of : Symbol → Symbol → Bool
only_of one seen = sameb the_type one seen || not (sameb the_type symbol.TableDelimiterValue seen
    || (sameb the_type symbol.TableHead seen || sameb the_type symbol.TableDelimiterRow seen))

-- names with the symbol pass the test, and no other symbol on the spine contains values
module _ (test : Name → Bool) (only : Name) (one : Symbol) (found : Forest → List AlignKind)
    (test_is : (name : Name) → test name ≡ true → name ≡ only)
    (test_symbol : (name : Name) → test name ≡ has_symbol one (standing_of name))
    (own : (around : Role) (before : Option Symbol) (children : Forest)
    → IsStanding (standing_of only) around before children →
    EachNode IsShapedNode children (inner_role (standing_of only) around before)
    (inner_before (standing_of only) before) → at_node only children ≡ found children) where
  abbrev pub Level : Forest → Type 0
  Level forest =
      (around : Role) (before : Option Symbol) → EachNode IsShapedNode forest around before →
      list_all (only_of one) (spine forest) ≡ true →
      alignments forest ≡ in_each test found forest

  any_node : (name : Name) (children : Forest) (around : Role) (before : Option Symbol) →
      Level children → IsStanding (standing_of name) around before children →
      EachNode IsShapedNode children (inner_role (standing_of name) around before)
      (inner_before (standing_of name) before) →
      list_all (only_of one) (shown (standing_of name) (spine children)) ≡ true →
      (passed : Bool) → test name ≡ passed → at_node name children
      ≡ cond passed (found children) (cond (is_transparent name) (in_each test found children) [])
  any_node name children around before again stands shaped all passed is = grind arith

  pub level : (forest : Forest) → Level forest
  level Empty around before shaped all = refl
  level (Node name start end children rest) around before shaped all =
      grind (arith, level children, level rest, list_all-append, any_node, and_left, and_right)

-- ---- the three levels

-- the alignments of a row's, a head's and a table's children
abbrev of_value : Forest → List AlignKind
of_value children = alignment_of children ∷ []

abbrev of_row : Forest → List AlignKind
of_row children = in_each (is_named GfmTableDelimiterCellValue) of_value children

abbrev of_head : Forest → List AlignKind
of_head children = in_each is_delimiter_row of_row children

row_level : (children : Forest) → AreShaped children role.TableDelimiterRow None →
    Matches role.TableDelimiterRow (spine children) → alignments children ≡ of_row children
row_level children shaped matches =
    level (is_named GfmTableDelimiterCellValue) GfmTableDelimiterCellValue
    symbol.TableDelimiterValue of_value (λ name e. grind arith) (λ name. grind arith)
    (λ around before inner stands each. refl) children role.TableDelimiterRow None shaped
    (matches_pass (only_of symbol.TableDelimiterValue) role.TableDelimiterRow _ refl refl matches)

head_level : (children : Forest) → AreShaped children role.TableHead None →
    Matches role.TableHead (spine children) → alignments children ≡ of_head children
head_level children shaped matches =
    level is_delimiter_row GfmTableDelimiterRow symbol.TableDelimiterRow of_row
    (λ name e. grind arith) (λ name. grind arith)
    (λ around before inner stands each. row_level inner each stands) children role.TableHead None
    shaped (matches_pass (only_of symbol.TableDelimiterRow) role.TableHead _ refl refl matches)

table_level : (children : Forest) → IsTable children →
    alignments children ≡ in_each is_table_head of_head children
table_level children table =
    level is_table_head GfmTableHead symbol.TableHead of_head (λ name e. grind arith)
    (λ name. grind arith) (λ around before inner stands each. head_level inner each stands)
    children role.Table None table.0
    (matches_pass (only_of symbol.TableHead) role.Table _ refl refl table.1)

-- ---- each of them
map_cond : {A B : Type 0} (f : A → B) (passed transparent : Bool) (own inner : List A) →
    map f (cond passed own (cond transparent inner []))
    ≡ cond passed (map f own) (cond transparent (map f inner) [])
map_cond f passed transparent own inner = grind arith

module _ {A B : Type 0} (f : A → B) (test : Name → Bool) (found : Forest → List A)
    (other : Forest → List B)
    (same : (children : Forest) → map f (found children) ≡ other children) where
  map_in_each : (forest : Forest) → map f (in_each test found forest) ≡ in_each test other forest
  map_in_each Empty = refl
  map_in_each (Node name start end children rest) =
      grind (arith, map_in_each children, map_in_each rest, map-append, map_cond)

pub alignments-values_of_table : (children : Forest) → IsTable children →
    alignments children ≡ map alignment_of (values_of_table children)
alignments-values_of_table children table =
    let values =
    map_in_each alignment_of (is_named GfmTableDelimiterCellValue) (λ (value : Forest). value
    ∷ []) of_value (λ value. refl) in
    let rows = map_in_each alignment_of is_delimiter_row values_of_row of_row values in
    table_level children table
    ∙ sym (map_in_each alignment_of is_table_head values_of_head of_head rows children)

-- a table has its shape
abbrev IsTableRow : Row → Type 0
IsTableRow row = row.event.name ≡ GfmTable → (children : Forest) →
    row.children ≡ Some children → IsTable children

entry_shape : (name : Name) (children : Forest) (around : Role) (before : Option Symbol) →
    IsStanding (standing_of name) around before children → EachNode IsShapedNode children
    (inner_role (standing_of name) around before) (inner_before (standing_of name) before) →
    name ≡ GfmTable → (other : Forest) → Some children ≡ Some other → IsTable other
entry_shape name children around before stands shaped is other e = grind arith

rows_shaped : (forest : Forest) (index tables : ℕ) (around : Role) (before : Option Symbol) →
    AreShaped forest around before → All IsTableRow (rows_of index tables forest)
rows_shaped forest index tables around before shaped =
    rows_all IsTableRow
    (λ index tables nodes. (r : Role) × (b : Option Symbol) × AreShaped nodes r b)
    (λ index tables name start end children rest holds. (
      entry_shape name children holds.0 holds.1 holds.2.0.1 holds.2.1,
      λ is other e. cc,
      (_, _, holds.2.1),
      (holds.0, _, holds.2.2),
    )) forest index tables (around, before, shaped)

-- where a document of the grammar enters a table, its children have a table's shape
pub IsTable-entered : (given : Handed) (index : ℕ) → IsChecked given →
    EntersAt given.events index GfmTable →
    (children : Forest) → IsEnteredAt given index children → IsTable children
IsTable-entered given index checked enters children entered =
    let forest = checked.0 in
    let flattened = IsReadAs.flattened checked.1 in
    let shape = IsGrammatical.shape (IsReadAs.grammatical checked.1) in
    let one : entered.0 ≡ forest =
    flatten_one GfmTable (Event.point enters.0) entered.0 forest (entered.1 ∙ sym flattened) in
    let got = rw one at entered.2 in
    let here = row_at given forest index enters.0 flattened enters.1 in
    let children_are : here.row.children ≡ Some children = cc (here.children_are, got) in
    here.said IsTableRow (rows_shaped forest 0 0 role.Flow None shape.0)
    (ap Event.name here.event_is ∙ enters.3) children children_are
