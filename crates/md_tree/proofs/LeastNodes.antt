-- The least node of each symbol that must be there, or that ends a group, has the shape of the
-- grammar.
use Rattle.std.proofs.Common.{arith, ◌≡◌, ◌≢◌, Bool, true, false, Option, List, [], ◌∷◌, refl, ℕ}
use Rattle.std.proofs.Common.{zero, suc, ◌++◌, drop, ◌⊎◌, inl, inr, sym, subst}
use Rattle.md_tree.proofs.Common.{list_all, Point, Name, Symbol, Role, Forest, Empty, Node, spine}
use Rattle.md_tree.proofs.Common.{AreShaped, start_of, may_hold, Matches, Class, Item, Once, Maybe}
use Rattle.md_tree.proofs.Common.{Many, Stage, Whole, Setext, State, pattern_of, flatten}
use Rattle.md_tree.proofs.Common.{is_complete, Course, Runs, Anything}
use Rattle.md_base.specs.declared.event.Name.TheVariants as name
use Rattle.md_pattern.specs.declared.kinds.Symbol.TheVariants as symbol
use Rattle.md_pattern.specs.declared.kinds.Role.TheVariants as role
use Rattle.md_tree.proofs.OpenPaths.{joined, spine-joined, EachNode-joined}
use Rattle.md_tree.proofs.ClosedNodes.{not_childless}
use Rattle.md_tree.proofs.SpinesRead.{ends_after, matches_after, IsFed, fed}
use Rattle.md_pattern.specs.declared.kinds.Class.TheVariants.{String, Phrasing, Flow, Only, Either}
use Rattle.md_pattern.specs.declared.kinds.Class.TheVariants.{OrLine}
use Rattle.md_tree.proofs.NodesRead.{after_nodes, Runs-nodes}
use Rattle.md_tree.proofs.NodeClaims.{shaped_anything, free_anything}

-- ---- the least nodes

-- any point
abbrev pub somewhere : Point
somewhere = record { line = 1; column = 1; index = 0; vs = 0 }

abbrev holding : Name → Forest → Forest
holding named children = Node named somewhere somewhere children Empty

abbrev leaf : Name → Forest
leaf named = holding named Empty

-- the least node of each symbol that must be there, or that ends a group
abbrev least : Symbol → Forest
least symbol.ReferenceValue = leaf name.CharacterReferenceValue
least symbol.SetextUnderline = leaf name.HeadingSetextUnderlineSequence
least symbol.FootnotePrefix =
    holding name.GfmFootnoteDefinitionPrefix (leaf name.GfmFootnoteDefinitionLabelString)
least symbol.FootnoteLabel = leaf name.GfmFootnoteDefinitionLabelString
least symbol.ListItem =
    holding name.ListItem (holding name.ListItemPrefix (leaf name.ListItemMarker))
least symbol.ListItemPrefix = holding name.ListItemPrefix (leaf name.ListItemMarker)
least symbol.ListItemMarker = leaf name.ListItemMarker
least symbol.HeadingSequence = leaf name.HeadingAtxSequence
least symbol.CodeFence = leaf name.CodeFencedFence
least symbol.MathFence = leaf name.MathFlowFence
least symbol.Label = holding name.Label (leaf name.LabelText)
least symbol.LabelText = leaf name.LabelText
least symbol.DefinitionLabel = leaf name.DefinitionLabelString
least symbol.TableHead =
    holding name.GfmTableHead (joined (leaf name.GfmTableRow) (leaf name.GfmTableDelimiterRow))
least symbol.TableRow = leaf name.GfmTableRow
least symbol.TableDelimiterRow = leaf name.GfmTableDelimiterRow
least _ = Empty

-- the symbol has one
abbrev pub has_least : Symbol → Bool
has_least one = elim (least one) [ Empty ↦ false | _ ↦ true ]

-- ---- the least nodes have the shape of the grammar

-- a spine without symbols may end
bare : (around : Role) → ends_after (start_of around) [] ≡ true → Matches around []
bare around e = matches_after around [] e

footnote_shaped : (around : Role) (before : Option Symbol) → around ≢ role.Childless →
    AreShaped (least symbol.FootnotePrefix) around before
footnote_shaped around before apart = search (apart, not_childless, matches_after, bare, refl)

head_shaped : (around : Role) (before : Option Symbol) → around ≢ role.Childless →
    AreShaped (least symbol.TableHead) around before
head_shaped around before apart = search (apart, not_childless, matches_after, bare, refl)

least_shaped : (one : Symbol) (around : Role) (before : Option Symbol) → around ≢ role.Childless →
    has_least one ≡ true → AreShaped (least one) around before
least_shaped symbol.FootnotePrefix around before apart e = footnote_shaped around before apart
least_shaped symbol.TableHead around before apart e = head_shaped around before apart
least_shaped _ around before apart e = grind (arith, matches_after, not_childless, bare)

-- the least nodes of symbols, in sequence
abbrev pub nodes_of : List Symbol → Forest
nodes_of [] = Empty
nodes_of (one ∷ symbols) = joined (least one) (nodes_of symbols)

pub nodes_spine : (symbols : List Symbol) → list_all has_least symbols ≡ true →
    spine (nodes_of symbols) ≡ symbols
nodes_spine [] e = refl
nodes_spine (one ∷ symbols) e = grind (arith, spine-joined, nodes_spine symbols)

pub nodes_shaped : (symbols : List Symbol) (around : Role) (before : Option Symbol) →
    around ≢ role.Childless →
    list_all has_least symbols ≡ true → AreShaped (nodes_of symbols) around before
nodes_shaped [] around before apart e = tt
nodes_shaped (one ∷ symbols) around before apart e =
    grind (arith, nodes_shaped symbols, EachNode-joined, least_shaped)

-- The symbols that a spine still needs before it may end; each of them has a least node.

-- a symbol of a class
abbrev one_of : Class → Symbol
one_of String = symbol.Text
one_of Phrasing = symbol.Span
one_of Flow = symbol.Block
one_of (Only one) = one
one_of (Either one other) = one
one_of (OrLine one) = one

-- a symbol for each item that must be there
abbrev pub needed : List Item → List Symbol
needed [] = []
needed (Once class ∷ items) = one_of class ∷ needed items
needed (Maybe class ∷ items) = needed items
needed (Many class ∷ items) = needed items

-- what ends the group that has begun
abbrev ending_of : Stage → List Symbol
ending_of Whole = []
ending_of Setext = symbol.SetextUnderline ∷ []
ending_of _ = symbol.ReferenceValue ∷ []

abbrev pub missing_at : Role → ℕ → Stage → List Symbol
missing_at around position stage = ending_of stage ++ needed (drop position (pattern_of around))

abbrev at_position : Role → Option Symbol → ℕ → State
at_position around before position =
    record { position = position; role = around; before = before; stage = Whole }

-- after these symbols the spine may end, and each has a least node
abbrev pub Completes : State → List Symbol → Type 0
Completes state symbols = (ends_after state symbols ≡ true) × (list_all has_least symbols ≡ true)

-- no pattern has more than six items
from_position : (around : Role) (before : Option Symbol) (position : ℕ) →
    Completes (at_position around before position) (missing_at around position Whole)
from_position around before zero = grind arith
from_position around before (suc zero) = grind arith
from_position around before (suc (suc zero)) = grind arith
from_position around before (suc (suc (suc zero))) = grind arith
from_position around before (suc (suc (suc (suc zero)))) = grind arith
from_position around before (suc (suc (suc (suc (suc zero))))) = grind arith
from_position around before (suc (suc (suc (suc (suc (suc zero)))))) = grind arith
from_position around before (suc (suc (suc (suc (suc (suc (suc more))))))) = grind arith

from_stage : (around : Role) (before : Option Symbol) (position : ℕ) (stage : Stage) →
    Completes (record { position = position; role = around; before = before; stage = stage })
    (missing_at around position stage)
from_stage around before position Whole = from_position around before position
from_stage around before position _ = from_position around _ position

abbrev pub missing : State → List Symbol
missing state = missing_at state.role state.position state.stage

pub completes : (state : State) → Completes state (missing state)
completes state = from_stage state.role state.before state.position state.stage

-- The least nodes that a spine still needs complete it.

-- no group has begun where no node may stand
abbrev pub IsSettled : State → Type 0
IsSettled state = state.role ≡ role.Childless → state.stage ≡ Whole

childless_or : (around : Role) → (around ≡ role.Childless) ⊎ (may_hold around ≡ true)
childless_or around = grind arith

nothing_missing : (state : State) → state.role ≡ role.Childless →
    state.stage ≡ Whole → missing state ≡ []
nothing_missing state childless whole = grind arith

abbrev pub completion : State → Forest
completion state = nodes_of (missing state)

completion_shaped : (state : State) → IsSettled state →
    AreShaped (completion state) state.role state.before
completion_shaped state settled = by_role (childless_or state.role)
  where
    by_role : (state.role ≡ role.Childless) ⊎ (may_hold state.role ≡ true) →
        AreShaped (completion state) state.role state.before
    by_role (inl childless) =
        subst (λ symbols. AreShaped (nodes_of symbols) state.role state.before)
        (sym (nothing_missing state childless (settled childless))) tt
    by_role (inr holds) =
        nodes_shaped (missing state) state.role state.before
        (not_childless state.role holds) (completes state).1

completion_fed : (state : State) → IsFed state (spine (completion state))
completion_fed state =
    subst (λ symbols. IsFed state symbols) (sym (nodes_spine _ (completes state).1))
    (fed state _ (completes state).0)

-- the same as events
pub record Completed (from : Course) : Type 0 where
  pub end : State
  pub runs : Runs Anything (flatten (completion from.state)) from
      (after_nodes (completion from.state) end from)
  pub complete : is_complete end ≡ true

pub completed : (from : Course) → IsSettled from.state → Completed from
completed from settled =
    let whole = completion_fed from.state in
    record {
      end = whole.0;
      runs = Runs-nodes Anything free_anything (completion from.state) from whole.0
          (shaped_anything (completion from.state) from.state.role from.state.before
          (completion_shaped from.state settled)) whole.1;
      complete = whole.2;
    }
