-- A node that is fine is read: it is entered, its children are read, and it is left.
use Rattle.std.proofs.Common.{arith, ◌≡◌, ◌≢◌, ℕ, suc, true, Option, Some, MatchOption, List, refl}
use Rattle.std.proofs.Common.{sym, ap, ◌∙◌, None, [], ◌∷◌, ◌++◌}
use Rattle.md_tree.proofs.Common.{Mdx, ExitsWhere, option_map, Point, Name, Symbol, Role}
use Rattle.md_tree.proofs.Common.{Childless, Free, Standing, Through, Space, Solid, Referral}
use Rattle.md_tree.proofs.Common.{Missing, Mentioned, State, Entry, Forest, Empty, Node, flatten}
use Rattle.md_tree.proofs.Common.{standing_of, spine, shown, Claim, EachNode, IsShapedNode}
use Rattle.md_tree.proofs.Common.{IsStanding, inner_role, inner_before, reading_of, place}
use Rattle.md_tree.proofs.Common.{target_after, target_of, mention_of, mentions_with, index_after}
use Rattle.md_tree.proofs.Common.{may_hold, start_of, Reads, Course, Runs, Exits, after_entry}
use Rattle.md_tree.proofs.Common.{entered, entered_on, Event, Flow, Matches, last_symbol}
use Rattle.md_tree.proofs.Common.{is_complete, beginning}
use Rattle.md_tree.proofs.Spots.{Feeds, advance_role, Feeds-matches, Feeds-split}

-- a claim about nodes that stand on a spine, of a node that stands so
abbrev pub IsReadWhere : Reads → Standing → Role → Option Symbol → Point → Point → Referral → Type 0
IsReadWhere holds (Solid symbol usual reading) around before start end target =
    holds reading around before start end target
IsReadWhere holds _ around before start end target = Unit {0}

-- a node has its shape, and the claim holds of it
abbrev pub IsFine : Reads → Claim
IsFine holds around before name start end children =
    IsShapedNode around before name start end children
    × IsReadWhere holds (standing_of name) around before start end (target_of children Missing)

-- what is free is fine
abbrev pub AllowsFree : Reads → Type 0
AllowsFree holds =
    (around : Role) (before : Option Symbol) (start end : Point) (target : Referral) →
    holds Free around before start end target

pub may_hold-from : (role : Role) → role ≢ Childless → may_hold role ≡ true
may_hold-from role ne = grind arith

-- the mentions after nodes, the first event of which has an index
abbrev pub mentions_over : ℕ → Forest → List Mentioned → List Mentioned
mentions_over index Empty before = before
mentions_over index (Node name start end children rest) before =
    mentions_over (suc (index_after (suc index) children)) rest
    (mentions_with (index_after (suc index) children) (mention_of (reading_of (standing_of name))
    (target_of children Missing)) (mentions_over (suc index) children before))

-- after nodes
abbrev pub after_nodes : Forest → State → Course → Course
after_nodes forest end from =
    record {
      state = end;
      target = target_of forest from.target;
      open_nodes = from.open_nodes;
      count = index_after from.count forest;
      mentions = mentions_over from.count forest from.mentions;
    }

-- after a node
abbrev pub after_node : Standing → Point → Point → Forest → Course → State → Course
after_node standing start end children from middle = record {
  state = middle;
  target = target_after standing from.target (target_of children) (place start end);
  open_nodes = from.open_nodes;
  count = suc (index_after (suc from.count) children);
  mentions = mentions_with (index_after (suc from.count) children)
      (mention_of (reading_of standing) (target_of children Missing))
      (mentions_over (suc from.count) children from.mentions);
}

-- a node is entered, its children are read, and it is left
pub record NodeRuns (holds : Reads) (standing : Standing) (name : Name) (start end : Point)
    (children : Forest) (from : Course) (middle : State) : Type 0 where
  pub inside : Course
  pub last : Course
  pub enters : MatchOption (entered standing from.state from.target) ⊥ (λ entry. inside
      ≡ after_entry entry name start from)
  pub runs : Runs holds (flatten children) inside last
  pub exits : Exits holds last.open_nodes name end last
      (after_node standing start end children from middle)

enters_with : (standing : Standing) (name : Name) (start : Point) (from : Course) (entry : Entry) →
    may_hold from.state.role ≡ true → entered_on standing from.state from.target ≡ Some entry →
    MatchOption (entered standing from.state from.target) ⊥ (λ e. after_entry entry name start from
    ≡ after_entry e name start from)
enters_with standing name start from entry may is = grind arith

-- children are read
abbrev pub ReadsChildren : Reads → Forest → Type 0
ReadsChildren holds children =
    (from : Course) (end : State) →
    EachNode (IsFine holds) children from.state.role from.state.before →
    Feeds from.state (spine children) end →
    Runs holds (flatten children) from (after_nodes children end from)

-- a node that is fine, by how its name stands
module _ (holds : Reads) (free : AllowsFree holds) (name : Name) (start end : Point)
    (children : Forest) (from : Course) (middle : State) (may : may_hold from.state.role ≡ true)
    (reads : ReadsChildren holds children) where
  -- by its entry, and where its children end
  node_by : (standing : Standing) (entry : Entry) (last : State) →
      entered_on standing from.state from.target ≡ Some entry →
      EachNode (IsFine holds) children entry.state.role entry.state.before →
      Feeds entry.state (spine children) last → ExitsWhere holds entry.outer start end
      from.open_nodes (after_nodes children last (after_entry entry name start from))
      (after_node standing start end children from middle) →
      NodeRuns holds standing name start end children from middle
  node_by standing entry last is fine feeds exits = record {
    inside = after_entry entry name start from;
    last = after_nodes children last (after_entry entry name start from);
    enters = enters_with standing name start from entry may is;
    runs = reads _ last fine feeds;
    exits = (refl, exits);
  }

  pub node_runs : (standing : Standing) →
      IsStanding standing from.state.role from.state.before children → IsReadWhere holds standing
      from.state.role from.state.before start end (target_of children Missing) → EachNode
      (IsFine holds) children (inner_role standing from.state.role from.state.before)
      (inner_before standing from.state.before) →
      Feeds from.state (shown standing (spine children)) middle →
      NodeRuns holds standing name start end children from middle
  node_runs Through stands read fine feeds = node_by Through _ middle refl fine feeds refl
  node_runs Space stands read fine feeds =
      node_by Space _ (start_of Childless) refl fine (rw stands) (
        refl,
        free from.state.role from.state.before start end _,
        ap (after_node Space start end children from) (sym feeds),
      )
  node_runs (Solid symbol usual reading) stands read fine feeds =
      let moved = feeds.1 ∙ ap Some feeds.2 in
      let whole = Feeds-matches _ (spine children) stands in
      node_by (Solid symbol usual reading) _ whole.0 (ap (option_map _) moved) fine whole.1
      (whole.2, rw (advance_role from.state middle symbol moved).0 read, refl)
  node_runs Mdx stands read fine feeds = absurd stands

-- A tree with the shape of the grammar is read from its first event to its last.

pub Runs-append : (holds : Reads) (events others : List Event) (from middle to : Course) →
    Runs holds events from middle → Runs holds others middle to →
    Runs holds (events ++ others) from to
Runs-append holds [] others from middle to r q = grind arith
Runs-append holds (event ∷ events) others from middle to r q =
    (r.0, r.1, Runs-append holds events others r.0 middle to r.2 q)

pub Runs-split : (holds : Reads) (events others : List Event) (from to : Course) →
    Runs holds (events ++ others) from to → (middle : Course) × Runs holds events from middle
    × Runs holds others middle to
Runs-split holds [] others from to r = grind arith
Runs-split holds (event ∷ events) others from to r = grind (arith, Runs-split holds events)

-- a spine keeps its role, and its last symbol is the last that was read
pub Feeds-context : (from to : State) (symbols : List Symbol) → Feeds from symbols to →
    (to.role ≡ from.role) × (to.before ≡ last_symbol from.before symbols)
Feeds-context from to [] f =
    (ap (λ (s : State). s.role) (sym f), ap (λ (s : State). s.before) (sym f))
Feeds-context from to (symbol ∷ symbols) f =
    let here = advance_role from f.0 symbol f.1 in
    let rest = Feeds-context f.0 to symbols f.2 in
    (rest.0 ∙ here.0, rest.1 ∙ ap (λ b. last_symbol b symbols) here.1)

-- nodes that are fine are read, from a spine that takes theirs
pub Runs-nodes : (holds : Reads) → AllowsFree holds → (forest : Forest) (from : Course)
    (end : State) → EachNode (IsFine holds) forest from.state.role from.state.before →
    Feeds from.state (spine forest) end →
    Runs holds (flatten forest) from (after_nodes forest end from)
Runs-nodes holds free Empty from end fine feeds = grind arith
Runs-nodes holds free (Node name start stop children rest) from end fine feeds =
    let st = standing_of name in
    let parts = Feeds-split from.state end (shown st _) (spine rest) feeds in
    let middle = parts.0 in
    let node = node_runs holds free name start stop children from middle
    (may_hold-from from.state.role fine.0.0.0) (Runs-nodes holds free children) st fine.0.0.1
    fine.0.1 fine.1 parts.1 in
    let context = Feeds-context from.state middle (shown st _) parts.1 in
    let after = after_node st start stop children from middle in
    let rest_runs = Runs-nodes holds free rest after end (rw (context.0, context.1) fine.2)
    parts.2 in (
      node.inside,
      node.enters,
      Runs-append holds _ _ node.inside node.last _ node.runs (after, node.exits, rest_runs),
    )

pub EachNode-map : (P Q : Claim) →
    ((around : Role) (before : Option Symbol) (name : Name) (start end : Point)
    (children : Forest) → P around before name start end children →
    Q around before name start end children) →
    (forest : Forest) (around : Role) (before : Option Symbol) → EachNode P forest around before →
    EachNode Q forest around before
EachNode-map P Q f Empty around before each = tt
EachNode-map P Q f (Node name start end children rest) around before each =
    grind (arith, EachNode-map P Q f children _ _ each.1, EachNode-map P Q f rest around _ each.2)

-- a document that is fine is read to an end
pub Runs-document : (holds : Reads) → AllowsFree holds → (forest : Forest) →
    EachNode (IsFine holds) forest Flow None → Matches Flow (spine forest) →
    (end : State) × Runs holds (flatten forest) beginning (after_nodes forest end beginning)
    × (is_complete end ≡ true)
Runs-document holds free forest fine matches =
    let whole = Feeds-matches Flow _ matches in
    (whole.0, Runs-nodes holds free forest beginning whole.0 fine whole.1, whole.2)
