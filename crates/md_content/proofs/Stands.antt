-- The nodes on a spine as a list: facts about a spine are stated for this list, which is easier to
-- iterate over than the tree.
use Rattle.std.proofs.Common.{arith, ◌≡◌, ℕ, Bool, false, cond, Option, Some, None, List, [], ◌∷◌}
use Rattle.std.proofs.Common.{◌++◌, refl, ap}
use Rattle.std.specs.Prelude.{map, if◌then◌else◌}
use Rattle.std.proofs.lemmas.List.{map-append}
use Rattle.md_base.specs.declared.event.Name.{Name}
use Rattle.md_base.specs.declared.event.Name.TheVariants.{Data, BlockQuotePrefix, SpaceOrTab, Other}
use Rattle.md_base.specs.declared.event.Point.{Point}
use Rattle.md_base.specs.declared.event.Position.{Position}
use Rattle.md_pattern.specs.declared.kinds.Symbol.{Symbol}
use Rattle.md_pattern.specs.declared.kinds.Symbol.TheVariants as symbol
use Rattle.md_pattern.specs.declared.kinds.Role.{Role}
use Rattle.md_pattern.specs.declared.kinds.Standing.{Standing}
use Rattle.md_pattern.specs.declared.kinds.Standing.TheVariants.{Through, Space, Solid, Mdx}
use Rattle.md_tree.specs.declared.mention.Referral.{Referral}
use Rattle.md_tree.specs.declared.mention.Referral.TheVariants.{Missing, Label, Resource}
use Rattle.md_base.specs.Tree.{Forest, Empty, Node}
use Rattle.md_pattern.specs.Standing.{standing_of}
use Rattle.md_pattern.specs.Spine.{spine, shown}
use Rattle.md_pattern.specs.Shape.{Claim, EachNode, IsStanding, AreShaped, inner_role, inner_before}
use Rattle.md_pattern.specs.Shape.{last_symbol}
use Rattle.md_tree.specs.Rules.{place, target_after, target_of}
use Rattle.md_base.specs.Children.{or_else, first_on_spine, spine_names}
use Rattle.md_content.proofs.SymbolNames.{is_through, transparent, symbol_in, known_name}
use Rattle.md_content.proofs.SymbolNames.{name-known}

-- a node on a spine
pub record Stand : Type 0 where
  pub name : Name
  pub seen : Symbol
  pub start : Point
  pub end : Point
  pub children : Forest

abbrev pub stand : Name → Symbol → Point → Point → Forest → Stand
stand name seen start end children =
    record { name = name; seen = seen; start = start; end = end; children = children }

abbrev pub stand_here : Standing → Name → Point → Point → Forest → List Stand → List Stand
stand_here Through name start end children inner = inner
stand_here (Solid seen usual reading) name start end children inner =
    stand name seen start end children ∷ []
stand_here _ name start end children inner = []

abbrev pub stands : Forest → List Stand
stands Empty = []
stands (Node name start end children rest) =
    stand_here (standing_of name) name start end children (stands children) ++ stands rest

-- their symbols
abbrev pub seen_of : List Stand → List Symbol
seen_of nodes = map (λ node. node.seen) nodes

pub none_left : (nodes : List Stand) → seen_of nodes ≡ [] → nodes ≡ []
none_left [] e = refl
none_left (node ∷ nodes) e = cc

symbols_here : (standing : Standing) (name : Name) (start end : Point) (children : Forest) →
    spine children ≡ seen_of (stands children) →
    shown standing (spine children)
    ≡ seen_of (stand_here standing name start end children (stands children))
symbols_here standing name start end children inner = grind arith

pub spine-stands : (forest : Forest) → spine forest ≡ seen_of (stands forest)
spine-stands Empty = refl
spine-stands (Node name start end children rest) =
    rw (
      symbols_here (standing_of name) name start end children (spine-stands children),
      spine-stands rest,
      map-append,
    ) refl

-- ---- a claim that holds for each node
pub record Stood (holds : Claim) (around : Role) (before : Option Symbol) (node : Stand) : Type 0
  where
    pub here : holds around before node.name node.start node.end node.children
    pub inside : EachNode holds node.children (inner_role (standing_of node.name) around before)
        (inner_before (standing_of node.name) before)
    pub known : known_name (standing_of node.name) node.name ≡ node.name
    pub shows : symbol_in (standing_of node.name) ≡ Some node.seen

abbrev pub EachStood : Claim → Role → Option Symbol → List Stand → Type 0
EachStood holds around before [] = Unit {0}
EachStood holds around before (node ∷ nodes) =
    Stood holds around before node × EachStood holds around (Some node.seen) nodes

stood-append : (holds : Claim) (around : Role) (before : Option Symbol)
    (nodes others : List Stand) →
    EachStood holds around before nodes →
    EachStood holds around (last_symbol before (seen_of nodes)) others →
    EachStood holds around before (nodes ++ others)
stood-append holds around before [] others a b = b
stood-append holds around before (node ∷ nodes) others a b =
    (a.0, stood-append holds around (Some node.seen) nodes others a.1 b)

pub each-stood : (holds : Claim) (forest : Forest) (around : Role) (before : Option Symbol) →
    EachNode holds forest around before → EachStood holds around before (stands forest)
each-stood holds Empty around before all = tt
each-stood holds (Node name start end children rest) around before all =
    grind (
      arith,
      stood-append,
      symbols_here,
      spine-stands,
      name-known,
      each-stood holds children,
      each-stood holds rest,
    )

-- ---- the target that nodes leave
-- what a node leaves as the target of the node around it, by its symbol
abbrev pub target_by : Symbol → Referral → Referral → Position → Referral
target_by symbol.LabelText found inner there = Label there
target_by symbol.ReferenceString found inner there = Label there
target_by symbol.DefinitionLabel found inner there = Label there
target_by symbol.FootnoteLabel found inner there = Label there
target_by symbol.Label found inner there = inner
target_by symbol.FootnotePrefix found inner there = inner
target_by symbol.Resource found inner there = Resource
target_by _ found inner there = found

abbrev leaves_by : Standing → Referral → (Referral → Referral) → Position → Referral
leaves_by Through found inner there = inner found
leaves_by (Solid seen usual reading) found inner there = target_by seen found (inner Missing) there
leaves_by _ found inner there = found

leaves : (name : Name) (found : Referral) (inner : Referral → Referral) (there : Position) →
    target_after (standing_of name) found inner there
    ≡ leaves_by (standing_of name) found inner there
leaves Data found inner there = refl
leaves _ found inner there = refl

-- the target after nodes, in sequence
abbrev pub sought : List Stand → Referral → Referral
sought [] found = found
sought (node ∷ nodes) found =
    sought nodes (target_by node.seen found (target_of node.children Missing)
    (place node.start node.end))

sought-append : (nodes others : List Stand) (found : Referral) →
    sought (nodes ++ others) found ≡ sought others (sought nodes found)
sought-append [] others found = refl
sought-append (node ∷ nodes) others found = grind (arith, sought-append nodes)

pub target-stands : (forest : Forest) (found : Referral) →
    target_of forest found ≡ sought (stands forest) found
target-stands Empty found = refl
target-stands (Node name start end children rest) found =
    grind (arith, leaves, sought-append, target-stands children, target-stands rest)

-- ---- their names
names_here : (standing : Standing) (name : Name) (start end : Point) (children : Forest)
    (around : Role) (before : Option Symbol) → IsStanding standing around before children →
    spine_names children ≡ map (λ node. node.name) (stands children) →
    cond (is_through standing) (spine_names children) (name ∷ [])
    ≡ map (λ node. node.name) (stand_here standing name start end children (stands children))
names_here Through name start end children around before is inner = inner
names_here Space name start end children around before is inner = ap spine_names is
names_here (Solid seen usual reading) name start end children around before is inner = refl
names_here Mdx name start end children around before is inner = absurd is

pub names-stand : (forest : Forest) (around : Role) (before : Option Symbol) →
    AreShaped forest around before → spine_names forest ≡ map (λ node. node.name) (stands forest)
names-stand Empty around before shaped = refl
names-stand (Node name start end children rest) around before shaped =
    rw (
      transparent name,
      names_here (standing_of name) name start end children around before
          shaped.0.1 (names-stand children _ _ shaped.1),
      names-stand rest _ _ shaped.2,
      map-append,
    ) refl

-- ---- the first whose name passes a test, which no transparent one does
abbrev pub IsSolid : (Name → Bool) → Type 0
IsSolid test = (test BlockQuotePrefix ≡ false) × (test SpaceOrTab ≡ false)
    × ((number : ℕ) → test (Other number) ≡ false)

module _ {A : Type 0} (test : Name → Bool) (tell : Point → Point → Forest → A) where
  -- the fact about the first node with such a name
  abbrev pub first_seen : List Stand → Option A
  first_seen [] = None
  first_seen (node ∷ nodes) =
      if test node.name then Some (tell node.start node.end node.children) else first_seen nodes

  first_seen-append : (nodes others : List Stand) → or_else (first_seen nodes) (first_seen others)
      ≡ first_seen (nodes ++ others)
  first_seen-append [] others = refl
  first_seen-append (node ∷ nodes) others = grind (arith, first_seen-append nodes others)

  first_here :
      (standing : Standing) (name : Name) (start end : Point) (children : Forest) (around : Role)
      (before : Option Symbol) → (if is_through standing then test name else false) ≡ false →
      IsStanding standing around before children →
      first_on_spine test tell children ≡ first_seen (stands children) →
      (if test name then Some (tell start end children)
      else (if is_through standing then first_on_spine test tell children else None))
      ≡ first_seen (stand_here standing name start end children (stands children))
  first_here standing name start end children around before solid is inner = grind arith

  pub first-stands : IsSolid test → (forest : Forest) (around : Role) (before : Option Symbol) →
      AreShaped forest around before →
      first_on_spine test tell forest ≡ first_seen (stands forest)
  first-stands solid Empty around before shaped = refl
  first-stands solid (Node name start end children rest) around before shaped =
      grind (
        arith,
        transparent,
        first_here,
        first_seen-append,
        first-stands solid children,
        first-stands solid rest,
      )
