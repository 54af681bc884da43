-- The promises about a list of events that the check refuses.
use Rattle.std.specs.Prelude.{◌≡◌, ◌≢◌, ◌⊎◌, ℕ, suc, ◌<◌, ◌≤◌, Option, Some, None, List, [], ◌∷◌}
use Rattle.std.specs.Prelude.{◌++◌, length, take, slice_get}
use Rattle.md_base.specs.declared.event.Point.{Point}
use Rattle.md_base.specs.declared.event.Position.{Position}
use Rattle.md_base.specs.declared.event.Event.{Event}
use Rattle.md_base.specs.declared.event.Kind.TheVariants.{Enter}
use Rattle.md_base.specs.declared.event.Name.{Name}
use Rattle.md_pattern.specs.declared.kinds.Symbol.{Symbol}
use Rattle.md_pattern.specs.declared.kinds.Role.{Role}
use Rattle.md_pattern.specs.declared.kinds.Role.TheVariants as role
use Rattle.md_pattern.specs.declared.kinds.Standing.TheVariants as standing
use Rattle.md_tree.specs.declared.mention.Mention.{Mention}
use Rattle.md_tree.specs.declared.mention.Mention.TheVariants.{Reference, Call}
use Rattle.md_tree.specs.declared.rule.Rule.{Rule}
use Rattle.md_tree.specs.declared.rule.Rule.TheVariants as rule
use Rattle.md_tree.specs.declared.rule.CompileError.{CompileError}
use Rattle.md_tree.specs.declared.rule.CompileError.TheVariants as error
use Rattle.md_base.specs.Tree.{Forest, Empty, Node, flatten, entering}
use Rattle.md_pattern.specs.Standing.{standing_of}
use Rattle.md_pattern.specs.Spine.{spine, IsBegunGroup}
use Rattle.md_pattern.specs.Shape.{AreShaped, IsShaped, inner_role, inner_before, last_symbol}
use Rattle.md_tree.specs.Rules.{MeetRules, broken_at}
use Rattle.md_tree.specs.Mentions.{mentions_of, IsResolved}
use Rattle.md_tree.specs.Grammar.{Handed, IsChecked}

-- an open node, with the complete nodes before it in its parent
pub record Level : Type 0 where
  pub before : Forest
  pub name : Name
  pub start : Point

-- the events of open nodes, the innermost first in the list, and of the complete nodes before each
abbrev pub opening : List Level → List Event
opening [] = []
opening (level ∷ path) =
    opening path ++ flatten level.before ++ entering level.name level.start ∷ []

-- the last symbol on the spine after some nodes that follow a symbol
abbrev pub symbol_after : Option Symbol → Forest → Option Symbol
symbol_after before nodes = last_symbol before (spine nodes)

-- the last symbol, and below the role, of the spine that the innermost open node's children belong
-- to
abbrev pub before_in : List Level → Option Symbol
before_in [] = None
before_in (level ∷ path) =
    inner_before (standing_of level.name) (symbol_after (before_in path) level.before)

abbrev pub role_in : List Level → Role
role_in [] = role.Flow
role_in (level ∷ path) =
    inner_role (standing_of level.name) (role_in path) (symbol_after (before_in path) level.before)

-- the complete nodes before each open one have the shape of the grammar
abbrev pub IsShapedPath : List Level → Type 0
IsShapedPath [] = Unit {0}
IsShapedPath (level ∷ path) =
    AreShaped level.before (role_in path) (before_in path) × IsShapedPath path

-- the events begin a tree in which each node that has ended matches its pattern: some are open, and
-- these nodes are complete in the innermost one
pub record Begins (events : List Event) (path : List Level) (nodes : Forest) : Type 0 where
  pub events_are : events ≡ opening path ++ flatten nodes
  pub path_shaped : IsShapedPath path
  pub nodes_shaped : AreShaped nodes (role_in path) (before_in path)

-- no tree with the shape of the grammar has a flattening that begins with these events
abbrev pub BeginNoTree : List Event → Type 0
BeginNoTree events = (forest : Forest) (more : List Event) → IsShaped forest →
    flatten forest ≡ events ++ more → ⊥

-- some tree with the shape of the grammar has a flattening that begins with these events
abbrev pub BeginTree : List Event → Type 0
BeginTree events =
    (forest : Forest) × (more : List Event) × IsShaped forest × (flatten forest ≡ events ++ more)

-- a spine ends in a group that has begun and isn't complete
abbrev pub EndsInGroup : List Symbol → Type 0
EndsInGroup symbols =
    (before group : List Symbol) × (symbols ≡ before ++ group) × IsBegunGroup group

-- the events begin a tree with the shape of the grammar, and leave a node open, or a group on the
-- document's own spine
abbrev pub LeaveOpen : List Event → Type 0
LeaveOpen events =
    BeginTree events × ((path : List Level) × (nodes : Forest) × Begins events path nodes
    × ((path ≢ []) ⊎ ((path ≡ []) × EndsInGroup (spine nodes))))

-- the node that ends with the last of these events breaks the rule, and each node that has ended so
-- far matches its pattern
pub record EndsBroken (bytes : List ℕ) (names : List (List ℕ × List ℕ)) (events : List Event)
    (broken : Rule) : Type 0 where
  pub path : List Level
  pub nodes : Forest
  pub name : Name
  pub start : Point
  pub end : Point
  pub children : Forest
  pub events_are :
      events ≡ opening path ++ flatten nodes ++ flatten (Node name start end children Empty)
  pub path_shaped : IsShapedPath path
  pub nodes_shaped : AreShaped nodes (role_in path) (before_in path)
  pub shaped : AreShaped (Node name start end children Empty) (role_in path)
      (symbol_after (before_in path) nodes)
  pub breaks : broken_at bytes names (role_in path) (symbol_after (before_in path) nodes) name start
      end children ≡ Some broken

-- the events are a document that has its shape and fulfils the other rules, and the node that ends
-- at the index refers to a definition that doesn't exist
pub record EndsUnresolved (given : Handed) (index : ℕ) (mention : Mention) : Type 0 where
  pub forest : Forest
  pub flattened : flatten forest ≡ given.events
  pub shape : IsShaped forest
  pub rules : MeetRules given.bytes given.names forest role.Flow None
  pub mentioned : slice_get (mentions_of forest) index ≡ Some mention
  pub unresolved : IsResolved given.bytes (mentions_of forest) mention → ⊥

-- Order at an event: no tree begins so; Order at the number of events: something is open
abbrev pub IsOrder : Handed → CompileError → Type 0
IsOrder given (error.Event index rule.Order) = (index ≤ length given.events)
    × (index < length given.events → BeginNoTree (take (suc index) given.events))
    × (index ≡ length given.events → LeaveOpen given.events)
IsOrder given _ = Unit {0}

-- Mdx: that event enters a name of MDX
abbrev pub IsMdx : Handed → CompileError → Type 0
IsMdx given (error.Event index rule.Mdx) =
    (event : Event) × (slice_get given.events index ≡ Some event)
    × (event.kind ≡ Enter) × (standing_of event.name ≡ standing.Mdx)
IsMdx given _ = Unit {0}

-- a rule that is checked when a node ends: the node that ends there breaks it
abbrev pub IsBroken : Handed → ℕ → Rule → Type 0
IsBroken given index broken = (index < length given.events)
    × EndsBroken given.bytes given.names (take (suc index) given.events) broken

abbrev pub IsOfNode : Handed → CompileError → Type 0
IsOfNode given (error.Event index rule.Place) = IsBroken given index rule.Place
IsOfNode given (error.Event index rule.LineEnding) = IsBroken given index rule.LineEnding
IsOfNode given (error.Event index rule.HeadingMark) = IsBroken given index rule.HeadingMark
IsOfNode given (error.Event index rule.ListNumber) = IsBroken given index rule.ListNumber
IsOfNode given (error.Event index rule.CharacterReference) =
    IsBroken given index rule.CharacterReference
IsOfNode given (error.Event index rule.Target) = IsBroken given index rule.Target
IsOfNode given _ = Unit {0}

-- Definition or Footnote: the node that ends there refers to a definition that doesn't exist, in a
-- document that fulfils all other rules
abbrev pub IsLost : Handed → CompileError → Type 0
IsLost given (error.Event index rule.Definition) =
    (label : Position) × EndsUnresolved given index (Reference label)
IsLost given (error.Event index rule.Footnote) =
    (label : Position) × EndsUnresolved given index (Call label)
IsLost given _ = Unit {0}

-- an event is refused only if the events aren't the flattening of any document of the grammar
abbrev pub IsOutside : Handed → CompileError → Type 0
IsOutside given error.Memory = Unit {0}
IsOutside given (error.Event index broken) = IsChecked given → ⊥

-- all of these
pub record IsRefusal (given : Handed) (refusal : CompileError) : Type 0 where
  pub order : IsOrder given refusal
  pub mdx : IsMdx given refusal
  pub of_node : IsOfNode given refusal
  pub lost : IsLost given refusal
  pub outside : IsOutside given refusal
