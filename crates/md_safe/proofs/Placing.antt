-- Each document of the grammar is placed: the content of a node's children allows them.
use Rattle.std.proofs.Common.{◌≡◌, true, ◌||◌, false, Bool, Option, None, List, ◌++◌, arith}
use Rattle.std.specs.List.{list_all}
use Rattle.std.proofs.lemmas.Bool.{and_parts}
use Rattle.std.proofs.lemmas.List.Folds.{list_all-append}
use Rattle.md_base.specs.declared.event.Name.{Name}
use Rattle.md_base.specs.Tree.{Forest, Empty, Node}
use Rattle.md_base.specs.NameTests.{is_transparent}
use Rattle.md_pattern.specs.declared.kinds.Symbol.{Symbol}
use Rattle.md_pattern.specs.declared.kinds.Symbol.TheVariants as symbol
use Rattle.md_pattern.specs.declared.kinds.Role.{Role}
use Rattle.md_pattern.specs.declared.kinds.Role.TheVariants as role
use Rattle.md_pattern.specs.declared.kinds.Standing.{Standing}
use Rattle.md_pattern.specs.declared.kinds.Standing.TheVariants.{Through, Space, Solid, Mdx}
use Rattle.md_pattern.specs.Standing.{standing_of}
use Rattle.md_pattern.specs.Spine.{spine, shown, IsTail, Matches}
use Rattle.md_pattern.specs.Shape.{AreShaped, IsStanding, role_for, IsShaped}
use Rattle.md_content.proofs.Letters.{fits-all, grouped-all, tail-all}
use Rattle.md_safe.specs.Contents.{Content, Flow, Phrasing, Items, Parts, Rows, Cells, Characters}
use Rattle.md_safe.specs.Placed.{Sort, Block, Item, Part, Row, Cell, Ending, Chunk, Delimiters}
use Rattle.md_safe.specs.Placed.{Inline, sort_of, may_stand, place_of, place_inside, IsPlaced}

-- what a symbol is to the node around it
abbrev sort_for : Symbol → Sort
sort_for seen = elim seen [
  | symbol.Block ↦ Block
  | symbol.SetextText ↦ Block
  | symbol.SetextUnderline ↦ Block
  | symbol.ListItem ↦ Item
  | symbol.TableHead ↦ Part
  | symbol.TableBody ↦ Part
  | symbol.TableRow ↦ Row
  | symbol.TableCell ↦ Cell
  | symbol.LineEnding ↦ Ending
  | symbol.BlankLineEnding ↦ Ending
  | symbol.CodeFlowChunk ↦ Chunk
  | symbol.TableDelimiterRow ↦ Delimiters
  | _ ↦ Inline
]

-- what the spine of a node with this role is
abbrev place_for : Role → Content
place_for usual = elim usual [
  | role.Flow ↦ Flow
  | role.FootnoteDefinition ↦ Flow
  | role.FirstOrderedItem ↦ Flow
  | role.OrderedItem ↦ Flow
  | role.Item ↦ Flow
  | role.OrderedList ↦ Items
  | role.UnorderedList ↦ Items
  | role.Table ↦ Parts
  | role.TableHead ↦ Rows
  | role.TableBody ↦ Rows
  | role.TableRow ↦ Cells
  | role.CodeIndented ↦ Characters
  | _ ↦ Phrasing
]

-- what names say, by how they stand
abbrev Says : Standing → Name → Type 0
Says Through name = is_transparent name ≡ true
Says Space name = is_transparent name ≡ true
Says (Solid seen usual reading) name =
    (is_transparent name ≡ false) × (sort_of name ≡ sort_for seen)
    × (place_of name ≡ place_for usual)
Says Mdx name = Unit {0}

says : (name : Name) → Says (standing_of name) name
says name = grind arith

-- a symbol may stand there
abbrev may_show : Content → Symbol → Bool
may_show content seen = may_stand content (sort_for seen)

-- ---- what may stand after a symbol of a group may stand there

tail-shows : (content : Content) (first : Symbol) (tail : List Symbol) →
    may_show content first ≡ true →
    IsTail first tail → list_all (may_show content) tail ≡ true
tail-shows content first tail h is = grind (arith, tail-all)

-- ---- what matches a role's pattern may stand in its place

all-show : (usual : Role) (symbols : List Symbol) → Matches usual symbols →
    list_all (may_show (place_for usual)) symbols ≡ true
all-show usual symbols match = grind (arith, grouped-all, tail-shows, fits-all)

role-place : (around : Role) (before : Option Symbol) (usual : Role) →
    place_for (role_for around before usual) ≡ place_for usual
role-place around before usual = grind arith

-- ---- a node may stand there, its children in it, and others after it

record Spot (standing : Standing) (name : Name) (children : Forest) (content : Content)
    (others : List Symbol) : Type 0 where
  stands : (is_transparent name || may_stand content (sort_of name)) ≡ true
  inside : list_all (may_show (place_inside content name)) (spine children) ≡ true
  after : list_all (may_show content) others ≡ true

spot : (standing : Standing) (name : Name) (children : Forest) (around : Role)
    (before : Option Symbol) (content : Content) (others : List Symbol) → Says standing name →
    IsStanding standing around before children → list_all (may_show content)
    (shown standing (spine children) ++ others) ≡ true → Spot standing name children content others
spot Through name children around before content others says stands h =
    grind (arith, and_parts, list_all-append, says)
spot Space name children around before content others says stands h = grind (arith, says)
spot (Solid seen usual reading) name children around before content others says stands h =
    let parts = and_parts _ _ h in
    let shows = all-show (role_for around before usual) (spine children) stands in
    record {
      stands = rw (says.0, says.1) parts.0;
      inside = rw (says.0, says.2, ← (role-place around before usual)) shows;
      after = parts.1;
    }
spot Mdx name children around before content others says stands h = absurd stands

placed : (forest : Forest) (around : Role) (before : Option Symbol) (content : Content) →
    AreShaped forest around before → list_all (may_show content) (spine forest) ≡ true →
    IsPlaced content forest
placed Empty around before content shaped h = tt
placed (Node name start end children rest) around before content shaped h =
    let here = spot (standing_of name) name children around before content (spine rest)
    (says name) shaped.0.1 h in (
      here.stands,
      placed children _ _ (place_inside content name) shaped.1 here.inside,
      placed rest _ _ content shaped.2 here.after,
    )

pub shaped-placed : (forest : Forest) → IsShaped forest → IsPlaced Flow forest
shaped-placed forest shaped =
    placed forest role.Flow None Flow shaped.0 (all-show role.Flow (spine forest) shaped.1)
