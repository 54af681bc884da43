-- What may stand where, by the symbols of the grammar instead of by names, and that both say the
-- same.
use Rattle.std.proofs.Common.{◌≡◌, Bool, true, false, ◌&&◌, List, [], ◌∷◌, arith}
use Rattle.std.specs.List.{list_all}
use Rattle.md_base.specs.declared.event.Name.{Name}
use Rattle.md_pattern.specs.declared.kinds.Symbol.{Symbol}
use Rattle.md_pattern.specs.declared.kinds.Role.{Role}
use Rattle.md_pattern.specs.declared.kinds.Role.TheVariants as role
use Rattle.md_pattern.specs.declared.kinds.Item.{Item}
use Rattle.md_pattern.specs.declared.kinds.Item.TheVariants.{Once, Maybe, Many}
use Rattle.md_pattern.specs.declared.kinds.Standing.{Standing}
use Rattle.md_pattern.specs.declared.kinds.Standing.TheVariants.{Solid}
use Rattle.md_pattern.specs.Standing.{standing_of}
use Rattle.md_pattern.specs.Pattern.{members, pattern_of}
use Rattle.md_content.specs.Built.{Content, FirstFence, FirstMathFence, Chunks, InfoAndMeta}
use Rattle.md_content.specs.Built.{MetaAlone, Done, may_stand, content_of, content_past}
use Rattle.md_base.specs.NameTests.{is_transparent}
use Rattle.md_content.proofs.SymbolNames.{name_of, name_for, is_through, transparent}

-- a symbol may stand there, after others or at the beginning: lines begin with no fence
abbrev pub may_show : Bool → Content → Symbol → Bool
may_show false Chunks symbol = false
may_show earlier content symbol = may_stand content (name_of symbol)

abbrev pub past : Content → Symbol → Content
past content symbol = content_past content (name_of symbol)

-- the symbols are allowed there, in sequence
abbrev pub admits : Bool → Content → List Symbol → Bool
admits earlier content [] = true
admits earlier content (symbol ∷ symbols) =
    may_show earlier content symbol && admits true (past content symbol) symbols

-- the same may stand there after anything that may
abbrev pub keeps : Content → Bool
keeps content = elim content [
  | FirstFence ↦ false
  | FirstMathFence ↦ false
  | InfoAndMeta ↦ false
  | MetaAlone ↦ false
  | Done ↦ false
  | _ ↦ true
]

-- symbols of an item are allowed there, as many as it has, and the rest after them
abbrev pub item_admits : Item → (Bool → Content → Bool) → Bool → Content → Bool
item_admits (Once class) left earlier content = list_all (λ member. may_show earlier content member
    && left true (past content member)) (members class)
item_admits (Maybe class) left earlier content =
    left earlier content && list_all (λ member. may_show earlier content member
    && left true (past content member)) (members class)
item_admits (Many class) left earlier content = left earlier content
    && list_all (λ member. may_show earlier content member && keeps content) (members class)

-- what fits a pattern may stand there
abbrev pub pattern_admits : List Item → Bool → Content → Bool
pattern_admits [] earlier content = true
pattern_admits (item ∷ items) earlier content =
    item_admits item (λ b c. pattern_admits items b c) earlier content

-- the roles that a name with this usual one may have, after others or at the beginning
abbrev pub roles_for : Bool → Role → List Role
roles_for earlier role.Item = role.Item ∷ role.OrderedItem ∷ role.FirstOrderedItem ∷ []
roles_for earlier role.Prefix = role.Prefix ∷ role.OrderedPrefix ∷ role.FirstOrderedPrefix ∷ []
roles_for earlier role.Label = role.Label ∷ role.CallLabel ∷ []
roles_for true role.CodeFence = role.CodeFence ∷ []
roles_for false role.CodeFence = role.FirstCodeFence ∷ []
roles_for true role.MathFence = role.MathFence ∷ []
roles_for false role.MathFence = role.FirstMathFence ∷ []
roles_for earlier usual = usual ∷ []

abbrev pub implies : Bool → Bool → Bool
implies true holds = holds
implies false holds = true

-- wherever a node may stand, what fits the patterns of its roles may stand in it
abbrev pub holds_patterns : Bool → Content → Standing → Name → Bool
holds_patterns earlier content (Solid symbol usual reading) name =
    implies (may_show earlier content symbol)
    (list_all (λ role. pattern_admits (pattern_of role) false
    (content_of name content)) (roles_for earlier usual))
holds_patterns earlier content _ name = true

-- what a name says, by how it stands
pub record Behaves (standing : Standing) (name : Name) : Type 0 where
  pub through : is_transparent name ≡ is_through standing
  pub may : (content : Content) →
      may_stand content name ≡ may_stand content (name_for standing name)
  pub past : (content : Content) →
      content_past content name ≡ content_past content (name_for standing name)
  pub patterns : (earlier : Bool) (content : Content) →
      holds_patterns earlier content standing name ≡ true

pub behaves : (name : Name) → Behaves (standing_of name) name
behaves name = grind (arith, transparent)
