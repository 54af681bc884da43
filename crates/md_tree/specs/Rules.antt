-- The side conditions of the grammar: what it requires of the bytes of each node.
use Rattle.std.specs.Prelude.{◌≡◌, ℕ, ◌+◌, ◌-◌, Bool, ◌&&◌, true, nat_lt, nat_le, if◌then◌else◌}
use Rattle.std.specs.Prelude.{Option, Some, None, is_some, List, length}
use Rattle.std.specs.Option.{option_map_or}
use Rattle.md_base.specs.declared.event.Name.{Name}
use Rattle.md_base.specs.declared.event.Point.{Point}
use Rattle.md_base.specs.declared.event.Position.{Position}
use Rattle.md_base.specs.Place.{byte_index, spaces_before, spaces_after, fits, text_between}
use Rattle.md_base.specs.Place.{label_between}
use Rattle.md_base.specs.Reference.{is_number, decoded}
use Rattle.md_text.specs.LineEnding.{ending_of}
use Rattle.md_pattern.specs.declared.kinds.Symbol.{Symbol}
use Rattle.md_pattern.specs.declared.kinds.Symbol.TheVariants.{ReferenceMarker, ReferenceNumeric}
use Rattle.md_pattern.specs.declared.kinds.Symbol.TheVariants.{ReferenceHexadecimal}
use Rattle.md_pattern.specs.declared.kinds.Role.{Role}
use Rattle.md_pattern.specs.declared.kinds.Role.TheVariants as role
use Rattle.md_pattern.specs.declared.kinds.Reading.{Reading}
use Rattle.md_pattern.specs.declared.kinds.Reading.TheVariants as reading
use Rattle.md_pattern.specs.declared.kinds.Standing.{Standing}
use Rattle.md_pattern.specs.declared.kinds.Standing.TheVariants.{Through, Solid}
use Rattle.md_tree.specs.declared.mention.Referral.{Referral}
use Rattle.md_tree.specs.declared.mention.Referral.TheVariants.{Missing, Resource, Label}
use Rattle.md_tree.specs.declared.rule.Rule.{Rule}
use Rattle.md_tree.specs.declared.rule.Rule.TheVariants as rule
use Rattle.md_base.specs.Tree.{Forest, Empty, Node}
use Rattle.md_pattern.specs.Standing.{standing_of}
use Rattle.md_pattern.specs.Shape.{Claim, EachNode}

-- what is read of a node, by the class of its name: nothing if it belongs to no spine
abbrev pub reading_of : Standing → Reading
reading_of standing = elim standing [ Solid symbol usual read ↦ read | _ ↦ reading.Free ]

-- the position of a node
abbrev pub place : Point → Point → Position
place start end = record { start = start; end = end }

-- the target of the parent after a node, by what is read of the node, the target so far and the
-- target of its own spine
abbrev pub target_at : Reading → Referral → Referral → Position → Referral
target_at reading.Identifier found inner where_it_is = Label where_it_is
target_at reading.Holder found inner where_it_is = inner
target_at reading.Resource found inner where_it_is = Resource
target_at _ found inner where_it_is = found

-- the same by the class of the name
abbrev pub target_after : Standing → Referral → (Referral → Referral) → Position → Referral
target_after Through found inner where_it_is = inner found
target_after (Solid symbol usual reading) found inner where_it_is =
    target_at reading found (inner Missing) where_it_is
target_after _ found inner where_it_is = found

-- the target of a spine: its resource, or the position of its last label
abbrev pub target_of : Forest → Referral → Referral
target_of Empty found = found
target_of (Node name start end children rest) found =
    target_of rest (target_after (standing_of name) found (target_of children) (place start end))

-- one of the three texts of line endings
abbrev pub is_line_ending : List ℕ → Bool
is_line_ending text = is_some (ending_of text)

-- the marker of the reference group whose value follows this symbol: `&`, `&#` or `&#x`
abbrev pub marker_after : Option Symbol → Option ℕ
marker_after (Some ReferenceMarker) = Some 38
marker_after (Some ReferenceNumeric) = Some 35
marker_after (Some ReferenceHexadecimal) = Some 120
marker_after _ = None

-- the value of a reference group decodes; no other value has to
abbrev pub is_decodable : List (List ℕ × List ℕ) → Option Symbol → List ℕ → Bool
is_decodable names before text =
    option_map_or (λ mark. is_some (decoded names mark text)) (marker_after before) true

-- the value in the prefix of an ordered list's first item is the list's number
abbrev pub is_list_number : Role → Option Symbol → List ℕ → Bool
is_list_number role.FirstOrderedPrefix None text = is_number 10 text
is_list_number _ _ text = true

-- the length of a node, with the columns of tabs at its ends
abbrev pub columns : Point → Point → ℕ
columns start end = spaces_before start + (byte_index end - byte_index start) + spaces_after end

-- the length of a heading's first mark is its rank
abbrev pub is_rank : Role → Option Symbol → ℕ → Bool
is_rank role.Heading None length = nat_le 1 length && nat_le length 6
is_rank _ _ length = true

-- no rule if the condition holds
abbrev pub unless : Bool → Rule → Option Rule
unless condition broken = if condition then None else Some broken

-- the rule that a text breaks: that of its position if there is no text
abbrev pub broken_by : Option (List ℕ) → (List ℕ → Option Rule) → Option Rule
broken_by read judged = elim read [ None ↦ Some rule.Place | Some text ↦ judged text ]

-- the target of a link or an image
abbrev pub broken_by_target : Referral → Option Rule
broken_by_target target = elim target [ Missing ↦ Some rule.Target | _ ↦ None ]

-- the rule that a node breaks, by what is read of it, the role of its parent, the symbol before it,
-- its position and its target
abbrev pub broken_rule : List ℕ → List (List ℕ × List ℕ) → Reading → Role → Option Symbol → Point →
    Point → Referral → Option Rule
broken_rule bytes names read around before start end target = elim read [
  | reading.Text ↦ broken_by (text_between bytes start end) (λ text. None)
  | reading.LineEnding ↦
      broken_by (text_between bytes start end)
      (λ text. unless (is_some (ending_of text)) rule.LineEnding)
  | reading.Number ↦
      broken_by (text_between bytes start end)
      (λ text. unless (is_list_number around before text) rule.ListNumber)
  | reading.Value ↦
      broken_by (text_between bytes start end)
      (λ text. unless (is_decodable names before text) rule.CharacterReference)
  | reading.Mark ↦
      if fits bytes start end
      then unless (is_rank around before (columns start end)) rule.HeadingMark else Some rule.Place
  | reading.Underline ↦ unless (nat_lt start.index (length bytes)) rule.Place
  | reading.Identifier ↦ broken_by (label_between bytes start end) (λ text. None)
  | reading.Media ↦ broken_by_target target
  | _ ↦ None
]

-- the rule that a node breaks, in a parent with a role and after a symbol on its spine
abbrev pub broken_at : List ℕ → List (List ℕ × List ℕ) → Role → Option Symbol → Name → Point →
    Point → Forest → Option Rule
broken_at bytes names around before name start end children =
    broken_rule bytes names (reading_of (standing_of name)) around before start end
    (target_of children Missing)

-- a node fulfils the rules that depend only on it and on the symbols before it in its ancestors
abbrev pub MeetsRules : List ℕ → List (List ℕ × List ℕ) → Claim
MeetsRules bytes names around before name start end children =
    broken_at bytes names around before name start end children ≡ None

-- each node fulfils them
abbrev pub MeetRules : List ℕ → List (List ℕ × List ℕ) → Forest → Role → Option Symbol → Type 0
MeetRules bytes names forest around before = EachNode (MeetsRules bytes names) forest around before
