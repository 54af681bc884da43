-- The mentions in a document: definitions, and references to them.
use Rattle.std.specs.Prelude.{ℕ, Option, option_map, List, [], ◌∷◌, ◌++◌, map}
use Rattle.std.specs.List.{Contains}
use Rattle.md_base.specs.declared.event.Position.{Position}
use Rattle.md_base.specs.Place.{label_between}
use Rattle.md_base.specs.Identifier.{normalized}
use Rattle.md_pattern.specs.declared.kinds.Reading.{Reading}
use Rattle.md_pattern.specs.declared.kinds.Reading.TheVariants as reading
use Rattle.md_tree.specs.declared.mention.Referral.{Referral}
use Rattle.md_tree.specs.declared.mention.Referral.TheVariants.{Missing, Label}
use Rattle.md_tree.specs.declared.mention.Mention.{Mention}
use Rattle.md_tree.specs.declared.mention.Mention.TheVariants.{Nothing, Reference, Call, Definition}
use Rattle.md_tree.specs.declared.mention.Mention.TheVariants.{FootnoteDefinition}
use Rattle.md_tree.specs.declared.mention.Mentioned.{Mentioned}
use Rattle.md_base.specs.Tree.{Forest, Empty, Node}
use Rattle.md_pattern.specs.Standing.{standing_of}
use Rattle.md_tree.specs.Rules.{reading_of, target_of}

-- the mention of a node, by what is read of it and its target
abbrev pub mention_of : Reading → Referral → Mention
mention_of reading.Media (Label label) = Reference label
mention_of reading.Call (Label label) = Call label
mention_of reading.Definition (Label label) = Definition label
mention_of reading.FootnoteDefinition (Label label) = FootnoteDefinition label
mention_of _ _ = Nothing

-- the mention of each event of the nodes, in order: an exit has the mention of its node, an entry
-- has none
abbrev pub mentions_of : Forest → List Mention
mentions_of Empty = []
mentions_of (Node name start end children rest) = Nothing ∷ mentions_of children
    ++ mention_of (reading_of (standing_of name)) (target_of children Missing) ∷ mentions_of rest

-- the mentions so far, with that of one more event, if it has one
abbrev pub mentions_with : ℕ → Mention → List Mentioned → List Mentioned
mentions_with index Nothing before = before
mentions_with index mention before = before ++ record { index = index; mention = mention } ∷ []

-- the mentions in a list
abbrev pub mentions_among : List Mentioned → List Mention
mentions_among mentioned = map (λ one. one.mention) mentioned

-- the identifier at a label's position
abbrev pub identifier_at : List ℕ → Position → Option (List ℕ)
identifier_at bytes label = option_map normalized (label_between bytes label.start label.end)

-- the identifiers, with one more if the mention is a definition
abbrev pub defined_by : List ℕ → Mention → List (Option (List ℕ)) → List (Option (List ℕ))
defined_by bytes mention rest =
    elim mention [ Definition at ↦ identifier_at bytes at ∷ rest | _ ↦ rest ]

-- the identifiers of the definitions
abbrev pub defined : List ℕ → List Mention → List (Option (List ℕ))
defined bytes [] = []
defined bytes (mention ∷ mentions) = defined_by bytes mention (defined bytes mentions)

-- the identifiers, with one more if the mention is a footnote definition
abbrev pub footnoted_by : List ℕ → Mention → List (Option (List ℕ)) → List (Option (List ℕ))
footnoted_by bytes mention rest =
    elim mention [ FootnoteDefinition at ↦ identifier_at bytes at ∷ rest | _ ↦ rest ]

-- the identifiers of the footnote definitions
abbrev pub footnoted : List ℕ → List Mention → List (Option (List ℕ))
footnoted bytes [] = []
footnoted bytes (mention ∷ mentions) = footnoted_by bytes mention (footnoted bytes mentions)

-- a mention that refers to a definition or a footnote definition has one among these mentions
abbrev pub IsResolved : List ℕ → List Mention → Mention → Type 0
IsResolved bytes mentions (Reference label) =
    Contains (defined bytes mentions) (identifier_at bytes label)
IsResolved bytes mentions (Call label) =
    Contains (footnoted bytes mentions) (identifier_at bytes label)
IsResolved bytes mentions _ = Unit {0}
