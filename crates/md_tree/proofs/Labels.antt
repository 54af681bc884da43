-- The label by which a node of a document refers, or is referred to, is a text: else a rule is
-- broken. So each identifier of a document is there.
use Rattle.std.proofs.Common.{arith, ◌≡◌, ℕ, Option, Some, None, List, [], ◌∷◌, ◌++◌, refl, ap}
use Rattle.md_tree.proofs.Common.{map, unwrap_or, option_map, All, All-cons, All-nil, All-append}
use Rattle.md_tree.proofs.Common.{All-head, All-tail, Point, label_between, Symbol, Role, Reading}
use Rattle.md_tree.proofs.Common.{Standing, Through, Solid, standing_of, Forest, Empty, Node}
use Rattle.md_tree.proofs.Common.{Referral, Missing, Label, Mention, Nothing, Reference, Call}
use Rattle.md_tree.proofs.Common.{Definition, FootnoteDefinition, place, broken_by, broken_rule}
use Rattle.md_tree.proofs.Common.{reading_of, target_of, target_after, MeetRules, identifier_at}
use Rattle.md_tree.proofs.Common.{mention_of, mentions_of, defined, footnoted}
use Rattle.md_base.specs.Identifier.{normalized}
use Rattle.md_pattern.specs.declared.kinds.Reading.TheVariants as reading

-- a label's identifier is there
abbrev pub HasIdentifier : List ℕ → Referral → Type 0
HasIdentifier bytes (Label label) = (text : List ℕ) × (identifier_at bytes label ≡ Some text)
HasIdentifier bytes _ = Unit {0}

module _ (bytes : List ℕ) (names : List (List ℕ × List ℕ)) where
  label_there : (start end : Point) (read : Option (List ℕ)) →
      label_between bytes start end ≡ read → broken_by read (λ text. None) ≡ None →
      HasIdentifier bytes (Label (place start end))
  label_there start end None e unbroken = cc
  label_there start end (Some text) e unbroken = (normalized text, ap (option_map normalized) e)

  after_there : (standing : Standing) (around : Role) (before : Option Symbol) (start end : Point)
      (target found : Referral) (inner : Referral → Referral) →
      broken_rule bytes names (reading_of standing) around before start end target ≡ None →
      HasIdentifier bytes found → HasIdentifier bytes (inner found) →
      HasIdentifier bytes (inner Missing) →
      HasIdentifier bytes (target_after standing found inner (place start end))
  after_there (Solid symbol usual reading.Identifier) around before start end target found inner
      unbroken has through held =
      label_there start end _ refl unbroken
  after_there Through around before start end target found inner unbroken has through held = through
  after_there _ around before start end target found inner unbroken has through held = grind arith

  pub target-there : (forest : Forest) (around : Role)
      (before : Option Symbol) (found : Referral) → MeetRules bytes names forest around before →
      HasIdentifier bytes found → HasIdentifier bytes (target_of forest found)
  target-there Empty around before found meets has = has
  target-there (Node name start end children rest) around before found meets has =
      target-there rest _ _
      (target_after (standing_of name) found (target_of children) (place start end)) meets.2
      (after_there (standing_of name) around before start end (target_of children Missing)
      found (target_of children) meets.0 has (target-there children _ _ found meets.1 has)
      (target-there children _ _ Missing meets.1 tt))

-- ---- of each mention

abbrev pub MentionsText : List ℕ → Mention → Type 0
MentionsText bytes (Reference label) = HasIdentifier bytes (Label label)
MentionsText bytes (Call label) = HasIdentifier bytes (Label label)
MentionsText bytes (Definition label) = HasIdentifier bytes (Label label)
MentionsText bytes (FootnoteDefinition label) = HasIdentifier bytes (Label label)
MentionsText bytes _ = Unit {0}

mention_there : (bytes : List ℕ) (read : Reading) (target : Referral) → HasIdentifier bytes target →
    MentionsText bytes (mention_of read target)
mention_there bytes read target has = grind arith

pub mentions-there : (bytes : List ℕ) (names : List (List ℕ × List ℕ)) (forest : Forest)
    (around : Role) (before : Option Symbol) → MeetRules bytes names forest around before →
    All (MentionsText bytes) (mentions_of forest)
mentions-there bytes names Empty around before meets = All-nil (MentionsText bytes)
mentions-there bytes names (Node name start end children rest) around before meets =
    let own = mention_of (reading_of (standing_of name)) (target_of children Missing) in
    All-cons (MentionsText bytes) Nothing (mentions_of children ++ own ∷ mentions_of rest) tt
    (All-append (MentionsText bytes) (mentions_of children) (own ∷ mentions_of rest)
    (mentions-there bytes names children _ _ meets.1)
    (All-cons (MentionsText bytes) own (mentions_of rest)
    (mention_there bytes (reading_of (standing_of name)) _
    (target-there bytes names children _ _ Missing meets.1 tt))
    (mentions-there bytes names rest _ _ meets.2)))

-- so the identifiers of definitions are texts

abbrev Texts : List (Option (List ℕ)) → Type 0
Texts found = found ≡ map Some (map (λ identifier. unwrap_or identifier []) found)

more_known : (found : Option (List ℕ)) (text : List ℕ) (others : List (Option (List ℕ))) →
    found ≡ Some text → Texts others → Texts (found ∷ others)
more_known found text others e is = grind arith

pub defined-texts : (bytes : List ℕ) (mentions : List Mention) → All (MentionsText bytes) mentions →
    Texts (defined bytes mentions)
defined-texts bytes [] all = refl
defined-texts bytes (Definition label ∷ mentions) all =
    let here = All-head (MentionsText bytes) (Definition label) mentions all in
    more_known (identifier_at bytes label) here.0 (defined bytes mentions) here.1
    (defined-texts bytes mentions (All-tail (MentionsText bytes) (Definition label) mentions all))
defined-texts bytes (mention ∷ mentions) all =
    defined-texts bytes mentions (All-tail (MentionsText bytes) mention mentions all)

pub footnoted-texts : (bytes : List ℕ) (mentions : List Mention) →
    All (MentionsText bytes) mentions → Texts (footnoted bytes mentions)
footnoted-texts bytes [] all = refl
footnoted-texts bytes (FootnoteDefinition label ∷ mentions) all =
    let here = All-head (MentionsText bytes) (FootnoteDefinition label) mentions all in
    more_known (identifier_at bytes label) here.0 (footnoted bytes mentions) here.1
    (footnoted-texts bytes mentions
    (All-tail (MentionsText bytes) (FootnoteDefinition label) mentions all))
footnoted-texts bytes (mention ∷ mentions) all =
    footnoted-texts bytes mentions (All-tail (MentionsText bytes) mention mentions all)
