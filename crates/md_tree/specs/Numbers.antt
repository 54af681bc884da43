-- The definition that a mention refers to, and its stored number.
use Rattle.std.specs.Prelude.{◌≡◌, ℕ, zero, suc, ◌+◌, Bool, true, false, if◌then◌else◌, Option}
use Rattle.std.specs.Prelude.{Some, None, option_map, is_some, List, [], ◌∷◌, bytes_eq}
use Rattle.std.specs.Prelude.{string_bytes, String, ◌||◌}
use Rattle.std.specs.Prelude.{Result, Ok, Err, map, slice_get, IsTrue}
use Rattle.std.specs.BTreeMap.{BTreeMap, get}
use Rattle.std.specs.BTreeSet.{BTreeSet, contains}
use Rattle.std.specs.Option.{option_cmp}
use Rattle.std.specs.String.{string_cmp}
use Rattle.std.specs.declared.alloc.Global.{Global}
use Rattle.md_base.specs.declared.event.Name.{Name}
use Rattle.md_base.specs.declared.event.Name.TheVariants.{Link, Image}
use Rattle.md_base.specs.declared.event.Event.{Event}
use Rattle.md_base.specs.Tree.{Forest, flatten}
use Rattle.md_pattern.specs.Facts.{facts_at}
use Rattle.md_tree.specs.Grammar.{Handed}
use Rattle.md_tree.specs.Texts.{ExitsAt}
use Rattle.md_pattern.specs.declared.facts.Fact.{Fact}
use Rattle.md_tree.specs.declared.mention.Mention.{Mention}
use Rattle.md_tree.specs.declared.mention.Mention.TheVariants.{Reference, Call}
use Rattle.md_tree.specs.declared.mention.Mentioned.{Mentioned}
use Rattle.md_tree.specs.declared.rule.Rule.{Rule}
use Rattle.md_tree.specs.declared.rule.Rule.TheVariants as rule
use Rattle.md_tree.specs.Mentions.{identifier_at, defined, footnoted, IsResolved, mentions_of}

-- two identifiers are equal
abbrev pub is_same : Option (List ℕ) → Option (List ℕ) → Bool
is_same None None = true
is_same (Some one) (Some other) = bytes_eq one other
is_same _ _ = false

-- the number, from 0, of the first of some identifiers that equals this one
abbrev pub which : List (Option (List ℕ)) → Option (List ℕ) → Option ℕ
which [] wanted = None
which (first ∷ others) wanted =
    if is_same first wanted then Some 0 else option_map (λ place. suc place) (which others wanted)

-- the number of the definition that a link or an image refers to: the first one with its
-- identifier, in the order of their exits
abbrev pub definition_for : List ℕ → List Mention → Mention → Option ℕ
definition_for bytes mentions (Reference label) =
    which (defined bytes mentions) (identifier_at bytes label)
definition_for bytes mentions _ = None

-- the same among the footnote definitions, for a call
abbrev pub footnote_for : List ℕ → List Mention → Mention → Option ℕ
footnote_for bytes mentions (Call label) =
    which (footnoted bytes mentions) (identifier_at bytes label)
footnote_for bytes mentions _ = None

-- the definition for the node that the event at an index exits, in the document that the events
-- flatten
abbrev pub IsDefinitionFor : Handed → ℕ → Option ℕ → Type 0
IsDefinitionFor given index found =
    (forest : Forest) (mention : Mention) → flatten forest ≡ given.events →
    slice_get (mentions_of forest) index ≡ Some mention →
    found ≡ definition_for given.bytes (mentions_of forest) mention

-- the event at an index exits a link or an image
abbrev pub is_of_definitions : Name → Bool
is_of_definitions name = elim name [ Link ↦ true | Image ↦ true | _ ↦ false ]

abbrev pub ExitsOf : (Name → Bool) → List Event → ℕ → Type 0
ExitsOf is events index = (name : Name) × ExitsAt events index name × IsTrue (is name)

-- ---- what is stored: only contracts of private functions cite it

-- the stored number of a mention: one more than the number of its definition, 0 if it has none
abbrev pub number_of : Option ℕ → ℕ
number_of None = 0
number_of (Some place) = suc place

abbrev pub number_for : List ℕ → List Mention → Mention → ℕ
number_for bytes mentions mention = number_of (definition_for bytes mentions mention)

-- a fact with a number, unless that is 0
abbrev pub with_number : ℕ → Fact → Fact
with_number zero fact = fact
with_number (suc place) fact = record fact { read_at = suc place }

-- facts with a number at an index
abbrev pub put_number : ℕ → ℕ → List Fact → List Fact
put_number index number [] = []
put_number zero number (fact ∷ facts) = with_number number fact ∷ facts
put_number (suc index) number (fact ∷ facts) = fact ∷ put_number index number facts

-- facts with the number of each mention at its event
abbrev pub numbered : (Mention → ℕ) → List Mentioned → List Fact → List Fact
numbered number [] facts = facts
numbered number (one ∷ others) facts =
    numbered number others (put_number one.index (number one.mention) facts)

-- the value of a map for an identifier
abbrev pub found_in : BTreeMap (Option (String Global)) ℕ → Option (String Global) → Option ℕ
found_in numbers wanted = get (option_cmp string_cmp) numbers wanted

-- a map has the numbers of these identifiers; the first one has the number after `before`
abbrev pub NumbersFrom : BTreeMap (Option (String Global)) ℕ → ℕ → List (Option (List ℕ)) → Type 0
NumbersFrom numbers before all = (wanted : Option (String Global)) → found_in numbers wanted
    ≡ option_map (λ place. suc (before + place)) (which all (option_map string_bytes wanted))

-- a map has the number of each of these identifiers and of no other
abbrev pub Numbers : BTreeMap (Option (String Global)) ℕ → List (Option (List ℕ)) → Type 0
Numbers numbers all = (wanted : Option (String Global)) → found_in numbers wanted
    ≡ option_map (λ place. suc place) (which all (option_map string_bytes wanted))

-- a set has each of these identifiers and no other
abbrev pub Identifiers : BTreeSet (Option (String Global)) → List (Option (List ℕ)) → Type 0
Identifiers known all = (wanted : Option (String Global)) →
    contains (option_cmp string_cmp) known wanted
    ≡ is_some (which all (option_map string_bytes wanted))

-- it has each one except the remaining ones
abbrev pub IdentifiersBefore : BTreeSet (Option (String Global)) → List (Option (List ℕ)) →
    List (Option (List ℕ)) → Type 0
IdentifiersBefore known left all = (wanted : Option (String Global)) →
    (contains (option_cmp string_cmp) known wanted
    || is_some (which left (option_map string_bytes wanted)))
    ≡ is_some (which all (option_map string_bytes wanted))

-- the result for a mention: its number if it is resolved, else the rule that it breaks
abbrev pub IsNowhere : List ℕ → List Mention → Mention → Rule → Type 0
IsNowhere bytes mentions (Reference label) broken =
    (broken ≡ rule.Definition) × (IsResolved bytes mentions (Reference label) → ⊥)
IsNowhere bytes mentions (Call label) broken =
    (broken ≡ rule.Footnote) × (IsResolved bytes mentions (Call label) → ⊥)
IsNowhere bytes mentions _ broken = ⊥

abbrev pub RefersTo : List ℕ → List Mention → Mention → Result ℕ Rule → Type 0
RefersTo bytes mentions mention (Ok number) =
    IsResolved bytes mentions mention × (number ≡ number_for bytes mentions mention)
RefersTo bytes mentions mention (Err broken) = IsNowhere bytes mentions mention broken

-- facts with these numbers
abbrev pub facts_with : List ℕ → List Fact → List Fact
facts_with [] facts = facts
facts_with (number ∷ numbers) [] = []
facts_with (number ∷ numbers) (fact ∷ facts) = with_number number fact ∷ facts_with numbers facts

-- these facts are those at the events, with the number of each mention at its exit
abbrev pub AreNumbered : Handed → List Fact → Type 0
AreNumbered given facts =
    (forest : Forest) → flatten forest ≡ given.events →
    facts ≡ facts_with (map (number_for given.bytes (mentions_of forest)) (mentions_of forest))
    (facts_at given.events)

-- the index that a stored number encodes
abbrev pub place_of : ℕ → Option ℕ
place_of zero = None
place_of (suc place) = Some place
