-- Which definition the check says, and which the meaning looks up.
use Rattle.std.proofs.Common.{arith, ◌≡◌, ℕ, Option, Some, List, [], ◌∷◌, refl, sym, ap, ◌∙◌, subst}
use Rattle.std.specs.Prelude.{map, unwrap_or, find, bytes_eq}
use Rattle.md_base.specs.declared.event.Name.{Name}
use Rattle.md_base.specs.declared.event.Point.{Point}
use Rattle.md_base.specs.declared.event.Position.{Position}
use Rattle.md_pattern.specs.declared.kinds.Symbol.{Symbol}
use Rattle.md_pattern.specs.declared.kinds.Role.{Role}
use Rattle.md_base.specs.Tree.{Forest, Empty, Node}
use Rattle.md_tree.specs.declared.mention.Referral.TheVariants.{Missing, Label}
use Rattle.md_tree.specs.declared.mention.Mention.TheVariants.{Reference}
use Rattle.md_tree.specs.Rules.{target_of, MeetRules}
use Rattle.md_tree.specs.Mentions.{mentions_of, defined, footnoted}
use Rattle.md_tree.specs.Mentions.{identifier_at as label_identifier}
use Rattle.md_tree.specs.Numbers.{which, definition_for}
use Rattle.md_tree.specs.Grammar.{IsGrammatical}
use Rattle.md_tree.proofs.Labels.{HasIdentifier, target-there, mentions-there, defined-texts}
use Rattle.md_tree.proofs.Labels.{footnoted-texts}
use Rattle.md_meaning.specs.Meaning.At.{Defined, identifier_of}
use Rattle.md_content.specs.References.{Everywhere, ResolvesAlike, defined_in, footnotes_defined_in}
use Rattle.md_content.specs.References.{first_of, found_at}
use Rattle.md_content.proofs.Identifiers.{identifiers-known, known}

which_first : (identifiers : List (List ℕ)) (wanted : List ℕ) →
    which (map Some identifiers) (Some wanted) ≡ first_of identifiers wanted
which_first [] wanted = refl
which_first (identifier ∷ identifiers) wanted = grind (arith, which_first identifiers)

-- the first with an identifier is found where its place is
pub find-first : {A : Type 0} (of : A → List ℕ) (found : List A) (wanted : List ℕ) →
    find (λ one. bytes_eq (of one) wanted) found ≡ found_at found (first_of (map of found) wanted)
find-first of [] wanted = refl
find-first of (one ∷ found) wanted = grind (arith, find-first of found)

named : (bytes : List ℕ) (children : Forest) (label : Position) (text : List ℕ) →
    target_of children Missing ≡ Label label → label_identifier bytes label ≡ Some text →
    label_identifier bytes label ≡ Some (identifier_of bytes children)
named bytes children label text is there = rw (is, identifier_of, there) refl

looked_up : (found : List (Option (List ℕ))) (identifiers : List (List ℕ))
    (wanted : Option (List ℕ)) (text : List ℕ) →
    found ≡ map Some (map (λ identifier. unwrap_or identifier []) found) →
    map known found ≡ identifiers → wanted ≡ Some text →
    which found wanted ≡ first_of identifiers text
looked_up found identifiers wanted text texts known_are is = grind (arith, which_first)

each : (bytes : List ℕ) (names : List (List ℕ × List ℕ)) (document : Forest) →
    IsGrammatical bytes names document →
    (forest : Forest) (around : Role) (before : Option Symbol) →
    MeetRules bytes names forest around before →
    Everywhere (ResolvesAlike bytes document) forest
each bytes names document is Empty around before meets = tt
each bytes names document is (Node name start end children rest) around before meets = (
  λ label leads.
      let mentions = mentions-there bytes names document _ _ (IsGrammatical.rules is) in
      let there = target-there bytes names children _ _ Missing meets.1 tt in
      let has = subst (HasIdentifier bytes) leads there in
      let text = named bytes children label has.0 leads has.1 in (
        looked_up (defined bytes (mentions_of document)) (defined_in bytes document)
            (label_identifier bytes label)
            (identifier_of bytes children) (defined-texts bytes (mentions_of document) mentions)
            (identifiers-known bytes document _ _ (IsGrammatical.shape is).0).0 text,
        looked_up (footnoted bytes (mentions_of document)) (footnotes_defined_in bytes document)
            (label_identifier bytes label)
            (identifier_of bytes children) (footnoted-texts bytes (mentions_of document) mentions)
            (identifiers-known bytes document _ _ (IsGrammatical.shape is).0).1 text,
      ),
  each bytes names document is children _ _ meets.1,
  each bytes names document is rest _ _ meets.2,
)

pub leads-alike : (bytes : List ℕ) (names : List (List ℕ × List ℕ)) (document : Forest) →
    IsGrammatical bytes names document → Everywhere (ResolvesAlike bytes document) document
leads-alike bytes names document is = grind (arith, each)

-- where these definitions have the identifiers of the document's, the first one is found
-- where the check says
abbrev pub IsFoundByPlace : List ℕ → Forest → List Defined → Name → Point → Point → Forest → Type 0
IsFoundByPlace bytes document definitions name start end children =
    (label : Position) → target_of children Missing ≡ Label label →
    find (λ defined. bytes_eq defined.identifier (identifier_of bytes children)) definitions
    ≡ found_at definitions (definition_for bytes (mentions_of document) (Reference label))

found_by_place : (bytes : List ℕ) (document : Forest) (definitions : List Defined) →
    map (λ (d : Defined). d.identifier) definitions ≡ defined_in bytes document →
    (forest : Forest) →
    Everywhere (ResolvesAlike bytes document) forest →
    Everywhere (IsFoundByPlace bytes document definitions) forest
found_by_place bytes document definitions are Empty alike = tt
found_by_place bytes document definitions are (Node name start end children rest) alike = (
  λ label leads.
      find-first (λ (d : Defined). d.identifier) definitions (identifier_of bytes children)
      ∙ ap (λ is. found_at definitions (first_of is (identifier_of bytes children))) are
      ∙ ap (found_at definitions) (sym (alike.0 label leads).0),
  found_by_place bytes document definitions are children alike.1,
  found_by_place bytes document definitions are rest alike.2,
)

pub found-by-place : (bytes : List ℕ) (names : List (List ℕ × List ℕ)) (document : Forest)
    (definitions : List Defined) → IsGrammatical bytes names document →
    map (λ (d : Defined). d.identifier) definitions ≡ defined_in bytes document →
    Everywhere (IsFoundByPlace bytes document definitions) document
found-by-place bytes names document definitions is are = grind (arith, found_by_place, leads-alike)
