-- By what a node refers to others or is referred to: the label that is read of it, unless
-- it has a resource.
use Rattle.std.proofs.Common.{◌≡◌, ◌⊎◌, inl, inr, ℕ, true, Option}
use Rattle.std.proofs.Common.{None, List, [], ◌∷◌, refl, sym, ap, ◌∙◌, arith}
use Rattle.std.specs.Prelude.{unwrap_or, is_some, Contains}
use Rattle.md_base.proofs.Lies.{lie}
use Rattle.md_base.specs.declared.event.Name.{Name}
use Rattle.md_base.specs.declared.event.Name.TheVariants.{Link, Image}
use Rattle.md_base.specs.declared.event.Point.{Point}
use Rattle.md_base.specs.declared.event.Position.{Position}
use Rattle.md_base.specs.Tree.{Forest}
use Rattle.md_meaning.specs.Meaning.At.{identifier_of}
use Rattle.md_meaning.specs.Places.{identifier_at}
use Rattle.md_meaning.proofs.EmptyIdentifier.{normalized-nothing}
use Rattle.md_meaning.proofs.Identifiers.{itself}
use Rattle.md_pattern.specs.declared.kinds.Reading.TheVariants as reading
use Rattle.md_pattern.specs.Standing.{standing_of}
use Rattle.md_content.specs.References.{HasResource, IsLabelled, RefersAlike, RefersSomewhere}
use Rattle.md_content.specs.References.{ResolvesAlike, defined_in, first_of}
use Rattle.md_content.proofs.Resolved.{labels-alike, HasTarget}
use Rattle.md_steps.specs.State.{is_resource}
use Rattle.md_tree.specs.declared.mention.Referral.{Referral}
use Rattle.md_tree.specs.declared.mention.Referral.TheVariants.{Missing, Label, Resource}
use Rattle.md_tree.specs.Entered.{IsEnteredAt}
use Rattle.md_tree.specs.Grammar.{Handed, IsChecked}
use Rattle.md_tree.specs.Mentions.{mention_of, mentions_of, identifier_at as label_identifier}
use Rattle.md_tree.specs.Numbers.{definition_for, is_of_definitions}
use Rattle.md_tree.specs.Reads.{reads}
use Rattle.md_tree.specs.Rules.{reading_of, target_of, broken_by_target}
use Rattle.md_tree.specs.Texts.{EntersAt}
use Rattle.md_facts.specs.NodeFacts.{is_labelled}
use Rattle.md_facts.proofs.Noticed.{Known, known, node-everywhere}
use Rattle.md_facts.proofs.FoundLemmas.{grammatical-there}

-- the identifier of a label that is a target
abbrev pub named : List ℕ → Referral → List ℕ
named bytes target = elim target [ Label at ↦ unwrap_or (label_identifier bytes at) [] | _ ↦ [] ]

label-known : (bytes : List ℕ) (label : Option Position) (children : Forest) →
    IsLabelled label children →
    identifier_of bytes children ≡ identifier_at bytes label
label-known bytes label children alike = grind (arith, normalized-nothing)

-- ---- a call, a definition, a footnote definition

by-label : (bytes : List ℕ) (name : Name) (start end : Point) (children : Forest) →
    is_labelled name ≡ true →
    RefersAlike name start end children →
    identifier_of bytes children ≡ identifier_at bytes (reads name children)
by-label bytes name start end children h alike = grind (arith, label-known)

pub labelled : (given : Handed) (index : ℕ) (name : Name) (children : Forest) → IsChecked given →
    EntersAt given.events index name → IsEnteredAt given index children → is_labelled name ≡ true →
    identifier_of given.bytes children ≡ identifier_at given.bytes (reads name children)
labelled given index name children checked enters entered h =
    let here : Known given index name children = known given index name children enters entered in
    let alike = node-everywhere RefersAlike given here.document name index here.exit here.node
    (labels-alike given.bytes given.names here.document
    (grammatical-there given here.document checked here.flat)) in
    ap (identifier_of given.bytes) (sym here.same)
    ∙ by-label given.bytes name here.node.start here.node.end here.node.children h alike
    ∙ ap (λ f. identifier_at given.bytes (reads name f)) here.same

-- ---- a link or an image

-- the first is found, where there is one
first-there : (xs : List (List ℕ)) (x : List ℕ) → Contains xs x → is_some (first_of xs x) ≡ true
first-there [] x there = absurd (omega (arith, there.1))
first-there (y ∷ ys) x there =
    let later = first-there ys x in grind (arith, later, itself, there)

-- it refers to a definition, or it has a resource
medium :
    (bytes : List ℕ) (document : Forest) (children : Forest) (start end : Point) (name : Name) →
    broken_by_target (target_of children Missing) ≡ None →
    HasResource children ⊎ Contains (defined_in bytes document) (identifier_of bytes children) →
    ResolvesAlike bytes document name start end children →
    None ≡ definition_for bytes (mentions_of document)
    (mention_of reading.Media (target_of children Missing)) →
    is_resource (target_of children Missing) ≡ true
medium bytes document children start end name has leads alike is =
    by (target_of children Missing) refl
  where
    led : (place : Position) → target_of children Missing ≡ Label place →
        HasResource children ⊎ Contains (defined_in bytes document) (identifier_of bytes children) →
        is_resource (target_of children Missing) ≡ true
    led place e (inl resource) = ap is_resource resource
    led place e (inr there) =
        lie (ap (λ o. is_some o) (is
        ∙ ap (λ r. definition_for bytes (mentions_of document) (mention_of reading.Media r)) e
        ∙ (alike place e).0)
        ∙ first-there (defined_in bytes document) (identifier_of bytes children) there)

    by : (target : Referral) → target_of children Missing ≡ target →
        is_resource (target_of children Missing) ≡ true
    by Missing e = grind (arith, has, e)
    by Resource e = ap is_resource e
    by (Label place) e = led place e leads

pub media :
    (bytes : List ℕ) (document : Forest) (children : Forest) (start end : Point) (name : Name) →
    is_of_definitions name ≡ true → HasTarget name start end children →
    RefersSomewhere bytes document name start end children →
    ResolvesAlike bytes document name start end children →
    None ≡ definition_for bytes (mentions_of document)
    (mention_of (reading_of (standing_of name)) (target_of children Missing)) →
    is_resource (target_of children Missing) ≡ true
media bytes document children start end Link h has leads alike is =
    medium bytes document children start end Link has leads alike is
media bytes document children start end Image h has leads alike is =
    medium bytes document children start end Image has leads alike is
media bytes document children start end _ h has leads alike is = lie h
