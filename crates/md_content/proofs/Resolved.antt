-- What the meaning reads of a document of the grammar exists, and each reference finds its
-- definition.
use Rattle.std.proofs.Common.{◌≡◌, ◌⊎◌, inl, inr, ℕ, Option, Some, None, List, [], ◌∷◌, ◌++◌, ap}
use Rattle.std.proofs.Common.{◌∙◌, subst, arith}
use Rattle.std.specs.Prelude.{map, All, Contains}
use Rattle.std.proofs.lemmas.List.{length-map, get_or-map}
use Rattle.std.proofs.lemmas.List.Elements.{All-nil, All-cons, All-head, All-tail}
use Rattle.md_base.specs.declared.event.Name.{Name}
use Rattle.md_base.specs.declared.event.Name.TheVariants.{Link, Image, GfmFootnoteCall}
use Rattle.md_base.specs.declared.event.Point.{Point}
use Rattle.md_base.specs.declared.event.Position.{Position}
use Rattle.md_pattern.specs.declared.kinds.Symbol.{Symbol}
use Rattle.md_pattern.specs.declared.kinds.Role.{Role}
use Rattle.md_pattern.specs.declared.kinds.Role.TheVariants as role
use Rattle.md_pattern.specs.declared.kinds.Reading.TheVariants as reading
use Rattle.md_tree.specs.declared.mention.Referral.{Referral}
use Rattle.md_tree.specs.declared.mention.Referral.TheVariants.{Missing, Label, Resource}
use Rattle.md_tree.specs.declared.mention.Mention.{Mention}
use Rattle.md_tree.specs.declared.mention.Mention.TheVariants as mention
use Rattle.md_base.specs.Tree.{Forest, Empty, Node}
use Rattle.md_pattern.specs.Standing.{standing_of}
use Rattle.md_pattern.specs.Shape.{AreShaped, inner_role, inner_before}
use Rattle.md_tree.specs.Rules.{broken_by_target, reading_of, target_of}
use Rattle.md_tree.specs.Mentions.{mention_of, mentions_of, defined, footnoted, IsResolved}
use Rattle.md_tree.specs.Mentions.{identifier_at as label_identifier}
use Rattle.md_tree.specs.Grammar.{IsGrammatical}
use Rattle.md_base.specs.Is.{is}
use Rattle.md_content.specs.Labels.{label_in_node, referring_in}
use Rattle.md_content.specs.References.{Everywhere, label_target, RefersAlike, defined_in}
use Rattle.md_content.specs.References.{footnotes_defined_in, RefersSomewhere}
use Rattle.md_content.proofs.FineNodes.{IsFine, AreFine, fine, shaped}
use Rattle.md_content.proofs.Referring.{media-refers, call-refers}
use Rattle.md_content.proofs.Leading.{call-label, definition-label, footnote-label}
use Rattle.md_content.proofs.TextsThere.{everywhere}
use Rattle.md_content.proofs.Identifiers.{known, named, identifiers-known}

-- ---- what is referred by
pub labels-alike : (bytes : List ℕ) (names : List (List ℕ × List ℕ)) (document : Forest) →
    IsGrammatical bytes names document → Everywhere RefersAlike document
labels-alike bytes names document grammatical =
    grind (
      arith,
      everywhere,
      shaped,
      fine,
      media-refers,
      call-refers,
      definition-label,
      footnote-label,
    )

-- ---- each reference finds its definition
all-left : {A : Type 0} (P : A → Type 0) (xs ys : List A) → All P (xs ++ ys) → All P xs
all-left P [] ys a = All-nil P
all-left P (x ∷ xs) ys a =
    All-cons P x xs (All-head P x (xs ++ ys) a) (all-left P xs ys (All-tail P x (xs ++ ys) a))

all-right : {A : Type 0} (P : A → Type 0) (xs ys : List A) → All P (xs ++ ys) → All P ys
all-right P [] ys a = a
all-right P (x ∷ xs) ys a = all-right P xs ys (All-tail P x (xs ++ ys) a)

contains-known : (bytes : List ℕ) (found : List (Option (List ℕ))) (identifiers : List (List ℕ))
    (target : Referral) (there : Position) → map known found ≡ identifiers → target ≡ Label there →
    Contains found (label_identifier bytes there) → Contains identifiers (named bytes target)
contains-known bytes found identifiers target there e is contained =
    grind (arith, length-map, get_or-map)

-- a link or an image
media-leads :
    (bytes : List ℕ) (mentions : List Mention) (identifiers : List (List ℕ)) (target : Referral)
    (referring : Option Position) → map known (defined bytes mentions) ≡ identifiers →
    broken_by_target target ≡ None →
    IsResolved bytes mentions (mention_of reading.Media target) →
    (target ≡ Resource) ⊎ (target ≡ label_target referring) →
    (target ≡ Resource) ⊎ Contains identifiers (named bytes target)
media-leads bytes mentions identifiers target referring e rules resolved (inl resource) =
    inl resource
media-leads bytes mentions identifiers target None e rules resolved (inr alike) = grind arith
media-leads bytes mentions identifiers target (Some there) e rules resolved (inr alike) =
    inr (contains-known bytes (defined bytes mentions) identifiers target there e alike
    (subst (λ t. IsResolved bytes mentions (mention_of reading.Media t)) alike resolved))

call-leads : (bytes : List ℕ) (mentions : List Mention) (identifiers : List (List ℕ))
    (target : Referral) (label : Option Position) (there : Position) →
    map known (footnoted bytes mentions) ≡ identifiers →
    target ≡ label_target label → label ≡ Some there →
    IsResolved bytes mentions (mention_of reading.Call target) →
    Contains identifiers (named bytes target)
call-leads bytes mentions identifiers target label there e alike is resolved =
    let led : target ≡ Label there = alike ∙ ap label_target is in
    contains-known bytes (footnoted bytes mentions) identifiers target there e led
    (subst (λ t. IsResolved bytes mentions (mention_of reading.Call t)) led resolved)

-- what is known of a node by the shape and the rules
node-leads : (bytes : List ℕ) (names : List (List ℕ × List ℕ)) (mentions : List Mention)
    (document : Forest) →
    map known (defined bytes mentions) ≡ defined_in bytes document →
    map known (footnoted bytes mentions) ≡ footnotes_defined_in bytes document →
    (around : Role) (before : Option Symbol) (name : Name) (start end : Point) (children : Forest) →
    IsFine bytes names around before name start end children →
    AreShaped children (inner_role (standing_of name) around before)
    (inner_before (standing_of name) before) →
    IsResolved bytes mentions
    (mention_of (reading_of (standing_of name)) (target_of children Missing)) →
    RefersSomewhere bytes document name start end children
node-leads bytes names mentions document d f around before Link start end children
    here inner resolved =
    media-leads bytes mentions (defined_in bytes document) (target_of children Missing)
    (referring_in children) d here.1 resolved (media-refers children inner here.0.1)
node-leads bytes names mentions document d f around before Image start end children
    here inner resolved =
    media-leads bytes mentions (defined_in bytes document) (target_of children Missing)
    (referring_in children) d here.1 resolved (media-refers children inner here.0.1)
node-leads bytes names mentions document d f around before GfmFootnoteCall start end children
    here inner resolved =
    let there = call-label children inner here.0.1 in
    call-leads bytes mentions (footnotes_defined_in bytes document) (target_of children Missing)
    (label_in_node children) there.0 f (call-refers children inner here.0.1) there.1 resolved
node-leads bytes names mentions document d f around before _ start end children
    here inner resolved = tt

lead : (bytes : List ℕ) (names : List (List ℕ × List ℕ)) (mentions : List Mention)
    (document : Forest) →
    map known (defined bytes mentions) ≡ defined_in bytes document →
    map known (footnoted bytes mentions) ≡ footnotes_defined_in bytes document →
    (forest : Forest) (around : Role) (before : Option Symbol) →
    AreFine bytes names forest around before →
    All (IsResolved bytes mentions) (mentions_of forest) →
    Everywhere (RefersSomewhere bytes document) forest
lead bytes names mentions document d f Empty around before all resolved = tt
lead bytes names mentions document d f (Node name start end children rest) around before
    all resolved =
    let P = IsResolved bytes mentions in
    let own = mention_of (reading_of (standing_of name)) (target_of children Missing) in
    let inner = mentions_of children in
    let split = All-tail P mention.Nothing _ resolved in
    let after = all-right P inner (own ∷ mentions_of rest) split in (
      node-leads bytes names mentions document d f around before name start end children all.0
          (shaped bytes names children _ _ all.1) (All-head P own (mentions_of rest) after),
      lead bytes names mentions document d f children _ _ all.1
          (all-left P inner (own ∷ mentions_of rest) split),
      lead bytes names mentions document d f rest _ _ all.2
          (All-tail P own (mentions_of rest) after),
    )

pub leads-somewhere : (bytes : List ℕ) (names : List (List ℕ × List ℕ)) (document : Forest) →
    IsGrammatical bytes names document → Everywhere (RefersSomewhere bytes document) document
leads-somewhere bytes names document grammatical =
    let lists = identifiers-known bytes document role.Flow None grammatical.shape.0 in
    lead bytes names (mentions_of document) document lists.0 lists.1 document role.Flow None
    (fine bytes names document role.Flow None grammatical.shape.0 grammatical.rules)
    grammatical.resolved

-- ---- a link or an image has a target
abbrev pub HasTarget : Name → Point → Point → Forest → Type 0
HasTarget Link start end children = broken_by_target (target_of children Missing) ≡ None
HasTarget Image start end children = broken_by_target (target_of children Missing) ≡ None
HasTarget _ start end children = Unit {0}

pub targets-there : (bytes : List ℕ) (names : List (List ℕ × List ℕ)) (document : Forest) →
    IsGrammatical bytes names document → Everywhere HasTarget document
targets-there bytes names document grammatical = grind (arith, everywhere, fine)
