-- The definition that the check gives is the one that is found by its identifier.
use Rattle.std.proofs.Common.{arith, ◌≡◌, ℕ, true, Some, None, List, [], ◌∷◌, sym, ap, ◌∙◌}
use Rattle.std.specs.Prelude.{slice_get, if◌then◌else◌, map, is_some, IsSome}
use Rattle.std.specs.Option.{option_map_or}
use Rattle.std.proofs.lemmas.Option.{slice_get-map}
use Rattle.md_base.specs.declared.event.Name.{Name}
use Rattle.md_base.specs.declared.event.Position.{Position}
use Rattle.md_base.specs.Tree.{Forest, flatten}
use Rattle.md_meaning.specs.Meaning.At.{Defined, Context, identifier_of}
use Rattle.md_meaning.specs.Meaning.Media.{target_defined}
use Rattle.md_pattern.specs.Standing.{standing_of}
use Rattle.md_content.specs.Built.{Blocks}
use Rattle.md_content.specs.References.{RefersSomewhere, ResolvesAlike, defined_in, first_of}
use Rattle.md_content.specs.References.{found_at}
use Rattle.md_content.proofs.Alike.{leads-alike, IsFoundByPlace, found-by-place}
use Rattle.md_content.proofs.Grammatical.{grammatical-built}
use Rattle.md_content.proofs.Resolved.{leads-somewhere, HasTarget, targets-there}
use Rattle.md_tree.specs.declared.mention.Referral.{Referral}
use Rattle.md_tree.specs.declared.mention.Referral.TheVariants.{Missing, Label}
use Rattle.md_tree.specs.declared.mention.Mention.TheVariants.{Reference}
use Rattle.md_tree.specs.Grammar.{Handed, IsChecked}
use Rattle.md_tree.specs.Mentions.{mention_of, mentions_of}
use Rattle.md_tree.specs.Numbers.{definition_for, is_of_definitions, ExitsOf, IsDefinitionFor}
use Rattle.md_tree.specs.Rules.{reading_of, target_of}
use Rattle.md_steps.specs.Run.{Noticed}
use Rattle.md_steps.specs.Sides.{referred}
use Rattle.md_steps.specs.State.{is_resource}
use Rattle.md_steps.specs.Steps.{nowhere}
use Rattle.md_facts.specs.Definitions.{AreKnown, RefersTo}
use Rattle.md_facts.proofs.FoundLemmas.{grammatical-there}
use Rattle.md_facts.proofs.Labelled.{media}
use Rattle.md_facts.proofs.Nodes.{NodeAt, node-exited, same-document}
use Rattle.md_facts.proofs.Noticed.{node-everywhere, Exited, exited}
use Rattle.md_facts.proofs.Undefined.{built-frees, identifiers-defined}

-- what is found first is there
first-got : (xs : List (List ℕ)) (x : List ℕ) (place : ℕ) → first_of xs x ≡ Some place →
    is_some (slice_get xs place) ≡ true
first-got [] x place e = cc
first-got (y ∷ ys) x place e =
    let later = first-got ys x in grind (arith, later, e)

mapped-there : {A B : Type 0} (f : A → B) (xs : List A) (place : ℕ) →
    is_some (slice_get (map f xs) place) ≡ true →
    IsSome (slice_get xs place)
mapped-there f xs place h = grind (arith, slice_get-map, h)

-- the label of a link or an image for which a definition is found
labelled : (bytes : List ℕ) (document : Forest) (name : Name) (target : Referral) (place : ℕ) →
    is_of_definitions name ≡ true →
    Some place ≡ definition_for bytes (mentions_of document)
    (mention_of (reading_of (standing_of name)) target) →
    (label : Position) × (target ≡ Label label)
    × (Some place ≡ definition_for bytes (mentions_of document) (Reference label))
labelled bytes document name target place h e = grind arith

-- the definitions that are known have the identifiers of the document's
pub known-in : (given : Handed) (document : Forest) (supply : Context) → IsChecked given →
    flatten document ≡ given.events →
    AreKnown given supply →
    map (λ (d : Defined). d.identifier) supply.definitions ≡ defined_in given.bytes document
known-in given document supply checked flat known =
    let one = same-document known.0 document given.events known.2 flat in
    let grammatical = grammatical-there given known.0 checked known.2 in
    let frees = built-frees given.bytes Blocks known.0
    (grammatical-built given.bytes given.names known.0 grammatical) in
    cc (known.4, identifiers-defined known.1 known.0 frees, known.3, one)

-- what is known where a definition is found
record Led (given : Handed) (index : ℕ) (name : Name) (place : ℕ) (document : Forest) : Type 0 where
  flat : flatten document ≡ given.events
  entry : ℕ
  node : NodeAt given document name entry index
  label : Position
  is : target_of node.children Missing ≡ Label label
  found : Some place ≡ definition_for given.bytes (mentions_of document) (Reference label)

led :
    (given : Handed) (index : ℕ) (place : ℕ) (exits : ExitsOf is_of_definitions given.events index)
    (document : Forest) → flatten document ≡ given.events →
    IsDefinitionFor given index (Some place) →
    Led given index exits.0 place document
led given index place exits document flat definition =
    let name : Name = exits.0 in
    let found = node-exited given document flat index name exits.1 in
    let node : NodeAt given document name found.0 index = found.1 in
    let own = mention_of (reading_of (standing_of name)) (target_of node.children Missing) in
    let label = labelled given.bytes document name (target_of node.children Missing) place exits.2
    (definition document own flat node.mentions) in
    record {
      flat = flat;
      entry = found.0;
      node = node;
      label = label.0;
      is = label.1;
      found = label.2;
    }

pub led-there : (given : Handed) (index : ℕ) (place : ℕ)
    (exits : ExitsOf is_of_definitions given.events index) →
    IsChecked given → IsDefinitionFor given index (Some place) → (supply : Context) →
    AreKnown given supply →
    IsSome (slice_get supply.definitions place)
led-there given index place exits checked definition supply known =
    let document : Forest = known.0 in
    let here : Led given index exits.0 place document =
    led given index place exits document known.2 definition in
    let grammatical = grammatical-there given document checked known.2 in
    let alike = node-everywhere (ResolvesAlike given.bytes document) given document exits.0
    here.entry
    index here.node (leads-alike given.bytes given.names document grammatical) in
    mapped-there (λ (d : Defined). d.identifier) supply.definitions place
    (ap (λ xs. is_some (slice_get xs place)) (known-in given document supply checked known.2 known)
    ∙ first-got (defined_in given.bytes document) (identifier_of given.bytes here.node.children)
    place (sym (alike here.label here.is).0 ∙ sym here.found))

pub led-target :
    (given : Handed) (index : ℕ) (place : ℕ) (exits : ExitsOf is_of_definitions given.events
    index) →
    IsChecked given → IsDefinitionFor given index (Some place) → RefersTo given index (Some place)
led-target given index place exits checked definition one supply there known =
    let seen : Exited given index exits.0 one = exited given index exits.0 one exits.1 there in
    let document : Forest = seen.document in
    let grammatical = grammatical-there given document checked seen.flat in
    let node : NodeAt given document exits.0 seen.entry index = seen.node in
    let own = mention_of (reading_of (standing_of exits.0)) (target_of node.children Missing) in
    let label = labelled given.bytes document exits.0 (target_of node.children Missing) place
    exits.2 (definition document own seen.flat node.mentions) in
    let by_place = node-everywhere (IsFoundByPlace given.bytes document supply.definitions) given
    document exits.0 seen.entry index node (found-by-place given.bytes given.names document
    supply.definitions grammatical (known-in given document supply checked seen.flat known)) in
    ap (λ (n : Noticed). referred supply n.facts) seen.is
    ∙ ap (λ t. if is_resource t then nowhere
    else target_defined supply (identifier_of given.bytes node.children)) label.1
    ∙ ap (λ o. option_map_or (λ (d : Defined). d.target) o nowhere)
    (by_place label.0 label.1 ∙ ap (found_at supply.definitions) (sym label.2))

pub unled : (given : Handed) (index : ℕ) (exits : ExitsOf is_of_definitions given.events index) →
    IsChecked given → IsDefinitionFor given index None → RefersTo given index None
unled given index exits checked definition one supply there known =
    let name : Name = exits.0 in
    let seen : Exited given index name one = exited given index name one exits.1 there in
    let document : Forest = seen.document in
    let node : NodeAt given document name seen.entry index = seen.node in
    let grammatical = grammatical-there given document checked seen.flat in
    let own = mention_of (reading_of (standing_of name)) (target_of node.children Missing) in
    let targets = node-everywhere HasTarget given document name seen.entry index node
    (targets-there given.bytes given.names document grammatical) in
    let leads = node-everywhere (RefersSomewhere given.bytes document) given document name
    seen.entry
    index node (leads-somewhere given.bytes given.names document grammatical) in
    let alike = node-everywhere (ResolvesAlike given.bytes document) given document name seen.entry
    index node (leads-alike given.bytes given.names document grammatical) in
    ap (λ (n : Noticed). referred supply n.facts) seen.is
    ∙ ap (λ b. if b then nowhere
    else target_defined supply (identifier_of given.bytes node.children))
    (media given.bytes document node.children node.start node.end name exits.2 targets leads alike
    (definition document own seen.flat node.mentions))
