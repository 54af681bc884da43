-- Grammar and meaning have the same identifiers of definitions and of footnote definitions.
use Rattle.std.proofs.Common.{◌≡◌, ℕ, Bool, Option, List, [], ◌∷◌, ◌++◌, refl, ap, ◌∙◌, arith}
use Rattle.std.specs.Prelude.{map, unwrap_or}
use Rattle.std.proofs.lemmas.List.{map-append}
use Rattle.md_base.specs.declared.event.Name.{Name}
use Rattle.md_base.specs.declared.event.Name.TheVariants.{Definition, GfmFootnoteDefinition}
use Rattle.md_base.specs.declared.event.Point.{Point}
use Rattle.md_pattern.specs.declared.kinds.Symbol.{Symbol}
use Rattle.md_pattern.specs.declared.kinds.Role.{Role}
use Rattle.md_tree.specs.declared.mention.Referral.{Referral}
use Rattle.md_tree.specs.declared.mention.Referral.TheVariants.{Missing, Label}
use Rattle.md_tree.specs.declared.mention.Mention.{Mention}
use Rattle.md_base.specs.Tree.{Forest, Empty, Node}
use Rattle.md_pattern.specs.Standing.{standing_of}
use Rattle.md_pattern.specs.Shape.{IsShapedNode, AreShaped, inner_role, inner_before}
use Rattle.md_tree.specs.Rules.{reading_of, target_of}
use Rattle.md_tree.specs.Mentions.{mention_of, mentions_of, defined, defined_by, footnoted}
use Rattle.md_tree.specs.Mentions.{footnoted_by, identifier_at as label_identifier}
use Rattle.md_base.specs.Is.{is}
use Rattle.md_meaning.specs.Meaning.Layout.{when}
use Rattle.md_meaning.specs.Meaning.At.{identifier_of}
use Rattle.md_content.specs.References.{defined_in, footnotes_defined_in}
use Rattle.md_content.proofs.FineNodes.{shaped}
use Rattle.md_content.proofs.Leading.{definition-label, footnote-label}

-- an identifier as the meaning has it
abbrev pub known : Option (List ℕ) → List ℕ
known identifier = unwrap_or identifier []

-- and by the target of what it identifies
abbrev pub named : List ℕ → Referral → List ℕ
named bytes target = elim target [ Label there ↦ known (label_identifier bytes there) | _ ↦ [] ]

known-append : (bytes : List ℕ) (ms others : List Mention) →
    (defined bytes (ms ++ others) ≡ defined bytes ms ++ defined bytes others)
    × (footnoted bytes (ms ++ others) ≡ footnoted bytes ms ++ footnoted bytes others)
known-append bytes [] others = (refl, refl)
known-append bytes (m ∷ ms) others = grind (arith, known-append bytes ms)

abbrev adds : Bool → List ℕ → List (List ℕ)
adds test identifier = when test (identifier ∷ [])

node-adds :
    (bytes : List ℕ) (name : Name) (children : Forest) (around : Role) (before : Option Symbol)
    (start end : Point) → IsShapedNode around before name start end children →
    AreShaped children (inner_role (standing_of name) around before)
    (inner_before (standing_of name) before) →
    (ds fs : List (Option (List ℕ))) →
    let own : Mention =
    mention_of (reading_of (standing_of name)) (target_of children Missing) in
    (map known (defined_by bytes own ds)
    ≡ adds (is Definition name) (identifier_of bytes children) ++ map known ds)
    × (map known (footnoted_by bytes own fs)
    ≡ adds (is GfmFootnoteDefinition name) (identifier_of bytes children) ++ map known fs)
node-adds bytes name children around before start end is inner ds fs =
    grind (arith, definition-label, footnote-label)

-- the identifiers of two parts, by those of each
in_parts : (all inner later : List (Option (List ℕ))) (xs ys : List (List ℕ)) →
    all ≡ inner ++ later → map known inner ≡ xs → map known later ≡ ys → map known all ≡ xs ++ ys
in_parts all inner later xs ys a b c = rw (a, map-append known inner later, b, c) refl

-- the identifiers of definitions are the same to both, and those of footnote definitions
pub identifiers-known :
    (bytes : List ℕ) (forest : Forest) (around : Role) (before : Option Symbol) →
    AreShaped forest around before →
    (map known (defined bytes (mentions_of forest)) ≡ defined_in bytes forest)
    × (map known (footnoted bytes (mentions_of forest)) ≡ footnotes_defined_in bytes forest)
identifiers-known bytes Empty around before shaped = (refl, refl)
identifiers-known bytes (Node name start end children rest) around before shaped =
    let own = mention_of (reading_of (standing_of name)) (target_of children Missing) in
    let inner = mentions_of children in
    let later = mentions_of rest in
    let parts = known-append bytes inner (own ∷ later) in
    let in_it = identifiers-known bytes children _ _ shaped.1 in
    let after_it = identifiers-known bytes rest _ _ shaped.2 in
    let here = node-adds bytes name children around before start end shaped.0 shaped.1
    (defined bytes later) (footnoted bytes later) in (
      in_parts _ (defined bytes inner) (defined_by bytes own (defined bytes later)) _ _ parts.0
          in_it.0 (here.0 ∙ ap (λ xs. adds (is Definition name) (identifier_of bytes children)
          ++ xs) after_it.0),
      in_parts _ (footnoted bytes inner) (footnoted_by bytes own (footnoted bytes later)) _ _
          parts.1 in_it.1 (here.1 ∙ ap (λ xs. adds (is GfmFootnoteDefinition name)
          (identifier_of bytes children) ++ xs) after_it.1),
    )
