-- The reuse bounds the length of definitions for the links and images that refer to them.
use Rattle.std.proofs.Common.{◌≡◌, ℕ, ◌+◌, ◌*◌, ◌≤◌, List, [], ◌∷◌, ◌++◌, sym, ap, arith}
use Rattle.std.proofs.Common.{append-nil, Option}
use Rattle.std.specs.Prelude.{if◌then◌else◌}
use Rattle.md_base.specs.declared.event.Name.{Name}
use Rattle.md_base.specs.declared.event.Position.{Position}
use Rattle.md_base.specs.Tree.{Forest, Empty, Node, flatten}
use Rattle.md_pattern.specs.Standing.{standing_of}
use Rattle.md_pattern.specs.declared.kinds.Reading.TheVariants as reading
use Rattle.md_text.specs.declared.options.CompileOptions.{CompileOptions}
use Rattle.md_tree.specs.Grammar.{IsGrammatical}
use Rattle.md_tree.specs.Mentions.{mention_of, mentions_of}
use Rattle.md_tree.specs.Numbers.{definition_for}
use Rattle.md_tree.specs.Rules.{target_of, reading_of}
use Rattle.md_tree.specs.declared.mention.Mention.{Mention}
use Rattle.md_tree.specs.declared.mention.Mention.TheVariants.{Reference}
use Rattle.md_tree.specs.declared.mention.Referral.TheVariants as referral
use Rattle.md_meaning.specs.Meaning.At.{identifier_of}
use Rattle.md_meaning.specs.Meaning.Inherited.{outermost}
use Rattle.md_meaning.specs.Meaning.Before.{nothing_before}
use Rattle.md_content.specs.References.{Everywhere, ResolvesAlike, defined_in, first_of}
use Rattle.md_content.proofs.Alike.{leads-alike}
use Rattle.md_content.proofs.Listed.{definitions-listed}
use Rattle.md_steps.specs.Content.{Blocks}
use Rattle.md_steps.proofs.ContentFits.{shaped-fits}
use Rattle.md_length.specs.Reuse.{length_at, resolved_lengths, definition_lengths, is_media}
use Rattle.md_length.specs.Reuse.{referred as reused}
use Rattle.md_length.specs.Uses.{referred, led}
use Rattle.md_length.proofs.Definitions.{definitions-below, first-below}
use Rattle.md_length.proofs.Grammar.{grammatical-ending}
use Rattle.md_length.proofs.Whole.{called_in, given_in}
use Rattle.md_length.proofs.Units.{half_unit}

-- ---- links and images
led-append : (lengths : List ℕ) (leads : Mention → Option ℕ) (xs ys : List Mention) →
    resolved_lengths lengths leads (xs ++ ys)
    ≡ resolved_lengths lengths leads xs + resolved_lengths lengths leads ys
led-append lengths leads [] ys = omega arith
led-append lengths leads (x ∷ xs) ys = omega (arith, led-append lengths leads xs ys)

-- what a link or an image with these children refers to takes at most so many times the length of
-- its definition
abbrev IsLed : List ℕ → List (List ℕ × List ℕ) → CompileOptions → Forest → Forest → Type 0
IsLed bytes names options document children =
    led (given_in options names bytes document) children
    ≤ half_unit names * length_at (definition_lengths document)
    (definition_for bytes (mentions_of document)
    (mention_of reading.Media (target_of children referral.Missing)))

-- the check resolves them to the definitions that the meaning finds
target-led : (bytes : List ℕ) (names : List (List ℕ × List ℕ)) (options : CompileOptions)
    (document : Forest) → IsGrammatical bytes names document → (children : Forest) →
    ((label : Position) → target_of children referral.Missing ≡ referral.Label label →
    definition_for bytes (mentions_of document) (Reference label)
    ≡ first_of (defined_in bytes document) (identifier_of bytes children)) →
    IsLed bytes names options document children
target-led bytes names options document grammatical children same =
    let known = called_in options names bytes document in
    let found = first-below (identifier_of bytes children)
    (definitions-below known outermost nothing_before Blocks document (flatten document) 0 []
    (grammatical-ending options bytes names document grammatical)
    (shaped-fits document grammatical.shape) (sym (append-nil (flatten document)))) in
    grind (arith, found, definitions-listed known outermost nothing_before document, same)

links-led : (bytes : List ℕ) (names : List (List ℕ × List ℕ)) (options : CompileOptions)
    (document : Forest) → IsGrammatical bytes names document → (forest : Forest) →
    Everywhere (ResolvesAlike bytes document) forest →
    referred (given_in options names bytes document) forest ≤ half_unit names
    * resolved_lengths (definition_lengths document) (definition_for bytes (mentions_of document))
    (mentions_of forest)
links-led bytes names options document is Empty alike = omega arith
links-led bytes names options document is (Node name start end children rest) alike =
    let mention : Mention =
    mention_of (reading_of (standing_of name)) (target_of children referral.Missing) in
    omega (
      arith,
      own name (target-led bytes names options document is children
          (λ label e. (alike.0 label e).0)),
      links-led bytes names options document is children alike.1,
      links-led bytes names options document is rest alike.2,
      ap (λ n. half_unit names * n) (led-append (definition_lengths document)
          (definition_for bytes (mentions_of document)) (mentions_of children)
          (mention ∷ mentions_of rest)),
    )
  where
    own : (name : Name) → IsLed bytes names options document children →
        (if is_media name then led (given_in options names bytes document) children else 0)
        ≤ half_unit names * length_at (definition_lengths document)
        (definition_for bytes (mentions_of document)
        (mention_of (reading_of (standing_of name)) (target_of children referral.Missing)))
    own name h = grind arith

pub referred-short : (options : CompileOptions) (names : List (List ℕ × List ℕ)) (bytes : List ℕ)
    (document : Forest) → IsGrammatical bytes names document →
    referred (given_in options names bytes document) document
    ≤ half_unit names * reused bytes document
referred-short options names bytes document is =
    links-led bytes names options document is document (leads-alike bytes names document is)
