-- What the lengths ask of a document holds of each document of the grammar.
use Rattle.std.proofs.Common.{ℕ, ◌≤◌, List, length, arith, Option, None, lit≤}
use Rattle.std.specs.Option.{option_map_or}
use Rattle.md_base.specs.declared.event.Name.{Name}
use Rattle.md_base.specs.declared.event.Name.TheVariants as name_variants
use name_variants.{LineEnding, BlankLineEnding}
use Rattle.md_base.specs.declared.event.Point.{Point}
use Rattle.md_base.specs.declared.event.Position.{Position}
use Rattle.md_base.specs.Place.{text_between}
use Rattle.md_base.specs.Tree.{Forest, Empty, Node}
use Rattle.md_pattern.specs.declared.kinds.Role.TheVariants as role
use Rattle.md_pattern.specs.declared.kinds.Symbol.{Symbol}
use Rattle.md_pattern.specs.declared.kinds.Role.{Role}
use Rattle.md_pattern.specs.Standing.{standing_of}
use Rattle.md_text.specs.declared.options.CompileOptions.{CompileOptions}
use Rattle.md_tree.specs.declared.rule.Rule.TheVariants as rule
use Rattle.md_tree.specs.Grammar.{IsGrammatical}
use Rattle.md_tree.specs.Rules.{place, is_line_ending}
use Rattle.md_pattern.specs.Shape.{inner_role, inner_before}
use Rattle.md_meaning.specs.Meaning.{ending_at}
use Rattle.md_meaning.specs.Meaning.At.{text_in}
use Rattle.md_meaning.specs.Meaning.Finds.{first_ending}
use Rattle.md_content.specs.References.{Everywhere}
use Rattle.md_content.proofs.FineNodes.{fine, IsFine, AreFine}
use Rattle.md_content.proofs.Fitting.{fit}
use Rattle.md_content.proofs.RanksAndNumbers.{text_fits}
use Rattle.md_content.proofs.TextsThere.{everywhere}
use Rattle.md_length.specs.Sound.{IsSound}

-- ---- targets and ranks
pub grammatical-sound : (bytes : List ℕ) (names : List (List ℕ × List ℕ)) (document : Forest) →
    IsGrammatical bytes names document → Everywhere IsSound document
grammatical-sound bytes names document is = grind (arith, everywhere, fine, fit)

-- ---- line endings
-- the text of a line ending has at most two bytes
abbrev HasShortEnding : List ℕ → Name → Point → Point → Forest → Type 0
HasShortEnding bytes LineEnding start end children = length (text_in bytes (place start end)) ≤ 2
HasShortEnding bytes BlankLineEnding start end children =
    length (text_in bytes (place start end)) ≤ 2
HasShortEnding bytes _ start end children = Unit {0}

abbrev found_length : List ℕ → Option Position → ℕ
found_length bytes found = option_map_or (λ at. length (text_in bytes at)) found 0

first-few : (bytes : List ℕ) (forest : Forest) → Everywhere (HasShortEnding bytes) forest →
    found_length bytes (first_ending forest) ≤ 2
first-few bytes Empty all = lit≤ tt
first-few bytes (Node name start end children rest) all =
    grind (arith, first-few bytes children all.1, first-few bytes rest all.2)

pub grammatical-ending : (options : CompileOptions) (bytes : List ℕ)
    (names : List (List ℕ × List ℕ)) (document : Forest) → IsGrammatical bytes names document →
    length (ending_at options bytes (first_ending document)) ≤ 2
grammatical-ending options bytes names document is =
    grind (
      arith,
      first-few bytes document (everywhere bytes names (HasShortEnding bytes) each document
          role.Flow None (fine bytes names document role.Flow None is.shape.0 is.rules)),
    )
  where
    each : (around : Role) (before : Option Symbol) (name : Name) (start end : Point)
        (children : Forest) → IsFine bytes names around before name start end children →
        AreFine bytes names children (inner_role (standing_of name) around before)
        (inner_before (standing_of name) before) → HasShortEnding bytes name start end children
    each around before LineEnding start end children here inside =
        text_fits is_line_ending rule.LineEnding (λ text. length text ≤ 2) (λ text h. grind arith)
        (text_between bytes start end) here.1
    each around before BlankLineEnding start end children here inside =
        text_fits is_line_ending rule.LineEnding (λ text. length text ≤ 2) (λ text h. grind arith)
        (text_between bytes start end) here.1
    each around before _ start end children here inside = tt
