-- Each document of the grammar is built of what may stand where it is: what the
-- theorem begins with.
use Rattle.std.proofs.Common.{◌≡◌, ℕ, true, Option, None, is_some, List, refl}
use Rattle.md_pattern.specs.declared.kinds.Symbol.{Symbol}
use Rattle.md_pattern.specs.declared.kinds.Role.{Role}
use Rattle.md_pattern.specs.declared.kinds.Role.TheVariants as role
use Rattle.md_base.specs.Tree.{Forest, Empty, Node}
use Rattle.md_pattern.specs.Standing.{standing_of}
use Rattle.md_pattern.specs.Spine.{spine}
use Rattle.md_tree.specs.Grammar.{IsGrammatical}
use Rattle.md_content.specs.Built.{Content, Blocks, content_inside, content_after_node, IsBuilt}
use Rattle.md_content.proofs.Symbols.{admits, behaves}
use Rattle.md_content.proofs.Admitted.{matches_admitted}
use Rattle.md_content.proofs.Spots.{after_spine, spot}
use Rattle.md_content.proofs.FineNodes.{AreFine, fine, shaped}
use Rattle.md_content.proofs.Fitting.{fit}

-- nodes whose spine may stand somewhere are built so
built : (bytes : List ℕ) (names : List (List ℕ × List ℕ)) (forest : Forest) (around : Role)
    (before : Option Symbol) (content : Content) → AreFine bytes names forest around before →
    admits (is_some before) content (spine forest) ≡ true → IsBuilt bytes content forest
built bytes names Empty around before content all h = tt
built bytes names (Node name start end children rest) around before content all h =
    let here =
    spot (standing_of name) name children around before content (spine rest) (behaves name)
    all.0.0.1
    (after_spine children _ _ content (shaped bytes names children _ _ all.1)) h in (
      here.stands,
      fit bytes names name around before start end children all.0 all.1,
      built bytes names children _ _ (content_inside content name) all.1 here.inside,
      built bytes names rest _ _ (content_after_node content name children) all.2 here.after,
    )

pub grammatical-built : (bytes : List ℕ) (names : List (List ℕ × List ℕ)) (forest : Forest) →
    IsGrammatical bytes names forest → IsBuilt bytes Blocks forest
grammatical-built bytes names forest grammatical =
    built bytes names forest role.Flow None Blocks
    (fine bytes names forest role.Flow None grammatical.shape.0 grammatical.rules)
    (matches_admitted role.Flow (spine forest) Blocks grammatical.shape.1 refl)
