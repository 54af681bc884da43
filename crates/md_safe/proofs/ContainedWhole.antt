-- The meaning of a document is flow content.
use Rattle.std.proofs.Common.{◌≡◌, ℕ, Bool, false, sym, List, refl}
use Rattle.md_base.specs.Tree.{Forest}
use Rattle.md_text.specs.Html.{any_attribute}
use Rattle.md_text.specs.declared.options.CompileOptions.{CompileOptions}
use Rattle.md_tree.specs.Grammar.{IsGrammatical}
use Rattle.md_meaning.specs.Meaning.{meaning, ending_at}
use Rattle.md_meaning.specs.Meaning.Inherited.{outermost}
use Rattle.md_meaning.specs.Meaning.Before.{nothing_before}
use Rattle.md_meaning.specs.Meaning.Finds.{first_ending}
use Rattle.md_meaning.specs.Meaning.Nodes.{Outcome, outcome}
use Rattle.md_content.specs.Built.{Blocks, IsBuilt}
use Rattle.md_content.proofs.Grammatical.{grammatical-built}
use Rattle.md_safe.proofs.Prepared.{document_of, ending-white, first-is_ending, outermost-ready}
use Rattle.md_safe.proofs.Prepared.{reads-whole}
use Rattle.md_safe.specs.Options.{KeepsGrammar}
use Rattle.md_safe.proofs.Laid.{adds-alone}
use Rattle.md_safe.proofs.Costs.{Document, read_in}
use Rattle.md_base.proofs.Lies.{lie}
use Rattle.md_safe.specs.Contents.{Flow, IsContained, IsUnnested}
use Rattle.md_safe.specs.Links.{has_nested_link}
use Rattle.md_safe.specs.Placed.{IsPlaced}
use Rattle.md_safe.proofs.Placing.{shaped-placed}
use Rattle.md_safe.proofs.Stands.{Stands, stands-nothing, contained-once, IsWhite}
use Rattle.md_safe.proofs.ContainedForests.{lays-both, Means, means}
use Rattle.md_safe.proofs.ContainedSection.{section-prints}

-- a document that is built and placed as the grammar says
pub meaning-stands : (nested : Bool) (bytes : List ℕ) (names : List (List ℕ × List ℕ))
    (options : CompileOptions) (document : Forest) → IsBuilt bytes Blocks document →
    IsPlaced Flow document → KeepsGrammar options →
    (nested ≡ false → has_nested_link false document ≡ false) →
    Stands nested Flow (meaning options names bytes document)
meaning-stands nested bytes names options document built placed keeps unnested =
    let white : IsWhite (ending_at options bytes (first_ending document)) = ending-white options
    bytes (first_ending document) (first-is_ending bytes Blocks document built) in
    let d : Document = document_of bytes names options document built keeps in
    let all : Outcome = outcome d.context outermost nothing_before document in
    let known : Means nested d Flow all = means nested d document outermost nothing_before Flow
    (record {
      white = white;
      built = built;
      placed = placed;
      ready = outermost-ready (read_in d) (reads-whole any_attribute (λ value. refl));
      heading = stands-nothing;
      linked = λ linked. lie linked;
      unnested = unnested;
    }) in
    adds-alone (lays-both known.prints (section-prints nested d white keeps.usual_tag
    keeps.usual_attributes all.footnotes known.texts))

pub meaning-contained : (bytes : List ℕ) (names : List (List ℕ × List ℕ)) (options : CompileOptions)
    (document : Forest) → IsGrammatical bytes names document → KeepsGrammar options →
    IsContained (meaning options names bytes document)
meaning-contained bytes names options document grammatical keeps = contained-once _ _
    (meaning-stands _ _ _ _ _ (grammatical-built bytes names document grammatical)
    (shaped-placed _ grammatical.shape) keeps (λ no. lie (sym no)))

pub meaning-unnested : (bytes : List ℕ) (names : List (List ℕ × List ℕ)) (options : CompileOptions)
    (document : Forest) → IsGrammatical bytes names document → KeepsGrammar options →
    has_nested_link false document ≡ false → IsUnnested (meaning options names bytes document)
meaning-unnested bytes names options document grammatical keeps unnested = contained-once _ _
    (meaning-stands _ _ _ _ _ (grammatical-built bytes names document grammatical)
    (shaped-placed _ grammatical.shape) keeps (λ _. unnested))
