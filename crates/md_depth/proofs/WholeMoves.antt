-- In the reading of a document's meaning elements nest no deeper than twice as deep as nodes, and
-- five levels more.
use Rattle.std.proofs.Common.{ℕ, ◌+◌, ◌*◌, List, [], ◌++◌, refl, arith}
use Rattle.md_base.specs.Tree.{Forest}
use Rattle.md_text.specs.Html.{any_attribute}
use Rattle.md_text.specs.declared.options.CompileOptions.{CompileOptions}
use Rattle.md_tree.specs.Grammar.{IsGrammatical}
use Rattle.md_meaning.specs.Meaning.{meaning}
use Rattle.md_meaning.specs.Meaning.Inherited.{outermost}
use Rattle.md_meaning.specs.Meaning.Before.{nothing_before}
use Rattle.md_meaning.specs.Meaning.Footnotes.{section}
use Rattle.md_meaning.specs.Meaning.Layout.{layout}
use Rattle.md_meaning.specs.Meaning.Nodes.{Outcome, outcome}
use Rattle.md_content.specs.Built.{Blocks, IsBuilt}
use Rattle.md_content.proofs.Grammatical.{grammatical-built}
use Rattle.md_safe.specs.Options.{KeepsGrammar}
use Rattle.md_safe.proofs.Costs.{Document, read_in}
use Rattle.md_safe.proofs.Prepared.{outermost-ready, reads-whole, document_of}
use Rattle.md_safe.proofs.Whole.{whole-printed}
use Rattle.md_depth.specs.Depth.{height}
use Rattle.md_depth.specs.Levels.{NestsWithin}
use Rattle.md_depth.proofs.Machine.{Leads, leads-quiet}
use Rattle.md_depth.proofs.Moves.{◌▸◌, more, laid}
use Rattle.md_depth.proofs.ForestMoves.{Opens, opens}
use Rattle.md_depth.proofs.SectionMoves.{section-moves}
use Rattle.md_depth.proofs.Reading.{levels-kept}

-- a document and its section
document-leads : (d : Document) (document : Forest) → IsBuilt d.context.bytes Blocks document →
    KeepsGrammar d.context.options →
    Leads 0 0 (2 * height document + 5) (layout d.context.ending
    ((outcome d.context outermost nothing_before document).pieces
    ++ section d.context (outcome d.context outermost nothing_before document).footnotes))
document-leads d document built keeps =
    let all : Outcome = outcome d.context outermost nothing_before document in
    let n : ℕ = 2 * height document in
    let known : Opens d n all = opens d document outermost nothing_before n (record {
      built = built;
      ready = outermost-ready (read_in d) (reads-whole any_attribute (λ value. refl));
      waits = leads-quiet [] refl;
      room = omega arith;
    }) in
    laid
    (more (omega arith) known.prints
    ▸ section-moves d.context.ending (n + 5) n d.ending d.context keeps.usual_tag
    keeps.usual_attributes all.footnotes known.texts (omega arith))

pub elements-nest : (bytes : List ℕ) (names : List (List ℕ × List ℕ)) (options : CompileOptions)
    (document : Forest) → IsGrammatical bytes names document → KeepsGrammar options →
    NestsWithin (2 * height document + 5) (meaning options names bytes document)
elements-nest bytes names options document grammatical keeps tree reading =
    let built : IsBuilt bytes Blocks document =
    grammatical-built bytes names document grammatical in
    let d : Document = document_of bytes names options document built keeps in
    levels-kept (2 * height document + 5) (meaning options names bytes document) tree reading
    (whole-printed bytes names options document built keeps tree reading) (document-leads d document built keeps)
