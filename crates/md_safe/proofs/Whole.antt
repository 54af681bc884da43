-- The meaning of a document has a reading in which each attribute passes a test: the theorems from
-- the induction over forests.
use Rattle.std.proofs.Common.{◌≡◌, ℕ, Bool, true, List, ◌++◌, refl, subst, arith}
use Rattle.std.proofs.lemmas.Bool.{and_parts, not-true}
use Rattle.md_text.specs.Html.{Attribute, any_attribute, HasReadingWith, HasOneReadingWith}
use Rattle.md_text.specs.Html.{IsPrinted, is_printed}
use Rattle.md_text.specs.Safe.{is_safe_link, is_safe_image}
use Rattle.md_text.proofs.HtmlReading.{only_reading, one_reading}
use Rattle.md_text.proofs.ProtocolLemmas.{kept-link, kept-image}
use Rattle.md_base.specs.Tree.{Forest}
use Rattle.md_text.specs.Ids.{ids}
use Rattle.md_text.specs.declared.options.CompileOptions.{CompileOptions}
use Rattle.md_meaning.specs.Meaning.{meaning}
use Rattle.md_meaning.specs.Meaning.Inherited.{outermost}
use Rattle.md_meaning.specs.Meaning.Before.{nothing_before}
use Rattle.md_meaning.specs.Meaning.Footnotes.{section}
use Rattle.md_meaning.specs.Meaning.Layout.{layout}
use Rattle.md_meaning.specs.Meaning.Nodes.{outcome}
use Rattle.md_content.specs.Built.{Blocks, IsBuilt}
use Rattle.md_safe.proofs.Costs.{Document, read_in}
use Rattle.md_safe.proofs.Prepared.{document_of, outermost-ready, reads-whole}
use Rattle.md_safe.specs.Options.{KeepsGrammar, KeepsLinks, KeepsImages}
use Rattle.md_safe.proofs.Tags.{reading, IsTest}
use Rattle.md_safe.proofs.Laid.{adds-alone}
use Rattle.md_safe.proofs.Spot.{PassesIds, IsWhole, Setting}
use Rattle.md_safe.proofs.Forests.{means}
use Rattle.md_safe.proofs.Section.{section-prints}
use Rattle.md_safe.proofs.Contents.{blocks-stay}

-- a document and its section
document-prints : (s : Setting) → IsWhole s.p → (document : Forest) →
    IsBuilt s.context.bytes Blocks document → KeepsGrammar s.context.options → s.p.holds (layout
    s.context.ending ((outcome s.context outermost nothing_before document).pieces ++ section
    s.context (outcome s.context outermost nothing_before document).footnotes))
document-prints s whole document built keeps =
    let known = means s document outermost nothing_before Blocks built (outermost-ready s whole) in
    grind (arith, adds-alone, blocks-stay, section-prints)

-- the meaning has a reading in which each attribute passes the test
meaning-reads : (p : Attribute → Bool) (bytes : List ℕ) (names : List (List ℕ × List ℕ))
    (options : CompileOptions) (document : Forest) → IsTest p options → PassesIds p →
    IsBuilt bytes Blocks document → KeepsGrammar options
    → HasReadingWith p (meaning options names bytes document)
meaning-reads p bytes names options document test ids built keeps =
    let d : Document = document_of bytes names options document built keeps in
    let s : Setting = record {
      p = reading p;
      context = d.context;
      test = test;
      ending = d.ending;
      titles = d.titles;
    } in
    document-prints s (reads-whole p ids) document built keeps

pub one-reading : (bytes : List ℕ) (names : List (List ℕ × List ℕ)) (options : CompileOptions)
    (document : Forest) → IsBuilt bytes Blocks document → KeepsGrammar options →
    HasOneReadingWith any_attribute (meaning options names bytes document)
one-reading bytes names options document built keeps = only_reading any_attribute
    (meaning options names bytes document) (meaning-reads _ _ _ _ _ (read_in
    (document_of bytes names options document built keeps)).test (λ value. refl) built keeps)

pub whole-printed : (bytes : List ℕ) (names : List (List ℕ × List ℕ)) (options : CompileOptions)
    (document : Forest) → IsBuilt bytes Blocks document → KeepsGrammar options →
    IsPrinted (meaning options names bytes document)
whole-printed bytes names options document built keeps other also =
    let read = meaning-reads any_attribute bytes names options document (read_in
    (document_of bytes names options document built keeps)).test (λ value. refl) built keeps in
    subst (λ f. is_printed f ≡ true) (one_reading _ read.forest other read.reading also)
    read.printed

pub safe-links : (bytes : List ℕ) (names : List (List ℕ × List ℕ)) (options : CompileOptions)
    (document : Forest) → IsBuilt bytes Blocks document → KeepsLinks options →
    HasOneReadingWith is_safe_link (meaning options names bytes document)
safe-links bytes names options document built keeps = only_reading is_safe_link (meaning options
    names bytes document) (meaning-reads _ _ _ _ _ (grind (arith, not-true, and_parts, kept-link))
    (λ value. refl) built keeps.grammar)

pub safe-images : (bytes : List ℕ) (names : List (List ℕ × List ℕ)) (options : CompileOptions)
    (document : Forest) → IsBuilt bytes Blocks document → KeepsImages options →
    HasOneReadingWith is_safe_image (meaning options names bytes document)
safe-images bytes names options document built keeps = only_reading is_safe_image (meaning options
    names bytes document) (meaning-reads _ _ _ _ _ (grind (arith, and_parts, not-true, kept-image))
    (λ value. refl) built keeps.links.grammar)
