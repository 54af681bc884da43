-- What holds of a text that is what a checked document means: what holds of each meaning.
use Rattle.std.proofs.Common.{ℕ, ◌+◌, ◌*◌, ◌≤◌, ◌<◌, ◌^◌, List, length, arith}
use Rattle.md_text.specs.Html.{any_attribute}
use Rattle.md_text.specs.Safe.{is_safe_link, is_safe_image}
use Rattle.md_text.specs.declared.options.CompileOptions.{CompileOptions}
use Rattle.md_tree.specs.Grammar.{Handed, IsChecked}
use Rattle.md_facts.proofs.FoundLemmas.{grammatical-there}
use Rattle.md_content.proofs.Grammatical.{grammatical-built}
use Rattle.md_content.proofs.Underlines.{grammatical-underlined}
use Rattle.md_safe.specs.Options.{KeepsGrammar}
use Rattle.md_safe.proofs.Whole.{one-reading, whole-printed, safe-links, safe-images}
use Rattle.md_safe.proofs.WholeIds.{distinct-ids}
use Rattle.md_safe.proofs.ContainedWhole.{meaning-contained, meaning-unnested}
use Rattle.md_safe.proofs.Tokenized.{read-tokenized, link-tokens, image-tokens}
use Rattle.md_safe.proofs.WholeTrees.{text-built}
use Rattle.md_length.specs.Bound.{text_bound}
use Rattle.md_length.proofs.Bounded.{text-bounded, bound-grows}
use Rattle.md_depth.specs.Depth.{depth}
use Rattle.md_depth.specs.Levels.{NestsWithin}
use Rattle.md_depth.proofs.Nodes.{events-nest}
use Rattle.md_depth.proofs.WholeMoves.{elements-nest}
use Rattle.md_html.specs.Printed.{IsMeant}
use Rattle.md_html.specs.Promises.{Promises}
use Rattle.md_html.specs.Within.{IsReuseWithin}
use Rattle.md_html.specs.Work.{work}

pub promises : (options : CompileOptions) (given : Handed) (text : List ℕ) → IsChecked given →
    length given.events < 2 ^ 63 → IsMeant options given text → Promises options given text
promises options given text read few meant =
    grind (
      arith,
      grammatical-built,
      grammatical-underlined,
      any_attribute,
      one-reading,
      whole-printed,
      is_safe_link,
      safe-links,
      is_safe_image,
      safe-images,
      meaning-contained,
      text-built,
      meaning-unnested,
      grammatical-there,
      read-tokenized,
      link-tokens,
      image-tokens,
      distinct-ids,
    )

-- how long it is, where work and what is used again are within a limit
pub bounded : (options : CompileOptions) (given : Handed) (text : List ℕ) (limit : ℕ) →
    IsChecked given → length given.events < 2 ^ 63 → IsMeant options given text →
    work given.events ≤ limit → IsReuseWithin options given limit →
    length text ≤ text_bound options given.names (length given.events) (2 * limit)
bounded options given text limit read few meant worked reused =
    grind (arith, text-bounded, bound-grows, text_bound)

-- how deep its elements nest, where its events nest no deeper than a limit
pub nested : (options : CompileOptions) (given : Handed) (text : List ℕ) (limit : ℕ) →
    IsChecked given → IsMeant options given text → depth given.events ≤ limit →
    KeepsGrammar options → NestsWithin (2 * limit + 5) text
nested options given text limit read meant shallow keeps tree reading =
    grind (arith, events-nest, elements-nest)
