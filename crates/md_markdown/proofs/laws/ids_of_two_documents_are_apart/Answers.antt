-- The compiler's prefix is Markdown's, and the meanings of any two documents are apart.
use Rattle.std.proofs.Common.{◌≡◌, ◌++◌, true, false, sym, ap, ◌∙◌, subst, codes}
use Rattle.std.specs.Option.{option_map_or}
use Rattle.md_text.specs.Encode.{encoded}
use Rattle.md_content.proofs.Grammatical.{grammatical-built}
use Rattle.md_content.proofs.Underlines.{grammatical-underlined}
use Rattle.md_meaning.specs.Meaning.{meaning}
use Rattle.md_safe.specs.Apart.{ShareNoId, prefix_of}
use Rattle.md_safe.specs.Options.{KeepsIds}
use Rattle.md_safe.proofs.WholeIds.{apart}
use Rattle.md_text.specs.declared.options.CompileOptions.{CompileOptions}
use Rattle.md_blocks.specs.declared.options.MarkdownOptions.{MarkdownOptions}
use Rattle.md_markdown.specs.Chosen.{AreChosenFor, footnote_prefix_of}
use Rattle.md_markdown.proofs.laws.ids_of_two_documents_are_apart.Goals as goal

keeps : (markdown : MarkdownOptions) (options : CompileOptions) → AreChosenFor markdown options →
    markdown.number_ids ≡ true → KeepsIds options
keeps markdown options chosen asked = record {
  grammar = chosen.safe.links.grammar;
  by_number = chosen.number_ids ∙ asked;
}

same : (markdown : MarkdownOptions) (options : CompileOptions) → AreChosenFor markdown options →
    prefix_of options ≡ footnote_prefix_of markdown
same markdown options chosen =
    ap (λ prefix. option_map_or (encoded false) prefix (codes "user-content-")) chosen.prefix

pub returns : goal.returns
returns c = λ markdown other_markdown document other text other_text one two asked other_asked
    differ.
    (let a = one.over in
    let b = two.over in
    let bytes = document ++ one.added in
    let other_bytes = other ++ two.added in
    let first = meaning a.options a.names bytes a.document in
    subst (λ text. ShareNoId text other_text) (sym a.means)
    (subst (ShareNoId first) (sym b.means)
    (apart bytes other_bytes a.names b.names a.options b.options a.document b.document
    (grammatical-built bytes a.names a.document a.grammatical)
    (grammatical-underlined bytes a.names a.document a.grammatical)
    (keeps markdown a.options a.chosen asked)
    (grammatical-built other_bytes b.names b.document b.grammatical)
    (grammatical-underlined other_bytes b.names b.document b.grammatical)
    (keeps other_markdown b.options b.chosen other_asked)
    (λ equal. differ (sym (same markdown a.options a.chosen) ∙ equal
    ∙ same other_markdown b.options b.chosen)))))
