-- The text is that of the document with the pieces of its events.
use Rattle.std.proofs.Common.{sym, ap, ◌∙◌, subst, string_bytes}
use Rattle.std.specs.Prelude.{IfSome}
use Rattle.std.proofs.lemmas.Option.{IfSome_then}
use Rattle.md_base.specs.Reference.{name_table}
use Rattle.md_meaning.specs.Meaning.{meaning}
use Rattle.md_tree.specs.Grammar.{IsChecked, handed}
use Rattle.md_markdown.specs.Keeping.{IsKeptOf, HavePieces}
use Rattle.md_markdown.proofs.KeepingLemmas.{kept}
use Rattle.md_markdown.proofs.keeping.kept_text_within.Goals as goal

pub returns-in-Ok-clause-made : goal.returns-in-Ok-clause-made
returns-in-Ok-clause-made c =
    let markdown = c.args.options.now in
    let document = c.args.text.now in
    let whole = c.in-Some.found.whole.items in
    let events = c.in-Some.found.kept.events.items in
    let names = c.names.result.now in
    let options = c.in_ok-compile_options.compile_options in
    let promises = c.in-Ok.ensures.within.promises in
    let have = subst (λ found. IfSome found
    (λ some. HavePieces markdown document some.whole.items some.kept.events.items))
    c.in-Some.is c.in_ok-found.ensures in
    let checked = subst (λ b. IsChecked (handed events b names)) c.as_slice-2.ensures.value
    (subst (λ e. IsChecked (handed e c.as_slice-2.result.now names)) c.as_slice.ensures.value
    promises.grammatical) in
    let made = kept markdown document whole (string_bytes c.in-Ok.html) events names options
    c.names.ensures.html c.in_ok-compile_options.ensures have checked
    (λ tree flat. promises.meaning tree (flat ∙ sym c.as_slice.ensures.value)
    ∙ ap (λ b. meaning options (name_table names) b tree) c.as_slice-2.ensures.value) in
    IfSome_then c.in_ok-kept-in-Ok.kept c.in_ok-kept-in-Ok.ensures.same
    (λ safe e. subst (IsKeptOf markdown document) (sym e) made)
