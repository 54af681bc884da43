-- A text without NUL is printed as it is.
use Rattle.std.proofs.Common.{◌∙◌, ◌≡◌, sym, subst}
use Rattle.std.specs.Prelude.{IfOk, option_map, string_bytes}
use Rattle.md_blocks.specs.LinkDefinitions.{text_form}
use Rattle.md_blocks.proofs.LinkLemmas.{no_nul}
use Rattle.md_blocks.proofs.label.folded_text.Goals as goal

pub returns-then-not-contains : goal.returns-then-not-contains
returns-then-not-contains c =
    subst (λ printed. IfOk c.folded_bytes.result (λ text. option_map string_bytes text ≡ text_form printed))
    (sym (no_nul c.args.label.now (sym c.contains.ensures.value ∙ c.if-not-contains.true)))
    c.folded_bytes.ensures.form
