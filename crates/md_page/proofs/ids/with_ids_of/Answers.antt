-- Without such headings nothing is added.
use Rattle.std.proofs.Common.{◌≡◌, IfOk, string_bytes, sym, ◌∙◌, subst}
use Rattle.md_page.proofs.Nearby.{unheaded}
use Rattle.md_page.proofs.ids.with_ids_of.Goals as goal

pub returns-then-is_empty : goal.returns-then-is_empty
returns-then-is_empty c =
    subst (λ text. IfOk c.from_str.result (λ out. string_bytes out ≡ text))
    (unheaded c.args.headings.now c.args.prefix.now c.args.text.now
    (sym c.is_empty.ensures ∙ c.if-is_empty.true) c.requires) c.from_str.ensures.ok
