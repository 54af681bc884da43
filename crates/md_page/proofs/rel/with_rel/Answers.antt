-- Without such links nothing is added.
use Rattle.std.proofs.Common.{◌≡◌, IfOk, string_bytes, not, ap, ◌∙◌, subst}
use Rattle.md_page.proofs.Nearby.{unlinked}
use Rattle.md_page.proofs.rel.with_rel.Goals as goal

pub returns-then-is_none : goal.returns-then-is_none
returns-then-is_none c =
    subst (λ text. IfOk c.from_str.result (λ out. string_bytes out ≡ text))
    (unlinked c.args.rel.now c.args.text.now c.next_end.result
    (c.is_none.ensures ∙ ap not c.if-is_none.true)
    (rw c.as_bytes.ensures.value at c.next_end.ensures.scan)) c.from_str.ensures.ok
