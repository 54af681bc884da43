-- No `<`, or another name after it.
use Rattle.std.proofs.lemmas.Bool.{and_left, and_right}
use Rattle.md_page.proofs.scan.may_begin.Goals as goal

pub returns-then-is_named : goal.returns-then-is_named
returns-then-is_named c = λ other. and_left _ _ other

pub returns-else-is_named : goal.returns-else-is_named
returns-else-is_named c = λ other. and_right _ _ (c.is_named.ensures c.if-is_named.false)
