-- The innermost container decides.
use Rattle.std.proofs.Common.{◌∙◌, sym}
use Rattle.md_blocks.specs.Stack.{is_list}
use Rattle.md_blocks.proofs.StackLemmas.{innermost_is, innermost_none}
use Rattle.md_blocks.proofs.nesting.Nesting.is_at_list.Goals as goal

pub returns-in-Some-clause-value : goal.returns-in-Some-clause-value
returns-in-Some-clause-value c =
    c.is_list.ensures
    ∙ sym (innermost_is is_list c.args.self.now.stack.items c.in-Some.open
    (sym c.innermost.ensures.value ∙ c.in-Some.is))

pub returns-in-None-clause-value : goal.returns-in-None-clause-value
returns-in-None-clause-value c =
    sym (innermost_none is_list c.args.self.now.stack.items
    (sym c.innermost.ensures.value ∙ c.in-None.is))
