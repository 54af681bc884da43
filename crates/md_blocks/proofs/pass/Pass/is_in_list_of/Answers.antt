-- The innermost container decides.
use Rattle.std.proofs.Common.{◌∙◌, sym}
use Rattle.md_blocks.specs.ContainerBlocks.{is_list_of}
use Rattle.md_blocks.proofs.StackLemmas.{innermost_is, innermost_none}
use Rattle.md_blocks.proofs.pass.Pass.is_in_list_of.Goals as goal

pub returns-in-Some : goal.returns-in-Some
returns-in-Some c =
    c.is_list_of.ensures
    ∙ sym (innermost_is (is_list_of c.args.is_ordered c.args.marker)
    c.args.self.now.nesting.stack.items c.in-Some.open (sym c.innermost.ensures.value ∙ c.in-Some.is))

pub returns-in-None : goal.returns-in-None
returns-in-None c =
    sym (innermost_none (is_list_of c.args.is_ordered c.args.marker)
    c.args.self.now.nesting.stack.items (sym c.innermost.ensures.value ∙ c.in-None.is))
