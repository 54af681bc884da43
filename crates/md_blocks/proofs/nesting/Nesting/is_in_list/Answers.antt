-- The innermost container decides.
use Rattle.std.proofs.Common.{rules, ◌∙◌, sym, ap, ◌≡◌, true, false, ◌||◌}
use Rattle.md_blocks.specs.BlankLines.{in_list}
use Rattle.md_blocks.specs.Stack.{is_item, is_list}
use Rattle.md_blocks.proofs.StackLemmas.{innermost_is, innermost_none}
use Rattle.md_blocks.proofs.nesting.Nesting.is_in_list.Goals as goal

pub returns-then-eq : goal.returns-then-eq
returns-then-eq c =
    let x = c.in-Some.open in
    let item : is_item x ≡ true = search rules in
    c.if-eq.true
    ∙ sym (innermost_is in_list
    c.args.self.now.stack.items x (sym c.innermost.ensures.value ∙ c.in-Some.is)
    ∙ ap (λ b. b || is_list x) item)

pub returns-else-eq : goal.returns-else-eq
returns-else-eq c =
    let x = c.in-Some.open in
    let item : is_item x ≡ false = search rules in
    c.is_list.ensures
    ∙ sym (innermost_is in_list
    c.args.self.now.stack.items x (sym c.innermost.ensures.value ∙ c.in-Some.is)
    ∙ ap (λ b. b || is_list x) item)

pub returns-in-None : goal.returns-in-None
returns-in-None c =
    sym (innermost_none in_list
    c.args.self.now.stack.items (sym c.innermost.ensures.value ∙ c.in-None.is))
