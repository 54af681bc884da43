-- A backslash before a pipe goes, and every other character stays.
use Rattle.std.proofs.Common.{◌≡◌, ◌++◌, OnOk, string_bytes, sym, subst, arith}
use Rattle.std.proofs.lemmas.Grind.{common_steps}
use Rattle.md_buffer.specs.Code.{unescaped_pipes}
use Rattle.md_buffer.proofs.CodeText.{unescaped_pipes-step}
use Rattle.md_buffer.proofs.code.push_unescaped.Goals as goal

pub returns-else-escapes_pipe : goal.returns-else-escapes_pipe
returns-else-escapes_pipe c =
    let stays = unescaped_pipes-step c.args.c c.args.rest.now _
    (rw c.as_bytes.ensures.value at c.if-escapes_pipe.ensures) in
    subst (λ x. OnOk c.push.result (string_bytes c.push.new.self ++ unescaped_pipes c.args.rest.now
    ≡ string_bytes c.args.out.now ++ x)) (sym stays) (grind (arith, common_steps))

pub returns-then-escapes_pipe : goal.returns-then-escapes_pipe
returns-then-escapes_pipe c = grind (arith, common_steps, unescaped_pipes-step)
