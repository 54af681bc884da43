-- In each iteration, the written text, followed by the result for the rest, is the result for the
-- whole text.
use Rattle.std.proofs.Common.{◌≡◌, ◌++◌, string_bytes}
use Rattle.md_buffer.specs.Code.{unescaped_pipes}
use Rattle.md_buffer.proofs.code.unescape_pipes.Given as goal

-- the written text, and the result for the rest
abbrev pub invariant-loop-c : goal.invariant-loop-c
invariant-loop-c l = string_bytes l.out ++ unescaped_pipes l.rest.rest.now ≡ unescaped_pipes l.text
