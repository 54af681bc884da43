-- The loop: the number of spaces pushed is the number of iterations.
use Rattle.std.proofs.Common.{◌≡◌, ◌++◌, replicate, string_bytes}
use Rattle.md_base.proofs.slice.push_spaces.Given as goal

abbrev pub invariant-loop-space : goal.invariant-loop-space
invariant-loop-space l = string_bytes l.text ≡ string_bytes l.fn.text ++ replicate l._space 32
