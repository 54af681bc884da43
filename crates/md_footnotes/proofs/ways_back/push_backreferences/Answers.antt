-- The ways back so far, a space unless there are none, and one way back are the ways back to one
-- call more. By itself the search can't go from the text to the definition for one more call.
use Rattle.std.proofs.Common.{◌≡◌, [], ◌++◌, ◌==◌, codes, ℕ, ◌+◌, List, append_assoc, arith}
use Rattle.std.specs.Prelude.{if◌then◌else◌}
use Rattle.md_meaning.specs.Meaning.Footnotes as meaning
use Rattle.md_footnotes.proofs.ways_back.push_backreferences.Goals as goal
use Rattle.md_text.specs.declared.options.CompileOptions.{CompileOptions}

one_more : (options : CompileOptions) (identifier : List ℕ) (number n : ℕ) →
    meaning.backreferences options identifier number n ++ ((if n == 0 then [] else codes " ")
    ++ meaning.backreference options identifier number (n + 1))
    ≡ meaning.backreferences options identifier number (n + 1)
one_more options identifier number n = grind arith

pub loop-done-preserved : goal.loop-done-preserved
loop-done-preserved c = grind (arith, append_assoc, one_more)
