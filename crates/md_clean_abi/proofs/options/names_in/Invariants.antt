-- The names so far are the words so far.
use Rattle.std.proofs.Common.{◌≡◌, map, take}
use Rattle.md_clean_abi.proofs.options.names_in.Given as goal

abbrev pub invariant-loop-word : goal.invariant-loop-word
invariant-loop-word l =
    map (λ name. name.now) l.names.items ≡ map (λ word. word.now) (take l.word-index l.word-items)
