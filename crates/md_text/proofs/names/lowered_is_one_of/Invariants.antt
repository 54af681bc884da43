-- The loop over the list: the rest of it decides.
use Rattle.std.proofs.Common.{◌≡◌, map, drop}
use Rattle.md_text.specs.Bytes.{lowered, is_one_of}
use Rattle.md_text.proofs.names.lowered_is_one_of.Given as goal

-- the rest decides
abbrev pub invariant-loop-text : goal.invariant-loop-text
invariant-loop-text l =
    is_one_of (map (λ text. text.now) (drop l.text-index l.texts)) (lowered l.name)
    ≡ is_one_of (map (λ text. text.now) l.texts) (lowered l.name)
