-- No name so far is this one.
use Rattle.std.proofs.Common.{◌≡◌, take, false, bytes_eq}
use Rattle.std.specs.List.{list_any}
use Rattle.md_reader.proofs.places.index_in.Given as goal

abbrev pub invariant-loop-index : goal.invariant-loop-index
invariant-loop-index l =
    list_any (λ other. bytes_eq l.name other.now) (take l.index l.names) ≡ false
