-- What is written, and the ids that are left, are the whole.
use Rattle.std.proofs.Common.{◌≡◌, ◌++◌, map, drop, string_bytes}
use Rattle.md_markdown_abi.specs.Slugged.{id_listing}
use Rattle.md_markdown_abi.proofs.slugged.push_ids.Given as goal

abbrev pub invariant-loop-id : goal.invariant-loop-id
invariant-loop-id l =
    string_bytes l.whole ++ id_listing (map string_bytes (drop l.id-index l.ids))
    ≡ string_bytes l.fn.whole ++ id_listing (map string_bytes l.ids)
