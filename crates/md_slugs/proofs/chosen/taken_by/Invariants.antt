-- What is taken, and those that are left, are all.
use Rattle.std.proofs.Common.{◌≡◌, ◌||◌, ℕ, List, drop, map, string_bytes}
use Rattle.std.specs.BTreeSet.{contains_text}
use Rattle.md_page.specs.GivenIds.{is_among}
use Rattle.md_slugs.proofs.chosen.taken_by.Given as goal

abbrev pub invariant-loop-other : goal.invariant-loop-other
invariant-loop-other l = (w : List ℕ) →
    (contains_text l.taken w || is_among w (map string_bytes (drop l.other-index l.others)))
    ≡ is_among w (map string_bytes l.others)
