-- What is chosen for the headings so far is distinct, and it and the others are what is taken.
use Rattle.std.proofs.Common.{◌≡◌, ◌||◌, ℕ, List, length, map, string_bytes}
use Rattle.std.specs.BTreeSet.{contains_text}
use Rattle.md_page.specs.GivenIds.{is_among, written_id}
use Rattle.md_slugs.specs.Chosen.{AreChosen}
use Rattle.md_slugs.proofs.chosen.choose.Given as goal

abbrev pub invariant-loop-heading : goal.invariant-loop-heading
invariant-loop-heading l =
    (length l.ids.items ≡ l.heading-index)
    × AreChosen (map string_bytes l.others) (map string_bytes l.ids.items)
    × ((w : List ℕ) → contains_text l.taken w ≡ (is_among w (map string_bytes l.others)
    || is_among w (map written_id (map string_bytes l.ids.items))))
