-- What is written, and the lines of the headings that are left, are the whole.
use Rattle.std.proofs.Common.{◌≡◌, ◌++◌, map, drop, string_bytes}
use Rattle.md_page.specs.Headings.{listed}
use Rattle.md_abi.specs.Attributes.{listing}
use Rattle.md_abi.proofs.attributed.with_list.Given as goal

abbrev pub invariant-loop-heading : goal.invariant-loop-heading
invariant-loop-heading l =
    string_bytes l.whole ++ listing (map listed (drop l.heading-index l.headings))
    ≡ l.fn.text ++ listing (map listed l.headings)
