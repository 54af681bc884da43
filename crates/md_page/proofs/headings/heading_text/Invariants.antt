-- What is written, and after it the texts of the rest, is the whole.
use Rattle.std.proofs.Common.{◌≡◌, ◌++◌, false, length, string_bytes}
use Rattle.md_page.specs.Scan.{text_before}
use denote.Text.{Utf8}
use denote.Shadow.{shadow}
use Rattle.md_page.proofs.headings.heading_text.Given as goal

abbrev pub invariant-loop-words : goal.invariant-loop-words
invariant-loop-words l =
    (string_bytes l.out ++ text_before l.fn.digit false l.rest
    ≡ text_before l.fn.digit false l.fn.text) × shadow (Utf8 l.rest)

abbrev pub decreases-loop-words : goal.decreases-loop-words
decreases-loop-words l = length l.rest
