-- What is written, and after it the rest with line feeds, is the whole.
use Rattle.std.proofs.Common.{◌≡◌, ◌++◌, length, string_bytes}
use Rattle.md_safe.specs.Input.{with_line_feeds}
use denote.Text.{Utf8}
use denote.Shadow.{shadow}
use Rattle.md_page.proofs.headings.push_lined.Given as goal

abbrev pub invariant-loop-line : goal.invariant-loop-line
invariant-loop-line l =
    (string_bytes l.out ++ with_line_feeds l.rest
    ≡ string_bytes l.fn.out ++ with_line_feeds l.fn.text) × shadow (Utf8 l.rest)

abbrev pub decreases-loop-line : goal.decreases-loop-line
decreases-loop-line l = length l.rest
