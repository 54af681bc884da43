-- The written text, followed by the result for the rest, is the whole.
use Rattle.std.proofs.Common.{◌≡◌, ℕ, false, ◌++◌, [], ◌∷◌, length, string_bytes}
use denote.Text.{Utf8}
use denote.Shadow.{shadow}
use Rattle.md_text.specs.Html.{written_attributes}
use Rattle.md_page.specs.Scan.{scanned, picks_link, with_new, new_rel}
use Rattle.md_page.proofs.rel.with_rels.Given as goal

abbrev pub invariant-loop-end : goal.invariant-loop-end
invariant-loop-end l =
    ((n : ℕ) × (string_bytes l.out
    ++ scanned picks_link (λ k. written_attributes (new_rel l.fn.rel k ∷ [])) false n l.rest
    ≡ with_new picks_link (new_rel l.fn.rel) l.fn.text))
    × shadow (Utf8 l.rest)

abbrev pub decreases-loop-end : goal.decreases-loop-end
decreases-loop-end l = length l.rest
