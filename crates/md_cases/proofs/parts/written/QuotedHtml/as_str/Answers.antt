-- A heading, a line ending, and a quote with a heading, in pieces.
use Rattle.std.proofs.Common.{◌∷◌, [], codes, refl}
use Rattle.md_page.specs.Pieces.{Words, Opening, Closing}
use Rattle.md_cases.proofs.parts.written.QuotedHtml.as_str.Goals as goal

pub returns-clause-written : goal.returns-clause-written
returns-clause-written c = record {
  pieces = Opening (codes "h1") [] ∷ Words (codes "a") ∷ Closing (codes "h1") ∷ Words (10 ∷ [])
      ∷ Opening (codes "blockquote") [] ∷ Opening (codes "h6") [] ∷ Words (codes "b")
      ∷ Closing (codes "h6") ∷ Closing (codes "blockquote") ∷ [];
  sound = refl;
  written_so = refl;
  listed = refl;
  safe_links = refl;
  safe_images = refl;
}
