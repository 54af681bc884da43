-- Two headings, in pieces.
use Rattle.std.proofs.Common.{◌∷◌, [], codes, refl}
use Rattle.md_page.specs.Pieces.{Words, Opening, Closing}
use Rattle.md_cases.proofs.parts.written.LabelledHtml.as_str.Goals as goal

pub returns-clause-written : goal.returns-clause-written
returns-clause-written c = record {
  pieces = Opening (codes "h2") (record { name = codes "id"; value = codes "footnote-label" }
      ∷ record { name = codes "class"; value = codes "sr-only" } ∷ [])
      ∷ Words (codes "a") ∷ Closing (codes "h2")
      ∷ Opening (codes "h3") [] ∷ Words (codes "b") ∷ Closing (codes "h3") ∷ [];
  sound = refl;
  written_so = refl;
  listed = refl;
  safe_links = refl;
  safe_images = refl;
}
