-- Three headings, in pieces.
use Rattle.std.proofs.Common.{◌∷◌, [], ◌++◌, codes, refl}
use Rattle.md_page.specs.Pieces.{Words, Opening, Single, Closing}
use Rattle.md_cases.proofs.parts.written.LinedHtml.as_str.Goals as goal

pub returns-clause-written : goal.returns-clause-written
returns-clause-written c = record {
  pieces = Opening (codes "h1") [] ∷ Words (codes "a") ∷ Closing (codes "h1")
      ∷ Opening (codes "h2") (record { name = codes "id"; value = codes "b" } ∷ [])
      ∷ Words (codes "c") ∷ Closing (codes "h2")
      ∷ Opening (codes "h2") [] ∷ Words (codes "d &amp; ") ∷ Opening (codes "em") []
      ∷ Words (codes "e" ++ 13 ∷ []) ∷ Closing (codes "em") ∷ Words (10 ∷ codes "f")
      ∷ Single (codes "img") (record { name = codes "src"; value = [] }
      ∷ record { name = codes "alt"; value = codes "g" } ∷ [])
      ∷ Closing (codes "h2") ∷ [];
  sound = refl;
  written_so = refl;
  listed = refl;
  safe_links = refl;
  safe_images = refl;
}
