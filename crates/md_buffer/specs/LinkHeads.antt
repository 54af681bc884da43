-- The tags before and after the label of a link or an image.
use Rattle.std.specs.Prelude.{ℕ, List, ◌++◌, [], Option, codes}
use Rattle.std.specs.Option.{option_map_or}
use Rattle.md_text.specs.declared.options.CompileOptions.{CompileOptions}
use Rattle.md_meaning.specs.Meaning.At.{Target}
use Rattle.md_meaning.specs.Meaning.Media.{href, src}

abbrev pub title_text : Option (List ℕ) → List ℕ
title_text title = option_map_or (λ text. codes " title=\"" ++ (text ++ codes "\"")) title []

abbrev pub anchor_head : CompileOptions → Target → List ℕ
anchor_head options target =
    codes "<a href=\""
    ++ (href options target.destination ++ (codes "\"" ++ (title_text target.title ++ codes ">")))

abbrev pub picture_head : CompileOptions → List ℕ → List ℕ
picture_head options destination =
    codes "<img src=\"" ++ (src options destination ++ codes "\" alt=\"")

abbrev pub picture_tail : Option (List ℕ) → List ℕ
picture_tail title = codes "\"" ++ (title_text title ++ codes " />")
