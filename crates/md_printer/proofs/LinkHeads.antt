-- A link's, an image's and a call's pieces, laid on a text.
use Rattle.std.proofs.Common.{◌≡◌, ℕ, suc, List, [], ◌∷◌, ◌++◌, append_assoc, Option, Some, None}
use Rattle.std.specs.Prelude.{codes}
use Rattle.md_text.specs.declared.options.CompileOptions.{CompileOptions}
use Rattle.md_meaning.specs.Meaning.At.{Target}
use Rattle.md_meaning.specs.Meaning.Layout.{laid_after}
use Rattle.md_meaning.specs.Meaning.Media.{anchor, picture, href, src}
use Rattle.std.specs.Fmt.{decimal}
use Rattle.md_meaning.specs.Meaning.Footnotes.{call_id, count_of, distinct, id_of, place_among}
use Rattle.md_steps.specs.Sides.{call_pieces}
use Rattle.md_buffer.specs.LinkHeads.{anchor_head, picture_head, picture_tail}

-- texts in sequence, by the texts that they are parts of
anchored : (t a b c d e f : List ℕ) →
    (((((t ++ a) ++ b) ++ c) ++ d) ++ e) ++ f ≡ t ++ ((a ++ (b ++ (c ++ d))) ++ (e ++ f))
anchored t a b c d e f = simp append_assoc

anchored_with : (t a b c d e f g h i : List ℕ) →
    ((((((((t ++ a) ++ b) ++ c) ++ d) ++ e) ++ f) ++ g) ++ h) ++ i
    ≡ t ++ ((a ++ (b ++ (c ++ ((d ++ (e ++ f)) ++ g)))) ++ (h ++ i))
anchored_with t a b c d e f g h i = simp append_assoc

pictured : (t a b c d e f : List ℕ) →
    (((((t ++ a) ++ b) ++ c) ++ d) ++ e) ++ f ≡ t ++ ((a ++ (b ++ c)) ++ (d ++ (e ++ f)))
pictured t a b c d e f = simp append_assoc

pictured_with : (t a b c d e f g h i : List ℕ) →
    ((((((((t ++ a) ++ b) ++ c) ++ d) ++ e) ++ f) ++ g) ++ h) ++ i
    ≡ t ++ ((a ++ (b ++ c)) ++ (d ++ (e ++ ((f ++ (g ++ h)) ++ i))))
pictured_with t a b c d e f g h i = simp append_assoc

pub anchor-laid :
    (ending text : List ℕ) (options : CompileOptions) (target : Target) (label : List ℕ) →
    laid_after ending text (anchor options target label)
    ≡ text ++ (anchor_head options target ++ (label ++ codes "</a>"))
anchor-laid ending text options target label = by target.title
  where
    by : (title : Option (List ℕ)) →
        laid_after ending text
        (anchor options (record { destination = target.destination; title = title }) label)
        ≡ text ++ (anchor_head options (record { destination = target.destination; title = title })
        ++ (label ++ codes "</a>"))
    by None = anchored text (codes "<a href=\"") (href options target.destination) (codes "\"")
        (codes ">") label (codes "</a>")
    by (Some title) =
        anchored_with text (codes "<a href=\"") (href options target.destination) (codes "\"")
        (codes " title=\"") title (codes "\"") (codes ">") label (codes "</a>")

pub picture-laid :
    (ending text : List ℕ) (options : CompileOptions) (target : Target) (label : List ℕ) →
    laid_after ending text (picture options target label)
    ≡ text ++ (picture_head options target.destination ++ (label ++ picture_tail target.title))
picture-laid ending text options target label = by target.title
  where
    by : (title : Option (List ℕ)) →
        laid_after ending text
        (picture options (record { destination = target.destination; title = title }) label)
        ≡ text ++ (picture_head options target.destination ++ (label ++ picture_tail title))
    by None = pictured text (codes "<img src=\"") (src options target.destination)
        (codes "\" alt=\"") label (codes "\"") (codes " />")
    by (Some title) = pictured_with text (codes "<img src=\"") (src options target.destination)
        (codes "\" alt=\"") label (codes "\"") (codes " title=\"") title (codes "\"") (codes " />")

-- seven texts in sequence, joined first or written one by one
apart : (t a b c d e f g : List ℕ) →
    t ++ ((((((a ++ b) ++ c) ++ d) ++ e) ++ f) ++ g)
    ≡ ((((((t ++ a) ++ b) ++ c) ++ d) ++ e) ++ f) ++ g
apart t a b c d e f g = simp append_assoc

pub call-laid :
    (text : List ℕ) (options : CompileOptions) (calls : List (List ℕ)) (identifier : List ℕ) →
    text ++ laid_after [] [] (call_pieces options calls identifier)
    ≡ laid_after [] text (call_pieces options calls identifier)
call-laid text options calls identifier =
    let number = place_among (distinct (calls ++ identifier ∷ [])) identifier in
    apart text (codes "<sup><a href=\"#") (id_of options (codes "fn-") identifier number)
    (codes "\" id=\"")
    (call_id options identifier number (suc (count_of calls identifier)))
    (codes "\" data-footnote-ref=\"\" aria-describedby=\"footnote-label\">") (decimal number)
    (codes "</a></sup>")
