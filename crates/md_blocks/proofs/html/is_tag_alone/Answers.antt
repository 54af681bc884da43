-- The cursor begins with the whole text as its only line.
use Rattle.std.proofs.Common.{ap, sym, ◌∙◌, ◌≡◌, List, ℕ, [], ◌∷◌, false, length, drop, take}
use Rattle.std.proofs.Common.{Option, Some, None, Bool, arith, get_or, is_some}
use Rattle.std.proofs.lemmas.List.{take_all}
use Rattle.md_lines.specs.Reading.{text_from}
use Rattle.md_lines.specs.Tags.{after_tag}
use Rattle.md_blocks.specs.Marks.{is_blank_text}
use Rattle.md_blocks.proofs.html.is_tag_alone.Goals as goal

-- whether only blanks follow a tag that is found
abbrev ends : Option (List (List ℕ)) → Bool
ends found = elim found [ None ↦ false | Some rest ↦ is_blank_text (get_or rest 0 []) ]

none_ends : (found : Option (List (List ℕ))) → is_some found ≡ false → ends found ≡ false
none_ends None is = is
none_ends (Some rest) is = absurd (grind (arith, is))

-- a text is the line that it is read as
whole : (text : List ℕ) (start end : ℕ) → start ≡ 0 → end ≡ length text →
    drop start (take end text) ∷ [] ≡ text ∷ []
whole text start end first last =
    ap (λ n. drop n (take end text) ∷ []) first
    ∙ ap (λ n. take n text ∷ []) last
    ∙ ap (λ those. those ∷ []) (take_all (length text) text (omega arith))

pub returns-then-skip_tag : goal.returns-then-skip_tag
returns-then-skip_tag c =
    let text = c.args.text.now in
    let lines = whole text c.part.result.start c.part.result.end c.part.ensures.start
    (omega (arith, c.part.ensures.end)) in
    let read = c.new-cursor.ensures.text (sym c.part.ensures.start) ∙ lines in
    c.is_blank_from.ensures
    ∙ ap is_blank_text c.rest_of_line.ensures
    ∙ sym (ap (λ those. ends (after_tag those)) (sym read) ∙ ap ends (c.skip_tag.ensures.text c.if-skip_tag.true))

pub returns-else-skip_tag : goal.returns-else-skip_tag
returns-else-skip_tag c =
    let text = c.args.text.now in
    let lines = whole text c.part.result.start c.part.result.end c.part.ensures.start
    (omega (arith, c.part.ensures.end)) in
    let read = c.new-cursor.ensures.text (sym c.part.ensures.start) ∙ lines in
    c.if-skip_tag.false
    ∙ sym (ap (λ those. ends (after_tag those)) (sym read)
    ∙ none_ends (after_tag (text_from c.new-cursor.result)) (sym c.skip_tag.ensures.found ∙ c.if-skip_tag.false))
