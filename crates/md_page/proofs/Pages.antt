-- A page can be read in one way: its title ends where the first `<` stands, and its body
-- has one reading.
use Rattle.std.proofs.Common.{◌≡◌, ℕ, true, List, [], ◌++◌, refl, sym, ◌∙◌, codes, arith}
use Rattle.std.specs.List.{list_all}
use Rattle.std.proofs.lemmas.List.{append_assoc, append-nil, append_cancel_left}
use Rattle.std.proofs.lemmas.List.{append_cancel_right}
use Rattle.md_text.specs.Html.{Forest, is_forest, written}
use Rattle.md_text.proofs.HtmlNames.{no_angle, escaped-angle}
use Rattle.md_text.proofs.HtmlSplit.{split}
use Rattle.md_text.proofs.HtmlReading.{one_reading}
use Rattle.md_page.specs.Page.{page_tree, is_title, IsPage}

-- the parts of a page before the title, between it and the body, and after that
abbrev pub before_title : List ℕ
before_title = codes "<!doctype html>\n<html><head><meta charset=\"utf-8\" /><title>"

abbrev pub before_body : List ℕ
before_body = codes "</title></head><body>"

abbrev pub after_body : List ℕ
after_body = codes "</body></html>\n"

-- a page from its start to its end
pub page_written : (title body : Forest) →
    codes "<!doctype html>\n" ++ written (page_tree title body) ++ codes "\n"
    ≡ before_title ++ (written title ++ (before_body ++ (written body ++ after_body)))
page_written title body = simp append_assoc

title_tidy : (title : Forest) → is_title title ≡ true → list_all no_angle (written title) ≡ true
title_tidy title e = grind (arith, no_angle, append-nil, escaped-angle)

title_forest : (title : Forest) → is_title title ≡ true → is_forest title ≡ true
title_forest title e = grind arith

-- two forests that are written alike are one
same_forest : (f g : Forest) → is_forest f ≡ true → is_forest g ≡ true →
    written f ≡ written g → f ≡ g
same_forest f g hf hg e = grind (arith, one_reading)

pub one_page : (text : List ℕ) (title body title' body' : Forest) → IsPage text title body →
    IsPage text title' body' → (title ≡ title') × (body ≡ body')
one_page text title body title' body' p q =
    let whole =
    sym (page_written title body) ∙ sym p.written_so ∙ q.written_so ∙ page_written title' body' in
    let later = append_cancel_left before_title _ _ whole in
    let parts = split no_angle (written title) (written title') (before_body
    ++ (written body ++ after_body)) (before_body ++ (written body' ++ after_body))
    (title_tidy title p.title_is_text) (title_tidy title' q.title_is_text) refl refl later in
    let bodies = append_cancel_right (written body) (written body') after_body
    (append_cancel_left before_body _ _ parts.1) in (
      same_forest title title' (title_forest title p.title_is_text)
          (title_forest title' q.title_is_text) parts.0,
      same_forest body body' p.body_in_grammar q.body_in_grammar bodies,
    )

-- a page that is appended part by part
pub page_appended : (title body : List ℕ) {start one two three four five given inside : List ℕ} →
    start ≡ [] → one ≡ start ++ before_title → two ≡ one ++ given → three ≡ two ++ before_body →
    four ≡ three ++ inside → five ≡ four ++ after_body → given ≡ title → inside ≡ body →
    five ≡ before_title ++ (title ++ (before_body ++ (body ++ after_body)))
page_appended title body e0 e1 e2 e3 e4 e5 titled bodied =
    rw (e5, e4, e3, e2, e1, e0, titled, bodied)
    (joined before_title title before_body body after_body)
  where
    joined : (a t b x c : List ℕ) → (((a ++ t) ++ b) ++ x) ++ c ≡ a ++ (t ++ (b ++ (x ++ c)))
    joined a t b x c = simp append_assoc
