-- Quicker ways: a link that stays within the page, and a text without headings.
use Rattle.std.specs.Prelude.{is_some}
use Rattle.std.proofs.Common.{◌≡◌, ℕ, ◌==◌, true, false, ◌&&◌, List, [], ◌∷◌, ◌++◌, inl, inr}
use Rattle.std.proofs.Common.{length, drop, map, Option, Some, None, option_map}
use Rattle.std.proofs.Common.{refl, sym, ap, ◌∙◌, arith, codes}
use Rattle.std.specs.Option.{option_map_or}
use Rattle.std.proofs.lemmas.Bool.{eqb-true, cases_Bool}
use Rattle.md_base.proofs.Lies.{lie}
use Rattle.md_text.specs.References.{begins_with}
use Rattle.md_text.specs.Html.{written_attributes}
use Rattle.md_safe.proofs.EscapedCases.{begins-is}
use Rattle.md_page.specs.Headings.{listed}
use Rattle.md_page.specs.Scan.{before_angle, want_rel}
use Rattle.md_page.specs.Scan.{picks_link, picks_heading, scanned}
use Rattle.md_page.specs.Scan.{scanned_headings, with_new, new_id, new_rel, IsScannedTo}
use Rattle.md_page.specs.declared.headings.Heading.{Heading}

-- ---- links that stay

hash-stays : (a : List ℕ) → want_rel (codes " href=\"#" ++ a) ≡ false
hash-stays a = grind arith

nothing-stays : (a : List ℕ) → want_rel (codes " href=\"\"" ++ a) ≡ false
nothing-stays a = grind arith

-- bytes before what comes up to a `>`
abbrev onto : List ℕ → Option (List ℕ) → Option (List ℕ)
onto [] found = found
onto (b ∷ x) found = option_map (λ later. b ∷ later) (onto x found)

pub stays-within : (tag : List ℕ) → begins_with (codes "a href=\"#") tag ≡ true →
    picks_link tag ≡ false
stays-within tag is =
    ap picks_link (begins-is (codes "a href=\"#") tag is) ∙ by (before_angle (drop 9 tag))
  where
    by : (found : Option (List ℕ)) →
        option_map_or want_rel (onto (codes " href=\"#") found) false ≡ false
    by None = refl
    by (Some a) = hash-stays a

pub leads-nowhere : (tag : List ℕ) → begins_with (codes "a href=\"\"") tag ≡ true →
    picks_link tag ≡ false
leads-nowhere tag is =
    ap picks_link (begins-is (codes "a href=\"\"") tag is) ∙ by (before_angle (drop 9 tag))
  where
    by : (found : Option (List ℕ)) →
        option_map_or want_rel (onto (codes " href=\"\"") found) false ≡ false
    by None = refl
    by (Some a) = nothing-stays a

-- ---- a text without headings

none-picked : (add : ℕ → List ℕ) (n m : ℕ) (text : List ℕ) → [] ≡ scanned_headings n text →
    scanned picks_heading add false m text ≡ text
none-picked add n m [] = λ h. refl
none-picked add n m (b ∷ rest) = elim (cases_Bool ((b == 60) && picks_heading rest)) [
  | inl e ↦ rw e (λ h. cc)
  | inr e ↦ rw e (λ h. ap (λ y. b ∷ y) (none-picked add n m rest h))
]

pub unheaded : (headings : List Heading) (prefix text : List ℕ) → (length headings == 0) ≡ true →
    map listed headings ≡ scanned_headings 0 text →
    text ≡ with_new picks_heading (new_id prefix) text
unheaded (heading ∷ headings) prefix text none all = absurd (omega (arith, eqb-true _ 0 none))
unheaded [] prefix text none all = grind (arith, none-picked)

-- ---- a text without links that are picked

pub unlinked : (rel text : List ℕ) (found : Option ℕ) → is_some found ≡ false →
    IsScannedTo picks_link text found → text ≡ with_new picks_link (new_rel rel) text
unlinked rel text (Some end) none scan = lie (sym none)
unlinked rel text None none scan = sym (scan (λ n. written_attributes (new_rel rel n ∷ [])) 0)
