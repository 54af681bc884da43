-- Two texts that are equal, each a prefix and digits: one prefix is the other with digits.
use Rattle.std.proofs.Common.{◌≡◌, ◌≤◌, ℕ, suc, true, List, ◌++◌, length, take, drop}
use Rattle.std.proofs.Common.{refl, sym, ap, ◌∙◌, arith}
use Rattle.std.specs.List.{list_all}
use Rattle.std.specs.Fmt.{decimal}
use Rattle.std.proofs.lemmas.Bool.{and_parts, cases_lt}
use Rattle.std.proofs.lemmas.List.{take-append-drop, take-append-le, take_at, drop-append-le}
use Rattle.std.proofs.lemmas.List.{drop_at}
use Rattle.std.proofs.lemmas.List.Folds.{list_all-append}
use Rattle.md_content.specs.Built.{is_digit}
use Rattle.md_safe.proofs.Texts.{decimal-digits}
use Rattle.md_page.specs.Added.{shown}
use Rattle.md_page.specs.Ids.{HasNoDigitsPast, AreApart}

-- the longer text is the other one and more, and what follows the other one begins with that
never : (one other first second : List ℕ) → list_all is_digit first ≡ true →
    HasNoDigitsPast one other → length one ≤ length other → one ++ first ≡ other ++ second → ⊥
never one other first second digits apart low same =
    let n = length one in
    let more = drop n other in
    let longer : other ≡ one ++ more =
    sym (take-append-drop n other) ∙ ap (λ x. x ++ more)
    (sym (take-append-le n other second low) ∙ sym (ap (take n) same) ∙ take_at one first n refl) in
    let begins : first ≡ more ++ second =
    sym (drop_at one first n refl) ∙ ap (drop n) same ∙ drop-append-le n other second low in
    apart more (and_parts (list_all is_digit more) (list_all is_digit second)
    (sym (list_all-append is_digit more second) ∙ sym (ap (list_all is_digit) begins) ∙ digits)).0
    longer

pub headings-apart : (one other : List ℕ) (m n : ℕ) → AreApart one other →
    shown one ++ decimal (suc m) ≡ shown other ++ decimal (suc n) → ⊥
headings-apart one other m n apart same =
    grind (
      arith,
      cases_lt (length (shown other)) (length (shown one)),
      never,
      decimal-digits (suc n),
      decimal-digits (suc m),
    )
