-- Places before which no tag begins that is picked.
use Rattle.std.proofs.Common.{◌≡◌, ◌≤◌, ◌<◌, ℕ, zero, suc, ◌+◌, ◌==◌, Bool, true, false, not}
use Rattle.std.proofs.Common.{◌&&◌, List, [], ◌∷◌, ◌++◌, length, take, drop, get_or, refl, sym, ap}
use Rattle.std.proofs.Common.{◌∙◌, subst, arith, add-one, drop-cons, take-suc, get_or-drop}
use Rattle.std.proofs.Common.{take_all, length-drop}
use Rattle.std.specs.Prelude.{slice_index, Option, MatchOption}
use Rattle.std.specs.List.{list_all}
use Rattle.std.proofs.lemmas.Bool.{and_parts, and_from, and_left, and_right, not-true}
use Rattle.md_text.specs.Bytes.{is_between}
use Rattle.md_page.specs.declared.scan.Rule.{Rule}
use Rattle.md_page.specs.declared.scan.Rule.TheVariants.{Link, Heading}
use Rattle.md_page.specs.Scan.{differs, IsFirstOf, clear, IsPassed, IsAngleFrom, picks_of}
use Rattle.md_page.specs.Scan.{picks_heading, scanned, scanned_headings}

-- one byte more
pub clear-one : (picks : List ℕ → Bool) (k : ℕ) (text : List ℕ) → k < length text →
    clear picks k text ≡ true →
    ((get_or text k 0 == 60) && picks (drop (suc k) text)) ≡ false → clear picks (suc k) text ≡ true
clear-one picks k [] within h e = absurd (omega (arith, within))
clear-one picks zero (b ∷ rest) within h e = and_from _ _ (ap not e) refl
clear-one picks (suc k) (b ∷ rest) within h e =
    let later = clear-one picks k rest (omega (arith, within)) in grind (arith, later, h, e)

-- one stretch after another
pub clear-more : (picks : List ℕ → Bool) (j k : ℕ) (text : List ℕ) → clear picks j text ≡ true →
    clear picks k (drop j text) ≡ true → clear picks (j + k) text ≡ true
clear-more picks zero k text a b = let plus : 0 + k ≡ k = omega arith in rw plus b
clear-more picks (suc j) k [] a b =
    let next : suc j + k ≡ suc (j + k) = omega arith in rw next refl
clear-more picks (suc j) k (x ∷ rest) a b =
    let p = and_parts (not ((x == 60) && picks rest)) (clear picks j rest) a in
    let next : suc j + k ≡ suc (j + k) = omega arith in
    rw next (and_from _ _ p.0 (clear-more picks j k rest p.1 b))

-- none begins where no `<` stands
pub clear-run : (picks : List ℕ → Bool) (k : ℕ) (text : List ℕ) →
    list_all (differs 60) (take k text) ≡ true →
    clear picks k text ≡ true
clear-run picks zero text h = refl
clear-run picks (suc k) [] h = refl
clear-run picks (suc k) (b ∷ rest) h = let later = clear-run picks k rest in grind (arith, later, h)

-- ---- the result for such a stretch

pub clear-scanned : (picks : List ℕ → Bool) (add : ℕ → List ℕ) (n k : ℕ) (text : List ℕ) →
    clear picks k text ≡ true →
    scanned picks add false n text ≡ take k text ++ scanned picks add false n (drop k text)
clear-scanned picks add n zero text h = refl
clear-scanned picks add n (suc k) [] h = refl
clear-scanned picks add n (suc k) (b ∷ rest) h = grind (arith, clear-scanned picks add n k rest)

pub clear-headings : (n k : ℕ) (text : List ℕ) → clear picks_heading k text ≡ true →
    scanned_headings n text ≡ scanned_headings n (drop k text)
clear-headings n zero text h = refl
clear-headings n (suc k) [] h = refl
clear-headings n (suc k) (b ∷ rest) h =
    let p = and_parts (not ((b == 60) && picks_heading rest)) (clear picks_heading k rest) h in
    rw (not-true _ p.0) (clear-headings n k rest p.1)

-- ---- a text at a `<`

pub drop-at : (text : List ℕ) (at : ℕ) → at < length text → slice_index text at ≡ 60 →
    drop at text ≡ 60 ∷ drop (suc at) text
drop-at text at within is = drop-cons text at 0 within ∙ ap (λ b. b ∷ drop (suc at) text) is

pub take-at : (text : List ℕ) (at : ℕ) → at < length text → slice_index text at ≡ 60 →
    take (suc at) text ≡ take at text ++ (60 ∷ [])
take-at text at within is = take-suc text at 0 within ∙ ap (λ b. take at text ++ (b ∷ [])) is

-- ---- two bytes at once

-- what begins with a `<` isn't picked
angle-unpicked : (rule : Rule) (rest : List ℕ) → picks_of rule (60 ∷ rest) ≡ false
angle-unpicked rule rest = grind arith

-- before a `<` none begins
pub before-angle : (rule : Rule) (text : List ℕ) (at : ℕ) → at + 1 < length text →
    slice_index text (at + 1) ≡ 60 →
    IsPassed rule text at (at + 1)
before-angle rule text at within is =
    grind (arith, picks_of, add-one, clear-one, and_right, drop-at, angle-unpicked)

-- none begins here, and the next byte is no `<`
pub past-two : (rule : Rule) (text : List ℕ) (at : ℕ) → at + 1 < length text →
    (slice_index text (at + 1) == 60) ≡ false →
    ((slice_index text at == 60) && picks_of rule (drop (suc at) text)) ≡ false →
    IsPassed rule text at (at + 2)
past-two rule text at within other none = λ h.
    (let two : suc (suc at) ≡ at + 2 = omega arith in
    subst (λ m. clear (picks_of rule) m text ≡ true) two
    (clear-one (picks_of rule) (suc at) text (omega (arith, within))
    (clear-one (picks_of rule) at text (omega (arith, within)) h none)
    (and_left _ _ (ap (λ m. get_or text m 0 == 60) (sym (add-one at)) ∙ other))))

-- ---- to the first `<`

pub to-angle : (rule : Rule) (text : List ℕ) (at run : ℕ) → IsFirstOf 60 (drop at text) run →
    IsAngleFrom rule text at (at + run)
to-angle rule text at run found = grind (arith, length-drop, get_or-drop, clear-more, clear-run)

-- no `<` is left
pub to-end : (rule : Rule) (text : List ℕ) (at : ℕ) → at ≤ length text →
    list_all (differs 60) (drop at text) ≡ true →
    IsPassed rule text at (length text)
to-end rule text at within none = λ h.
    (let rest = drop at text in
    let whole : at + length rest ≡ length text = omega (arith, length-drop at text, within) in
    subst (λ m. clear (picks_of rule) m text ≡ true) whole
    (clear-more (picks_of rule) at (length rest) text h
    (clear-run (picks_of rule) (length rest) rest
    (ap (list_all (differs 60)) (take_all (length rest) rest (omega arith)) ∙ none))))

-- from a place that is reached first
pub from-near : (rule : Rule) (text : List ℕ) (at near : ℕ) (found : Option ℕ) → at ≤ near →
    IsPassed rule text at near →
    MatchOption found (IsPassed rule text near (length text)) (IsAngleFrom rule text near) →
    MatchOption found (IsPassed rule text at (length text)) (IsAngleFrom rule text at)
from-near rule text at near found later passed on = grind arith

-- ---- where a tag may begin

-- the letter with which the names begin of the tags that a rule picks
abbrev pub letter_of : Rule → ℕ
letter_of Link = 97
letter_of Heading = 104

unbegun : (rule : Rule) (b : ℕ) (rest : List ℕ) → (b == letter_of rule) ≡ false →
    picks_of rule (b ∷ rest) ≡ false
unbegun rule b rest other = grind arith

-- another letter
pub unnamed : (rule : Rule) (text : List ℕ) (at : ℕ) → at + 1 < length text →
    (slice_index text (at + 1) == letter_of rule) ≡ false →
    picks_of rule (drop (suc at) text) ≡ false
unnamed rule text at within other = grind (arith, drop-cons, unbegun, add-one)

-- no level
pub unlevelled : (text : List ℕ) (at : ℕ) → at + 2 < length text →
    is_between 49 54 (slice_index text (at + 2)) ≡ false →
    picks_heading (drop (suc at) text) ≡ false
unlevelled text at within other =
    let second = drop-cons text (suc at) 0 (omega (arith, within)) in
    let third = drop-cons text (suc (suc at)) 0 (omega (arith, within)) in
    let two : suc (suc at) ≡ at + 2 = omega arith in
    rw (second, third, two, other) (grind arith)
