-- The digits of an item's marker, and the text after it.
use Rattle.std.proofs.Common.{ℕ, Bool, List, [], ◌∷◌, ◌≡◌, ◌≤◌, ◌<◌, ◌+◌, ◌-◌, ◌∙◌, zero, suc, true, false}
use Rattle.std.proofs.Common.{length, drop, take, min, cond, arith, sym, ap}
use Rattle.std.specs.List.{prefix_len}
use Rattle.std.proofs.lemmas.List.{drop-take, length-drop}
use Rattle.md_blocks.specs.declared.position.Position.{Position}
use Rattle.md_blocks.specs.LeafBlocks.{a_line}
use Rattle.md_blocks.specs.Marks.{is_digit, number_length}
use Rattle.md_blocks.specs.Positions.{ending_of, rest_of, text_line}
use Rattle.md_blocks.specs.Rests.{Rest, unindented}
use Rattle.md_blocks.proofs.LineLemmas.{part_is, text_is}

one_more : (is : Bool) (m part whole : ℕ) → part ≡ min m whole →
    cond is (1 + part) 0 ≡ min (suc m) (cond is (1 + whole) 0)
one_more true m part whole is = omega (arith, is)
one_more false m part whole is = omega arith

-- how many elements pass a test at the beginning of a part
prefix_take : (p : ℕ → Bool) (m : ℕ) (xs : List ℕ) →
    prefix_len p (take m xs) ≡ min m (prefix_len p xs)
prefix_take p zero xs = omega arith
prefix_take p (suc m) [] = omega arith
prefix_take p (suc m) (x ∷ xs) = one_more (p x) m _ _ (prefix_take p m xs)

-- a line that has a byte after the number has the number's digits as the document does
pub number_is : (bytes line : List ℕ) (at : ℕ) → line ≡ take (length line) bytes →
    number_length (drop at line) < length (drop at line) →
    number_length (drop at bytes) ≡ number_length (drop at line)
number_is bytes line at is some =
    let count = length line - at in
    let whole : at + count ≡ length line = omega (arith, some, length-drop at line) in
    let rest : drop at line ≡ take count (drop at bytes) =
    ap (drop at) is ∙ ap (λ n. drop at (take n bytes)) (sym whole) ∙ drop-take at count bytes in
    let digits = prefix_take is_digit count (drop at bytes) in
    let less : length (drop at line) ≤ count = omega (arith, length-drop at line) in
    let here : prefix_len is_digit (drop at line) ≡ min count (prefix_len is_digit (drop at bytes)) =
    ap (prefix_len is_digit) rest ∙ digits in
    omega (arith, here, less, some)

-- these digits
pub digits_are : (bytes line : List ℕ) (at count : ℕ) → line ≡ take (length line) bytes →
    at + count ≤ length line → take count (drop at bytes) ≡ take count (drop at line)
digits_are bytes line at count is within =
    sym (drop-take at count bytes) ∙ part_is bytes line at count is within

-- the ending of a line is the same at each of its positions
pub same_ending : (bytes : List ℕ) (p q : Position) → q.line ≡ p.line → q.ending ≡ p.ending →
    ending_of bytes q ≡ ending_of bytes p
same_ending bytes p q line ending =
    ap (λ l. take q.ending (drop (length l.now) bytes)) line
    ∙ ap (λ n. take n (drop (length p.line.now) bytes)) ending

-- the text of a line at a later position
pub later_text : (bytes : List ℕ) (p q : Position) (rest : Rest) → q.line ≡ p.line →
    q.ending ≡ p.ending → rest_of q ≡ rest →
    text_line bytes q ≡ a_line (unindented rest) (ending_of bytes p)
later_text bytes p q rest line ending is =
    ap (λ t. a_line t (ending_of bytes q)) (sym (text_is q) ∙ ap unindented is)
    ∙ ap (a_line (unindented rest)) (same_ending bytes p q line ending)
