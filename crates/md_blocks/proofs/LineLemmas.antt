-- Parts of a line of the document.
use Rattle.std.proofs.Common.{ℕ, List, [], ◌∷◌, ◌++◌, ◌≡◌, ◌≤◌, ◌<◌, ◌+◌, ◌-◌, ◌%◌, ◌∙◌, ap, sym, refl, zero, ◌==◌}
use Rattle.std.proofs.Common.{arith, length, drop, take, Bool, true, false, suc}
use Rattle.std.specs.Prelude.{replicate, if◌then◌else◌}
use Rattle.std.proofs.Common.{inl, inr, min}
use Rattle.std.proofs.lemmas.Bool.{cases_lt, eqb-true, ne_eqb}
use Rattle.std.proofs.lemmas.List.{drop-take, drop-drop, drop_all, length-drop, length-take, take_all}
use Rattle.std.proofs.lemmas.List.Sums.{prefix_len-le-length}
use Rattle.std.specs.Prelude.{not}
use Rattle.std.specs.List.{suffix_len}
use Rattle.std.proofs.Common.{get_or}
use Rattle.std.specs.Prelude.{cond}
use Rattle.md_blocks.specs.Marks.{run_of}
use Rattle.std.proofs.Common.{nat_lt, ◌&&◌, subst}
use Rattle.md_blocks.specs.declared.position.Position.{Position}
use Rattle.md_blocks.specs.Positions.{IsIn, ending_of, rest_line, rest_of, text_at}
use Rattle.md_blocks.specs.Rests.{indent, skipped, unindented}
use Rattle.md_blocks.specs.Leaves.{blanks, closes_fence, word_length}
use Rattle.md_blocks.specs.LeafBlocks.{a_line, first_word}
use Rattle.md_blocks.proofs.Resting.{unindented_is}
use Rattle.md_lines.specs.Lines.{is_blank}
use Rattle.md_blocks.specs.Leaves.{heading_content, without_blanks, without_number_signs, ends_blank}
use Rattle.md_blocks.specs.Rests.{text_of}
use Rattle.md_blocks.specs.Tapes.{between}

-- the columns of a tab that is used in part are no 0
not_none : (n : ℕ) → 0 < n → n ≡ 0 → ⊥
not_none n some none = omega (arith, some, none)

-- the text of a line from a position
pub text_from : (bytes line : List ℕ) (columns at column : ℕ) (tab : Bool) →
    line ≡ take (length line) bytes → columns ≡ (if tab then column % 4 else 0) →
    (tab ≡ true → 0 < column % 4) →
    (if columns == 0 then between at (length line) bytes
    else replicate (4 - columns) 32 ++ between (suc at) (length line) bytes)
    ≡ text_of line at column tab
text_from bytes line columns at column true is are part =
    rw (are, ne_eqb (column % 4) 0 (not_none (column % 4) (part refl)), sym is) refl
text_from bytes line columns at column false is are part = rw (are, sym is) refl

take_take : (n m : ℕ) (xs : List ℕ) → n ≤ m → take n (take m xs) ≡ take n xs
take_take zero m xs h = refl
take_take (suc n) zero xs h = absurd (omega arith)
take_take (suc n) (suc m) [] h = refl
take_take (suc n) (suc m) (x ∷ xs) h = ap (λ rest. x ∷ rest) (take_take n m xs (omega arith))

-- a part of a line is that part of the document
pub part_is : (bytes line : List ℕ) (from count : ℕ) → line ≡ take (length line) bytes →
    from + count ≤ length line → drop from (take (from + count) bytes) ≡ take count (drop from line)
part_is bytes line from count is within =
    sym (ap (drop from) (take_take (from + count) (length line) bytes within))
    ∙ ap (λ those. drop from (take (from + count) those)) (sym is)
    ∙ drop-take from count line

-- a text is what begins another one
abbrev pub Begins : List ℕ → List ℕ → Type 0
Begins part whole = part ≡ take (length part) whole

pub begins_take : (n : ℕ) (whole : List ℕ) → Begins (take n whole) whole
begins_take zero whole = refl
begins_take (suc n) [] = refl
begins_take (suc n) (x ∷ xs) = ap (λ rest. x ∷ rest) (begins_take n xs)

pub begins_in : (part middle whole : List ℕ) → Begins part middle → Begins middle whole →
    Begins part whole
begins_in part middle whole first second =
    let shorter : length part ≤ length middle =
    omega (arith, ap length first, length-take (length part) middle) in
    first ∙ ap (take (length part)) second
    ∙ take_take (length part) (length middle) whole shorter

either : (is : Bool) (one other whole : List ℕ) → Begins one whole → Begins other whole →
    Begins (if is then one else other) whole
either true one other whole first second = first
either false one other whole first second = second

-- the content of a heading begins the text after the number signs
pub content_begins : (text : List ℕ) → Begins (heading_content text) text
content_begins text =
    let whole = without_blanks text in
    let content = without_number_signs whole in
    let outer : Begins whole text = begins_take (length text - suffix_len is_blank text) text in
    let middle : Begins content whole =
    begins_take (length whole - suffix_len (λ byte. byte == 35) whole) whole in
    let inner : Begins (without_blanks content) content =
    begins_take (length content - suffix_len is_blank content) content in
    either (ends_blank content) (without_blanks content) whole text
    (begins_in (without_blanks content) whole text
    (begins_in (without_blanks content) content whole inner middle) outer) outer

-- the text after the indentation
pub text_is : (p : Position) → unindented (rest_of p) ≡ text_at p
text_is p = unindented_is p.line.now p.at p.column p.text p.is_in_tab p.text_there p.in_tab

pub closes_is : (p : Position) (mark count : ℕ) →
    (nat_lt p.indent 4 && closes_fence mark count (text_at p))
    ≡ (nat_lt (indent (rest_of p)) 4 && closes_fence mark count (unindented (rest_of p)))
closes_is p mark count =
    ap (λ n. nat_lt n 4 && closes_fence mark count (text_at p)) p.indents
    ∙ ap (λ text. nat_lt (indent (rest_of p)) 4 && closes_fence mark count text) (sym (text_is p))

-- columns of a line are skipped
pub is_in_after : (bytes : List ℕ) (p q : Position) → q.line ≡ p.line → IsIn bytes p → IsIn bytes q
is_in_after bytes p q line is = subst (λ l. l.now ≡ take (length l.now) bytes) (sym line) is

pub skipped_line : (bytes : List ℕ) (p q : Position) (columns : ℕ) → q.line ≡ p.line →
    q.ending ≡ p.ending → rest_of q ≡ skipped columns (rest_of p) →
    rest_line bytes q ≡ a_line (skipped columns (rest_of p)).text (ending_of bytes p)
skipped_line bytes p q columns line ending rest =
    ap (λ r. a_line r.text (ending_of bytes q)) rest
    ∙ ap (λ l. a_line (skipped columns (rest_of p)).text (take q.ending (drop (length l.now) bytes))) line
    ∙ ap (λ n. a_line (skipped columns (rest_of p)).text (take n (drop (length p.line.now) bytes))) ending

-- the first word from an index
pub word_is : (bytes line : List ℕ) (from start end : ℕ) → line ≡ take (length line) bytes →
    from ≤ length line → start ≡ from + blanks (drop from line) →
    end ≡ start + word_length (drop start line) →
    drop start (take end bytes) ≡ first_word (drop from line)
word_is bytes line from start end is inside start_is end_is =
    let rest = drop from line in
    let word : drop start line ≡ drop (blanks rest) rest =
    ap (λ i. drop i line) start_is ∙ sym (drop-drop (blanks rest) from line) in
    let before : start ≤ length line = omega (
      arith,
      inside,
      start_is,
      prefix_len-le-length is_blank rest,
      length-drop from line,
    ) in
    let within : start + word_length (drop start line) ≤ length line = omega (
      arith,
      before,
      prefix_len-le-length (λ byte. not (is_blank byte)) (drop start line),
      length-drop start line,
    ) in
    ap (λ i. drop start (take i bytes)) end_is
    ∙ part_is bytes line start (word_length (drop start line)) is within
    ∙ ap (λ text. take (word_length text) text) word

-- the run of a mark begins with it
pub mark_first : (mark : ℕ) (text : List ℕ) → 0 < run_of mark text →
    get_or (take (run_of mark text) text) 0 0 ≡ mark
mark_first mark [] some = absurd (omega (arith, some))
mark_first mark (byte ∷ rest) some = by (byte == mark) refl some
  where
    by : (is : Bool) → (byte == mark) ≡ is → 0 < cond is (1 + run_of mark rest) 0 →
        get_or (take (cond is (1 + run_of mark rest) 0) (byte ∷ rest)) 0 0 ≡ mark
    by false is none = absurd (omega (arith, none))
    by true is some =
        let next : 1 + run_of mark rest ≡ suc (run_of mark rest) = omega arith in
        ap (λ n. get_or (take n (byte ∷ rest)) 0 0) next ∙ eqb-true byte mark is

-- the line after the first column of a tab, also at the greatest index
pub next : (from after most : ℕ) (text : List ℕ) → after ≡ min (from + 1) most → length text ≤ most →
    drop after text ≡ drop (suc from) text
next from after most text is short = elim (cases_lt from (length text)) [
  | inl before ↦
      let here : after ≡ suc from = omega (arith, is, before, short) in
      ap (λ n. drop n text) here
  | inr past ↦ drop_all after text (omega (arith, is, past, short))
      ∙ sym (drop_all (suc from) text (omega (arith, past)))
]

-- a line that ends where the document does
pub cut : (to end : ℕ) (bytes : List ℕ) → to ≡ min end (length bytes) → take to bytes ≡ take end bytes
cut to end bytes is = elim (cases_lt end (length bytes)) [
  | inl before ↦
      let here : to ≡ end = omega (arith, is, before) in
      ap (λ n. take n bytes) here
  | inr past ↦ take_all to bytes (omega (arith, is, past)) ∙ sym (take_all end bytes past)
]
