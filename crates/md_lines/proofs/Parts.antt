-- Parts of texts, line by line.
use Rattle.std.proofs.Common.{◌≡◌, ◌<◌, ◌≤◌, ◌+◌, ◌-◌, ◌∙◌, ℕ, Bool, true, false, List, [], ◌∷◌, zero, suc}
use Rattle.std.proofs.Common.{length, drop, take, drop-cons, get_or, arith, ap, refl, sym, inl, inr, max}
use Rattle.std.specs.Prelude.{Option, Some, None, option_map, nat_lt, if◌then◌else◌, ◌&&◌, not, ◌==◌}
use Rattle.std.specs.List.{prefix_len, list_all}
use Rattle.std.specs.Char.{is_ascii_punctuation}
use Rattle.std.proofs.lemmas.Bool.{cases_lt, cases_Bool, lt-ltb, le-ltb, ne_eqb, eq-eqb}
use Rattle.std.proofs.lemmas.List.{drop-drop, drop-take, take-take, length-take}
use Rattle.md_lines.specs.Lines.{goes_on_in_destination}
use Rattle.md_lines.specs.Lines.{is_blank as is_blank_byte}
use Rattle.std.specs.Prelude.{is_some}
use Rattle.std.proofs.lemmas.List.{take_all}
use Rattle.md_lines.specs.Escapes.{is_angle, pointed_length}
use Rattle.md_lines.specs.LinkParts.{label_in}
use Rattle.md_lines.specs.Escapes.{before_unescaped, width}
use Rattle.md_lines.specs.Texts.{Part, until, size, begins_with, after_next, with_line, text_before, first_line}
use Rattle.md_lines.specs.LinkParts.{bare_end, destination_of, ends_destination, opened_after}
use Rattle.md_lines.specs.LinkParts.{is_label, is_blank_label, is_bracket}
use Rattle.md_lines.specs.Escapes.{stops_title}
use Rattle.md_lines.specs.LinkParts.{closing_mark, title_at, title_after, title_in}
use Rattle.md_lines.specs.LinkParts.{label_at}
use Rattle.std.proofs.lemmas.List.{length-drop}
use Rattle.md_lines.proofs.Escapes.{before-le}
use Rattle.md_lines.proofs.Reading.{none, run_in}
use Rattle.std.proofs.Common.{subst}

-- where the byte is, if it is in the line, and else
pub until_here : (test : ℕ → Bool) (line : List ℕ) (lines : List (List ℕ)) →
    before_unescaped test line < length line → until test (line ∷ lines)
    ≡ Some (record {
      text = take (before_unescaped test line) line ∷ [];
      rest = drop (before_unescaped test line) line ∷ lines;
    })
until_here test line lines within =
    ap (λ b. if b then Some (record {
      text = take (before_unescaped test line) line ∷ [];
      rest = drop (before_unescaped test line) line ∷ lines;
    })
    else option_map (with_line line) (until test lines)) (lt-ltb _ _ within)

pub until_later : (test : ℕ → Bool) (line : List ℕ) (lines : List (List ℕ)) →
    length line ≤ before_unescaped test line →
    until test (line ∷ lines) ≡ option_map (with_line line) (until test lines)
until_later test line lines over =
    ap (λ b. if b then Some (record {
      text = take (before_unescaped test line) line ∷ [];
      rest = drop (before_unescaped test line) line ∷ lines;
    })
    else option_map (with_line line) (until test lines)) (le-ltb _ _ over)

-- a destination in a line, by its place
pub found_in : (bytes : List ℕ) (from n end closing start stop at : ℕ) → from + n ≤ end →
    start ≡ from → stop ≡ from + n → at ≡ from + n + closing →
    destination_of closing (Some n) (drop from (take end bytes))
    ≡ Some (record { text = drop start (take stop bytes); rest = drop at (take end bytes) })
found_in bytes from n end closing start stop at within starts stops ends =
    let line = drop from (take end bytes) in
    let text : take n line ≡ drop start (take stop bytes) =
    sym (drop-take from n (take end bytes)) ∙ ap (drop from) (take-take (from + n) end bytes within)
    ∙ ap (λ k. drop from (take k bytes)) (sym stops) ∙ ap (λ k. drop k (take stop bytes)) (sym starts) in
    let rest : drop closing (drop n line) ≡ drop at (take end bytes) =
    ap (drop closing) (drop-drop n from (take end bytes))
    ∙ drop-drop closing (from + n) (take end bytes) ∙ ap (λ k. drop k (take end bytes)) (sym ends) in
    ap (λ t. Some (record { text = t; rest = drop closing (drop n line) })) text
    ∙ ap (λ r. Some (record { text = drop start (take stop bytes); rest = r })) rest

-- a destination without brackets: how it goes on over a byte
pub stops : (count opened byte : ℕ) (rest : List ℕ) → ends_destination opened byte ≡ true →
    bare_end count opened false (byte ∷ rest) ≡ bare_end count opened false []
stops count opened byte rest is = rw is refl

pub deep : (count opened byte : ℕ) (rest : List ℕ) → ends_destination opened byte ≡ false →
    32 < opened_after byte opened → bare_end count opened false (byte ∷ rest) ≡ None
deep count opened byte rest is more = rw (is, lt-ltb 32 _ more) refl

pub goes : (count opened byte : ℕ) (rest : List ℕ) → ends_destination opened byte ≡ false →
    opened_after byte opened ≤ 32 → (byte ≡ 92 → ⊥) →
    bare_end count opened false (byte ∷ rest)
    ≡ bare_end (count + 1) (opened_after byte opened) false rest
goes count opened byte rest is few other =
    rw (is, le-ltb 32 _ few, ne_eqb byte 92 other)
    (ap (λ k. bare_end k (opened_after byte opened) false rest) (omega arith))

-- and over bytes that may not end it
ordinary : (byte opened : ℕ) → goes_on_in_destination byte ≡ true →
    ends_destination opened byte ≡ false
ordinary byte opened is = grind arith

opens_none : (byte opened : ℕ) → goes_on_in_destination byte ≡ true →
    opened_after byte opened ≡ opened
opens_none byte opened is = grind arith

no_backslash : (byte : ℕ) → goes_on_in_destination byte ≡ true → byte ≡ 92 → ⊥
no_backslash byte is same =
    let both : true ≡ false = sym is ∙ ap goes_on_in_destination same in cc

plain : (byte count opened : ℕ) (rest : List ℕ) → opened ≤ 32 →
    goes_on_in_destination byte ≡ true →
    bare_end count opened false (byte ∷ rest) ≡ bare_end (count + 1) opened false rest
plain byte count opened rest few is =
    goes count opened byte rest (ordinary byte opened is) (omega (arith, opens_none byte opened is))
    (no_backslash byte is)
    ∙ ap (λ o. bare_end (count + 1) o false rest) (opens_none byte opened is)

runs : (n count opened : ℕ) (text : List ℕ) → opened ≤ 32 →
    n ≤ prefix_len goes_on_in_destination text →
    bare_end count opened false text ≡ bare_end (count + n) opened false (drop n text)
runs zero count opened text few within = ap (λ k. bare_end k opened false text) (omega arith)
runs (suc n) count opened [] few within = absurd (omega arith)
runs (suc n) count opened (byte ∷ rest) few within =
    elim (cases_Bool (goes_on_in_destination byte)) [
      | inl is ↦
          plain byte count opened rest few is
          ∙ runs n (count + 1) opened rest few (omega (arith, rw is at within))
          ∙ ap (λ k. bare_end k opened false (drop n rest)) (omega arith)
      | inr is_not ↦ absurd (omega (arith, rw is_not at within))
    ]

pub reach : (bytes : List ℕ) (at to end opened : ℕ) → opened ≤ 32 → at ≤ to → to ≤ end →
    to ≤ at + prefix_len goes_on_in_destination (drop at bytes) →
    bare_end at opened false (drop at (take end bytes))
    ≡ bare_end to opened false (drop to (take end bytes))
reach bytes at to end opened few after within passed =
    let count : at + (to - at) ≡ to = omega arith in
    runs (to - at) at opened (drop at (take end bytes)) few
    (omega (arith, run_in goes_on_in_destination bytes at end))
    ∙ ap (bare_end (at + (to - at)) opened false) (drop-drop (to - at) at (take end bytes))
    ∙ ap (λ k. bare_end k opened false (drop k (take end bytes))) count

-- and over a backslash with what it escapes
over_backslash : (count opened : ℕ) (rest : List ℕ) → opened ≤ 32 →
    bare_end count opened false (92 ∷ rest) ≡ bare_end (suc count) opened true rest
over_backslash count opened rest few =
    ap (λ b. if b then None else bare_end (suc count) opened true rest) (le-ltb 32 opened few)

after_backslash : (count opened : ℕ) (rest : List ℕ) →
    bare_end (suc count) opened true rest
    ≡ bare_end (count + width (92 ∷ rest)) opened false (drop (width (92 ∷ rest)) (92 ∷ rest))
after_backslash count opened [] =
    let one : suc count ≡ count + 1 = omega arith in ap (λ k. bare_end k opened false []) one
after_backslash count opened (next ∷ rest) = elim (cases_Bool (is_ascii_punctuation next)) [
  | inl is ↦
      let two : suc (suc count) ≡ count + 2 = omega arith in
      rw is (ap (λ k. bare_end k opened false rest) two)
  | inr is_not ↦
      let one : suc count ≡ count + 1 = omega arith in
      rw is_not (ap (λ k. bare_end k opened false (next ∷ rest)) one)
]

escapes : (count opened : ℕ) (text rest : List ℕ) → opened ≤ 32 → text ≡ 92 ∷ rest →
    bare_end count opened false text
    ≡ bare_end (count + width text) opened false (drop (width text) text)
escapes count opened text rest few is =
    subst (λ xs. bare_end count opened false xs
    ≡ bare_end (count + width xs) opened false (drop (width xs) xs)) (sym is)
    (over_backslash count opened rest few ∙ after_backslash count opened rest)

pub escapes_at : (line : List ℕ) (at to opened : ℕ) (rest : List ℕ) → opened ≤ 32 →
    drop at line ≡ 92 ∷ rest → to ≡ at + width (drop at line) →
    bare_end at opened false (drop at line) ≡ bare_end to opened false (drop to line)
escapes_at line at to opened rest few is goes_to =
    escapes at opened (drop at line) rest few is
    ∙ ap (bare_end (at + width (drop at line)) opened false)
    (drop-drop (width (drop at line)) at line)
    ∙ ap (λ k. bare_end k opened false (drop k line)) (sym goes_to)

-- a title that begins a text
pub title_begins : (line rest : List ℕ) (lines : List (List ℕ)) (mark close : ℕ) →
    line ≡ mark ∷ rest → closing_mark mark ≡ Some close →
    title_at (line ∷ lines) ≡ title_after mark close (rest ∷ lines)
title_begins line rest lines mark close is closes =
    ap (λ l. title_at (l ∷ lines)) is
    ∙ ap (λ c. elim c [ None ↦ None | Some close ↦ title_after mark close (rest ∷ lines) ]) closes

pub title_has_no_mark : (line rest : List ℕ) (lines : List (List ℕ)) (mark : ℕ) →
    line ≡ mark ∷ rest → closing_mark mark ≡ None → title_at (line ∷ lines) ≡ None
title_has_no_mark line rest lines mark is closes =
    ap (λ l. title_at (l ∷ lines)) is
    ∙ ap (λ c. elim c [ None ↦ None | Some close ↦ title_after mark close (rest ∷ lines) ]) closes

-- the byte at which what is searched for ends
pub at_stop : (line : List ℕ) (n wanted : ℕ) (lines : List (List ℕ)) → n < length line →
    begins_with wanted (drop n line ∷ lines) ≡ (get_or line n 0 == wanted)
at_stop line n wanted lines within =
    ap (λ l. begins_with wanted (l ∷ lines)) (drop-cons line n 0 within)

pub past_stop : (line : List ℕ) (n : ℕ) (lines : List (List ℕ)) → n < length line →
    after_next (drop n line ∷ lines) ≡ drop (suc n) line ∷ lines
past_stop line n lines within =
    ap (λ l. after_next (l ∷ lines)) (drop-cons line n 0 within)

module _ (mark close : ℕ) where
  pub closed : (line : List ℕ) (lines : List (List ℕ)) (n : ℕ) →
      n ≡ before_unescaped (stops_title mark close) line → n < length line →
      get_or line n 0 ≡ close →
      option_map (λ part. part.rest) (title_after mark close (line ∷ lines))
      ≡ Some (drop (suc n) line ∷ lines)
  closed line lines n is within same =
      let found : until (stops_title mark close) (line ∷ lines)
      ≡ Some (record { text = take n line ∷ []; rest = drop n line ∷ lines }) =
      until_here (stops_title mark close) line lines (omega arith)
      ∙ ap (λ k. Some (record { text = take k line ∷ []; rest = drop k line ∷ lines })) (sym is) in
      ap (λ o. option_map (λ (part : Part). part.rest) (title_in close o)) found
      ∙ ap (λ b. option_map (λ (part : Part). part.rest) (if b then Some (record {
        text = take n line ∷ [];
        rest = after_next (drop n line ∷ lines);
      }) else None))
      (at_stop line n close lines within ∙ eq-eqb _ close same)
      ∙ ap (λ r. Some r) (past_stop line n lines within)

  keeps_rest : (line : List ℕ) (o : Option Part) →
      option_map (λ (part : Part). part.rest) (title_in close (option_map (with_line line) o))
      ≡ option_map (λ (part : Part). part.rest) (title_in close o)
  keeps_rest line None = refl
  keeps_rest line (Some part) = elim (cases_Bool (begins_with close part.rest)) [
    | inl is ↦ rw is refl
    | inr is_not ↦ rw is_not refl
  ]

  pub later : (line : List ℕ) (lines : List (List ℕ)) (n : ℕ) →
      n ≡ before_unescaped (stops_title mark close) line → length line ≤ n →
      option_map (λ part. part.rest) (title_after mark close (line ∷ lines))
      ≡ option_map (λ part. part.rest) (title_after mark close lines)
  later line lines n is over =
      ap (λ o. option_map (λ (part : Part). part.rest) (title_in close o))
      (until_later (stops_title mark close) line lines (omega arith))
      ∙ keeps_rest line (until (stops_title mark close) lines)

none_of : {A B : Type 0} (f : A → B) (o : Option A) → option_map f o ≡ None → o ≡ None
none_of f None is = refl
none_of f (Some x) is = cc

-- a title that has no end in the last line
pub never_closed : (mark close : ℕ) (whole : List (List ℕ)) (line : List ℕ)
    (lines : List (List ℕ)) (n : ℕ) →
    option_map (λ (part : Part). part.rest) (title_after mark close whole)
    ≡ option_map (λ (part : Part). part.rest) (title_after mark close (line ∷ lines)) →
    n ≡ before_unescaped (stops_title mark close) line → length line ≤ n → lines ≡ [] →
    title_after mark close whole ≡ None
never_closed mark close whole line lines n same is over last =
    none_of (λ (part : Part). part.rest) (title_after mark close whole) (same
    ∙ later mark close line lines n is over
    ∙ ap (λ ls. option_map (λ (part : Part). part.rest) (title_after mark close ls)) last)

-- a destination in brackets
pub pointed_is : (text : List ℕ) (n : ℕ) → n ≡ before_unescaped is_angle text → n < length text →
    get_or text n 0 ≡ 62 → pointed_length text ≡ Some n
pointed_is text n is within closes =
    ap (λ k. if nat_lt k (length text) && get_or text k 0 == 62 then Some k else None) (sym is)
    ∙ ap (λ b. if b && get_or text n 0 == 62 then Some n else None) (lt-ltb n (length text) within)
    ∙ ap (λ b. if b then Some n else None) (eq-eqb _ 62 closes)

shifted : (from count opened : ℕ) (is_after : Bool) (text : List ℕ) →
    bare_end (from + count) opened is_after text
    ≡ option_map (λ n. from + n) (bare_end count opened is_after text)
shifted from count opened is_after [] = elim (cases_Bool (opened == 0)) [
  | inl is ↦ rw is refl
  | inr is_not ↦ rw is_not refl
]
shifted from count opened is_after (byte ∷ rest) =
    elim (cases_Bool (is_after && is_ascii_punctuation byte)) [
      | inl is ↦
          rw is (ap (λ k. bare_end k opened false rest) next ∙ shifted from (suc count) opened false rest)
      | inr is_not ↦ elim (cases_Bool (ends_destination opened byte)) [
        | inl ends ↦ elim (cases_Bool (opened == 0)) [
          | inl none ↦ rw (is_not, ends, none) refl
          | inr some ↦ rw (is_not, ends, some) refl
        ]
        | inr on ↦ elim (cases_Bool (nat_lt 32 (opened_after byte opened))) [
          | inl more ↦ rw (is_not, on, more) refl
          | inr few ↦
              rw (is_not, on, few)
              (ap (λ k. bare_end k (opened_after byte opened) (byte == 92) rest) next
              ∙ shifted from (suc count) (opened_after byte opened) (byte == 92) rest)
        ]
      ]
    ] where
      next : suc (from + count) ≡ from + suc count
      next = omega arith

shift : (from : ℕ) (text : List ℕ) →
    bare_end from 0 false text ≡ option_map (λ n. from + n) (bare_end 0 0 false text)
shift from text =
    let same : from ≡ from + 0 = omega arith in
    ap (λ k. bare_end k 0 false text) same ∙ shifted from 0 0 false text

count_of : (from at : ℕ) (o : Option ℕ) → Some at ≡ option_map (λ n. from + n) o →
    o ≡ Some (at - from)
count_of from at None is = cc
count_of from at (Some n) is =
    let sum : at ≡ from + n = cc in
    let less : n ≡ at - from = omega arith in ap (λ k. Some k) less

same_at : {at from : ℕ} → Some at ≡ Some from → at ≡ from
same_at is = cc

pub bare_none : (from : ℕ) (text : List ℕ) → bare_end from 0 false text ≡ None →
    bare_end 0 0 false text ≡ None
bare_none from text is = none_of from (bare_end 0 0 false text) (sym (shift from text) ∙ is) where
  none_of : (from : ℕ) (o : Option ℕ) → option_map (λ n. from + n) o ≡ None → o ≡ None
  none_of from None is = refl
  none_of from (Some n) is = cc

sum_in : (from at end : ℕ) → from ≤ end → (from < at → at ≤ end) → from + (at - from) ≤ end
sum_in from at end inside within = elim (cases_lt from at) [
  | inl moved ↦ omega (arith, within moved)
  | inr stays ↦ omega arith
]

-- a destination without brackets, by its place
pub bare_found : (bytes : List ℕ) (from end at start stop : ℕ) → from ≤ at →
    (from < at → at ≤ end) → Some at ≡ bare_end from 0 false (drop from (take end bytes)) →
    start ≡ from → stop ≡ max from at →
    destination_of 0 (bare_end 0 0 false (drop from (take end bytes))) (drop from (take end bytes))
    ≡ Some (record { text = drop start (take stop bytes); rest = drop at (take end bytes) })
bare_found bytes from end at start stop after within is starts stops = elim (cases_lt end from) [
  | inl beyond ↦
      let nothing : drop from (take end bytes) ≡ [] = none bytes from end (omega arith) in
      ap (λ line. destination_of 0 (bare_end 0 0 false line) line) nothing
      ∙ ap (λ t. Some (record { text = t; rest = [] }))
      (sym (none bytes start stop (omega (arith, is_from nothing))))
      ∙ ap (λ r. Some (record { text = drop start (take stop bytes); rest = r }))
      (sym (none bytes at end (omega arith)))
  | inr inside ↦
      let count : bare_end 0 0 false (drop from (take end bytes)) ≡ Some (at - from) =
      count_of from at (bare_end 0 0 false (drop from (take end bytes)))
      (is ∙ shift from (drop from (take end bytes))) in
      ap (λ n. destination_of 0 n (drop from (take end bytes))) count
      ∙ found_in bytes from (at - from) end 0 start stop at (sum_in from at end inside within) starts
      (omega arith) (omega arith)
] where
  is_from : drop from (take end bytes) ≡ [] → at ≡ from
  is_from nothing = same_at (is ∙ ap (bare_end from 0 false) nothing)

pub long_is : (bytes : List ℕ) (from at end start stop : ℕ) → from ≤ at → end ≤ length bytes →
    (from < at → at ≤ end) → start ≡ from → stop ≡ max from at →
    length (drop start (take stop bytes)) ≡ stop - start
long_is bytes from at end start stop after short within starts ends = elim (cases_lt from at) [
  | inl moved ↦
      omega (arith, within moved, length-drop start (take stop bytes), length-take stop bytes)
  | inr stays ↦ omega (arith, length-drop start (take stop bytes), length-take stop bytes)
]

-- whether a label is valid, if so many bytes precede it and were all blank or not
abbrev pub label_ok : ℕ → Bool → Option Part → Bool
label_ok count is_blank found = elim found [
  | None ↦ false
  | Some part ↦
      begins_with 93 part.rest
      && (nat_lt (count + size part.text) 1001 && not (is_blank && is_blank_label part.text))
]

some_if : (b : Bool) (part : Part) → is_some (if b then Some part else None) ≡ b
some_if true part = refl
some_if false part = refl

pub label_is : (found : Option Part) → is_some (label_in found) ≡ label_ok 0 true found
label_is None = refl
label_is (Some part) =
    let same : size part.text ≡ 0 + size part.text = omega arith in
    some_if (is_label part) _
    ∙ ap (λ k. begins_with 93 part.rest && (nat_lt k 1001 && not (is_blank_label part.text))) same

-- the text before the byte that was searched for
mapped : (line : List ℕ) (o : Option Part) (part : Part) → option_map (with_line line) o ≡ Some part →
    (found : Part) × (o ≡ Some found) × (part ≡ with_line line found)
mapped line None part is = absurd (none_is is) where
  none_is : {part : Part} → None ≡ Some part → ⊥
  none_is is = cc
mapped line (Some found) part is =
    let same : part ≡ with_line line found = cc in (found, refl, same)

shorter : (test : ℕ → Bool) (text : List (List ℕ)) (part : Part) → until test text ≡ Some part →
    length part.rest ≤ length text
shorter test [] part is = cc
shorter test (line ∷ lines) part is =
    elim (cases_lt (before_unescaped test line) (length line)) [
      | inl within ↦
          let same = some_same (sym (until_here test line lines within) ∙ is) in
          omega (arith, ap (λ (p : Part). length p.rest) same)
      | inr over ↦
          let found = mapped line (until test lines) part
          (sym (until_later test line lines over) ∙ is) in
          omega (arith, ap (λ (p : Part). length p.rest) found.2, shorter test lines found.0 found.1)
    ] where
      some_same : {one other : Part} → Some one ≡ Some other → one ≡ other
      some_same is = cc

pub text_is : (test : ℕ → Bool) (text : List (List ℕ)) (part : Part) → until test text ≡ Some part →
    part.text ≡ text_before text part.rest
text_is test [] part is = cc
text_is test (line ∷ lines) part is =
    elim (cases_lt (before_unescaped test line) (length line)) [
      | inl within ↦
          let n = before_unescaped test line in
          let same = some_same (sym (until_here test line lines within) ∙ is) in
          let cut : n ≡ length line - length (drop n line) = omega (arith, length-drop n line) in
          ap (λ (p : Part). p.text) (sym same) ∙ ap (λ k. take k line ∷ []) cut
          ∙ ap (λ b. if b then line ∷ text_before lines (drop n line ∷ lines)
          else take (length line - length (drop n line)) line ∷ [])
          (sym (le-ltb (suc (length lines)) (suc (length lines)) (omega arith)))
          ∙ ap (λ (p : Part). text_before (line ∷ lines) p.rest) same
      | inr over ↦
          let found = mapped line (until test lines) part
          (sym (until_later test line lines over) ∙ is) in
          ap (λ (p : Part). p.text) found.2
          ∙ ap (λ xs. line ∷ xs) (text_is test lines found.0 found.1)
          ∙ ap (λ b. if b then line ∷ text_before lines found.0.rest
          else take (length line - length (first_line found.0.rest)) line ∷ [])
          (sym (lt-ltb (length found.0.rest) (suc (length lines))
          (omega (arith, shorter test lines found.0 found.1))))
          ∙ ap (λ (p : Part). text_before (line ∷ lines) p.rest) (sym found.2)
    ] where
      some_same : {one other : Part} → Some one ≡ Some other → one ≡ other
      some_same is = cc

pub label_found : (text rest : List (List ℕ)) → label_ok 0 true (until is_bracket text) ≡ true →
    option_map (λ (part : Part). part.rest) (until is_bracket text) ≡ Some rest →
    label_at text ≡ Some (record { text = text_before text rest; rest = after_next rest })
label_found text rest ok is = by_part text rest (until is_bracket text) refl ok is where
  by_part : (text rest : List (List ℕ)) (found : Option Part) → until is_bracket text ≡ found →
      label_ok 0 true found ≡ true → option_map (λ (part : Part). part.rest) found ≡ Some rest →
      label_in (until is_bracket text)
      ≡ Some (record { text = text_before text rest; rest = after_next rest })
  by_part text rest None known ok is = cc
  by_part text rest (Some part) known ok is =
      let same : part.rest ≡ rest = cc in
      ap label_in known
      ∙ ap (λ b. if b then Some (record { text = part.text; rest = after_next part.rest }) else None)
      (sym (some_if (is_label part) (record { text = part.text; rest = after_next part.rest }))
      ∙ label_is (Some part) ∙ ok)
      ∙ ap (λ t. Some (record { text = t; rest = after_next part.rest }))
      (text_is is_bracket text part known)
      ∙ ap (λ r. Some (record { text = text_before text r; rest = after_next r })) same

grown : (a b c : Bool) → not (a && (b && c)) ≡ not ((a && b) && c)
grown true b c = refl
grown false b c = refl

more_in : (count n : ℕ) (is_blank : Bool) (line : List ℕ) (found : Option Part) → n ≡ length line →
    label_ok count is_blank (option_map (with_line line) found)
    ≡ label_ok (count + n + 1) (is_blank && list_all is_blank_byte (take n line)) found
more_in count n is_blank line None is = refl
more_in count n is_blank line (Some part) is =
    let sum : count + (suc (length line) + size part.text) ≡ count + n + 1 + size part.text = omega arith in
    ap (λ k. begins_with 93 part.rest && (nat_lt k 1001
    && not (is_blank && (list_all is_blank_byte line && is_blank_label part.text)))) sum
    ∙ ap (λ b. begins_with 93 part.rest && (nat_lt (count + n + 1 + size part.text) 1001 && b))
    (grown is_blank (list_all is_blank_byte line) (is_blank_label part.text))
    ∙ ap (λ xs. begins_with 93 part.rest && (nat_lt (count + n + 1 + size part.text) 1001
    && not ((is_blank && list_all is_blank_byte xs) && is_blank_label part.text)))
    (sym (take_all n line (omega arith)))

pub label_later : (count n : ℕ) (is_blank : Bool) (line : List ℕ) (lines : List (List ℕ)) →
    n ≡ before_unescaped is_bracket line → length line ≤ n →
    label_ok count is_blank (until is_bracket (line ∷ lines))
    ≡ label_ok (count + n + 1) (is_blank && list_all is_blank_byte (take n line))
    (until is_bracket lines)
label_later count n is_blank line lines is over =
    ap (label_ok count is_blank) (until_later is_bracket line lines (omega arith))
    ∙ more_in count n is_blank line (until is_bracket lines) (omega (arith, before-le is_bracket line))

same_rest : (line : List ℕ) (found : Option Part) →
    option_map (λ (part : Part). part.rest) (option_map (with_line line) found)
    ≡ option_map (λ (part : Part). part.rest) found
same_rest line None = refl
same_rest line (Some part) = refl

pub rest_later : (n : ℕ) (line : List ℕ) (lines : List (List ℕ)) →
    n ≡ before_unescaped is_bracket line → length line ≤ n →
    option_map (λ (part : Part). part.rest) (until is_bracket (line ∷ lines))
    ≡ option_map (λ (part : Part). part.rest) (until is_bracket lines)
rest_later n line lines is over =
    ap (option_map (λ (part : Part). part.rest))
    (until_later is_bracket line lines (omega arith))
    ∙ same_rest line (until is_bracket lines)

bracket_at : (line : List ℕ) (n : ℕ) (lines : List (List ℕ)) →
    n ≡ before_unescaped is_bracket line → n < length line → until is_bracket (line ∷ lines)
    ≡ Some (record { text = take n line ∷ []; rest = drop n line ∷ lines })
bracket_at line n lines is within =
    until_here is_bracket line lines (omega arith)
    ∙ ap (λ k. Some (record { text = take k line ∷ []; rest = drop k line ∷ lines })) (sym is)

pub rest_here : (line : List ℕ) (n : ℕ) (lines : List (List ℕ)) →
    n ≡ before_unescaped is_bracket line → n < length line →
    option_map (λ (part : Part). part.rest) (until is_bracket (line ∷ lines))
    ≡ Some (drop n line ∷ lines)
rest_here line n lines is within =
    ap (option_map (λ (part : Part). part.rest)) (bracket_at line n lines is within)

and_true : (a b : Bool) → (a && (b && true)) ≡ (a && b)
and_true true true = refl
and_true true false = refl
and_true false b = refl

pub label_here : (count n : ℕ) (is_blank : Bool) (line : List ℕ) (lines : List (List ℕ)) →
    n ≡ before_unescaped is_bracket line → n < length line → count + n < 1000 →
    label_ok count is_blank (until is_bracket (line ∷ lines))
    ≡ (get_or line n 0 == 93 && not (is_blank && list_all is_blank_byte (take n line)))
label_here count n is_blank line lines is within few =
    ap (label_ok count is_blank) (bracket_at line n lines is within)
    ∙ ap (λ b. b && (nat_lt (count + size (take n line ∷ [])) 1001
    && not (is_blank && (list_all is_blank_byte (take n line) && true)))) (at_stop line n 93 lines within)
    ∙ ap (λ b. get_or line n 0 == 93
    && (b && not (is_blank && (list_all is_blank_byte (take n line) && true))))
    (lt-ltb (count + size (take n line ∷ [])) 1001 (omega (arith, length-take n line)))
    ∙ ap (λ b. get_or line n 0 == 93 && not b) (and_true is_blank (list_all is_blank_byte (take n line)))

never : (a b c : Bool) → b ≡ false → (a && (b && c)) ≡ false
never true b c is = rw is refl
never false b c is = refl

pub label_too_long : (count n : ℕ) (is_blank : Bool) (line : List ℕ) (lines : List (List ℕ)) →
    n ≤ before_unescaped is_bracket line → 1000 ≤ count + n →
    label_ok count is_blank (until is_bracket (line ∷ lines)) ≡ false
label_too_long count n is_blank line lines passed many =
    elim (cases_lt (before_unescaped is_bracket line) (length line)) [
      | inl within ↦
          ap (label_ok count is_blank) (bracket_at line (before_unescaped is_bracket line) lines refl within)
          ∙ never _ _ _ (le-ltb (count + size (take (before_unescaped is_bracket line) line ∷ [])) 1001
          (omega (arith, length-take (before_unescaped is_bracket line) line)))
      | inr over ↦
          ap (label_ok count is_blank) (until_later is_bracket line lines over)
          ∙ over_all (until is_bracket lines)
    ] where
      over_all : (found : Option Part) → label_ok count is_blank (option_map (with_line line) found) ≡ false
      over_all None = refl
      over_all (Some part) =
          never _ _ _ (le-ltb (count + size (line ∷ part.text)) 1001 (omega (arith, before-le is_bracket line)))

-- whether all of so many bytes pass a test, by how many were passed
all_pass : (p : ℕ → Bool) (n : ℕ) (xs : List ℕ) → n ≤ prefix_len p xs →
    list_all p (take n xs) ≡ true
all_pass p zero xs within = refl
all_pass p (suc n) [] within = refl
all_pass p (suc n) (x ∷ xs) within = elim (cases_Bool (p x)) [
  | inl is ↦ rw is (all_pass p n xs (omega (arith, rw is at within)))
  | inr is_not ↦ absurd (omega (arith, rw is_not at within))
]

one_fails : (p : ℕ → Bool) (n : ℕ) (xs : List ℕ) → prefix_len p xs < n → n ≤ length xs →
    list_all p (take n xs) ≡ false
one_fails p zero xs more within = absurd (omega arith)
one_fails p (suc n) [] more within = absurd (omega arith)
one_fails p (suc n) (x ∷ xs) more within = elim (cases_Bool (p x)) [
  | inl is ↦ rw is (one_fails p n xs (omega (arith, rw is at more)) (omega arith))
  | inr is_not ↦ rw is_not refl
]

pub all_trimmed : (p : ℕ → Bool) (xs : List ℕ) (n count : ℕ) → n ≤ length xs → count ≤ n →
    count ≤ 0 + prefix_len p (drop 0 xs) → (count < n → count ≡ 0 + prefix_len p (drop 0 xs)) →
    (count == n) ≡ list_all p (take n xs)
all_trimmed p xs n count within short passed first = elim (cases_lt count n) [
  | inl less ↦
      ne_eqb count n (λ same. omega (arith, same, less))
      ∙ sym (one_fails p n xs (omega (arith, first less)) within)
  | inr all ↦
      eq-eqb count n (omega arith) ∙ sym (all_pass p n xs (omega arith))
]
