-- Definitions of links, part by part.
use Rattle.std.proofs.Common.{◌≡◌, ◌<◌, ◌≤◌, ◌+◌, ◌-◌, ◌++◌, ◌∙◌, ℕ, Bool, true, false, List, [], ◌∷◌, zero, suc}
use Rattle.std.proofs.Common.{length, drop, take, arith, ap, refl, sym, inl, inr, subst, min, drop-cons, get_or}
use Rattle.std.specs.Prelude.{Option, Some, None, option_map, if◌then◌else◌, ◌&&◌, ◌||◌, not, ◌==◌, map}
use Rattle.std.specs.List.{list_any}
use Rattle.std.specs.Prelude.{replicate}
use Rattle.md_blocks.specs.Entries.{Line}
use Rattle.md_blocks.specs.Tapes.{are_whole, between, line_of}
use Rattle.std.specs.Str.{is_utf8, IsUtf8}
use Rattle.std.proofs.lemmas.Bool.{and_parts, cases_Bool, eq-eqb, ne_eqb}
use Rattle.std.proofs.lemmas.List.{drop-append-le, length-drop, length-map, drop-map, drop-drop, drop-take, drop_all}
use Rattle.std.proofs.lemmas.Str.{IsUtf8-from_is_utf8}
use Rattle.md_lines.specs.declared.line.Line.{Line as Place}
use Rattle.md_lines.specs.declared.span.Span.{Span}
use Rattle.std.specs.Prelude.{IfSome, Result, Ok, Err, OnErr, OnOk}
use Rattle.md_lines.specs.Reading.{line_text}
use Rattle.md_lines.specs.Texts.{Part, is_none, begins_with, after_next}
use Rattle.md_lines.specs.Texts.{after_line_end}
use Rattle.md_lines.specs.LinkParts.{destination_at, label_at}
use Rattle.md_blocks.specs.LinkDefinitions.{Definition, Target, with_title, titled}
use Rattle.md_blocks.specs.LinkDefinitions.{target_after, target_at, with_form, definition_of}
use Rattle.md_blocks.specs.LinkDefinitions.{definition_after, definition_at, defined_from, label_form, printed}
use Rattle.md_lines.specs.LinkParts.{title_at}
use Rattle.md_lines.specs.Texts.{after_spaces, begins_with_space}
use Rattle.md_blocks.specs.LinkDefinitions.{first_of, without_title}
use Rattle.md_blocks.specs.Passes.{texts_from}

pub not_utf8 : (text : List ℕ) → (IsUtf8 text → ⊥) → is_utf8 text ≡ false
not_utf8 text none = elim (cases_Bool (is_utf8 text)) [
  | inl is ↦ absurd (none (IsUtf8-from_is_utf8 text is))
  | inr is_not ↦ is_not
]

-- a line that ends after a title
pub ended : (destination : List ℕ) (title : Option Part) (rest lines : List (List ℕ)) →
    option_map (λ (part : Part). part.rest) title ≡ Some rest → after_line_end rest ≡ Some lines →
    option_map (λ (target : Target). target.rest) (with_title destination title) ≡ Some lines
ended destination None rest lines is ends = cc
ended destination (Some title) rest lines is ends =
    let same : title.rest ≡ rest = cc in
    ap (λ o. option_map (λ (target : Target). target.rest) (elim o [
      | None ↦ None
      | Some rest ↦
          Some (record { destination = destination; title = Some title.text; rest = rest })
    ])) (ap after_line_end same ∙ ends)

pub not_ended : (destination : List ℕ) (title : Option Part) (rest : List (List ℕ)) →
    option_map (λ (part : Part). part.rest) title ≡ Some rest → after_line_end rest ≡ None →
    with_title destination title ≡ None
not_ended destination None rest is ends = refl
not_ended destination (Some title) rest is ends =
    let same : title.rest ≡ rest = cc in
    ap (λ (o : Option (List (List ℕ))). elim o as (λ _. Option Target) [
      | None ↦ None
      | Some rest ↦
          Some (record { destination = destination; title = Some title.text; rest = rest })
    ]) (ap after_line_end same ∙ ends)

just : {one other : Target} → Some one ≡ Some other → one ≡ other
just is = cc

-- whatever ends a definition keeps its destination
ends_with : (destination : List ℕ) (title : Option (List (List ℕ)))
    (end : Option (List (List ℕ))) (target : Target) →
    elim end as (λ _. Option Target) [
      | None ↦ None
      | Some rest ↦ Some (record { destination = destination; title = title; rest = rest })
    ] ≡ Some target → target.destination ≡ destination
ends_with destination title None target is = cc
ends_with destination title (Some rest) target is =
    ap (λ (t : Target). t.destination) (sym (just is))

titled_keeps : (destination : List ℕ) (text : List (List ℕ)) (target : Target) →
    titled destination text ≡ Some target → target.destination ≡ destination
titled_keeps destination text target is =
    of_first (if begins_with_space text then with_title destination (title_at (after_spaces text))
    else None) (by_space (begins_with_space text)) is where
      by_title : (title : Option Part) (one : Target) → with_title destination title ≡ Some one →
          one.destination ≡ destination
      by_title None one is = cc
      by_title (Some title) one is =
          ends_with destination (Some title.text) (after_line_end title.rest) one is

      by_space : (spaced : Bool) (one : Target) →
          (if spaced then with_title destination (title_at (after_spaces text)) else None) ≡ Some one →
          one.destination ≡ destination
      by_space true one is = by_title (title_at (after_spaces text)) one is
      by_space false one is = cc

      of_first : (first : Option Target) →
          ((one : Target) → first ≡ Some one → one.destination ≡ destination) →
          first_of first (without_title destination text) ≡ Some target →
          target.destination ≡ destination
      of_first None keeps is = ends_with destination None (after_line_end text) target is
      of_first (Some one) keeps is =
          ap (λ (t : Target). t.destination) (sym (just is)) ∙ keeps one refl

dest_of : (destination : List ℕ) (text lines : List (List ℕ)) →
    option_map (λ (target : Target). target.rest) (titled destination text) ≡ Some lines →
    option_map (λ (target : Target). target.destination) (titled destination text)
    ≡ Some destination
dest_of destination text lines is = known (titled destination text) refl is where
  known : (found : Option Target) → titled destination text ≡ found →
      option_map (λ (target : Target). target.rest) found ≡ Some lines →
      option_map (λ (target : Target). target.destination) (titled destination text)
      ≡ Some destination
  known None same is = cc
  known (Some target) same is =
      ap (option_map (λ (target : Target). target.destination)) same
      ∙ ap (λ d. Some d) (titled_keeps destination text target same)

pub destination_kept : {C : Type 0} (found : Option C) (span_of : C → Span) (span : Span)
    (text_of : Span → List ℕ) (text lines : List (List ℕ)) →
    IfSome found (λ _. option_map (λ (target : Target). target.rest) (titled (text_of span) text)
    ≡ Some lines) → IfSome found (λ one. span_of one ≡ span) →
    IfSome found (λ one. option_map (λ (target : Target). target.destination)
    (titled (text_of span) text) ≡ Some (text_of (span_of one)))
destination_kept None span_of span text_of text lines is kept = tt
destination_kept (Some one) span_of span text_of text lines is kept =
    dest_of (text_of span) text lines is ∙ ap (λ s. Some (text_of s)) (sym kept)

-- whether a destination is empty
none_is : (text : List ℕ) (a b : ℕ) → length text ≡ b - a → a ≤ b → is_none text ≡ (a == b)
none_is [] a b long order = sym (eq-eqb a b (omega arith))
none_is (byte ∷ text) a b long order = sym (ne_eqb a b (λ same. omega (arith, same)))

pub target_is : (line : List ℕ) (lines : List (List ℕ)) (destination rest : List ℕ)
    (later : List (List ℕ)) (is_pointed : Bool) (a b : ℕ) (is_missing : Bool) →
    destination_at line ≡ Some (record { text = destination; rest = rest }) → later ≡ lines →
    length destination ≡ b - a → a ≤ b → is_missing ≡ ((a == b) && not is_pointed) →
    target_after is_pointed (destination_at line) lines
    ≡ (if is_missing then None else titled destination (rest ∷ later))
target_is line lines destination rest later is_pointed a b is_missing is same long order missing =
    ap (λ o. target_after is_pointed o lines) is
    ∙ ap (λ n. if n && not is_pointed then None else titled destination (rest ∷ lines))
    (none_is destination a b long order)
    ∙ ap (λ m. if m then None else titled destination (rest ∷ lines)) (sym missing)
    ∙ ap (λ ls. if is_missing then None else titled destination (rest ∷ ls)) (sym same)

-- a definition from its parts
module _ (text : List (List ℕ)) (opens : begins_with 91 text ≡ true) where
  opened : definition_at text ≡ definition_after (label_at (after_next text))
  opened = ap (λ b. if b then definition_after (label_at (after_next text)) else None) opens

  rest_of : (label : Part) (target : Option Target) (lines : List (List ℕ)) (form : List ℕ) →
      option_map (λ (target : Target). target.rest) target ≡ Some lines →
      label_form label.text ≡ Some form →
      option_map (λ (definition : Definition). definition.rest) (definition_of label target)
      ≡ Some lines
  rest_of label None lines form is known = cc
  rest_of label (Some target) lines form is known =
      let same : target.rest ≡ lines = cc in
      ap (λ o. option_map (λ (definition : Definition). definition.rest) (with_form label target o)) known
      ∙ ap (λ ls. Some ls) same

  part_of : (label : Part) (target : Option Target) (destination form : List ℕ) →
      option_map (λ (target : Target). target.destination) target ≡ Some destination →
      label_form label.text ≡ Some form →
      option_map (λ (definition : Definition). definition.destination) (definition_of label target)
      ≡ Some destination
  part_of label None destination form is known = cc
  part_of label (Some target) destination form is known =
      let same : target.destination ≡ destination = cc in
      ap (λ o. option_map (λ (definition : Definition). definition.destination)
      (with_form label target o)) known
      ∙ ap (λ d. Some d) same

  pub with_destination : (label : Part) (destination form : List ℕ) →
      label_at (after_next text) ≡ Some label →
      option_map (λ (target : Target). target.destination) (target_at label.rest)
      ≡ Some destination → label_form label.text ≡ Some form →
      option_map (λ (definition : Definition). definition.destination) (definition_at text)
      ≡ Some destination
  with_destination label destination form is found known =
      ap (option_map (λ (definition : Definition). definition.destination))
      (opened ∙ ap definition_after is)
      ∙ part_of label (target_at label.rest) destination form found known

  no_form : (label : Part) (target : Option Target) → label_form label.text ≡ None →
      definition_of label target ≡ None
  no_form label None none = refl
  no_form label (Some target) none = ap (with_form label target) none

  pub with_rest : (label : Part) (lines : List (List ℕ)) (form : List ℕ) →
      label_at (after_next text) ≡ Some label →
      option_map (λ (target : Target). target.rest) (target_at label.rest) ≡ Some lines →
      label_form label.text ≡ Some form →
      option_map (λ (definition : Definition). definition.rest) (definition_at text) ≡ Some lines
  with_rest label lines form is found known =
      ap (option_map (λ (definition : Definition). definition.rest)) (opened ∙ ap definition_after is)
      ∙ rest_of label (target_at label.rest) lines form found known

  pub without_form : (label : Part) → label_at (after_next text) ≡ Some label →
      label_form label.text ≡ None → definition_at text ≡ None
  without_form label is none =
      opened ∙ ap definition_after is ∙ no_form label (target_at label.rest) none

pub not_opened : (text : List (List ℕ)) → begins_with 91 text ≡ false → definition_at text ≡ None
not_opened text is = ap (λ b. if b then definition_after (label_at (after_next text)) else None) is

-- how many lines are definitions: the rest of one, and then those after it
skips : (left : ℕ) (text : List (List ℕ)) → left ≤ length text →
    defined_from left text ≡ left + defined_from 0 (drop left text)
skips zero text few = omega arith
skips (suc left) [] few = absurd (omega arith)
skips (suc left) (line ∷ lines) few = omega (arith, skips left lines (omega arith))

pub none_defined : (text : List (List ℕ)) → definition_at text ≡ None → defined_from 0 text ≡ 0
none_defined [] is = refl
none_defined (line ∷ lines) is =
    ap (λ o. if count_of o == 0 then 0 else suc (defined_from (count_of o - 1) lines)) is where
      count_of : Option Definition → ℕ
      count_of o = elim o [
        | None ↦ 0
        | Some definition ↦ suc (length lines) - length definition.rest
      ]

pub all_read : (bytes : List ℕ) (lines : List Place) (at : ℕ) → length lines ≤ at →
    defined_from 0 (texts_from bytes lines at) ≡ 0
all_read bytes lines at over = ap (λ xs. defined_from 0 (map (line_text bytes) xs)) (drop_all at lines over)

length_by : (found : Option Definition) (total : ℕ) (rest : List (List ℕ)) →
    option_map (λ (definition : Definition). definition.rest) found ≡ Some rest →
    elim found [ None ↦ 0 | Some definition ↦ total - length definition.rest ] ≡ total - length rest
length_by None total rest is = cc
length_by (Some definition) total rest is =
    let same : definition.rest ≡ rest = cc in ap (λ xs. total - length xs) same

counted : (line : List ℕ) (lines rest : List (List ℕ)) →
    option_map (λ (definition : Definition). definition.rest) (definition_at (line ∷ lines)) ≡ Some rest →
    length rest ≤ length lines → defined_from 0 (line ∷ lines)
    ≡ suc (length lines - length rest + defined_from 0 (drop (length lines - length rest) lines))
counted line lines rest is fewer =
    let count = suc (length lines) - length rest in
    let less : count - 1 ≡ length lines - length rest = omega arith in
    ap (λ k. if k == 0 then 0 else suc (defined_from (k - 1) lines))
    (length_by (definition_at (line ∷ lines)) (suc (length lines)) rest is)
    ∙ ap (λ b. if b then 0 else suc (defined_from (count - 1) lines))
    (ne_eqb count 0 (λ none. omega (arith, none, fewer)))
    ∙ ap (λ k. suc (defined_from k lines)) less
    ∙ ap (λ n. suc n) (skips (length lines - length rest) lines (omega arith))

head_of : {A : Type 0} (xs : List A) (k : ℕ) → k < length xs →
    (x : A) × (drop k xs ≡ x ∷ drop (suc k) xs)
head_of [] k within = absurd (omega arith)
head_of (x ∷ xs) zero within = (x, refl)
head_of (x ∷ xs) (suc k) within = head_of xs k (omega arith)

pub one_defined : (bytes : List ℕ) (lines : List Place) (at next : ℕ) → at < length lines → at < next →
    option_map (λ (definition : Definition). definition.rest) (definition_at (texts_from bytes lines at))
    ≡ Some (texts_from bytes lines next) →
    at + defined_from 0 (texts_from bytes lines at)
    ≡ min next (length lines) + defined_from 0 (texts_from bytes lines (min next (length lines)))
one_defined bytes lines at next within forward is =
    let first = head_of lines at within in
    let later = texts_from bytes lines (suc at) in
    let shape : texts_from bytes lines at ≡ line_text bytes first.0 ∷ later =
    ap (map (line_text bytes)) first.1 in
    let rest = texts_from bytes lines next in
    let rest_long : length rest ≡ length lines - next =
    length-map (drop next lines) (line_text bytes) ∙ length-drop next lines in
    let later_long : length later ≡ length lines - suc at =
    length-map (drop (suc at) lines) (line_text bytes) ∙ length-drop (suc at) lines in
    let known = subst (λ text. option_map (λ (definition : Definition). definition.rest)
    (definition_at text) ≡ Some rest) shape is in
    let skipped = length later - length rest in
    let place : suc at + skipped ≡ min next (length lines) = omega arith in
    let left : drop skipped later ≡ texts_from bytes lines (min next (length lines)) =
    drop-map (line_text bytes) skipped (drop (suc at) lines)
    ∙ ap (map (line_text bytes)) (drop-drop skipped (suc at) lines)
    ∙ ap (texts_from bytes lines) place in
    omega (
      arith,
      ap (defined_from 0) shape,
      counted (line_text bytes first.0) later rest known (omega arith),
      ap (defined_from 0) left,
      place,
    )

-- the text of a line, and of those after it
pub texts_at : (bytes : List ℕ) (lines : List Place) (at : ℕ) (line : Place) → at < length lines →
    line ≡ get_or lines at line →
    texts_from bytes lines at ≡ line_text bytes line ∷ texts_from bytes lines (suc at)
texts_at bytes lines at line within is =
    ap (map (line_text bytes)) (drop-cons lines at line within)
    ∙ ap (λ x. line_text bytes x ∷ texts_from bytes lines (suc at)) (sym is)

-- a text without NUL
pub no_nul : (text : List ℕ) → list_any (λ byte. byte == 0) text ≡ false → printed text ≡ text
no_nul [] is = refl
no_nul (byte ∷ text) is = elim (cases_Bool (byte == 0)) [
  | inl nul ↦
      let both : true ≡ false = sym (ap (λ b. b || list_any (λ byte. byte == 0) text) nul) ∙ is in
      absurd (differ both)
  | inr other ↦
      ap (λ b. (if b then 239 ∷ 191 ∷ 189 ∷ [] else byte ∷ []) ++ printed text) other
      ∙ ap (λ xs. byte ∷ xs)
      (no_nul text (sym (ap (λ b. b || list_any (λ byte. byte == 0) text) other) ∙ is))
] where
  differ : true ≡ false → ⊥
  differ both = cc

-- the texts of lines of which no columns belong to the prefixes
pub whole_texts : (bytes : List ℕ) (lines : List Place) → are_whole lines ≡ true →
    map (line_text bytes) lines ≡ map (λ (line : Line). line.text) (map (line_of bytes) lines)
whole_texts bytes [] whole = refl
whole_texts bytes (line ∷ lines) whole =
    sym (ap (λ b. (if b then between line.start line.end bytes
    else replicate (4 - line.columns) 32 ++ between (suc line.start) line.end bytes)
    ∷ map (λ (line : Line). line.text) (map (line_of bytes) lines))
    (and_parts (line.columns == 0) (are_whole lines) whole).0
    ∙ ap (λ xs. line_text bytes line ∷ xs)
    (sym (whole_texts bytes lines (and_parts (line.columns == 0) (are_whole lines) whole).1)))

pub moved_by : (before after start count : ℕ) → after ≡ start → start ≡ before + count →
    after - before ≡ count
moved_by before after start count is sum = omega arith

-- whole lines are whole from one of them on, up to one of them, and with another one
pub whole_drop : (n : ℕ) (lines : List Place) → are_whole lines ≡ true → are_whole (drop n lines) ≡ true
whole_drop zero lines whole = whole
whole_drop (suc n) [] whole = whole
whole_drop (suc n) (line ∷ lines) whole =
    whole_drop n lines (and_parts (line.columns == 0) (are_whole lines) whole).1

pub whole_take : (n : ℕ) (lines : List Place) → are_whole lines ≡ true → are_whole (take n lines) ≡ true
whole_take zero lines whole = refl
whole_take (suc n) [] whole = refl
whole_take (suc n) (line ∷ lines) whole =
    let parts = and_parts (line.columns == 0) (are_whole lines) whole in
    ap (λ so. so && are_whole (take n lines)) parts.0 ∙ whole_take n lines parts.1

pub whole_push : (lines : List Place) (line : Place) → are_whole lines ≡ true → line.columns ≡ 0 →
    are_whole (lines ++ line ∷ []) ≡ true
whole_push [] line whole none = ap (λ n. n == 0 && true) none
whole_push (one ∷ lines) line whole none =
    let parts = and_parts (one.columns == 0) (are_whole lines) whole in
    ap (λ so. so && are_whole (lines ++ line ∷ [])) parts.0 ∙ whole_push lines line parts.1 none

pub whole_later : (from to : ℕ) (lines : List Place) → from ≤ to → are_whole (drop from lines) ≡ true →
    are_whole (drop to lines) ≡ true
whole_later from to lines forward is =
    let whole : from + (to - from) ≡ to = omega (arith, forward) in
    sym (ap are_whole (drop-drop (to - from) from lines ∙ ap (λ n. drop n lines) whole))
    ∙ whole_drop (to - from) (drop from lines) is

-- lines after one is pushed, or memory ran out
pub whole_pushed : {A E : Type 0} (r : Result A E) (before after : List Place) (line : Place) (start : ℕ) →
    OnOk r (after ≡ before ++ line ∷ []) → OnErr r (after ≡ before) → start ≤ length before →
    are_whole (drop start before) ≡ true → line.columns ≡ 0 → are_whole (drop start after) ≡ true
whole_pushed (Ok _) before after line start ok err within is none =
    ap (λ those. are_whole (drop start those)) ok
    ∙ ap are_whole (drop-append-le start before (line ∷ []) within)
    ∙ whole_push (drop start before) line is none
whole_pushed (Err _) before after line start ok err within is none =
    ap (λ those. are_whole (drop start those)) err ∙ is

pub whole_before : (from to : ℕ) (lines : List Place) → from ≤ to → are_whole (drop from lines) ≡ true →
    are_whole (drop from (take to lines)) ≡ true
whole_before from to lines forward is =
    let whole : from + (to - from) ≡ to = omega (arith, forward) in
    ap (λ n. are_whole (drop from (take n lines))) (sym whole)
    ∙ ap are_whole (drop-take from (to - from) lines)
    ∙ whole_take (to - from) (drop from lines) is
