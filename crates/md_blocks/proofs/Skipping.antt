-- A further blank line changes nothing.
use Rattle.std.proofs.Common.{ℕ, Bool, List, [], ◌∷◌, ◌++◌, ◌≡◌, ◌∙◌, ◌==◌, ◌&&◌, ◌+◌, ◌-◌, true, false, refl, sym, ap}
use Rattle.std.proofs.Common.{Option, Some, None, arith, length, drop, take, nat_lt, not, zero, suc, cond}
use Rattle.std.specs.Prelude.{◌||◌, replicate, if◌then◌else◌}
use Rattle.std.specs.List.{list_all, list_any}
use Rattle.std.proofs.lemmas.Bool.{and_parts, eq-eqb, false≢true}
use Rattle.std.proofs.lemmas.List.{drop_all, take_all, append-nil}
use Rattle.md_blocks.specs.Entries.{Entry, ContainerEnds}
use Rattle.md_blocks.specs.LeafBlocks.{blank_read, blank_waits, is_indented, line_added}
use Rattle.md_blocks.specs.States.{InFenced, InHtml, InIndented, InMath, InParagraph, InTable, closed_to, with_leaf}
use Rattle.md_blocks.specs.Entries.{Line}
use Rattle.md_blocks.proofs.StateLemmas.{alike, st}
use Rattle.md_blocks.proofs.Steps.{or_text}
use Rattle.md_lines.specs.Lines.{is_blank}
use Rattle.md_blocks.specs.declared.nesting.Open.{Open}
use Rattle.md_blocks.specs.declared.block.ContainerKind.TheVariants.{Quote, Item, OrderedList, UnorderedList, FootnoteDefinition}
use Rattle.md_blocks.specs.declared.options.MarkdownOptions.{MarkdownOptions}
use Rattle.md_blocks.specs.BlockStructure.{begun, line_read}
use Rattle.md_blocks.specs.Containers.{Matched, continued, indented_continued, matched}
use Rattle.md_blocks.specs.Leaves.{blanks}
use Rattle.md_blocks.specs.Rests.{Rest, indent, is_blank_rest, is_none, rest_at, skipped, skipped_at, width}
use Rattle.md_blocks.specs.Stack.{is_quote, quotes_depth}
use Rattle.md_blocks.specs.States.{State, Leaf, NoLeaf, containers_closed, leaf_closed}
use Rattle.md_blocks.proofs.Folds.{begun_blank}
use Rattle.md_blocks.proofs.TextBytes.{and_false}
use Rattle.md_blocks.specs.declared.block.ContainerKind.{ContainerKind}

-- whether a text has only spaces and tabs, byte by byte
abbrev blank_bytes : List ℕ → Bool
blank_bytes text = list_all is_blank text

by_byte : (is : Bool) (byte count : ℕ) (rest : List ℕ) → is_none (drop count rest) ≡ blank_bytes rest →
    is_none (drop (cond is (1 + count) 0) (byte ∷ rest)) ≡ (is && blank_bytes rest)
by_byte true byte count rest is =
    let more : 1 + count ≡ suc count = omega arith in
    ap (λ n. is_none (drop n (byte ∷ rest))) more ∙ is
by_byte false byte count rest is = refl

drops_all : (text : List ℕ) → is_none (drop (blanks text) text) ≡ blank_bytes text
drops_all [] = refl
drops_all (byte ∷ rest) = by_byte (is_blank byte) byte (blanks rest) rest (drops_all rest)

spaced : (n : ℕ) (text : List ℕ) → blank_bytes (replicate n 32 ++ text) ≡ blank_bytes text
spaced zero text = refl
spaced (suc n) text = spaced n text

-- columns that are skipped leave a blank text blank, and no other one
by_tests : (columns column byte : ℕ) (rest : List ℕ) (none blank part : Bool) → is_blank byte ≡ blank →
    blank_bytes (skipped_at (columns - width column byte) (column + width column byte) rest).text
    ≡ blank_bytes rest →
    blank_bytes (if none || not blank then rest_at column (byte ∷ rest)
    else if part
    then rest_at (column + columns) (replicate (width column byte - columns) 32 ++ rest)
    else skipped_at (columns - width column byte) (column + width column byte) rest).text
    ≡ blank_bytes (byte ∷ rest)
by_tests columns column byte rest true blank part is inner = refl
by_tests columns column byte rest false false part is inner = refl
by_tests columns column byte rest false true true is inner =
    spaced (width column byte - columns) rest ∙ ap (λ so. so && blank_bytes rest) (sym is)
by_tests columns column byte rest false true false is inner =
    inner ∙ ap (λ so. so && blank_bytes rest) (sym is)

skips_blank : (columns column : ℕ) (text : List ℕ) →
    blank_bytes (skipped_at columns column text).text ≡ blank_bytes text
skips_blank columns column [] = refl
skips_blank columns column (byte ∷ rest) =
    by_tests columns column byte rest (columns == 0) (is_blank byte) (nat_lt columns (width column byte)) refl
    (skips_blank (columns - width column byte) (column + width column byte) rest)

pub skipped_blank : (columns : ℕ) (rest : Rest) →
    is_blank_rest (skipped columns rest) ≡ is_blank_rest rest
skipped_blank columns rest =
    drops_all (skipped columns rest).text ∙ skips_blank columns rest.column rest.text
    ∙ sym (drops_all rest.text)

-- whether a container goes on in a blank line
abbrev pub goes_blank : Open → Bool
goes_blank container = elim container.kind [ Quote ↦ false | Item ↦ container.has_child | _ ↦ true ]

-- such containers all go on in a blank line
goes_on_blank : (container : Open) (rest : Rest) → goes_blank container ≡ true →
    is_blank_rest rest ≡ true →
    (after : Rest) × (continued container rest ≡ Some after) × (is_blank_rest after ≡ true)
goes_on_blank container rest goes is = by_kind container.kind refl where
  columned : (columns : ℕ) → (after : Rest) × (indented_continued columns rest ≡ Some after)
      × (is_blank_rest after ≡ true)
  columned columns = (
    skipped columns rest,
    ap (λ so. if nat_lt (indent rest) columns && not so then None else Some (skipped columns rest)) is
        ∙ ap (λ so. if so then None else Some (skipped columns rest)) (and_false (nat_lt (indent rest) columns)),
    skipped_blank columns rest ∙ is,
  )

  by_kind : (kind : ContainerKind) → container.kind ≡ kind →
      (after : Rest) × (continued container rest ≡ Some after) × (is_blank_rest after ≡ true)
  by_kind OrderedList e = (rest, ap (λ k. continued (record container { kind = k }) rest) e, is)
  by_kind UnorderedList e = (rest, ap (λ k. continued (record container { kind = k }) rest) e, is)
  by_kind FootnoteDefinition e =
      let found = columned 4 in
      (found.0, ap (λ k. continued (record container { kind = k }) rest) e ∙ found.1, found.2)
  by_kind Quote e =
      absurd (false≢true (sym (ap (λ k. goes_blank (record container { kind = k })) e) ∙ goes))
  by_kind Item e =
      let found = columned container.indent in
      let child : container.has_child ≡ true =
      sym (ap (λ k. goes_blank (record container { kind = k })) e) ∙ goes in (
        found.0,
        ap (λ k. continued (record container { kind = k }) rest) e
            ∙ ap (λ so. if is_blank_rest rest && not so then None
            else indented_continued container.indent rest) child
            ∙ ap (λ so. if so then None else indented_continued container.indent rest)
            (and_false (is_blank_rest rest))
            ∙ found.1,
        found.2,
      )

-- all of them do
pub all_match : (containers : List Open) (rest : Rest) (n : ℕ) → list_all goes_blank containers ≡ true →
    is_blank_rest rest ≡ true →
    ((matched n containers rest).count ≡ n + length containers)
    × (is_blank_rest (matched n containers rest).rest ≡ true)
all_match [] rest n goes is = (omega arith, is)
all_match (container ∷ others) rest n goes is =
    let both = and_parts (goes_blank container) (list_all goes_blank others) goes in
    let found = goes_on_blank container rest both.0 is in
    let inner = all_match others found.0 (suc n) both.1 found.2 in
    let same : matched n (container ∷ others) rest ≡ matched (suc n) others found.0 =
    ap (λ f. elim f [
      | None ↦ record { count = n; rest = rest }
      | Some after ↦ matched (suc n) others after
    ]) found.1 in (
      ap (λ m. m.count) same ∙ inner.0 ∙ omega arith,
      ap (λ m. is_blank_rest m.rest) same ∙ inner.1,
    )

closed : (entries : List Entry) (containers : List Open) (lacking : ℕ) →
    containers_closed (length containers) (st entries containers NoLeaf (Some (quotes_depth containers)) lacking)
    ≡ st entries containers NoLeaf (Some (quotes_depth containers)) lacking
closed entries containers lacking =
    alike _ _
    (ap (λ those. entries ++ replicate (length those) ContainerEnds)
    (drop_all (length containers) containers (omega arith)) ∙ append-nil entries)
    (take_all (length containers) containers (omega arith)) refl refl refl

waited : (entries : List Entry) (containers : List Open) (lacking : ℕ) (ended : Bool) →
    blank_waits ended
    (containers_closed (length containers) (st entries containers NoLeaf (Some (quotes_depth containers)) lacking))
    ≡ st entries containers NoLeaf (Some (quotes_depth containers)) lacking
waited entries containers lacking true = ap (blank_waits true) (closed entries containers lacking)
waited entries containers lacking false = closed entries containers lacking

-- so a further blank line changes nothing
pub skips : (entries : List Entry) (containers : List Open) (lacking : ℕ) (options : MarkdownOptions)
    (ended : Bool) (rest : Rest) (ending : List ℕ) →
    list_all goes_blank containers ≡ true → is_blank_rest rest ≡ true →
    line_read options ended rest ending (st entries containers NoLeaf (Some (quotes_depth containers)) lacking)
    ≡ st entries containers NoLeaf (Some (quotes_depth containers)) lacking
skips entries containers lacking options ended rest ending goes is =
    let state = st entries containers NoLeaf (Some (quotes_depth containers)) lacking in
    let found = all_match containers rest 0 goes is in
    let after = matched 0 containers rest in
    let count : after.count ≡ length containers = found.0 ∙ omega arith in
    ap (λ so. or_text (if so then None else None)
    (begun (length after.rest.text) options 0 after.count (after.count == length containers) ended false
    after.rest ending state)) (eq-eqb after.count (length containers) count)
    ∙ begun_blank (length after.rest.text) options 0 after.count (after.count == length containers) ended
    false after.rest ending state found.1
    ∙ ap (λ so. blank_waits ended (if so && false then state else containers_closed after.count state))
    (eq-eqb after.count (length containers) count)
    ∙ ap (λ c. blank_waits ended (containers_closed c state)) count
    ∙ waited entries containers lacking ended

-- the containers that a line continues
abbrev pub taken : List Open → Rest → List Open
taken [] rest = []
taken (container ∷ others) rest = elim (continued container rest) [
  | None ↦ []
  | Some after ↦ container ∷ taken others after
]

quote_gone : (container : Open) (others : List Open) → list_any is_quote (container ∷ others) ≡ false →
    (is_quote container ≡ false) × (list_any is_quote others ≡ false)
quote_gone container others none = by (is_quote container) refl none where
  by : (is : Bool) → is_quote container ≡ is → (is || list_any is_quote others) ≡ false →
      (is_quote container ≡ false) × (list_any is_quote others ≡ false)
  by true e none = absurd (false≢true (sym none))
  by false e none = (e, none)

-- a container that goes on, and leaves a blank rest, goes on in a blank line
was_blank : (container : Open) (rest after : Rest) → continued container rest ≡ Some after →
    is_quote container ≡ false → is_blank_rest after ≡ true →
    (goes_blank container ≡ true) × (is_blank_rest rest ≡ true)
was_blank container rest after is no_quote blank = by_kind container.kind refl where
  inside : Option Rest → Rest
  inside found = elim found [ Some there ↦ there | None ↦ rest_at 0 (65 ∷ []) ]

  columned : (columns : ℕ) (off : Bool) →
      (if off then None else Some (skipped columns rest)) ≡ Some after → is_blank_rest rest ≡ true
  columned columns true found = absurd (false≢true (ap (λ f. elim f [ Some _ ↦ true | None ↦ false ]) found))
  columned columns false found =
      sym (skipped_blank columns rest) ∙ ap (λ f. is_blank_rest (inside f)) found ∙ blank

  by_kind : (kind : ContainerKind) → container.kind ≡ kind →
      (goes_blank container ≡ true) × (is_blank_rest rest ≡ true)
  by_kind OrderedList e = (
    ap (λ k. goes_blank (record container { kind = k })) e,
    ap (λ f. is_blank_rest (inside f)) (sym (ap (λ k. continued (record container { kind = k }) rest) e) ∙ is) ∙ blank,
  )
  by_kind UnorderedList e = (
    ap (λ k. goes_blank (record container { kind = k })) e,
    ap (λ f. is_blank_rest (inside f)) (sym (ap (λ k. continued (record container { kind = k }) rest) e) ∙ is) ∙ blank,
  )
  by_kind FootnoteDefinition e = (
    ap (λ k. goes_blank (record container { kind = k })) e,
    columned 4 (nat_lt (indent rest) 4 && not (is_blank_rest rest))
        (sym (ap (λ k. continued (record container { kind = k }) rest) e) ∙ is),
  )
  by_kind Quote e =
      absurd (false≢true (sym no_quote ∙ ap (λ k. is_quote (record container { kind = k })) e))
  by_kind Item e = by_child container.has_child refl where
    as_item : (if is_blank_rest rest && not container.has_child then None
        else indented_continued container.indent rest) ≡ Some after
    as_item = sym (ap (λ k. continued (record container { kind = k }) rest) e) ∙ is

    by_child : (child : Bool) → container.has_child ≡ child →
        (goes_blank container ≡ true) × (is_blank_rest rest ≡ true)
    by_child true has = (
      ap (λ k. goes_blank (record container { kind = k })) e ∙ has,
      columned container.indent (nat_lt (indent rest) container.indent && not (is_blank_rest rest))
          (sym (ap (λ so. if is_blank_rest rest && not so then None
          else indented_continued container.indent rest) has
          ∙ ap (λ so. if so then None else indented_continued container.indent rest)
          (and_false (is_blank_rest rest))) ∙ as_item),
    )
    by_child false has = absurd (by_blank (is_blank_rest rest) refl) where
      by_blank : (there : Bool) → is_blank_rest rest ≡ there → ⊥
      by_blank true e' = false≢true (ap (λ f. elim f [ Some _ ↦ true | None ↦ false ])
          (sym (ap (λ so. if is_blank_rest rest && not so then None
          else indented_continued container.indent rest) has
          ∙ ap (λ so. if so && true then None else indented_continued container.indent rest) e') ∙ as_item))
      by_blank false e' = false≢true (sym e'
          ∙ columned container.indent (nat_lt (indent rest) container.indent && not (is_blank_rest rest))
          (sym (ap (λ so. if so && not container.has_child then None
          else indented_continued container.indent rest) e') ∙ as_item))

abbrev match_or : ℕ → List Open → Rest → Option Rest → Matched
match_or n others rest found = elim found [
  | None ↦ record { count = n; rest = rest }
  | Some after ↦ matched (suc n) others after
]

abbrev taken_or : Open → List Open → Option Rest → List Open
taken_or container others found = elim found [ None ↦ [] | Some after ↦ container ∷ taken others after ]

one_accepted : (container : Open) (others : List Open) (rest : Rest) (n : ℕ) (found : Option Rest) →
    continued container rest ≡ found →
    ((after : Rest) → list_any is_quote (taken others after) ≡ false →
    is_blank_rest (matched (suc n) others after).rest ≡ true →
    (list_all goes_blank (taken others after) ≡ true) × (is_blank_rest after ≡ true)) →
    list_any is_quote (taken_or container others found) ≡ false →
    is_blank_rest (match_or n others rest found).rest ≡ true →
    (list_all goes_blank (taken_or container others found) ≡ true)
    × (is_blank_rest rest ≡ true)
one_accepted container others rest n None e inner no_quote blank = (refl, blank)
one_accepted container others rest n (Some after) e inner no_quote blank =
    let parts = quote_gone container (taken others after) no_quote in
    let later = inner after parts.1 blank in
    let here = was_blank container rest after e parts.0 later.1 in (
      ap (λ so. so && list_all goes_blank (taken others after)) here.0 ∙ later.0,
      here.1,
    )

pub accepted : (containers : List Open) (rest : Rest) (n : ℕ) →
    list_any is_quote (taken containers rest) ≡ false →
    is_blank_rest (matched n containers rest).rest ≡ true →
    (list_all goes_blank (taken containers rest) ≡ true) × (is_blank_rest rest ≡ true)
accepted [] rest n no_quote blank = (refl, blank)
accepted (container ∷ others) rest n no_quote blank =
    one_accepted container others rest n (continued container rest) refl
    (λ after. accepted others after (suc n)) no_quote blank

one_taken : (container : Open) (others : List Open) (rest : Rest) (n : ℕ) (found : Option Rest) →
    ((after : Rest) → ((matched (suc n) others after).count ≡ suc n + length (taken others after))
    × (take (length (taken others after)) others ≡ taken others after)) →
    ((match_or n others rest found).count ≡ n + length (taken_or container others found))
    × (take (length (taken_or container others found)) (container ∷ others)
    ≡ taken_or container others found)
one_taken container others rest n None inner = (omega arith, refl)
one_taken container others rest n (Some after) inner = (
  (inner after).0 ∙ omega arith,
  ap (λ those. container ∷ those) (inner after).1,
)

-- they are the first of the open ones
pub taken_are : (containers : List Open) (rest : Rest) (n : ℕ) →
    ((matched n containers rest).count ≡ n + length (taken containers rest))
    × (take (length (taken containers rest)) containers ≡ taken containers rest)
taken_are [] rest n = (omega arith, refl)
taken_are (container ∷ others) rest n =
    one_taken container others rest n (continued container rest) (λ after. taken_are others after (suc n))

if_keeps : (is : Bool) (one other : State) (containers : List Open) → one.containers ≡ containers →
    other.containers ≡ containers → (if is then one else other).containers ≡ containers
if_keeps true one other containers first second = first
if_keeps false one other containers first second = second

closed_keeps : (leaf : Leaf) (n : ℕ) (state : State) →
    (leaf_closed n (with_leaf leaf state)).containers ≡ state.containers
closed_keeps NoLeaf n state = refl
closed_keeps (InParagraph lines) n state =
    if_keeps (nat_lt n (length lines)) _ _ state.containers refl refl
closed_keeps (InIndented lines) n state = refl
closed_keeps (InFenced fence info lines) n state = refl
closed_keeps (InMath fence lines) n state = refl
closed_keeps (InHtml kind lines) n state = refl
closed_keeps (InTable columns lines) n state = refl

-- after a blank line that ends no leaf of its own, a further one changes nothing
left_over : (one : Bool) (line : Line) (leaf : Leaf) (state : State) (closed : State) →
    is_indented leaf ≡ one → (if one then line_added line (with_leaf leaf state) else closed).leaf ≡ NoLeaf →
    (if one then line_added line (with_leaf leaf state) else closed) ≡ closed
left_over false line leaf state closed is none = refl
left_over true line (InIndented lines) state closed is none = absurd (false≢true (sym (ap is_indented none)))
left_over true line NoLeaf state closed is none = absurd (false≢true is)
left_over true line (InParagraph lines) state closed is none = absurd (false≢true is)
left_over true line (InFenced fence info lines) state closed is none = absurd (false≢true is)
left_over true line (InMath fence lines) state closed is none = absurd (false≢true is)
left_over true line (InHtml kind lines) state closed is none = absurd (false≢true is)
left_over true line (InTable columns lines) state closed is none = absurd (false≢true is)

pub blank_skips : (options : MarkdownOptions) (m : ℕ) (whole ended : Bool)
    (line rest : Rest) (ending later : List ℕ) (state new : State) →
    new ≡ blank_waits true (blank_read m (matched 0 state.containers line).count whole
    (matched 0 state.containers line).rest ending state) →
    is_blank_rest (matched 0 state.containers line).rest ≡ true → new.leaf ≡ NoLeaf →
    list_any is_quote new.containers ≡ false → is_blank_rest rest ≡ true →
    line_read options ended rest later new ≡ new
blank_skips options m whole ended line rest ending later state new is blank none no_quote further =
    let found = matched 0 state.containers line in
    let those = taken state.containers line in
    let closed = closed_to m found.count state in
    let read = blank_read m found.count whole found.rest ending state in
    let left : read ≡ closed = by_whole whole (sym (ap (λ s. s.leaf) is) ∙ none) in
    let opened : new.containers ≡ those =
    ap (λ s. s.containers) is ∙ ap (λ s. s.containers) left
    ∙ ap (take found.count) (closed_keeps state.leaf m state)
    ∙ ap (λ c. take c state.containers) ((taken_are state.containers line 0).0 ∙ omega arith)
    ∙ (taken_are state.containers line 0).1 in
    let goes = (accepted state.containers line 0 (ap (list_any is_quote) (sym opened) ∙ no_quote) blank).0 in
    let there : new ≡ st new.entries new.containers NoLeaf (Some (quotes_depth new.containers)) new.lacking =
    alike _ _ refl refl none (ap (λ s. s.blank) is ∙ ap (λ s. Some (quotes_depth s.containers)) (sym is)) refl in
    ap (line_read options ended rest later) there
    ∙ skips new.entries new.containers new.lacking options ended rest later
    (ap (list_all goes_blank) opened ∙ goes) further
    ∙ sym there where
      by_whole : (whole : Bool) →
          (blank_read m (matched 0 state.containers line).count whole
          (matched 0 state.containers line).rest ending state).leaf ≡ NoLeaf →
          blank_read m (matched 0 state.containers line).count whole
          (matched 0 state.containers line).rest ending state
          ≡ closed_to m (matched 0 state.containers line).count state
      by_whole true gone = left_over (is_indented state.leaf) _ state.leaf state _ refl gone
      by_whole false gone = refl
