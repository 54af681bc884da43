-- States that are alike, and the lines of a leaf.
use Rattle.std.proofs.Common.{ℕ, List, [], ◌∷◌, ◌++◌, ◌≡◌, ◌≤◌, ◌<◌, ◌+◌, ◌-◌, ◌∙◌, ap, sym, refl}
use Rattle.std.proofs.Common.{arith, length, drop, take, map, Bool, nat_lt, true, add-one}
use Rattle.std.proofs.Common.{Vec, Global, false}
use Rattle.std.proofs.lemmas.Bool.{false≢true}
use Rattle.std.specs.Prelude.{Option}
use Rattle.md_blocks.specs.declared.pass.OpenLeaf.{OpenLeaf}
use Rattle.md_blocks.specs.declared.pass.OpenLeaf.TheVariants as leaf
use Rattle.md_blocks.specs.LeafBlocks.{with_line}
use Rattle.std.proofs.lemmas.Bool.{lt-ltb}
use Rattle.std.proofs.lemmas.List.{map-append, drop-append-le, drop-drop, drop-map}
use Rattle.std.proofs.lemmas.List.{length-map, length-drop, length-take-le}
use Rattle.std.specs.Prelude.{reverse}
use Rattle.std.proofs.lemmas.List.{drop-take, take-map, reverse-append}
use Rattle.std.proofs.lemmas.List.{replicate-append-replicate, drop_all}
use Rattle.std.proofs.lemmas.List.{get_or_push, length_push}
use Rattle.std.proofs.Math.Seq.{drop-cons, take-append_seam}
use Rattle.std.proofs.Common.{get_or, suc, ◌==◌}
use Rattle.std.specs.Prelude.{if◌then◌else◌}
use Rattle.std.specs.Prelude.{replicate}
use Rattle.std.specs.List.{prefix_len, suffix_len}
use Rattle.md_blocks.specs.Marks.{is_blank_text}
use Rattle.md_lines.specs.declared.line.Line.{Line as Place}
use Rattle.md_blocks.specs.declared.block.Block.{Block}
use Rattle.md_blocks.specs.declared.nesting.Open.{Open}
use Rattle.md_blocks.specs.declared.nesting.Nesting.{Nesting}
use Rattle.md_blocks.specs.declared.pass.Pass.{Pass}
use Rattle.md_blocks.specs.Stack.{ends_of, end_of, with_child}
use Rattle.md_blocks.specs.Passes.{leaf_of, state_of}
use Rattle.md_blocks.specs.Entries.{Entry, Line, last_line, ContainerEnds, Heading}
use Rattle.md_blocks.specs.States.{State, Leaf, without_blank_end, containers_closed, with_a_child}
use Rattle.md_blocks.specs.States.{is_in_paragraph, leaf_closed, with_leaf, room, blank_written, list_closed}
use Rattle.md_blocks.specs.Tapes.{has_info, underlined, line_of, text_of_line, entry_of, entries_of}

abbrev pub st : List Entry → List Open → Leaf → Option ℕ → ℕ → State
st entries containers leaf blank lacking = record {
  entries = entries;
  containers = containers;
  leaf = leaf;
  blank = blank;
  lacking = lacking;
}

-- two states are the same if their parts are
pub alike : (a b : State) → a.entries ≡ b.entries → a.containers ≡ b.containers →
    a.leaf ≡ b.leaf → a.blank ≡ b.blank → a.lacking ≡ b.lacking → a ≡ b
alike a b entries containers leaf blank lacking =
    ap (λ x. st x a.containers a.leaf a.blank a.lacking) entries
    ∙ ap (λ x. st b.entries x a.leaf a.blank a.lacking) containers
    ∙ ap (λ x. st b.entries b.containers x a.blank a.lacking) leaf
    ∙ ap (λ x. st b.entries b.containers b.leaf x a.lacking) blank
    ∙ ap (λ x. st b.entries b.containers b.leaf b.blank x) lacking

-- an entry is written
pub appended : (bytes : List ℕ) (lines : List Place) (tape later : List Block) (one : Block) →
    later ≡ tape ++ one ∷ [] → entries_of bytes lines later
    ≡ entries_of bytes lines tape ++ entry_of bytes lines one ∷ []
appended bytes lines tape later one is =
    ap (entries_of bytes lines) is ∙ map-append (entry_of bytes lines) tape (one ∷ [])

-- a line is pushed
pub pushed : (bytes : List ℕ) (lines later : List Place) (line : Place) (start : ℕ) →
    later ≡ lines ++ line ∷ [] → start ≤ length lines →
    map (line_of bytes) (drop start later)
    ≡ map (line_of bytes) (drop start lines) ++ line_of bytes line ∷ []
pushed bytes lines later line start is within =
    ap (λ those. map (line_of bytes) (drop start those)) is
    ∙ ap (map (line_of bytes)) (drop-append-le start lines (line ∷ []) within)
    ∙ map-append (line_of bytes) (drop start lines) (line ∷ [])

-- the lines that remain of a paragraph after its first lines
pub remaining : (bytes : List ℕ) (lines : List Place) (start from end : ℕ) → start ≤ from →
    map (line_of bytes) (drop from (take end lines))
    ≡ drop (from - start) (map (line_of bytes) (drop start (take end lines)))
remaining bytes lines start from end forward =
    let whole : start + (from - start) ≡ from = omega (arith, forward) in
    sym (drop-map (line_of bytes) (from - start) (drop start (take end lines))
    ∙ ap (map (line_of bytes)) (drop-drop (from - start) start (take end lines)
    ∙ ap (λ n. drop n (take end lines)) whole))

-- how many lines there are before one with an index
pub count_to : (bytes : List ℕ) (lines : List Place) (start end : ℕ) → end ≤ length lines →
    length (map (line_of bytes) (drop start (take end lines))) ≡ end - start
count_to bytes lines start end within =
    length-map (drop start (take end lines)) (line_of bytes)
    ∙ length-drop start (take end lines)
    ∙ ap (λ n. n - start) (length-take-le end lines within)

-- whether any line remains
pub some_remain : (start from end count : ℕ) → start ≤ from → count ≡ end - start → from < end →
    nat_lt (from - start) count ≡ true
some_remain start from end count forward is before =
    lt-ltb (from - start) count (omega (arith, forward, is, before))

map-reverse : (f : Place → Line) (xs : List Place) → map f (reverse xs) ≡ reverse (map f xs)
map-reverse f [] = refl
map-reverse f (x ∷ xs) =
    ap (map f) (reverse-append (x ∷ []) xs) ∙ map-append f (reverse xs) (x ∷ [])
    ∙ ap (λ those. those ++ f x ∷ []) (map-reverse f xs)
    ∙ sym (reverse-append (f x ∷ []) (map f xs))

prefix-map : (p : Line → Bool) (f : Place → Line) (xs : List Place) →
    prefix_len p (map f xs) ≡ prefix_len (λ x. p (f x)) xs
prefix-map p f [] = refl
prefix-map p f (x ∷ xs) = rw (prefix-map p f xs) refl

suffix-map : (p : Line → Bool) (f : Place → Line) (xs : List Place) →
    suffix_len p (map f xs) ≡ suffix_len (λ x. p (f x)) xs
suffix-map p f xs = ap (prefix_len p) (sym (map-reverse f xs)) ∙ prefix-map p f (reverse xs)

-- the lines without the blank ones at their end
pub trimmed : (bytes : List ℕ) (lines : List Place) (start count end : ℕ) →
    count ≡ length (drop start lines)
    - suffix_len (λ line. is_blank_text (text_of_line bytes line)) (drop start lines) →
    end ≡ start + count → map (line_of bytes) (drop start (take end lines))
    ≡ without_blank_end (map (line_of bytes) (drop start lines))
trimmed bytes lines start count end is whole =
    let those = drop start lines in
    let f = line_of bytes in
    ap (λ n. map f (drop start (take n lines))) whole
    ∙ ap (map f) (drop-take start count lines)
    ∙ sym (take-map f count those)
    ∙ ap (λ n. take n (map f those)) is
    ∙ ap (λ n. take (n - suffix_len (λ line. is_blank_text (text_of_line bytes line)) those) (map f those))
    (sym (length-map those f))
    ∙ ap (λ n. take (length (map f those) - n) (map f those))
    (sym (suffix-map (λ line. is_blank_text line.text) f those))

-- each container that is closed has an end
ends : (bytes : List ℕ) (lines : List Place) (at : ℕ) (closed : List Open) →
    entries_of bytes lines (ends_of at closed) ≡ replicate (length closed) ContainerEnds
ends bytes lines at [] = refl
ends bytes lines at (x ∷ inner) =
    map-append (entry_of bytes lines) (ends_of at inner) (end_of at x ∷ [])
    ∙ ap (λ those. those ++ ContainerEnds ∷ []) (ends bytes lines at inner)
    ∙ replicate-append-replicate (length inner) 1 ContainerEnds
    ∙ ap (λ n. replicate n ContainerEnds) (add-one (length inner))

-- the state of a pass with another tape
abbrev pub over : Pass → Nesting → State
over pass nesting = record (state_of pass) {
  entries = entries_of pass.bytes.now nesting.leaves.lines.items nesting.tape.items;
  containers = nesting.stack.items;
  leaf = leaf_of pass.leaf
      (map (line_of pass.bytes.now) (drop nesting.leaves.start nesting.leaves.lines.items));
}

-- containers are closed
pub closed_over : (pass : Pass) (before after : Nesting) (depth at : ℕ) →
    after.tape.items ≡ before.tape.items ++ ends_of at (drop depth before.stack.items) →
    after.stack.items ≡ take depth before.stack.items → after.leaves ≡ before.leaves →
    over pass after ≡ containers_closed depth (over pass before)
closed_over pass before after depth at tape stack leaves =
    let bytes = pass.bytes.now in
    let lines = before.leaves.lines.items in
    let closed = drop depth before.stack.items in
    alike _ _
    (ap (λ l. entries_of bytes l.lines.items after.tape.items) leaves
    ∙ ap (entries_of bytes lines) tape
    ∙ map-append (entry_of bytes lines) before.tape.items (ends_of at closed)
    ∙ ap (λ those. entries_of bytes lines before.tape.items ++ those) (ends bytes lines at closed))
    stack
    (ap (λ l. leaf_of pass.leaf (map (line_of bytes) (drop l.start l.lines.items))) leaves)
    refl refl

-- the innermost container has a child
pub child_over : (pass : Pass) (before after : Nesting) → after.tape ≡ before.tape →
    after.stack.items ≡ with_child before.stack.items → after.leaves ≡ before.leaves →
    over pass after ≡ with_a_child (over pass before)
child_over pass before after tape stack leaves =
    let bytes = pass.bytes.now in
    alike _ _
    (ap (λ l. entries_of bytes l.lines.items after.tape.items) leaves
    ∙ ap (λ t. entries_of bytes before.leaves.lines.items t.items) tape)
    stack
    (ap (λ l. leaf_of pass.leaf (map (line_of bytes) (drop l.start l.lines.items))) leaves)
    refl refl

-- the first line of a leaf
pub only : (bytes : List ℕ) (lines : Vec Place Global) (later : List Place) (line : Place)
    (start begun : ℕ) → later ≡ lines.items ++ line ∷ [] → begun ≡ start → start ≡ lines.len →
    map (line_of bytes) (drop begun later) ≡ line_of bytes line ∷ []
only bytes lines later line start begun is same all =
    let count : start ≡ length lines.items = all ∙ lines.ok.0 in
    ap (λ n. map (line_of bytes) (drop n later)) same
    ∙ pushed bytes lines.items later line start is (omega (arith, count))
    ∙ ap (λ those. map (line_of bytes) those ++ line_of bytes line ∷ [])
    (drop_all start lines.items (omega (arith, count)))

-- a leaf that is no paragraph is closed alike, whatever lines are definitions
pub closed_alike : (leaf : OpenLeaf) (lines : List Line) (state : State) (one other : ℕ) →
    is_in_paragraph (leaf_of leaf lines) ≡ false →
    leaf_closed one (with_leaf (leaf_of leaf lines) state)
    ≡ leaf_closed other (with_leaf (leaf_of leaf lines) state)
closed_alike leaf.Paragraph lines state one other is = absurd (false≢true (sym is))
closed_alike leaf.None lines state one other is = refl
closed_alike leaf.Indented lines state one other is = refl
closed_alike (leaf.Fenced _) lines state one other is = refl
closed_alike (leaf.Math _) lines state one other is = refl
closed_alike (leaf.Html _) lines state one other is = refl
closed_alike (leaf.Table _) lines state one other is = refl

-- an open leaf with another line
pub leaf_with : (leaf : OpenLeaf) (lines : List Line) (line : Line) →
    (has_info leaf ≡ true → 0 < length lines) →
    leaf_of leaf (lines ++ line ∷ []) ≡ with_line line (leaf_of leaf lines)
leaf_with leaf.Paragraph lines line some = refl
leaf_with leaf.None lines line some = refl
leaf_with leaf.Indented lines line some = refl
leaf_with (leaf.Fenced fence) [] line some = absurd (omega (arith, some refl))
leaf_with (leaf.Fenced fence) (x ∷ lines) line some = refl
leaf_with (leaf.Math fence) [] line some = absurd (omega (arith, some refl))
leaf_with (leaf.Math fence) (x ∷ lines) line some = refl
leaf_with (leaf.Html _) lines line some = refl
leaf_with (leaf.Table _) lines line some = refl

-- so is room made
pub room_alike : (leaf : OpenLeaf) (lines : List Line) (state : State) (one other depth : ℕ) →
    is_in_paragraph (leaf_of leaf lines) ≡ false →
    room one depth (with_leaf (leaf_of leaf lines) state)
    ≡ room other depth (with_leaf (leaf_of leaf lines) state)
room_alike leaf lines state one other depth is =
    ap (λ s. blank_written (with_a_child (list_closed (containers_closed depth s))))
    (closed_alike leaf lines state one other is)

-- a heading and its underline
pub underline_is : (lines : List Line) (line : Line) (mark : ℕ) → get_or line.text 0 0 ≡ mark →
    underlined (lines ++ line ∷ []) ≡ Heading (if mark == 61 then 1 else 2) lines
underline_is lines line mark first =
    let all = lines ++ line ∷ [] in
    let count : length all - 1 ≡ length lines = omega (arith, length_push lines line) in
    ap (λ one. Heading (if get_or one.text 0 0 == 61 then 1 else 2) (take (length all - 1) all))
    (get_or_push lines line (record { text = []; ending = [] }) (length all - 1) (sym count))
    ∙ ap (λ byte. Heading (if byte == 61 then 1 else 2) (take (length all - 1) all)) first
    ∙ ap (λ n. Heading (if mark == 61 then 1 else 2) (take n all)) count
    ∙ ap (Heading (if mark == 61 then 1 else 2)) (take-append_seam lines (line ∷ []))

-- the lines of a paragraph after its first ones
pub lines_after : (bytes : List ℕ) (lines : List Place) (start from : ℕ) → start ≤ from →
    map (line_of bytes) (drop from lines) ≡ drop (from - start) (map (line_of bytes) (drop start lines))
lines_after bytes lines start from forward =
    let whole : start + (from - start) ≡ from = omega (arith, forward) in
    sym (drop-map (line_of bytes) (from - start) (drop start lines)
    ∙ ap (map (line_of bytes)) (drop-drop (from - start) start lines ∙ ap (λ n. drop n lines) whole))

-- the lines of a paragraph before its last one
pub before_last : (bytes : List ℕ) (all : List Place) (start last : ℕ) → start ≤ last →
    length all ≡ last + 1 → map (line_of bytes) (drop start (take last all))
    ≡ take (length (map (line_of bytes) (drop start all)) - 1) (map (line_of bytes) (drop start all))
before_last bytes all start last forward count =
    let f = line_of bytes in
    let lines = map f (drop start all) in
    let whole : start + (last - start) ≡ last = omega (arith, forward) in
    let less : last - start ≡ length lines - 1 = omega (
      arith,
      forward,
      count,
      length-map (drop start all) f,
      length-drop start all,
    ) in
    ap (λ n. map f (drop start (take n all))) (sym whole)
    ∙ ap (map f) (drop-take start (last - start) all)
    ∙ sym (take-map f (last - start) (drop start all))
    ∙ ap (λ n. take n lines) less

-- and that line alone
pub last_alone : (bytes : List ℕ) (all : List Place) (start last : ℕ) → start ≤ last →
    length all ≡ last + 1 → map (line_of bytes) (drop last all)
    ≡ last_line (map (line_of bytes) (drop start all)) ∷ []
last_alone bytes all start last forward count =
    let f = line_of bytes in
    let lines = map f (drop start all) in
    let none : Line = record { text = []; ending = [] } in
    let at = last - start in
    let counted : length lines ≡ at + 1 = omega (
      arith,
      forward,
      count,
      length-map (drop start all) f,
      length-drop start all,
    ) in
    let less : at ≡ length lines - 1 = omega (arith, counted) in
    lines_after bytes all start last forward
    ∙ drop-cons lines at none (omega (arith, counted))
    ∙ ap (λ those. get_or lines at none ∷ those) (drop_all (suc at) lines (omega (arith, counted)))
    ∙ ap (λ n. get_or lines n none ∷ []) less
