-- The lines of a document, one after the other.
use Rattle.std.proofs.Common.{ℕ, Bool, Option, Some, None, List, [], ◌∷◌, ◌++◌, ◌≡◌, ◌∙◌, ◌==◌, ◌&&◌, ◌+◌, ◌-◌, ◌≤◌, ◌<◌, true}
use Rattle.std.proofs.Common.{false, refl, sym, ap, arith, length, drop, take, get_or, nat_lt, not}
use Rattle.std.proofs.Common.{zero, suc, inl, inr}
use Rattle.std.specs.Prelude.{if◌then◌else◌}
use Rattle.std.specs.List.{prefix_len}
use Rattle.std.proofs.lemmas.Bool.{cases_Bool, cases_lt, false≢true, ltb-false, ltb-true}
use Rattle.std.proofs.lemmas.List.{length-drop, length-take, length-take-le, drop-drop, drop-take, at_drop_more, drop_all, get_or-drop}
use Rattle.std.proofs.lemmas.List.{take-take, take-append-drop}
use Rattle.md_lines.specs.Lines.{after_ending, ends_no_line}
use Rattle.md_blocks.specs.Documents.{Front, after_line, ending_length, first_line, front_closed}
use Rattle.md_blocks.specs.Documents.{beginning, document_read, front_opened, is_front_fence}
use Rattle.md_blocks.specs.Documents.{lines_in, lines_of, lines_read}
use Rattle.md_blocks.specs.Entries.{Line}
use Rattle.std.specs.Prelude.{Result, Ok, Err, OnOk}
use Rattle.md_blocks.specs.declared.options.MarkdownOptions.{MarkdownOptions}
use Rattle.md_blocks.specs.BlockStructure.{lines_defined}
use Rattle.md_blocks.specs.States.{State, closed_to}

one_or_two : (b : Bool) → 1 ≤ (if b then 2 else 1)
one_or_two true = omega arith
one_or_two false = omega arith

shorter_at : (count byte : ℕ) (rest : List ℕ) →
    length (drop (ending_length (drop count (byte ∷ rest))) (drop count (byte ∷ rest))) ≤ length rest
shorter_at zero byte rest = omega (
  arith,
  length-drop (ending_length (byte ∷ rest)) (byte ∷ rest),
  one_or_two (byte == 13 && get_or rest 0 0 == 10),
)
shorter_at (suc count) byte rest = omega (
  arith,
  length-drop (ending_length (drop count rest)) (drop count rest),
  length-drop count rest,
)

shorter : (byte : ℕ) (rest : List ℕ) → length (after_line (byte ∷ rest)) ≤ length rest
shorter byte rest = shorter_at (prefix_len ends_no_line (byte ∷ rest)) byte rest

none_in : (fuel : ℕ) → lines_in fuel [] ≡ []
none_in zero = refl
none_in (suc fuel) = refl

enough : (one other : ℕ) (bytes : List ℕ) → length bytes ≤ one → length bytes ≤ other →
    lines_in one bytes ≡ lines_in other bytes
enough zero other [] first second = sym (none_in other)
enough (suc one) other [] first second = sym (none_in other)
enough zero other (byte ∷ rest) first second = absurd (omega (arith, first))
enough (suc one) zero (byte ∷ rest) first second = absurd (omega (arith, second))
enough (suc one) (suc other) (byte ∷ rest) first second =
    ap (λ lines. first_line (byte ∷ rest) ∷ lines) (enough one other (after_line (byte ∷ rest))
    (omega (arith, shorter byte rest, first)) (omega (arith, shorter byte rest, second)))

pub some_lines : (bytes : List ℕ) → 0 < length bytes →
    lines_of bytes ≡ first_line bytes ∷ lines_of (after_line bytes)
some_lines [] some = absurd (omega (arith, some))
some_lines (byte ∷ rest) some =
    ap (λ lines. first_line (byte ∷ rest) ∷ lines) (enough (length rest)
    (length (after_line (byte ∷ rest))) (after_line (byte ∷ rest)) (shorter byte rest) (omega arith))

by_two : (b : Bool) (end : ℕ) →
    (if b then 2 else 1) ≡ (if b then end + 2 else suc end) - end
by_two true end = omega arith
by_two false end = omega arith

abbrev after_if : Bool → Bool → ℕ → ℕ
after_if is both end = if not is then end else if both then end + 2 else suc end

-- the code's index after a line ending
pub ending_is : (bytes : List ℕ) (end : ℕ) →
    ending_length (drop end bytes) ≡ after_ending bytes end - end
ending_is bytes end =
    let both = get_or bytes end 0 == 13 && get_or bytes (suc end) 0 == 10 in
    elim (cases_Bool (nat_lt end (length bytes))) [
      | inl is ↦
          at_drop_more ending_length bytes end 0 (ltb-true end (length bytes) is)
          ∙ ap (λ byte. if get_or bytes end 0 == 13 && byte == 10 then 2 else 1)
          (get_or-drop (end + 1) bytes 0 0 ∙ ap (λ i. get_or bytes i 0) (omega arith))
          ∙ by_two both end
          ∙ ap (λ so. after_if so both end - end) (sym is)
      | inr none ↦
          let nothing : 0 ≡ end - end = omega arith in
          ap ending_length (drop_all end bytes (ltb-false end (length bytes) none))
          ∙ nothing
          ∙ ap (λ so. after_if so both end - end) (sym none)
    ]

-- the code's line from an index, up to `end`, with an ending up to `next`
pub line_there : (bytes : List ℕ) (at end next : ℕ) → at < length bytes →
    end ≡ at + prefix_len ends_no_line (drop at bytes) → next ≡ after_ending bytes end → end ≤ next →
    lines_of (drop at bytes)
    ≡ record { text = drop at (take end bytes); ending = take (next - end) (drop end bytes) }
    ∷ lines_of (drop next bytes)
line_there bytes at end next within end_is next_is after =
    let count = prefix_len ends_no_line (drop at bytes) in
    let left : drop count (drop at bytes) ≡ drop end bytes =
    drop-drop count at bytes ∙ ap (λ i. drop i bytes) (sym end_is) in
    let long : ending_length (drop end bytes) ≡ next - end =
    ending_is bytes end ∙ ap (λ i. i - end) (sym next_is) in
    let text : take count (drop at bytes) ≡ drop at (take end bytes) =
    sym (drop-take at count bytes) ∙ ap (λ i. drop at (take i bytes)) (sym end_is) in
    let line : List ℕ → List ℕ → Line = λ text ending. record { text = text; ending = ending } in
    some_lines (drop at bytes) (omega (arith, within, length-drop at bytes))
    ∙ ap (λ t. line t (first_line (drop at bytes)).ending ∷ lines_of (after_line (drop at bytes))) text
    ∙ ap (λ l. line (drop at (take end bytes)) (take (ending_length l) l)
    ∷ lines_of (drop (ending_length l) l)) left
    ∙ ap (λ n. line (drop at (take end bytes)) (take n (drop end bytes))
    ∷ lines_of (drop n (drop end bytes))) long
    ∙ ap (λ l. line (drop at (take end bytes)) (take (next - end) (drop end bytes)) ∷ lines_of l)
    (drop-drop (next - end) end bytes ∙ ap (λ i. drop i bytes) (omega (arith, after)))

-- an ending lies in the document
pub ending_long : (bytes : List ℕ) (end next : ℕ) → end ≤ length bytes → next ≤ length bytes →
    next - end ≡ length (take (next - end) (drop end bytes))
ending_long bytes end next inside there = sym (length-take-le (next - end) (drop end bytes)
    (omega (arith, length-drop end bytes, inside, there)))

-- bytes up to one index, and from there up to another one
grown : (bytes : List ℕ) (one other : ℕ) → one ≤ other →
    take one bytes ++ drop one (take other bytes) ≡ take other bytes
grown bytes one other le =
    ap (λ those. those ++ drop one (take other bytes)) (sym (take-take one other bytes le))
    ∙ take-append-drop one (take other bytes)

pub sliced : (bytes : List ℕ) (one other : ℕ) → one ≤ other →
    take (other - one) (drop one bytes) ≡ drop one (take other bytes)
sliced bytes one other le =
    sym (drop-take one (other - one) bytes)
    ∙ ap (λ i. drop one (take i bytes)) (omega (arith, le))

grown_by : (bytes : List ℕ) (end next : ℕ) → end ≤ next →
    take end bytes ++ take (next - end) (drop end bytes) ≡ take next bytes
grown_by bytes end next le =
    ap (λ those. take end bytes ++ those) (sliced bytes end next le)
    ∙ grown bytes end next le

abbrev pub front_so : Bool → List ℕ → List ℕ → List Line → Option Front
front_so is text before lines =
    if is then Some (record { text = text; rest = lines }) else front_closed before lines

-- a line after the first fence
pub front_there : (bytes : List ℕ) (at end next : ℕ) → at < length bytes →
    end ≡ at + prefix_len ends_no_line (drop at bytes) → next ≡ after_ending bytes end → at ≤ end →
    end ≤ next → front_closed (take at bytes) (lines_of (drop at bytes))
    ≡ front_so (is_front_fence (drop at (take end bytes))) (take end bytes) (take next bytes)
    (lines_of (drop next bytes))
front_there bytes at end next within end_is next_is before after =
    let is = is_front_fence (drop at (take end bytes)) in
    let lines = lines_of (drop next bytes) in
    let ending = take (next - end) (drop end bytes) in
    ap (front_closed (take at bytes)) (line_there bytes at end next within end_is next_is after)
    ∙ ap (λ text. front_so is text (text ++ ending) lines) (grown bytes at end before)
    ∙ ap (λ text. front_so is (take end bytes) text lines) (grown_by bytes end next after)

-- the first line
pub front_first : (bytes : List ℕ) (at end next : ℕ) → at < length bytes →
    end ≡ at + prefix_len ends_no_line (drop at bytes) → next ≡ after_ending bytes end → at ≤ end →
    end ≤ next → front_opened (take at bytes) (lines_of (drop at bytes))
    ≡ (if is_front_fence (drop at (take end bytes))
    then front_closed (take next bytes) (lines_of (drop next bytes)) else None)
front_first bytes at end next within end_is next_is before after =
    let is = is_front_fence (drop at (take end bytes)) in
    let lines = lines_of (drop next bytes) in
    let ending = take (next - end) (drop end bytes) in
    ap (front_opened (take at bytes)) (line_there bytes at end next within end_is next_is after)
    ∙ ap (λ text. if is then front_closed (text ++ ending) lines else None) (grown bytes at end before)
    ∙ ap (λ text. if is then front_closed text lines else None) (grown_by bytes end next after)

-- a fence has bytes
pub has_fence : (bytes : List ℕ) (at end : ℕ) → at ≤ end →
    is_front_fence (drop at (take end bytes)) ≡ true → at ≤ length bytes → at < length bytes
has_fence bytes at end le is within = elim (cases_lt at (length bytes)) [
  | inl before ↦ before
  | inr after ↦ absurd (false≢true (ap is_front_fence (sym (drop_all at (take end bytes)
      (omega (arith, after, length-take end bytes)))) ∙ is))
]

-- the state after a document, from that after its last line
pub document_closed : {A E : Type 0} (r : Result A E) (new last : State) (options : MarkdownOptions)
    (bytes : List ℕ) → last ≡ lines_read options (beginning options bytes).lines
    (beginning options bytes).state →
    OnOk r (new ≡ closed_to (lines_defined last) 0 last) → OnOk r (new ≡ document_read options bytes)
document_closed (Ok _) new last options bytes same closed =
    closed ∙ ap (λ state. closed_to (lines_defined state) 0 state) same
document_closed (Err _) new last options bytes same closed = tt
