-- The section of footnotes is no longer than its texts and what its calls take.
use Rattle.std.proofs.Common.{ℕ, zero, suc, ◌+◌, ◌-◌, ◌*◌, ◌^◌, ◌≤◌, ◌<◌, Bool, List, [], ◌∷◌}
use Rattle.std.proofs.Common.{length, arith, codes, lit≤}
use Rattle.std.specs.Prelude.{filter}
use Rattle.std.specs.List.{flat_map}
use Rattle.std.proofs.lemmas.List.{length-take, length-drop}
use Rattle.md_text.specs.declared.options.CompileOptions.{CompileOptions}
use Rattle.md_meaning.specs.Meaning.At.{Footnote, Context}
use Rattle.md_meaning.specs.Meaning.Footnotes.{distinct, place_among, count_of, backreferences}
use Rattle.md_meaning.specs.Meaning.Footnotes.{item, section_start, section}
use Rattle.md_meaning.proofs.Identifiers.{distinct-apart}
use Rattle.md_length.specs.Uses.{back_cost, item_cost, sum_of}
use Rattle.md_length.specs.Bound.{for_document}
use Rattle.md_length.proofs.Calls.{id-short, call_id-short, option-short, decimal-short, number-few}
use Rattle.md_length.proofs.Calls.{count-few}
use Rattle.md_length.proofs.Pieces.{size, sizes, size-append, either-size}
use Rattle.md_length.proofs.Strings.{notes}
use Rattle.md_length.proofs.Sums.{counted, first_text, texts-once}

-- ---- a footnote
backs-short : (options : CompileOptions) (identifier : List ℕ) (number count : ℕ) →
    number < 2 ^ 64 → count < 2 ^ 63 →
    length (backreferences options identifier number count)
    ≤ count * back_cost options identifier
backs-short options identifier number zero few rare = omega arith
backs-short options identifier number (suc count) few rare =
    grind (
      sizes,
      backs-short options identifier number count few,
      decimal-short,
      option-short,
      call_id-short,
    )

item-short : (context : Context) (footnotes : List Footnote) (identifier : List ℕ) →
    length context.calls < 2 ^ 63 → size (item context footnotes identifier)
    ≤ item_cost context.options identifier + first_text footnotes identifier
    + count_of context.calls identifier * back_cost context.options identifier
item-short context footnotes identifier few =
    let number = place_among (distinct context.calls) identifier in
    let fits = number-few context.calls identifier few in
    omega (
      sizes,
      id-short context.options (codes "fn-") identifier number (lit≤ tt) fits,
      length-take {A = ℕ},
      length-drop {A = ℕ},
      backs-short context.options identifier number (count_of context.calls identifier) fits
          (omega (arith, count-few, few)),
    )

items-short : (context : Context) (footnotes : List Footnote) (identifiers : List (List ℕ)) →
    length context.calls < 2 ^ 63 → size (flat_map (item context footnotes) identifiers)
    ≤ sum_of (item_cost context.options) identifiers + sum_of (first_text footnotes) identifiers
    + sum_of (λ identifier. count_of context.calls identifier * back_cost context.options
    identifier)
    identifiers
items-short context footnotes [] few = omega arith
items-short context footnotes (identifier ∷ identifiers) few =
    grind (arith, item-short, size-append, items-short context footnotes identifiers few)

filter-sum : (f : List ℕ → ℕ) (test : List ℕ → Bool) (identifiers : List (List ℕ)) →
    sum_of f (filter test identifiers) ≤ sum_of f identifiers
filter-sum f test [] = omega arith
filter-sum f test (identifier ∷ identifiers) = grind (arith, filter-sum f test identifiers)

distinct-sum : (f : List ℕ → ℕ) (calls : List (List ℕ)) →
    sum_of f (distinct calls) ≤ sum_of f calls
distinct-sum f [] = omega arith
distinct-sum f (call ∷ calls) = grind (arith, filter-sum, distinct-sum f calls)

start-short : (options : CompileOptions) →
    size (section_start options) ≤ for_document options - 32
start-short options = grind (arith, option-short)

-- the section, for its calls and its footnotes
pub section-short : (context : Context) (footnotes : List Footnote) → length context.calls < 2 ^
    63 →
    size (section context footnotes) ≤ for_document context.options + notes footnotes
    + sum_of (item_cost context.options) context.calls + sum_of (back_cost context.options)
    context.calls
section-short context footnotes few =
    let apart = distinct-apart context.calls in
    omega (
      arith,
      either-size,
      size-append,
      start-short context.options,
      items-short context footnotes (distinct context.calls) few,
      distinct-sum (item_cost context.options) context.calls,
      counted (back_cost context.options) (distinct context.calls) context.calls apart,
      texts-once footnotes (distinct context.calls) apart,
    )
