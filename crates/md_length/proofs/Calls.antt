-- How long a footnote call is.
use Rattle.std.proofs.Common.{ℕ, suc, ◌+◌, ◌*◌, ◌^◌, ◌≤◌, ◌<◌, List, [], ◌∷◌, length, arith, codes}
use Rattle.std.proofs.Common.{lit≤, lit<, Option, string_bytes, ◌-◌}
use Rattle.std.specs.Prelude.{option_map, String}
use Rattle.std.specs.declared.alloc.Global.{Global}
use Rattle.std.specs.Fmt.{decimal}
use Rattle.std.proofs.lemmas.Fmt.{length-decimal-le}
use Rattle.std.proofs.lemmas.List.Sums.{length-filter, count_by-le-length}
use Rattle.md_text.specs.declared.options.CompileOptions.{CompileOptions}
use Rattle.md_meaning.specs.Meaning.At.{Context, At, identifier_of}
use Rattle.md_meaning.specs.Meaning.Footnotes.{distinct, place_among, count_of, option_or, id_of}
use Rattle.md_meaning.specs.Meaning.Footnotes.{call_id, call}
use Rattle.md_length.specs.Uses.{id_cost, call_cost}
use Rattle.md_length.specs.Reuse.{option_length}
use Rattle.md_length.proofs.Pieces.{size, sizes}
use Rattle.md_length.proofs.Texts.{encoded-short, sanitized-short}

-- ---- numbers
pub distinct-few : (calls : List (List ℕ)) → length (distinct calls) ≤ length calls
distinct-few [] = lit≤ tt
distinct-few (call ∷ calls) =
    grind (arith, length-filter, count_by-le-length, distinct-few calls)

place-few : (calls : List (List ℕ)) (identifier : List ℕ) →
    place_among calls identifier ≤ suc (length calls)
place-few [] identifier = lit≤ tt
place-few (call ∷ calls) identifier = grind (arith, place-few calls identifier)

pub count-few : (calls : List (List ℕ)) (identifier : List ℕ) →
    count_of calls identifier ≤ length calls
count-few [] identifier = lit≤ tt
count-few (call ∷ calls) identifier = grind (arith, count-few calls identifier)

pub number-few : (calls : List (List ℕ)) (identifier : List ℕ) → length calls < 2 ^ 63 →
    place_among (distinct calls) identifier < 2 ^ 64
number-few calls identifier few =
    omega (arith, place-few (distinct calls) identifier, distinct-few calls, few)

pub decimal-short : (n : ℕ) → n < 2 ^ 64 → length (decimal n) ≤ 20
decimal-short n few = length-decimal-le 20 n (lit< tt) (omega (arith, few)) few

-- ---- ids
pub option-short : (text : Option (String Global)) (unset : List ℕ) →
    length (option_or (option_map string_bytes text) unset)
    ≤ length unset + 6 * option_length text
option-short text unset = grind (arith, encoded-short)

pub id-short : (options : CompileOptions) (kind identifier : List ℕ) (number : ℕ) →
    length kind ≤ 6 → number < 2 ^ 64 →
    length (id_of options kind identifier number) ≤ id_cost options identifier - 24
id-short options kind identifier number short few =
    grind (sizes, decimal-short, sanitized-short, option-short)

pub call_id-short : (options : CompileOptions) (identifier : List ℕ) (number occurrence : ℕ) →
    number < 2 ^ 64 → occurrence < 2 ^ 64 →
    length (call_id options identifier number occurrence) ≤ id_cost options identifier
call_id-short options identifier number occurrence few rare =
    omega (sizes, id-short options (codes "fnref-") identifier number, decimal-short)

pub call-short : (context : Context) (at : At) → length context.calls < 2 ^ 63 →
    length at.calls < 2 ^ 63 →
    size (call context at) ≤ call_cost context.options (identifier_of context.bytes at.children)
call-short context at few rare =
    grind (sizes, id-short, call_id-short, decimal-short, number-few, count-few)
