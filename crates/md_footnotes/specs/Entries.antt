-- The stored entries of calls and of footnotes. Only contracts inside this crate cite this.
use Rattle.std.specs.Prelude.{◌≡◌, ℕ, ◌<◌, zero, suc, if◌then◌else◌, List, [], ◌∷◌, map, Option}
use Rattle.std.specs.Prelude.{Some, None, option_map, slice_get, bytes_eq, String, string_bytes}
use Rattle.std.specs.Option.{option_map_or}
use Rattle.std.specs.BTreeMap.{BTreeMap, get_by_text}
use Rattle.std.specs.declared.alloc.Global.{Global}
use Rattle.md_meaning.specs.Meaning.At.{Footnote}
use Rattle.md_meaning.specs.Meaning.Footnotes.{distinct, count_of}

-- an identifier that is called, and its number of calls
pub record Counted : Type 0 where
  pub identifier : List ℕ
  pub count : ℕ

-- the distinct identifiers of some calls, each with its number of calls
abbrev pub tally : List (List ℕ) → List Counted
tally calls =
    map (λ identifier. record { identifier = identifier; count = count_of calls identifier })
    (distinct calls)

-- the counts, and below the footnotes, that some entries represent
abbrev pub counts_in : List (String Global × ℕ) → List Counted
counts_in entries = map (λ e. record { identifier = string_bytes e.0; count = e.1 }) entries

abbrev pub footnotes_in : List (String Global × String Global) → List Footnote
footnotes_in entries =
    map (λ e. record { identifier = string_bytes e.0; text = string_bytes e.1 }) entries

-- the identifier at an index, and below the identifiers at some indices: the calls
abbrev pub identifier_in : List (String Global × ℕ) → ℕ → List ℕ
identifier_in entries place = option_map_or (λ e. string_bytes e.0) (slice_get entries place) []

abbrev pub calls_in : List (String Global × ℕ) → List ℕ → List (List ℕ)
calls_in entries places = map (λ place. identifier_in entries place) places

-- some indices are all below a bound
abbrev pub AreBelow : ℕ → List ℕ → Type 0
AreBelow bound [] = Unit {0}
AreBelow bound (place ∷ places) = (place < bound) × AreBelow bound places

-- the entries with one more call at an index
abbrev pub again : List (String Global × ℕ) → ℕ → List (String Global × ℕ)
again [] place = []
again (e ∷ entries) zero = (e.0, suc e.1) ∷ entries
again (e ∷ entries) (suc place) = e ∷ again entries place

-- the number of calls at an index
abbrev pub count_in : List (String Global × ℕ) → ℕ → ℕ
count_in entries place = option_map_or (λ e. e.1) (slice_get entries place) 0

-- the index of the first entry with an identifier
abbrev pub place_in : {V : Type 0} → List (String Global × V) → List ℕ → Option ℕ
place_in [] identifier = None
place_in (e ∷ entries) identifier =
    if bytes_eq (string_bytes e.0) identifier then Some 0
    else option_map (λ place. suc place) (place_in entries identifier)

-- each look-up in a map finds an identifier's index
abbrev pub FindsPlaces : {V : Type 0} → BTreeMap (String Global) ℕ →
    List (String Global × V) → Type 0
FindsPlaces places entries = (identifier : List ℕ) →
    get_by_text places identifier ≡ place_in entries identifier
