-- The property that the test for collapsed white space checks; only private contracts cite it.
use Rattle.std.specs.Prelude.{◌≡◌, ℕ, ◌+◌, ◌<◌, ◌≤◌, List, length, slice_index}

-- this byte is no control character, and if it is a space, the next one is neither
abbrev pub IsSingleAt : List ℕ → ℕ → Type 0
IsSingleAt text k =
    (32 ≤ slice_index text k) × (slice_index text k ≡ 32 → 33 ≤ slice_index text (k + 1))

-- each byte but the last is such a byte
abbrev pub HasSingleSpaces : List ℕ → Type 0
HasSingleSpaces text = (k : ℕ) → k + 1 < length text → IsSingleAt text k
