-- The bytes of a character past ASCII are 128 or more, so no definition by bytes mistakes one for
-- an ASCII character.
use Rattle.std.proofs.Common.{◌≡◌, ℕ, ◌<◌, ◌≤◌, List, [], ◌∷◌, length, get_or, sym, encode_utf8}
use Rattle.std.proofs.Common.{arith, suc, append-nil, zero-lt-suc, suc-le-suc, inl, inr}
use Rattle.std.proofs.lemmas.Bool.{cases_lt}
use Rattle.std.proofs.lemmas.Str.{inside_one}

-- each byte of the text is 128 or more
abbrev pub AllHigh : List ℕ → Type 0
AllHigh [] = Unit {0}
AllHigh (b ∷ bs) = (128 ≤ b) × AllHigh bs

AllHigh-from_places : (bs : List ℕ) → ((k : ℕ) → k < length bs → 128 ≤ get_or bs k 0) → AllHigh bs
AllHigh-from_places [] h = tt
AllHigh-from_places (b ∷ bs) h = (
  h 0 (zero-lt-suc (length bs)),
  AllHigh-from_places bs (λ k l. h (suc k) (suc-le-suc l)),
)

high_at : (c k : ℕ) → 128 ≤ c → k < length (encode_utf8 c) → 128 ≤ get_or (encode_utf8 c) k 0
high_at c k high l = elim (cases_lt (get_or (encode_utf8 c) k 0) 128) [
  | inl low ↦ (let same : c ≡ get_or (encode_utf8 c) k 0 =
      inside_one c [] (encode_utf8 c) k (sym (append-nil (encode_utf8 c))) l low in
      absurd (omega arith))
  | inr done ↦ done
]

-- such a character's bytes
pub encode_utf8-high : (c : ℕ) → 128 ≤ c → AllHigh (encode_utf8 c)
encode_utf8-high c high = AllHigh-from_places (encode_utf8 c) (λ k l. high_at c k high l)
