-- The words of the laws on references.
use Rattle.std.specs.Prelude.{ℕ, ◌+◌, ◌*◌, Bool, List, [], ◌∷◌, map, filter}
use Rattle.std.specs.List.{range_with_len}
use Rattle.std.specs.Option.{is_some}
use Rattle.md_base.specs.Reference.{decoded}

-- U+FFFD encoded in a text
abbrev pub replacement : List ℕ
replacement = 239 ∷ 191 ∷ 189 ∷ []

-- the code at this offset in each of the seventeen planes
abbrev pub in_each_plane : ℕ → List ℕ
in_each_plane place = map (λ plane. plane * 0x10000 + place) (range_with_len 0 17)

-- the bytes that pass a test, in order
abbrev pub bytes_where : (ℕ → Bool) → List ℕ
bytes_where test = filter test (range_with_len 0 256)

-- the bytes that are digits after a marker, in order
abbrev pub digits_after : ℕ → List ℕ
digits_after marker = bytes_where (λ byte. is_some (decoded [] marker (byte ∷ [])))
