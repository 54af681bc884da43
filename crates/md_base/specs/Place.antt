-- Which bytes of the document a node has.
use Rattle.std.specs.Prelude.{ℕ, ◌+◌, ◌-◌, Bool, ◌&&◌, nat_lt, nat_le, if◌then◌else◌, List, ◌++◌}
use Rattle.std.specs.Prelude.{length, replicate, slice_range, Option, Some, None}
use Rattle.std.specs.Str.{is_utf8}
use Rattle.md_base.specs.declared.event.Point.{Point}

-- the index of a point's byte; inside a tab, the index after the tab's byte
abbrev pub byte_index : Point → ℕ
byte_index point = if nat_lt 0 point.vs then point.index + 1 else point.index

-- how many columns of a tab remain for a node that starts here
abbrev pub spaces_before : Point → ℕ
spaces_before start = if nat_lt 0 start.vs then 4 - start.vs else 0

-- how many columns of a tab belong to a node that ends here
abbrev pub spaces_after : Point → ℕ
spaces_after end = end.vs - 1

-- a node may lie between these points: no more columns than a tab has, in order, within the bytes
abbrev pub fits : List ℕ → Point → Point → Bool
fits bytes start end = nat_le start.vs 4 && nat_le end.vs 4
    && nat_le (byte_index start) (byte_index end) && nat_le (byte_index end) (length bytes)

-- the bytes of a node that fits
abbrev pub bytes_between : List ℕ → Point → Point → List ℕ
bytes_between bytes start end = slice_range bytes (byte_index start) (byte_index end)

-- bytes as text, if they may be read and are valid
abbrev pub text_when : Bool → List ℕ → Option (List ℕ)
text_when readable bytes = if readable && is_utf8 bytes then Some bytes else None

-- the text of a node; None if it doesn't fit or isn't UTF-8
abbrev pub text_between : List ℕ → Point → Point → Option (List ℕ)
text_between bytes start end = text_when (fits bytes start end) (bytes_between bytes start end)

-- the text, with spaces for the tabs that are cut at its ends
abbrev pub serialized_between : List ℕ → Point → Point → Option (List ℕ)
serialized_between bytes start end = text_when (fits bytes start end)
    (replicate (spaces_before start) 32 ++ bytes_between bytes start end
    ++ replicate (spaces_after end) 32)

-- the text between the indices of two points, whatever their columns of tabs are
abbrev pub label_between : List ℕ → Point → Point → Option (List ℕ)
label_between bytes start end =
    text_when (nat_le start.index end.index && nat_le end.index (length bytes))
    (slice_range bytes start.index end.index)
