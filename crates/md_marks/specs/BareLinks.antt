-- Where a bare link ends, before its end is trimmed.
use Rattle.std.specs.Prelude.{ℕ, Bool, List, [], ◌∷◌, ◌-◌, ◌==◌, ◌&&◌, ◌||◌, suc, not}
use Rattle.std.specs.Prelude.{if◌then◌else◌}

-- whether a bare link with so many open brackets contains the next byte: no space, tab or line
-- ending, no `<`, and no bracket that closes none of them
abbrev pub goes_on : ℕ → ℕ → Bool
goes_on depth byte = not (byte == 32 || byte == 9 || byte == 10 || byte == 13 || byte == 60
    || byte == 93 && depth == 0)

-- how many brackets are open after a byte
abbrev pub open_after : ℕ → ℕ → ℕ
open_after depth byte =
    if byte == 91 then suc depth else if byte == 93 then depth - 1 else depth

-- the length of the bare link that begins a text, with so many open brackets
abbrev pub link_length : ℕ → List ℕ → ℕ
link_length depth [] = 0
link_length depth (byte ∷ bytes) =
    if goes_on depth byte then suc (link_length (open_after depth byte) bytes) else 0
