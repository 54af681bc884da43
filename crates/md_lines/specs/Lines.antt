-- Which bytes end a line, which are blank, and which a search skips.
use Rattle.std.specs.Prelude.{ℕ, Bool, List, ◌||◌, ◌&&◌, ◌==◌, ◌+◌, not, nat_lt, get_or}
use Rattle.std.specs.Prelude.{length, suc, if◌then◌else◌}

-- whether a byte is neither a line feed nor a carriage return
abbrev pub ends_no_line : ℕ → Bool
ends_no_line byte = not (byte == 10 || byte == 13)

-- whether a byte is none of the first three of a list
abbrev pub is_none_of : List ℕ → ℕ → Bool
is_none_of wanted byte =
    not (byte == get_or wanted 0 0 || (byte == get_or wanted 1 0 || byte == get_or wanted 2 0))

-- whether a byte is no space, no ASCII control character, no parenthesis and no backslash
abbrev pub goes_on_in_destination : ℕ → Bool
goes_on_in_destination byte =
    not (nat_lt byte 33 || (byte == 40 || (byte == 41 || (byte == 92 || byte == 127))))

-- whether a byte is a space or a tab
abbrev pub is_blank : ℕ → Bool
is_blank byte = byte == 32 || byte == 9

-- whether a byte is no square bracket and no backslash
abbrev pub goes_on_in_label : ℕ → Bool
goes_on_in_label byte = not (byte == 91 || (byte == 92 || byte == 93))

-- the index after the line ending at an index: a carriage return and a line feed are one
abbrev pub after_ending : List ℕ → ℕ → ℕ
after_ending bytes at =
    if not (nat_lt at (length bytes)) then at
    else if get_or bytes at 0 == 13 && get_or bytes (suc at) 0 == 10 then at + 2
    else suc at
