-- Identifiers of definitions and footnotes, as they are compared.
use Rattle.std.specs.Prelude.{ℕ, Bool, true, false, ◌||◌, ◌==◌, List, [], filter, chars}
use Rattle.std.specs.Prelude.{encode_utf8_all}
use Rattle.std.specs.List.{slice_split, join_with_byte}
use Rattle.caseless.specs.Caseless.{default_case_fold}

-- a tab, a line feed, a carriage return or a space
abbrev pub is_white : ℕ → Bool
is_white byte = byte == 9 || byte == 10 || byte == 13 || byte == 32

abbrev pub is_nonempty : List ℕ → Bool
is_nonempty text = elim text [ [] ↦ false | _ ↦ true ]

-- each run of white space becomes one space, and none is left at the ends
abbrev pub collapsed : List ℕ → List ℕ
collapsed text = join_with_byte 32 (filter is_nonempty (slice_split is_white text))

-- the form in which identifiers are compared: so collapsed, with full case folding
abbrev pub normalized : List ℕ → List ℕ
normalized text = encode_utf8_all (default_case_fold (chars (collapsed text)))
