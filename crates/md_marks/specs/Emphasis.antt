-- Which runs of `*`, `_` and `~` open and close, and which make a pair.
use Rattle.std.specs.Prelude.{ℕ, Bool, true, false, ◌+◌, ◌-◌, ◌%◌, ◌==◌, ◌&&◌, ◌||◌, not, nat_lt}
use Rattle.std.specs.Prelude.{if◌then◌else◌}
use Rattle.md_marks.specs.declared.characters.CharacterClass.{CharacterClass}
use Rattle.md_marks.specs.declared.characters.CharacterClass.TheVariants.{Space, Punctuation}
use Rattle.md_marks.specs.declared.delimiters.Delimiter.{Delimiter}

-- whether a character is white space
abbrev pub is_space : CharacterClass → Bool
is_space class = elim class [ Space ↦ true | _ ↦ false ]

-- whether a character is punctuation
abbrev pub is_punctuation : CharacterClass → Bool
is_punctuation class = elim class [ Punctuation ↦ true | _ ↦ false ]

-- whether a run is left-flanking, by the characters before and after it: white space doesn't follow
-- it, and if punctuation does, white space or punctuation precedes it
abbrev pub is_left_flanking : CharacterClass → CharacterClass → Bool
is_left_flanking before after =
    not (is_space after)
    && (not (is_punctuation after) || (is_space before || is_punctuation before))

-- whether a run is right-flanking: white space doesn't precede it, and if punctuation does, white
-- space or punctuation follows it
abbrev pub is_right_flanking : CharacterClass → CharacterClass → Bool
is_right_flanking before after =
    not (is_space before)
    && (not (is_punctuation before) || (is_space after || is_punctuation after))

-- whether a run of so many of a byte can open: it is left-flanking; and if it is of `_`, it isn't
-- right-flanking, or punctuation precedes it; and if it is of `~`, it has two bytes at most
abbrev pub can_open : ℕ → ℕ → CharacterClass → CharacterClass → Bool
can_open byte length before after =
    is_left_flanking before after
    && (if byte == 95 then not (is_right_flanking before after) || is_punctuation before
    else not (byte == 126 && nat_lt 2 length))

-- whether it can close: likewise, with right and left exchanged, and what follows it in place of
-- what precedes it
abbrev pub can_close : ℕ → ℕ → CharacterClass → CharacterClass → Bool
can_close byte length before after =
    is_right_flanking before after
    && (if byte == 95 then not (is_left_flanking before after) || is_punctuation after
    else not (byte == 126 && nat_lt 2 length))

-- whether the lengths of two runs are both multiples of three, or their sum isn't; bytes that are
-- used already count
abbrev pub is_fair : ℕ → ℕ → Bool
is_fair one other =
    (one % 3 == 0 && other % 3 == 0) || not ((one + other) % 3 == 0)

-- how many bytes of a run have no pair yet
abbrev pub available : Delimiter → ℕ
available run = run.end - run.start

-- no byte of a run has a pair
abbrev pub is_unused : Delimiter → Bool
is_unused run = available run == run.length

-- whether an opener and a closer may pair: they are of the same byte; if that is `~`, they are
-- equally long, and both are unused; otherwise, if the opener also closes or the closer also opens,
-- their lengths are fair
abbrev pub may_pair : Delimiter → Delimiter → Bool
may_pair opener closer =
    opener.byte == closer.byte
    && (if closer.byte == 126
    then opener.length == closer.length && (is_unused opener && is_unused closer)
    else not (opener.closes || closer.opens) || is_fair opener.length closer.length)

-- how many bytes of each make the pair: all of `~`; otherwise two if at least two of each are left
abbrev pub pair_width : Delimiter → Delimiter → ℕ
pair_width opener closer =
    if closer.byte == 126 then available opener
    else if nat_lt 1 (available opener) && nat_lt 1 (available closer) then 2
    else 1
