-- The table has the classes of each byte at its own place: computed for all bytes.
use Rattle.std.proofs.Common.{◌≡◌, ◌<◌, ℕ, Bool, List, ◌∷◌, not, nat_eq, get_or, bit_and}
use Rattle.std.proofs.Common.{refl, ap, ◌∙◌}
use Rattle.std.specs.Prelude.{replicate}
use Rattle.std.proofs.lemmas.Bool.{agree_below_at}
use Rattle.md_lines.specs.declared.class.Class.{Class}
use Rattle.md_lines.specs.declared.class.Class.TheVariants.{Space, Punctuation, Alphanumeric}
use Rattle.md_lines.specs.declared.class.Class.TheVariants.{Alphabetic, Mark, Name, Unquoted}
use Rattle.md_lines.specs.Classes.{is_in, class_number}
use Rattle.md_lines.proofs.class.is.Goals as goal

abbrev table : List ℕ
table =
    64 ∷ 64 ∷ 64 ∷ 64 ∷ 64 ∷ 64 ∷ 64 ∷ 64 ∷ 64 ∷ 1 ∷ 0 ∷ 64 ∷ 64 ∷ 0 ∷ 64 ∷ 64 ∷ 64 ∷ 64 ∷ 64
    ∷ 64 ∷ 64 ∷ 64 ∷ 64 ∷ 64 ∷ 64 ∷ 64 ∷ 64 ∷ 64 ∷ 64 ∷ 64 ∷ 64 ∷ 64 ∷ 1 ∷ 82 ∷ 2 ∷ 66 ∷ 82 ∷
    66 ∷ 82 ∷ 2 ∷ 66 ∷ 66 ∷ 82 ∷ 66 ∷ 66 ∷ 98 ∷ 114 ∷ 66 ∷ 100 ∷ 100 ∷ 100 ∷ 100 ∷ 100 ∷ 100 ∷
    100 ∷ 100 ∷ 100 ∷ 100 ∷ 114 ∷ 66 ∷ 18 ∷ 2 ∷ 2 ∷ 66 ∷ 82 ∷ 108 ∷ 108 ∷ 108 ∷ 108 ∷ 108 ∷
    108 ∷ 108 ∷ 108 ∷ 108 ∷ 108 ∷ 108 ∷ 108 ∷ 108 ∷ 108 ∷ 108 ∷ 108 ∷ 108 ∷ 108 ∷ 108 ∷ 108 ∷
    108 ∷ 108 ∷ 108 ∷ 108 ∷ 108 ∷ 108 ∷ 82 ∷ 82 ∷ 82 ∷ 66 ∷ 114 ∷ 18 ∷ 108 ∷ 108 ∷ 108 ∷ 108 ∷
    108 ∷ 108 ∷ 108 ∷ 108 ∷ 108 ∷ 108 ∷ 108 ∷ 108 ∷ 108 ∷ 108 ∷ 108 ∷ 108 ∷ 108 ∷ 108 ∷ 108 ∷
    108 ∷ 108 ∷ 108 ∷ 108 ∷ 108 ∷ 108 ∷ 108 ∷ 66 ∷ 66 ∷ 66 ∷ 82 ∷ 64 ∷ replicate 128 64

-- what the table has of a class at a byte
abbrev has : Class → ℕ → Bool
has class byte = not (nat_eq (bit_and (get_or table byte 0) (class_number class)) 0)

table-has : (class : Class) (byte : ℕ) → byte < 256 → has class byte ≡ is_in class byte
table-has Space byte = agree_below_at (has Space) (is_in Space) 256 byte refl
table-has Punctuation byte = agree_below_at (has Punctuation) (is_in Punctuation) 256 byte refl
table-has Alphanumeric byte = agree_below_at (has Alphanumeric) (is_in Alphanumeric) 256 byte refl
table-has Alphabetic byte = agree_below_at (has Alphabetic) (is_in Alphabetic) 256 byte refl
table-has Mark byte = agree_below_at (has Mark) (is_in Mark) 256 byte refl
table-has Name byte = agree_below_at (has Name) (is_in Name) 256 byte refl
table-has Unquoted byte = agree_below_at (has Unquoted) (is_in Unquoted) 256 byte refl

pub returns : goal.returns
returns c =
    ap (λ i. not (nat_eq (bit_and (get_or table i 0) c.number_of.result) 0)) c.from.ensures
    ∙ ap (λ n. not (nat_eq (bit_and (get_or table c.args.byte 0) n) 0)) c.number_of.ensures
    ∙ table-has c.args.class c.args.byte c.ranges.byte.fits
