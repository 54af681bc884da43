-- The entries of a tape, whose lines are among those pushed so far.
use Rattle.std.proofs.Common.{ℕ, List, [], ◌∷◌, ◌++◌, ◌≡◌, ◌≤◌, ap, refl, arith, length, drop}
use Rattle.std.proofs.Common.{map, Bool, true, false}
use Rattle.std.specs.Prelude.{if◌then◌else◌}
use Rattle.std.proofs.lemmas.Bool.{false≢true}
use Rattle.std.specs.List.{All}
use Rattle.std.proofs.lemmas.List.{take-append-le}
use Rattle.std.proofs.lemmas.List.Elements.{All-head, All-tail, All-push}
use Rattle.md_lines.specs.declared.line.Line.{Line as Place}
use Rattle.md_blocks.specs.declared.block.Block.{Block}
use Rattle.md_blocks.specs.declared.block.Block.TheVariants as block
use Rattle.md_blocks.specs.declared.block.LineRange.{LineRange}
use Rattle.md_blocks.specs.Tape.{enters}
use Rattle.md_blocks.specs.Tapes.{line_of, lines_of, lines_end, entry_of, entries_of}

abbrev pub Kept : ℕ → Block → Type 0
Kept count block = lines_end block ≤ count

same_lines : (bytes : List ℕ) (lines more : List Place) (range : LineRange) →
    range.end ≤ length lines → lines_of bytes (lines ++ more) range ≡ lines_of bytes lines range
same_lines bytes lines more range within =
    ap (λ those. map (line_of bytes) (drop range.start those))
    (take-append-le range.end lines more within)

same_entry : (bytes : List ℕ) (lines more : List Place) (one : Block) →
    lines_end one ≤ length lines → entry_of bytes (lines ++ more) one ≡ entry_of bytes lines one
same_entry bytes lines more (block.Paragraph range) within =
    rw (same_lines bytes lines more range within) refl
same_entry bytes lines more (block.SetextHeading range) within =
    rw (same_lines bytes lines more range within) refl
same_entry bytes lines more (block.FencedCode range) within =
    rw (same_lines bytes lines more range within) refl
same_entry bytes lines more (block.IndentedCode range) within =
    rw (same_lines bytes lines more range within) refl
same_entry bytes lines more (block.Html range) within =
    rw (same_lines bytes lines more range within) refl
same_entry bytes lines more (block.Table range) within =
    rw (same_lines bytes lines more range within) refl
same_entry bytes lines more (block.Math range) within =
    rw (same_lines bytes lines more range within) refl
same_entry bytes lines more _ within = refl

-- more lines change no entry
pub same_entries : (bytes : List ℕ) (lines more : List Place) (tape : List Block) →
    All (Kept (length lines)) tape →
    entries_of bytes (lines ++ more) tape ≡ entries_of bytes lines tape
same_entries bytes lines more [] kept = refl
same_entries bytes lines more (one ∷ tape) kept =
    rw (
      same_entry bytes lines more one (All-head (Kept (length lines)) one tape kept),
      same_entries bytes lines more tape (All-tail (Kept (length lines)) one tape kept),
    ) refl

-- the tape gets an entry, or memory runs out
pub kept_put : (count : ℕ) (tape later : List Block) (one : Block) (is_put : Bool) →
    later ≡ (if is_put then tape ++ one ∷ [] else tape) → lines_end one ≤ count →
    All (Kept count) tape → All (Kept count) later
kept_put count tape later one true is within kept = rw is (All-push (Kept count) tape one kept within)
kept_put count tape later one false is within kept = rw is kept

pub kept_pushed : (count : ℕ) (tape later : List Block) (one : Block) → later ≡ tape ++ one ∷ [] →
    lines_end one ≤ count → All (Kept count) tape → All (Kept count) later
kept_pushed count tape later one is within kept = kept_put count tape later one true is within kept

-- a container has no lines
pub entered_within : (count : ℕ) (one : Block) → enters one ≡ true → lines_end one ≤ count
entered_within count (block.Paragraph range) is = absurd (false≢true is)
entered_within count (block.SetextHeading range) is = absurd (false≢true is)
entered_within count (block.FencedCode range) is = absurd (false≢true is)
entered_within count (block.IndentedCode range) is = absurd (false≢true is)
entered_within count (block.Html range) is = absurd (false≢true is)
entered_within count (block.Table range) is = absurd (false≢true is)
entered_within count (block.Math range) is = absurd (false≢true is)
entered_within count _ is = omega arith
