-- The loop over characters: what is written, and what the rest will add, is the collapsed text.
use Rattle.std.proofs.Common.{◌≡◌, ◌<◌, ◌++◌, true, length, string_bytes}
use Rattle.std.specs.Str.Iter.{chars_rest}
use Rattle.md_base.specs.Identifier.{collapsed}
use Rattle.md_base.proofs.IdentifierLemmas.{still}
use Rattle.md_base.proofs.identifier.collapse_white_space.Given as goal

abbrev pub invariant-loop-character : goal.invariant-loop-character
invariant-loop-character l = record {
  whole :
      string_bytes l.text ++ still l.is_gap (string_bytes l.text) (chars_rest l.character-iterator)
      ≡ collapsed l.value;
  owed : l.is_gap ≡ true → 0 < length (string_bytes l.text);
}
