-- The loop over characters: if to fold the rest is to lower its ASCII letters, so is
-- to fold the text.
use Rattle.std.proofs.Common.{IsUtf8}
use Rattle.std.specs.Str.Iter.{chars_rest}
use Rattle.md_base.proofs.FoldLemmas.{IsLowered}
use Rattle.md_base.proofs.identifier.is_wide_lowered.Given as goal

abbrev pub invariant-loop-character : goal.invariant-loop-character
invariant-loop-character l = record {
  whole : IsLowered (chars_rest l.character-iterator) → IsLowered l.text;
  utf8 : IsUtf8 (chars_rest l.character-iterator);
}
