-- The loop over characters: what is written, and the folding of the rest, is the
-- folding of the text.
use Rattle.std.proofs.Common.{◌≡◌, ◌++◌, string_bytes, encode_utf8_all, chars, IsUtf8}
use Rattle.std.specs.Str.Iter.{chars_rest}
use Rattle.caseless.specs.Caseless.{default_case_fold}
use Rattle.md_base.proofs.identifier.fold_wide_case.Given as goal

abbrev pub invariant-loop-character : goal.invariant-loop-character
invariant-loop-character l = record {
  whole : string_bytes l.folded
      ++ encode_utf8_all (default_case_fold (chars (chars_rest l.character-iterator)))
      ≡ encode_utf8_all (default_case_fold (chars l.text));
  utf8 : IsUtf8 (chars_rest l.character-iterator);
}
