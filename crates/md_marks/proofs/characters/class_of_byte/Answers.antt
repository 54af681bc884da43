-- The classes of ASCII are computed for each byte.
use Rattle.std.proofs.Common.{refl}
use Rattle.md_marks.proofs.CharacterLemmas.{ascii-punctuation, ascii-space}
use Rattle.md_marks.proofs.characters.class_of_byte.Goals as goal

pub returns-then-is_ascii_space : goal.returns-then-is_ascii_space
returns-then-is_ascii_space c = λ small. rw (
  ascii-punctuation c.args.byte small,
  ← c.if-is.ensures,
  ascii-space c.args.byte small,
  ← c.if-is_ascii_space.ensures,
) refl

pub returns-else-is_ascii_space : goal.returns-else-is_ascii_space
returns-else-is_ascii_space c = λ small. rw (
  ascii-punctuation c.args.byte small,
  ← c.if-is.ensures,
  ascii-space c.args.byte small,
  ← c.if-is_ascii_space.ensures,
) refl
