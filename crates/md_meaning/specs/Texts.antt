-- The text between two points, for contracts of functions that read it.
use Rattle.std.specs.Prelude.{ℕ, List, [], unwrap_or}
use Rattle.md_base.specs.declared.event.Point.{Point}
use Rattle.md_base.specs.Place.{text_between, label_between}

-- the text of a node, or the empty text if it has none; in a grammatical document each node whose
-- text is read has one
abbrev pub text_of : List ℕ → Point → Point → List ℕ
text_of source start end = unwrap_or (text_between source start end) []

-- the text of a label, by the indices of its points, or the empty text if it has none; in a
-- grammatical document each label that is read has one
abbrev pub label_of : List ℕ → Point → Point → List ℕ
label_of source start end = unwrap_or (label_between source start end) []
