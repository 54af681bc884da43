-- How deep a document may nest.
use Rattle.std.specs.Prelude.{ℕ}

-- how many nodes may be open at once
abbrev pub most_depth : ℕ
most_depth = 240
