-- The valid texts in the bytes. Only private contracts cite this.
use Rattle.std.specs.Prelude.{◌≡◌, ℕ, ◌+◌, ◌≤◌, List, length, take, drop}
use Rattle.std.specs.List.{All}
use Rattle.md_tree.specs.declared.texts.Run.{Run}

-- a run is the part of the bytes that begins at its start
abbrev pub IsRun : List ℕ → Run → Type 0
IsRun bytes run =
    (run.start + length run.text.now ≤ length bytes)
    × (take (length run.text.now) (drop run.start bytes) ≡ run.text.now)

-- each of them is a run
abbrev pub AreRuns : List ℕ → List Run → Type 0
AreRuns bytes runs = All (IsRun bytes) runs
