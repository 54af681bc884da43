-- The state of reading, and the facts so far. Only contracts of private functions cite it.
use Rattle.std.specs.Prelude.{◌≡◌, ℕ, List, take}
use Rattle.md_base.specs.declared.event.Event.{Event}
use Rattle.md_base.specs.declared.event.Kind.TheVariants.{Enter, Exit}
use Rattle.md_pattern.specs.Ending.{first_index}
use Rattle.md_pattern.specs.Facts.{passed_over, pass_beginning}
use Rattle.md_tree.specs.declared.reader.Reader.{Reader}
use Rattle.md_tree.specs.Machine.{Runs, beginning}
use Rattle.md_tree.specs.Walk.{course_of, Unbroken}

-- two events enter and exit a node without children
pub record IsLeaf (entry exit : Event) : Type 0 where
  pub enters : entry.kind ≡ Enter
  pub exits : exit.kind ≡ Exit
  pub same : entry.name ≡ exit.name

-- this many events have been read
pub record HasRead (bytes : List ℕ) (names : List (List ℕ × List ℕ))
    (events : List Event) (count : ℕ)
    (reader : Reader) : Type 0 where
  pub walked :
      Runs (Unbroken bytes names) (take count events) beginning (course_of events count reader.walk)
  pub passed : reader.pass ≡ passed_over (take count events) pass_beginning
  pub first_ending : reader.first_ending ≡ first_index (take count events)
