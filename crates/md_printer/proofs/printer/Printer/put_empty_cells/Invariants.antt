-- The columns that are left have their cells printed after those before.
use Rattle.std.proofs.Common.{◌≡◌, [], length}
use Rattle.std.specs.List.{flat_map}
use Rattle.md_meaning.specs.Meaning.Layout.{laid_after}
use Rattle.md_meaning.specs.Meaning.Tables.{cell_of}
use Rattle.md_printer.proofs.printer.Printer.put_empty_cells.Given as goal

abbrev pub invariant-loop-kind : goal.invariant-loop-kind
invariant-loop-kind l =
    record l.self {
      text =
          laid_after l.fn.ending l.self.text (flat_map (cell_of l.self.scope.in_head []) l.rest);
    }
    ≡ record l.initial.self {
      text = laid_after l.fn.ending l.initial.self.text
          (flat_map (cell_of l.initial.self.scope.in_head []) l.initial.rest);
    }

abbrev pub decreases-loop-kind : goal.decreases-loop-kind
decreases-loop-kind l = length l.rest
