-- What a measure says about the events that were measured. No contract of a call for users
-- cites this.
use Rattle.std.specs.Prelude.{◌≡◌, ◌+◌, ◌-◌, ◌^◌, ◌≤◌, max, ◌||◌, false, List, ◌++◌, length}
use Rattle.md_base.specs.declared.event.Event.{Event}
use Rattle.md_length.specs.Work.{is_read, covered_from, read_length, cells}
use Rattle.md_length.specs.Reuse.{entries, is_call}
use Rattle.md_depth.specs.Depth.{depth, deepest}
use Rattle.md_measure.specs.Counting.{capped}
use Rattle.md_measure.specs.Nesting.{nests}
use Rattle.md_measure.specs.declared.measure.Measure.{Measure}

-- continuing from the measure of some events counts, whatever follows, what all of them count
pub record IsMeasured (measure : Measure) (events : List Event) : Type 0 where
  pub read : (rest : List Event) → capped (measure.progress.length
      + covered_from is_read measure.progress.index measure.progress.depth rest)
      ≡ capped (read_length (events ++ rest))
  pub cells : (rest : List Event) → capped (measure.parts.cells + cells measure.parts.columns rest)
      ≡ capped (cells 0 (events ++ rest))
  pub calls : (rest : List Event) →
      measure.parts.calls + entries is_call rest ≡ entries is_call (events ++ rest)
  pub depth : (rest : List Event) →
      max measure.levels.deepest (deepest measure.levels.opened rest) ≡ depth (events ++ rest)
  pub nested : (rest : List Event) →
      measure.links.nested || nests measure.links.in_link measure.links.images rest
      ≡ nests false 0 (events ++ rest)
  -- no count exceeds the number of events, or what a `u128` holds
  pub few_open : measure.progress.depth ≤ length events
  pub few_levels : measure.levels.opened ≤ length events
  pub few_columns : measure.parts.columns ≤ length events
  pub few_calls : measure.parts.calls ≤ length events
  pub few_images : measure.links.images ≤ length events
  pub read_fits : measure.progress.length ≤ 2 ^ 128 - 1
  pub cells_fit : measure.parts.cells ≤ 2 ^ 128 - 1
  -- no more nodes are open than were at most
  pub opened : measure.levels.opened ≤ measure.levels.deepest
