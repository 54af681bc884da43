-- One event more: each claim about what follows is the claim before it about the event and what
-- follows.
use Rattle.std.proofs.Common.{◌≡◌, ℕ, ◌+◌, ◌-◌, ◌*◌, ◌^◌, ◌≤◌, Bool, false, List, [], ◌∷◌, ◌++◌}
use Rattle.std.proofs.Common.{length, max, arith}
use Rattle.std.specs.Prelude.{◌||◌, if◌then◌else◌}
use Rattle.std.proofs.Math.Seq.{append_snoc}
use Rattle.std.proofs.lemmas.Grind.{common_steps}
use Rattle.std.proofs.lemmas.List.{length-append}
use Rattle.md_base.specs.declared.event.Event.{Event}
use Rattle.md_length.specs.Work.{is_read, covered_from, read_length, depth_after, cells, exits}
use Rattle.md_length.specs.Work.{is_row, columns_after, enters}
use Rattle.md_length.specs.Reuse.{entries, is_call}
use Rattle.md_depth.specs.Depth.{opened_after, deepest, depth}
use Rattle.md_depth.proofs.Nodes.{one-more}
use Rattle.md_measure.specs.Counting.{capped, moved}
use Rattle.md_measure.specs.Nesting.{is_nested, link_after, images_after, nests}

pub capped-fits : (n : ℕ) → capped n ≤ 2 ^ 128 - 1
capped-fits n = grind (arith, common_steps)

pub read-step : (counted index opens counted_after index_after open_after : ℕ) (event : Event)
    (events rest : List Event) → index_after ≡ event.point.index →
    open_after ≡ depth_after is_read opens event →
    counted_after ≡ capped (counted + opens * (event.point.index - index)) →
    capped (counted + covered_from is_read index opens (event ∷ rest))
    ≡ capped (read_length (events ++ event ∷ rest)) →
    capped (counted_after + covered_from is_read index_after open_after rest)
    ≡ capped (read_length ((events ++ event ∷ []) ++ rest))
read-step counted index opens counted_after index_after open_after event events rest there opened
    added held = grind (arith, append_snoc)

pub cells-step : (counted columns counted_after columns_then : ℕ) (event : Event)
    (events rest : List Event) → columns_then ≡ columns_after columns event →
    counted_after ≡ capped (counted + (if exits is_row event then 5 * columns else 0)) →
    capped (counted + cells columns (event ∷ rest)) ≡ capped (cells 0 (events ++ event ∷ rest)) →
    capped (counted_after + cells columns_then rest)
    ≡ capped (cells 0 ((events ++ event ∷ []) ++ rest))
cells-step counted columns counted_after columns_then event events rest known added held =
    grind (arith, append_snoc)

pub calls-step : (counted counted_after : ℕ) (event : Event) (events rest : List Event) →
    counted_after ≡ counted + (if enters is_call event then 1 else 0) →
    counted + entries is_call (event ∷ rest) ≡ entries is_call (events ++ event ∷ rest) →
    counted_after + entries is_call rest ≡ entries is_call ((events ++ event ∷ []) ++ rest)
calls-step counted counted_after event events rest added held = grind (arith, append_snoc)

pub depth-step : (most opens most_after open_after : ℕ) (event : Event) (events rest : List Event) →
    opens ≤ most → open_after ≡ opened_after opens event →
    most_after ≡ max most (opened_after opens event) →
    max most (deepest opens (event ∷ rest)) ≡ depth (events ++ event ∷ rest) →
    max most_after (deepest open_after rest) ≡ depth ((events ++ event ∷ []) ++ rest)
depth-step most opens most_after open_after event events rest few opened deep held =
    grind (arith, one-more, append_snoc)

pub nested-step : (nested in_link nested_after in_link_after : Bool) (images images_then : ℕ)
    (event : Event) (events rest : List Event) →
    nested_after ≡ nested || is_nested in_link images event →
    in_link_after ≡ link_after in_link images event →
    images_then ≡ images_after images event →
    nested || nests in_link images (event ∷ rest) ≡ nests false 0 (events ++ event ∷ rest) →
    nested_after || nests in_link_after images_then rest
    ≡ nests false 0 ((events ++ event ∷ []) ++ rest)
nested-step nested in_link nested_after in_link_after images images_then event events rest found
    linked counted held = grind (arith, append_snoc)

one-longer : (events : List Event) (event : Event) →
    length (events ++ event ∷ []) ≡ length events + 1
one-longer events event = length-append events (event ∷ [])

module _ (event : Event) (events : List Event) (before : ℕ) (few : before ≤ length events) where
  pub few-open : (after : ℕ) (counts : Bool) → after ≡ moved before event.kind counts →
      after ≤ length (events ++ event ∷ [])
  few-open after counts is = grind (arith, one-longer)

  pub few-levels : (after : ℕ) → after ≡ opened_after before event →
      after ≤ length (events ++ event ∷ [])
  few-levels after is = grind (arith, one-longer)

  pub few-calls : (after : ℕ) (test : Bool) → after ≡ before + (if test then 1 else 0) →
      after ≤ length (events ++ event ∷ [])
  few-calls after test is = grind (arith, one-longer)

  pub few-columns : (after : ℕ) → after ≡ columns_after before event →
      after ≤ length (events ++ event ∷ [])
  few-columns after is = grind (arith, one-longer)

  pub few-images : (after : ℕ) → after ≡ images_after before event →
      after ≤ length (events ++ event ∷ [])
  few-images after is = grind (arith, one-longer)
