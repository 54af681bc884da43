-- Where nothing follows, a measure is what it counts.
use Rattle.std.proofs.Common.{◌≡◌, ℕ, ◌+◌, ◌-◌, ◌^◌, ◌≤◌, false, List, arith}
use Rattle.std.proofs.lemmas.Grind.{common_steps}
use Rattle.std.proofs.lemmas.List.{append-nil}
use Rattle.md_base.specs.declared.event.Event.{Event}
use Rattle.md_base.specs.Tree.{Forest, flatten}
use Rattle.md_length.specs.Work.{cells, work}
use Rattle.md_length.specs.Reuse.{entries, is_call}
use Rattle.md_depth.specs.Depth.{depth}
use Rattle.md_safe.specs.Links.{has_nested_link}
use Rattle.md_measure.specs.Counting.{capped}
use Rattle.md_measure.specs.Measured.{IsMeasured}
use Rattle.md_measure.specs.declared.measure.Measure.{Measure}
use Rattle.md_measure.proofs.Nesting.{summary_of_document}

sum : (a b x y : ℕ) → a ≤ 2 ^ 128 - 1 → b ≤ 2 ^ 128 - 1 → capped (a + 0) ≡ capped x →
    capped (b + 0) ≡ capped y → capped (a + b) ≡ capped (x + y)
sum a b x y fits also first second = grind (arith, common_steps, fits, also, first, second)

module _ (measure : Measure) (events : List Event) (held : IsMeasured measure events) where
  pub depth-summary : measure.levels.deepest ≡ depth events
  depth-summary = grind (arith, append-nil events)

  pub calls-summary : measure.parts.calls ≡ entries is_call events
  calls-summary = grind (arith, append-nil events)

  pub work-summary : capped (measure.progress.length + measure.parts.cells) ≡ capped (work events)
  work-summary = grind (arith, append-nil events)

  pub nested-summary : (document : Forest) → flatten document ≡ events →
      measure.links.nested ≡ has_nested_link false document
  nested-summary document flat =
      grind (arith, append-nil events, summary_of_document document events flat)
