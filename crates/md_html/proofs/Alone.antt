-- The entry of a node that may be printed at its exit alone changes nothing.
use Rattle.std.proofs.Common.{◌≡◌, ℕ, true, refl, arith}
use Rattle.std.specs.Prelude.{if◌then◌else◌}
use Rattle.md_base.specs.declared.event.Name.{Name}
use Rattle.md_base.specs.declared.event.Name.TheVariants as name_variants
use name_variants.{Definition}
use Rattle.md_base.specs.declared.event.Point.{Point}
use Rattle.md_base.specs.Tree.{entering}
use Rattle.md_base.proofs.Lies.{lie}
use Rattle.md_meaning.specs.Meaning.At.{Context}
use Rattle.md_steps.specs.Run.{stepped}
use Rattle.md_steps.specs.State.{State, NodeFacts}
use Rattle.md_steps.specs.Steps.{exited, is_passed}
use Rattle.md_printer.specs.Supplies.{is_alone}

-- nothing is skipped
pub none_passed : (name : Name) → is_alone name ≡ true → (n : ℕ) →
    (if is_passed name then n else 0) ≡ 0
none_passed Definition e n = lie e
none_passed _ e n = refl

pub alone : (name : Name) → is_alone name ≡ true → (point : Point) (context : Context)
    (facts : NodeFacts) (state : State) →
    exited context facts name (stepped context (entering name point) facts state)
    ≡ exited context facts name state
alone name e point context facts state = grind arith
