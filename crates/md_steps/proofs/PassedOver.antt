-- The steps skip a definition, and it prints nothing.
use Rattle.std.proofs.Common.{arith, ◌≡◌, Bool, true, append-nil}
use Rattle.md_base.specs.declared.event.Name.{Name}
use Rattle.md_base.specs.declared.event.Point.{Point}
use Rattle.md_base.proofs.Lies.{lie}
use Rattle.md_base.specs.Tree.{Forest}
use Rattle.md_meaning.specs.declared.surroundings.Surroundings.{Surroundings}
use Rattle.md_meaning.specs.Meaning.At.{Context, Before}
use Rattle.md_steps.specs.Content.{Content, Fits, is_allowed, content_inside}
use Rattle.md_steps.specs.State.{State}
use Rattle.md_steps.specs.Steps.{passed, is_passed}
use Rattle.md_steps.specs.Claim.{Knows}
use Rattle.md_steps.proofs.Counting.{mark-push}
use Rattle.md_steps.proofs.Quiet.{no-calls, definition-slurps}
use Rattle.md_steps.proofs.NodeLeaves.{NodeDone}

pub definition-node : (context : Context) (c : Content) (waits : Bool) (around : Surroundings)
    (before : Before) (last : Bool)
    (name : Name) (start end : Point) (children : Forest) (state : State) → is_passed name ≡ true →
    is_allowed c name ≡ true → Fits (content_inside c name) children →
    Knows c waits around before state →
    NodeDone context c waits around before last name start end children state (passed state)
definition-node context c waits around before last name start end children state p h fits knows =
    grind (arith, lie, no-calls, definition-slurps, mark-push, append-nil)
