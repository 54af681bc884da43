-- What a state knows where a node's children begin.
use Rattle.std.proofs.Common.{arith, ◌≡◌, ℕ, Bool, true, false, not, ◌&&◌, [], Option, refl}
use Rattle.std.specs.Prelude.{if◌then◌else◌}
use Rattle.md_base.specs.declared.event.Name.{Name}
use Rattle.md_base.specs.declared.event.Name.TheVariants as name_variants
use name_variants.{LineEnding}
use Rattle.md_base.specs.declared.event.Point.{Point}
use Rattle.md_base.specs.Tree.{Forest}
use Rattle.md_base.specs.NameTests.{is_transparent}
use Rattle.md_pattern.specs.Looseness.{is_loose}
use Rattle.md_meaning.specs.declared.surroundings.Surroundings.{Surroundings}
use Rattle.md_meaning.specs.Meaning.Inherited.{inside}
use Rattle.md_meaning.specs.Meaning.At.{Context, Before}
use Rattle.md_meaning.specs.Meaning.Before.{before_children}
use Rattle.md_steps.specs.Content.{Content, Childless, content_of, content_inside}
use Rattle.md_steps.specs.State.{State, facts_of}
use Rattle.md_steps.specs.Steps.{entered, is_raw, is_value}
use Rattle.md_steps.specs.Claim.{Knows, KnowsEnded, KnowsLines, has_marks}
use Rattle.md_steps.proofs.Sides.{scope_inside-seen}
use Rattle.md_steps.proofs.Standing.{implies, is_lines}

pub any_ended : (c : Content) (o : Option Name) → KnowsEnded c o o
any_ended Childless o = tt
any_ended _ o = refl

told : (name : Name) → (implies (is_transparent name) (is_value name) ≡ true)
    × (implies (not (is_transparent name) && is_value name) (not (has_marks (content_of name)))
    ≡ true)
    × (implies (is_lines (content_of name)) (is_raw name) ≡ true)
    × (implies (is_transparent name) (not (is_raw name)) ≡ true)
told LineEnding = (refl, refl, refl, refl)
told _ = (refl, refl, refl, refl)

begin-lines : (c : Content) (raw : Bool) (fences : ℕ) (chunk : Bool) →
    implies (is_lines c) raw ≡ true →
    KnowsLines c [] (if raw then 0 else fences) (if raw then false else chunk)
begin-lines c raw fences chunk h = grind arith

pub children_know : (context : Context) (c : Content) (waits : Bool) (around : Surroundings)
    (before : Before) (last : Bool)
    (name : Name) (start end : Point) (children : Forest) (state : State) →
    Knows c waits around before state →
    Knows (content_inside c name) (if is_transparent name then waits else false)
    (inside context.options (is_loose children) name around) (before_children name children before)
    (entered context (facts_of context.bytes last children start end) name state)
children_know context c waits around before last name start end children state knows =
    let t = told name in
    record {
      sees = grind (arith, scope_inside-seen);
      slurps = knows.slurps;
      ended = grind (arith, any_ended);
      marker = grind arith;
      lines = grind (arith, begin-lines);
      heading = grind arith;
      cells = grind arith;
      resource = grind arith;
      calls = knows.calls;
    }
