-- What stands after some nodes: the spine, the alignments, the previous sibling, the calls, whether
-- line endings are slurped, the heading.
use Rattle.std.proofs.Common.{◌≡◌, Bool, ◌&&◌, [], ◌∷◌, ◌++◌, Option, Some, None, refl, sym, ◌∙◌}
use Rattle.std.proofs.Common.{append_assoc, append-nil, arith}
use Rattle.std.specs.Prelude.{if◌then◌else◌, unwrap_or}
use Rattle.md_base.specs.declared.event.Name.{Name}
use Rattle.md_base.specs.Tree.{Forest, Empty, Node}
use Rattle.md_base.specs.Children.{is_empty, last_name, spine_names, or_else}
use Rattle.md_base.specs.NameTests.{is_transparent}
use Rattle.md_meaning.specs.declared.surroundings.Surroundings.{Surroundings}
use Rattle.md_meaning.specs.Meaning.At.{Context, Before}
use Rattle.md_meaning.specs.Meaning.Nodes.{Outcome, outcome}
use Rattle.md_steps.specs.Claim.{before_past, next_before, node_of}

-- of two optional values, the last counts
pub or_else-assoc : {A : Type 0} (one two three : Option A) →
    or_else (or_else one two) three ≡ or_else one (or_else
    two three)
or_else-assoc None two three = refl
or_else-assoc (Some one) two three = refl

pub or_else-none : {A : Type 0} (one : Option A) → or_else one None ≡ one
or_else-none None = refl
or_else-none (Some one) = refl

pub unwrap-else : {A : Type 0} (one two : Option A) (other : A) →
    unwrap_or (or_else one two) other ≡ unwrap_or one (unwrap_or two other)
unwrap-else None two other = refl
unwrap-else (Some one) two other = refl

after_last : (name : Name) (later before : Option Name) →
    or_else later (Some name) ≡ or_else (Some (unwrap_or later name)) before
after_last name None before = refl
after_last name (Some other) before = refl

pub record Passed (context : Context) (around : Surroundings) (before : Before) (forest : Forest)
    : Type 0 where
  pub spine :
      (before_past context around before forest).spine ≡ before.spine ++ spine_names forest
  pub columns : (before_past context around before forest).columns ≡ before.columns
  pub previous : (before_past context around before forest).previous
      ≡ or_else (last_name forest) before.previous
  pub calls : (before_past context around before forest).calls
      ≡ before.calls ++ (outcome context around before forest).calls
  pub slurps : (before_past context around before forest).slurps
      ≡ (outcome context around before forest).slurps
  pub heading : (before_past context around before forest).heading
      ≡ unwrap_or (outcome context around before forest).found.heading before.heading

pub past : (context : Context) (around : Surroundings) (before : Before) (forest : Forest) →
    Passed context around before forest
past context around before Empty = grind (arith, append-nil)
past context around before (Node name start end children rest) =
    let last : Bool = around.is_outermost && is_empty rest in
    let here : Outcome = node_of context around before last name start end children in
    let next : Before = next_before context around before last name start end children in
    let later : Passed context around next rest = past context around next rest in
    record {
      spine = later.spine ∙ append_assoc before.spine
          (if is_transparent name then spine_names children else name ∷ []) (spine_names rest);
      columns = later.columns;
      previous = later.previous ∙ after_last name (last_name rest) before.previous;
      calls = later.calls
          ∙ append_assoc before.calls here.calls (outcome context around next rest).calls;
      slurps = later.slurps;
      heading = later.heading ∙ sym (unwrap-else (outcome context around next rest).found.heading
          here.found.heading before.heading);
    }
