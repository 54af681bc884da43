-- What of nodes is kept to be printed elsewhere, and the target of a link or an image.
use Rattle.std.proofs.Common.{◌≡◌, ℕ, ◌+◌, ◌*◌, ◌≤◌, Bool, List, [], ◌∷◌, ◌++◌, length, refl, arith}
use Rattle.std.proofs.Common.{Option}
use Rattle.std.specs.Prelude.{if◌then◌else◌}
use Rattle.std.specs.Option.{option_map_or}
use Rattle.md_base.specs.Children.{or_else}
use Rattle.md_base.specs.Tree.{Forest, Empty, Node}
use Rattle.md_meaning.specs.declared.surroundings.Surroundings.{Surroundings}
use Rattle.md_meaning.specs.Meaning.At.{Target, Context, Before, Found, target_in}
use Rattle.md_meaning.specs.Meaning.Nodes.{outcome}
use Rattle.md_length.specs.Costs.{nodes}
use Rattle.md_length.proofs.Pieces.{either-some}
use Rattle.md_length.specs.Uses.{weight, called, sum_of}

-- ---- what is kept of nodes
abbrev pub title_length : Option (List ℕ) → ℕ
title_length title = option_map_or (λ text. length text) title 0

-- a target, as found so far
abbrev pub kept : Found → ℕ
kept found = 6 * option_map_or (λ text. length text) found.destination 0
    + title_length found.title + option_map_or weight found.resource 0

-- the text of a heading that waits for its underline
abbrev pub held : Bool → List ℕ → ℕ
held waits heading = if waits then length heading else 0

pub both-kept : (later first : Found) → kept (record {
  heading = or_else later.heading first.heading;
  destination = or_else later.destination first.destination;
  title = or_else later.title first.title;
  resource = or_else later.resource first.resource;
}) ≤ kept first + kept later
both-kept later first = omega (arith, either-some {A = List ℕ}, either-some {A = Target})

pub target-kept : (found : Found) → weight (target_in found) ≤ kept found
target-kept found = grind arith

-- ---- the calls
sum-append : (f : List ℕ → ℕ) (xs ys : List (List ℕ)) →
    sum_of f (xs ++ ys) ≡ sum_of f xs + sum_of f ys
sum-append f [] ys = omega arith
sum-append f (x ∷ xs) ys = omega (arith, sum-append f xs ys)

pub calls-sum : (f : List ℕ → ℕ) (context : Context) (around : Surroundings) (before : Before)
    (forest : Forest) →
    sum_of f (outcome context around before forest).calls ≡ called f context.bytes forest
calls-sum f context around before Empty = refl
calls-sum f context around before (Node name start end children rest) =
    grind (
      arith,
      sum-append,
      λ (around : Surroundings) (before : Before). calls-sum f context around before children,
      λ (around : Surroundings) (before : Before). calls-sum f context around before rest,
    )

pub calls-few-nodes : (bytes : List ℕ) (forest : Forest) →
    called (λ identifier. 1) bytes forest ≤ nodes forest
calls-few-nodes bytes Empty = omega arith
calls-few-nodes bytes (Node name start end children rest) =
    grind (arith, calls-few-nodes bytes children, calls-few-nodes bytes rest)

pub calls-few : (context : Context) (around : Surroundings) (before : Before) (forest : Forest) →
    length (outcome context around before forest).calls ≤ nodes forest
calls-few context around before forest =
    omega (arith, counted, calls-sum (λ identifier. 1), calls-few-nodes)
  where
    counted : (calls : List (List ℕ)) → length calls ≡ sum_of (λ identifier. 1) calls
    counted [] = refl
    counted (call ∷ calls) = omega (arith, counted calls)
