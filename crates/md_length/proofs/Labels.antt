-- The identifiers of footnote calls are at most twelve times as long as their labels, each of which
-- is read once.
use Rattle.std.proofs.Common.{ℕ, ◌+◌, ◌*◌, ◌≤◌, List, [], length, arith, unwrap_or}
use Rattle.md_base.specs.declared.event.Position.{Position}
use Rattle.md_base.specs.Tree.{Forest, Empty, Node}
use Rattle.md_pattern.specs.Standing.{standing_of}
use Rattle.md_tree.specs.declared.mention.Referral.{Referral}
use Rattle.md_tree.specs.declared.mention.Referral.TheVariants as referral
use Rattle.md_tree.specs.Mentions.{identifier_at}
use Rattle.md_tree.specs.Rules.{place, target_of, target_after}
use Rattle.md_meaning.specs.Meaning.At.{identifier_of}
use Rattle.md_length.specs.Costs.{span}
use Rattle.md_length.specs.Lengths.{lengths}
use Rattle.md_length.specs.Uses.{called}
use Rattle.md_length.proofs.Places.{label-short}
use Rattle.md_length.proofs.Texts.{normalized-short}

-- how far the label goes that a spine has left
abbrev label_span : Referral → ℕ
label_span left = elim left [ referral.Label at ↦ span at.start at.end | _ ↦ 0 ]

identifier-short : (bytes : List ℕ) (label : Position) →
    length (unwrap_or (identifier_at bytes label) []) ≤ 12 * span label.start label.end
identifier-short bytes label =
    grind (arith, label-short bytes label.start label.end, normalized-short)

labels-left : (bytes : List ℕ) (forest : Forest) (left : Referral) →
    called (λ identifier. length identifier) bytes forest
    + 12 * label_span (target_of forest left) ≤ 12 * lengths forest + 12 * label_span left
labels-left bytes Empty left = omega arith
labels-left bytes (Node name start end children rest) left =
    grind (
      arith,
      identifier-short,
      labels-left bytes children left,
      labels-left bytes children
          referral.Missing,
      labels-left bytes rest (target_after (standing_of name) left (target_of
          children) (place start end)),
    )

pub labels-short : (bytes : List ℕ) (forest : Forest) →
    called (λ identifier. length identifier) bytes forest ≤ 12 * lengths forest
labels-short bytes forest = omega (arith, labels-left bytes forest referral.Missing)

-- ---- the length of each call, if it depends on the length of its identifier
pub called-split : (f : List ℕ → ℕ) (fixed times : ℕ) (bytes : List ℕ) (forest : Forest) →
    ((identifier : List ℕ) → f identifier ≤ fixed + times * length identifier) →
    called f bytes forest
    ≤ called (λ identifier. 1) bytes forest * fixed
    + times * called (λ identifier. length identifier) bytes forest
called-split f fixed times bytes Empty each = omega arith
called-split f fixed times bytes (Node name start end children rest) each =
    grind (
      arith,
      each (identifier_of bytes children),
      called-split f fixed times bytes children each,
      called-split f fixed times bytes rest each,
    )
