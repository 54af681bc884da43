-- What stands in a destination or a title prints little: seven times what it prints is no longer
-- than its nodes may print.
use Rattle.std.proofs.Common.{◌≡◌, ℕ, ◌+◌, ◌*◌, ◌≤◌, true, List, [], ◌∷◌, ◌++◌, length, arith, ◌∙◌}
use Rattle.md_base.specs.declared.event.Name.{Name}
use Rattle.md_base.specs.Is.{is}
use Rattle.md_base.specs.Tree.{Forest, Empty, Node}
use Rattle.md_meaning.specs.declared.surroundings.Surroundings.{Surroundings}
use Rattle.md_meaning.specs.Meaning.Inherited.{inside as around_inside}
use Rattle.md_meaning.specs.Meaning.At.{Context, At, Before, Footnote}
use Rattle.md_pattern.specs.Looseness.{is_loose}
use Rattle.md_meaning.specs.Meaning.Layout.{Piece}
use Rattle.md_meaning.specs.Meaning.Means.{prints}
use Rattle.md_meaning.specs.Meaning.Nodes.{outcome}
use Rattle.md_steps.specs.Content.{Content, Fits, content_inside, content_after_node}
use Rattle.md_steps.proofs.AlikeStrings.{is_plain, plain}
use Rattle.md_steps.proofs.Quiet.{past-callless}
use Rattle.md_steps.proofs.Standing.{allowed-facts, is_callless}
use Rattle.md_steps.proofs.Staying.{node-same}
use Rattle.md_length.specs.Longest.{longest}
use Rattle.md_length.specs.Costs.{own, cost}
use Rattle.md_length.proofs.Pieces.{size, sizes}
use Rattle.md_length.proofs.PrintedTexts.{escaped-short, line_ending-short, reference-short}

-- the surroundings of a node's children
abbrev pub around_in : Context → Surroundings → Name → Forest → Surroundings
around_in context around name children =
    around_inside context.options (is_loose children) name around

plain-short : (context : Context) (at : At) (inner : List Piece) (name : Name) →
    is_plain name ≡ true → size (prints context at name inner)
    ≤ size inner + (24 + 6 * longest context.names + 6 * own name at.place)
plain-short context at inner name is =
    grind (arith, escaped-short, reference-short, line_ending-short)

-- the lengths of the texts of footnotes
abbrev pub notes : List Footnote → ℕ
notes [] = 0
notes (footnote ∷ footnotes) = length footnote.text + notes footnotes

pub notes-append : (xs ys : List Footnote) → notes (xs ++ ys) ≡ notes xs + notes ys
notes-append [] ys = omega arith
notes-append (x ∷ xs) ys = omega (arith, notes-append xs ys)

pub strings-short : (context : Context) (around : Surroundings) (before : Before) (c : Content)
    (forest : Forest) → is_callless c ≡ true → Fits c forest →
    7 * size (outcome context around before forest).pieces
    + notes (outcome context around before forest).footnotes ≤ cost context.names forest
strings-short context around before c Empty strings fits = omega arith
strings-short context around before c (Node name start end children rest) strings fits =
    let is = plain c name strings fits.0 in
    let low = node-same is_callless past-callless c name children ∙ strings in
    let inside = ((allowed-facts c name fits.0).callless strings).0 in
    grind (
      sizes,
      notes-append,
      is,
      plain-short,
      λ (around : Surroundings) (before : Before).
          strings-short context around before (content_inside c name) children inside fits.1,
      λ (around : Surroundings) (before : Before).
          strings-short context around before (content_after_node c name children) rest low fits.2,
    )
