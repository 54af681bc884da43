-- The text of a document is bounded by its events, its work and what it uses again.
use Rattle.std.proofs.Common.{◌≡◌, ℕ, ◌+◌, ◌^◌, ◌≤◌, ◌<◌, Bool, List, [], ◌∷◌, ◌++◌, length, refl}
use Rattle.std.proofs.Common.{arith}
use Rattle.std.proofs.Math.Nat.{mul-le-mul_left}
use Rattle.md_base.specs.declared.event.Event.{Event}
use Rattle.md_base.specs.declared.event.Name.{Name}
use Rattle.md_base.specs.Is.{is}
use Rattle.md_base.specs.Tree.{Forest, Empty, Node, flatten}
use Rattle.md_text.specs.declared.options.CompileOptions.{CompileOptions}
use Rattle.md_tree.specs.Grammar.{IsGrammatical}
use Rattle.md_meaning.specs.Meaning.{meaning}
use Rattle.md_length.specs.Bound.{text_bound}
use Rattle.md_length.specs.Reuse.{is_call, entries, reuse}
use Rattle.md_length.specs.Uses.{called}
use Rattle.md_length.specs.Work.{work}
use Rattle.md_length.proofs.Cells.{values-few}
use Rattle.md_length.proofs.Heads.{grammatical-cells}
use Rattle.md_length.proofs.Lengths.{read-no_less}
use Rattle.md_length.proofs.Units.{events-nodes, nodes-units}
use Rattle.md_length.proofs.Links.{referred-short}
use Rattle.md_length.proofs.Kept.{calls-few-nodes}
use Rattle.md_length.proofs.Whole.{meaning-short}

-- ---- how many calls
entries-append : (test : Name → Bool) (xs ys : List Event) →
    entries test (xs ++ ys) ≡ entries test xs + entries test ys
entries-append test [] ys = omega arith
entries-append test (x ∷ xs) ys = omega (arith, entries-append test xs ys)

calls-entered : (bytes : List ℕ) (forest : Forest) →
    called (λ identifier. 1) bytes forest ≡ entries is_call (flatten forest)
calls-entered bytes Empty = refl
calls-entered bytes (Node name start end children rest) =
    grind (arith, calls-entered bytes children, calls-entered bytes rest, entries-append)

pub text-bounded : (options : CompileOptions) (names : List (List ℕ × List ℕ)) (bytes : List ℕ)
    (document : Forest) → IsGrammatical bytes names document →
    length (flatten document) < 2 ^ 64 →
    length (meaning options names bytes document)
    ≤ text_bound options names (length (flatten document))
    (work (flatten document) + reuse options bytes document)
text-bounded options names bytes document is few =
    grind (
      arith,
      events-nodes,
      meaning-short,
      nodes-units,
      read-no_less,
      referred-short,
      grammatical-cells,
      values-few,
      calls-entered,
      calls-few-nodes,
      mul-le-mul_left,
    )

-- more work bounds a longer text
pub bound-grows : (options : CompileOptions) (names : List (List ℕ × List ℕ)) (events few many : ℕ)
    →
    few ≤ many → text_bound options names events few ≤ text_bound options names events many
bound-grows options names events few many h = grind arith
