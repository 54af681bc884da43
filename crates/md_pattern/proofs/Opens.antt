-- The open nodes; the vector has the innermost last: the list after that one changes.
use Rattle.std.proofs.Common.{◌≡◌, ℕ, false, ◌+◌, ◌-◌, ◌<◌, List, [], ◌∷◌, ◌++◌, length, get_or}
use Rattle.std.proofs.Common.{Result, refl, sym, ap, ◌∙◌, arith}
use Rattle.std.specs.Prelude.{set, reverse, OnOk}
use Rattle.std.proofs.Math.Seq.{set-append_seam, get_or-append_seam}
use Rattle.std.proofs.lemmas.List.{length-append, reverse-append, reverse-reverse}
use Rattle.md_base.specs.declared.event.Name.{Name}
use Rattle.md_pattern.specs.declared.facts.Fact.{Fact}
use Rattle.md_pattern.specs.declared.facts.OpenNode.{OpenNode}
use Rattle.md_pattern.specs.Columns.{Collected, columns_exited}
use Rattle.md_pattern.specs.Summary.{empty_summary}
use Rattle.md_base.specs.NameTests.{is_table}
use Rattle.md_pattern.specs.Facts.{PassState, opens, next_outer, others_outer, grounded, opened}
use Rattle.md_pattern.specs.Facts.{followed, fact_of, partner_alone, definitions_with, passed_entry}
use Rattle.md_pattern.specs.Facts.{passed_exit}
use Rattle.md_pattern.proofs.Leaves.{passed-leaf_by}

-- a result of a call with three known facts
pub on_answer : {A E : Type 0} (P Q R S : Type 0) → (P → Q → R → S) →
    (result : Result A E) → OnOk result P →
    OnOk result Q → OnOk result R → OnOk result S
on_answer P Q R S f h5 p q r = grind arith

opens-seam : (r : List OpenNode) (x d : OpenNode) → opens (reverse r ++ x ∷ []) d ≡ x ∷ r ++ d ∷ []
opens-seam r x d = grind (arith, reverse-append, reverse-reverse)

one_less : (n : ℕ) → (n + 1) - 1 ≡ n
one_less n = omega arith

last-place : (r : List OpenNode) (x : OpenNode) → length (r ++ x ∷ []) - 1 ≡ length r
last-place r x = ap (λ n. n - 1) (length-append r (x ∷ [])) ∙ one_less (length r)

set-by : (r items : List OpenNode) (d w : OpenNode) → items ≡ reverse r → 0 < length items →
    opens (set items (length items - 1) w) d ≡ w ∷ others_outer (opens items d)
set-by [] items d w is some = grind (arith, is, some)
set-by (x ∷ r) items d w is some =
    let parts = is ∙ reverse-append (x ∷ []) r in
    rw (parts, last-place, set-append_seam, opens-seam, opens-seam) refl

last-by : (r items : List OpenNode) (d x : OpenNode) → items ≡ reverse r → 0 < length items →
    get_or items (length items - 1) x ≡ next_outer (opens items d)
last-by [] items d x is some = grind (arith, is, some)
last-by (y ∷ r) items d x is some =
    let parts = is ∙ reverse-append (y ∷ []) r in
    rw (parts, last-place, get_or-append_seam, opens-seam) refl

pub opens-set : (items : List OpenNode) (d w : OpenNode) → 0 < length items →
    opens (set items (length items - 1) w) d ≡ w ∷ others_outer (opens items d)
opens-set items d w some = set-by (reverse items) items d w (sym (reverse-reverse items)) some

pub opens-last : (items : List OpenNode) (d x : OpenNode) → 0 < length items →
    get_or items (length items - 1) x ≡ next_outer (opens items d)
opens-last items d x some = last-by (reverse items) items d x (sym (reverse-reverse items)) some

pub opens-alone : (items : List OpenNode) (d : OpenNode) → length items ≡ 0 → opens items d ≡ d ∷ []
opens-alone [] d none = refl
opens-alone (x ∷ items) d none = absurd (omega (arith, none))

-- the exit of a node, by the results of each step: the node, the rest, and its new value
pub passed_exit-by :
    (name : Name) (pass : PassState) (own here after : OpenNode) (facts : List Fact)
    (columns : Collected)
    (definitions : List ℕ) (left stack : List OpenNode) → own ≡ pass.here →
    left ≡ grounded pass.outer →
    here ≡ next_outer left → stack ≡ after ∷ others_outer left → after ≡ followed name own here →
    facts ≡ set pass.facts own.entry (fact_of name (length pass.facts) (length pass.columns.tables)
    own.contributing own.sought own.summary) ++ partner_alone own.entry ∷ [] →
    columns ≡ columns_exited name own.summary here.collects pass.columns →
    definitions ≡ definitions_with name own.entry pass.definitions →
    record {
      facts = facts;
      columns = columns;
      definitions = definitions;
      here = next_outer stack;
      outer = others_outer stack;
    } ≡ passed_exit name pass
passed_exit-by name pass own here after facts columns definitions left stack own_is left_is here_is
    stack_is after_is facts_is columns_is definitions_is = grind arith

-- a node without children, by what each step gave
pub passed_leaf-by :
    (name : Name) (pass : PassState) (entry : ℕ) (here after : OpenNode) (columns : Collected)
    (once twice : List Fact) (definitions : List ℕ) (stack : List OpenNode) →
    is_table name ≡ false →
    entry ≡ length pass.facts → once ≡ pass.facts ++ partner_alone (entry + 1) ∷ [] →
    twice ≡ once ++ partner_alone entry ∷ [] → here ≡ pass.here → stack ≡ after ∷ pass.outer →
    columns ≡ columns_exited name empty_summary here.collects pass.columns →
    definitions ≡ definitions_with name entry pass.definitions →
    after ≡ followed name (opened entry name here) here →
    record {
      facts = twice;
      columns = columns;
      definitions = definitions;
      here = next_outer stack;
      outer = others_outer stack;
    } ≡ passed_exit name (passed_entry name pass)
passed_leaf-by name pass entry here after columns once twice definitions stack plain entry_is
    once_is twice_is here_is stack_is columns_is definitions_is after_is =
    grind (arith, passed-leaf_by)
