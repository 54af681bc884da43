-- How many facts and tables are defined of some nodes: a fact for each event.
use Rattle.std.proofs.Common.{arith, ◌≡◌, ℕ, suc, cond, List, [], ◌∷◌, ◌++◌}
use Rattle.std.proofs.Common.{length, refl, ap, append_assoc, append-nil}
use Rattle.md_base.specs.declared.event.AlignKind.{AlignKind}
use Rattle.md_base.specs.declared.event.Name.{Name}
use Rattle.md_pattern.specs.declared.facts.Fact.{Fact}
use Rattle.md_base.specs.Tree.{Forest, Empty, Node}
use Rattle.md_base.specs.NameTests.{is_table}
use Rattle.md_pattern.specs.Alignments.{alignments}
use Rattle.md_pattern.specs.Partners.{index_after}
use Rattle.md_pattern.specs.Columns.{tables_of}
use Rattle.md_pattern.specs.Facts.{partner_alone, tables_with, tables_after, fact_at, facts_of}

pub length_one : {A : Type 0} (xs : List A) (x : A) → length (xs ++ x ∷ []) ≡ suc (length xs)
length_one [] x = refl
length_one (y ∷ xs) x = ap suc (length_one xs x)

pub regrouped : {A : Type 0} (a b c : List A) (x y : A) →
    ((((a ++ x ∷ []) ++ b) ++ y ∷ []) ++ c) ≡ a ++ (x ∷ (b ++ (y ∷ c)))
regrouped a b c x y = grind (arith, append_assoc)

pub length_facts : (forest : Forest) (index tables : ℕ) (facts : List Fact) → length facts ≡ index →
    length (facts ++ facts_of index tables forest) ≡ index_after index forest
length_facts Empty index tables facts e = rw append-nil e
length_facts (Node name start end children rest) index tables facts e =
    let fact = fact_at index tables name children in
    let inside = length_facts children (suc index) tables (facts ++ fact ∷ []) in
    let later = length_facts rest (suc (index_after (suc index) children))
    (tables_with name (tables_after tables children))
    (((facts ++ fact ∷ []) ++ facts_of (suc index) tables children) ++ partner_alone index ∷ []) in
    grind (arith, length_one, append_assoc, inside, later, e)

pub length_table : (name : Name) (xs : List (List AlignKind)) (x : List AlignKind) (n : ℕ) →
    length xs ≡ n →
    length (xs ++ cond (is_table name) (x ∷ []) []) ≡ tables_with name n
length_table name xs x n e = grind (arith, length_one, append-nil)

pub length_tables : (forest : Forest) (tables : ℕ) (ended : List (List AlignKind)) →
    length ended ≡ tables →
    length (ended ++ tables_of forest) ≡ tables_after tables forest
length_tables Empty tables ended e = rw append-nil e
length_tables (Node name start end children rest) tables ended e =
    let own = cond (is_table name) (alignments children ∷ []) [] in
    let inside = length_table name (ended ++ tables_of children) (alignments children)
    (tables_after tables children) (length_tables children tables ended e) in
    simp append_assoc at (length_tables rest (tables_with name (tables_after tables children))
    ((ended ++ tables_of children) ++ own) inside)
