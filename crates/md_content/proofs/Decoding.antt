-- Each reference of a document of the grammar decodes, by the mark that stands before its value.
use Rattle.std.proofs.Common.{◌≡◌, ℕ, zero, suc, Bool, true, false, ◌&&◌, Option, Some, None, List}
use Rattle.std.proofs.Common.{[], ◌∷◌, ◌++◌, refl, sym, ap, ◌∙◌, subst, append_assoc, append-nil}
use Rattle.std.proofs.Common.{arith}
use Rattle.std.specs.Prelude.{if◌then◌else◌, replicate}
use Rattle.std.specs.List.{list_all}
use Rattle.std.proofs.lemmas.Bool.{and_parts, and_from}
use Rattle.md_base.specs.declared.event.Name.{Name}
use Rattle.md_base.specs.declared.event.Name.TheVariants as name
use Rattle.md_base.specs.declared.event.Point.{Point}
use Rattle.md_pattern.specs.declared.kinds.Symbol.{Symbol}
use Rattle.md_pattern.specs.declared.kinds.Symbol.TheVariants as symbol
use Rattle.md_pattern.specs.declared.kinds.Role.{Role}
use Rattle.md_pattern.specs.declared.kinds.Role.TheVariants as role
use Rattle.md_pattern.specs.declared.kinds.Standing.{Standing}
use Rattle.md_pattern.specs.declared.kinds.Standing.TheVariants.{Through, Space, Solid, Mdx}
use Rattle.md_base.specs.Tree.{Forest, Empty, Node}
use Rattle.md_pattern.specs.Standing.{standing_of}
use Rattle.md_pattern.specs.Spine.{spine, shown, IsTail, IsGrouped, Matches}
use Rattle.md_pattern.specs.Shape.{IsStanding, AreShaped, role_for, last_symbol, inner_role}
use Rattle.md_pattern.specs.Shape.{inner_before}
use Rattle.md_tree.specs.Rules.{marker_after}
use Rattle.md_tree.specs.Laws.{symbols_of}
use Rattle.md_tree.specs.Grammar.{IsGrammatical}
use Rattle.md_base.specs.NameTests.{is_transparent}
use Rattle.md_base.specs.Children.{spine_names}
use Rattle.md_tree.proofs.Spines.{spine-names}
use Rattle.md_meaning.specs.Surroundings.{last_of, spine_after_node}
use Rattle.md_meaning.specs.Meaning.Spans.{marker}
use Rattle.md_content.specs.References.{EverywhereAfter, Decodes}
use Rattle.md_content.proofs.SymbolNames.{symbol_in, is_through, transparent}
use Rattle.md_content.proofs.Tails.{each-tail}
use Rattle.md_content.proofs.FineNodes.{IsFine, AreFine, fine, shaped}
use Rattle.md_content.proofs.RanksAndNumbers.{unless-holds}
use Rattle.md_content.proofs.Letters.{fits-all}
use Rattle.md_content.proofs.LastNames.{symbol_of, is_solid, last-got, last-symbols, solid-names}

-- ---- values stand after marks
abbrev is_mark : Option Symbol → Bool
is_mark (Some symbol.ReferenceMarker) = true
is_mark (Some symbol.ReferenceNumeric) = true
is_mark (Some symbol.ReferenceHexadecimal) = true
is_mark _ = false

-- it is no value, or stands after a mark
abbrev stands_well : Option Symbol → Symbol → Bool
stands_well before symbol.ReferenceValue = is_mark before
stands_well before _ = true

abbrev are_well : Option Symbol → List Symbol → Bool
are_well before [] = true
are_well before (seen ∷ symbols) = stands_well before seen && are_well (Some seen) symbols

abbrev is_no_value : Symbol → Bool
is_no_value symbol.ReferenceValue = false
is_no_value _ = true

well-endings : (n : ℕ) (before : Option Symbol) (rest : List Symbol) →
    ((b : Option Symbol) → are_well b rest ≡ true) →
    are_well before (replicate n symbol.LineEnding ++ rest) ≡ true
well-endings zero before rest later = later before
well-endings (suc n) before rest later = well-endings n (Some symbol.LineEnding) rest later

well-tail : (rest : List Symbol) → ((b : Option Symbol) → are_well b rest ≡ true) →
    (first : Symbol) (tail : List Symbol) → IsTail first tail →
    are_well (Some first) (tail ++ rest) ≡ true
well-tail rest later = grind (arith, each-tail, append_assoc, well-endings)

well-grouped : (firsts spine : List Symbol) → list_all is_no_value firsts ≡ true →
    IsGrouped firsts spine →
    (before : Option Symbol) → are_well before spine ≡ true
well-grouped [] spine h is before = ap (are_well before) is
well-grouped (first ∷ firsts) spine h is before =
    grind (arith, and_parts, and_from, well-tail, well-grouped firsts)

well-spine : (around : Role) (spine : List Symbol) → Matches around spine →
    are_well None spine ≡ true
well-spine around spine match = grind (arith, well-grouped, fits-all)

well-split : (before : Option Symbol) (symbols others : List Symbol) →
    are_well before (symbols ++ others) ≡ true →
    (are_well before symbols ≡ true) × (are_well (last_symbol before symbols) others ≡ true)
well-split before [] others h = (refl, h)
well-split before (seen ∷ symbols) others h = grind (arith, well-split (Some seen) symbols)

-- ---- references
mark-name : (n : Name) → (if is_mark (symbol_in (standing_of n))
    then marker_after (symbol_in (standing_of n)) else Some (marker n)) ≡ Some (marker n)
mark-name name.Data = refl
mark-name _ = refl

node-decodes : (bytes : List ℕ) (names : List (List ℕ × List ℕ)) (earlier : List Name) (n : Name)
    (start end : Point) (children : Forest) (around : Role) (before : Option Symbol) →
    IsFine bytes names around before n start end children →
    are_well before (shown (standing_of n) (spine children)) ≡ true →
    before ≡ symbol_of (last_of earlier) →
    Decodes bytes names earlier n start end children
node-decodes bytes names earlier n start end children around before here well e =
    grind (arith, last-got, mark-name, unless-holds)

-- what holds of children by themselves holds of them where they stand
inner-decodes :
    (bytes : List ℕ) (names : List (List ℕ × List ℕ)) (earlier : List Name) (standing : Standing)
    (children : Forest) (around : Role) (before : Option Symbol) →
    IsStanding standing around before children →
    AreFine bytes names children (inner_role standing around before)
    (inner_before standing before) →
    are_well before (shown standing (spine children)) ≡ true →
    before ≡ symbol_of (last_of earlier) →
    ((a : Role) (b : Option Symbol) (s : List Name) → AreFine bytes names children a b →
    are_well b (spine children) ≡ true → b ≡ symbol_of (last_of s) →
    EverywhereAfter (Decodes bytes names) s children) →
    EverywhereAfter (Decodes bytes names) (if is_through standing then earlier else []) children
inner-decodes bytes names earlier Through children around before is all well e again =
    again around before earlier all well e
inner-decodes bytes names earlier Space children around before is all well e again = grind arith
inner-decodes bytes names earlier (Solid seen usual reading) children around before is all well e
    again =
    again (role_for around before usual) None [] all
    (well-spine (role_for around before usual) (spine children) is) refl
inner-decodes bytes names earlier Mdx children around before is all well e again = absurd is

-- the last symbol after a node is that of the last name there
after-node :
    (n : Name) (start end : Point) (children : Forest) (around : Role) (before : Option Symbol)
    (earlier : List Name) → AreShaped (Node n start end children Empty) around before →
    before ≡ symbol_of (last_of earlier) →
    last_symbol before (shown (standing_of n) (spine children))
    ≡ symbol_of (last_of (spine_after_node n children earlier))
after-node n start end children around before earlier shaped_node e =
    let own : List Name = if is_transparent n then spine_names children else n ∷ [] in
    let same : shown (standing_of n) (spine children) ≡ symbols_of own =
    sym (append-nil (shown (standing_of n) (spine children)))
    ∙ spine-names (Node n start end children Empty) around before shaped_node
    ∙ ap symbols_of (append-nil own)
    in
    ap (last_symbol before) same
    ∙ last-symbols own earlier before (subst (λ ns. list_all is_solid ns ≡ true) (append-nil own)
    (solid-names (Node n start end children Empty) around before shaped_node)) e

decodes : (bytes : List ℕ) (names : List (List ℕ × List ℕ)) (forest : Forest) (around : Role)
    (before : Option Symbol) (earlier : List Name) → AreFine bytes names forest around before →
    are_well before (spine forest) ≡ true →
    before ≡ symbol_of (last_of earlier) →
    EverywhereAfter (Decodes bytes names) earlier forest
decodes bytes names Empty around before earlier all well e = tt
decodes bytes names (Node n start end children rest) around before earlier all well e =
    let parts = well-split before (shown (standing_of n) (spine children)) (spine rest) well in (
      node-decodes bytes names earlier n start end children around before all.0 parts.0 e,
      subst (λ t. EverywhereAfter (Decodes bytes names) (if t then earlier else []) children)
          (sym (transparent n)) (inner-decodes bytes names earlier (standing_of n) children around
          before all.0.0.1 all.1 parts.0 e
          (λ a b s f w i. decodes bytes names children a b s f w i)),
      decodes bytes names rest around (last_symbol before (shown (standing_of n) (spine children)))
          (spine_after_node n children earlier) all.2 parts.1
          (after-node n start end children around before earlier (
            all.0.0,
            shaped bytes names children _ _ all.1,
            tt,
          ) e),
    )

pub references-decode : (bytes : List ℕ) (names : List (List ℕ × List ℕ)) (document : Forest) →
    IsGrammatical bytes names document → EverywhereAfter (Decodes bytes names) [] document
references-decode bytes names document grammatical =
    decodes bytes names document role.Flow None []
    (fine bytes names document role.Flow None grammatical.shape.0 grammatical.rules)
    (well-spine role.Flow (spine document) grammatical.shape.1) refl
