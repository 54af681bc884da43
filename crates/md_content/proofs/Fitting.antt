-- The other conditions on a node, such as a heading's rank or a list's number, hold for each node
-- that has its shape and fulfils the rules.
use Rattle.std.specs.Str.{bytes_eq}
use Rattle.std.proofs.Common.{◌≡◌, ℕ, Bool, true, false, cond, Option, Some, None, is_some, List}
use Rattle.std.proofs.Common.{[], ◌∷◌, refl, subst}
use Rattle.std.specs.List.{list_any}
use Rattle.md_pattern.specs.declared.kinds.Item.{Item}
use Rattle.std.specs.Cmp.Lexicographic.{bytes_decides}
use Rattle.md_base.proofs.Lies.{lie}
use Rattle.md_base.specs.declared.event.Name.{Name}
use Rattle.md_base.specs.declared.event.Name.TheVariants as name_variants
use name_variants.{LineEnding, BlankLineEnding, HeadingAtx, ListOrdered, CodeFenced, MathFlow}
use Rattle.md_base.specs.declared.event.Point.{Point}
use Rattle.md_base.specs.Place.{text_between}
use Rattle.md_text.specs.Laws.{is_line_ends}
use Rattle.md_pattern.specs.declared.kinds.Symbol.{Symbol}
use Rattle.md_pattern.specs.declared.kinds.Symbol.TheVariants as symbol
use Rattle.md_pattern.specs.declared.kinds.Role.{Role}
use Rattle.md_pattern.specs.declared.kinds.Role.TheVariants as role
use Rattle.md_tree.specs.declared.rule.Rule.TheVariants as rule
use Rattle.md_base.specs.Tree.{Forest}
use Rattle.md_pattern.specs.Standing.{standing_of}
use Rattle.md_pattern.specs.Shape.{inner_role, inner_before}
use Rattle.md_tree.specs.Rules.{is_line_ending}
use Rattle.md_base.specs.Children.{spine_names}
use Rattle.md_content.specs.Built.{is_fence, IsFit}
use Rattle.md_content.proofs.FineNodes.{IsFine, AreFine, shaped}
use Rattle.md_content.proofs.SymbolNames.{name_of}
use Rattle.md_content.proofs.Stands.{stands, names-stand}
use Rattle.md_content.proofs.Heads.{Head, head}
use Rattle.md_content.proofs.RanksAndNumbers.{text_fits, heading_fits, list_fits}

-- the text of a line ending has only line ends
ending-ends : (text : List ℕ) → is_line_ending text ≡ true → is_line_ends text ≡ true
ending-ends text h = by (bytes_eq (13 ∷ 10 ∷ []) text) (bytes_eq (13 ∷ []) text)
    (bytes_eq (10 ∷ []) text) _ _ _ (same (13 ∷ 10 ∷ []) refl) (same (13 ∷ []) refl)
    (same (10 ∷ []) refl) h
  where
    same : (ending : List ℕ) → is_line_ends ending ≡ true → bytes_eq ending text ≡ true →
        is_line_ends text ≡ true
    same ending h e = subst (λ t. is_line_ends t ≡ true) ((bytes_decides ending text).0 e) h

    by : {A : Type 0} (a b c : Bool) (x y z : A) → (a ≡ true → is_line_ends text ≡ true) →
        (b ≡ true → is_line_ends text ≡ true) → (c ≡ true → is_line_ends text ≡ true) →
        is_some (cond a (Some x) (cond b (Some y) (cond c (Some z) None))) ≡ true →
        is_line_ends text ≡ true
    by true b c x y z f g i h = f refl
    by false true c x y z f g i h = g refl
    by false false true x y z f g i h = i refl
    by false false false x y z f g i h = lie h

-- a fence that begins a spine is one by its name
fence_first : (one : Symbol) {items : List Item} (around : Role) (bytes : List ℕ)
    (names : List (List ℕ × List ℕ)) (children : Forest) → is_fence (name_of one) ≡ true →
    AreFine bytes names children around None →
    Head (IsFine bytes names) one items around (stands children) →
    list_any is_fence (spine_names children) ≡ true
fence_first one around bytes names children h all first =
    rw (
      names-stand children around None (shaped bytes names children around None all),
      first.are,
      h,
    ) refl

-- the other conditions on a node
pub fit : (bytes : List ℕ) (names : List (List ℕ × List ℕ)) (name : Name) (around : Role)
    (before : Option Symbol) (start end : Point) (children : Forest) →
    IsFine bytes names around before name start end children →
    AreFine bytes names children (inner_role (standing_of name) around before)
    (inner_before (standing_of name) before) → IsFit bytes name start end children
fit bytes names LineEnding around before start end children here inside =
    text_fits is_line_ending rule.LineEnding (λ text. is_line_ends text
    ≡ true) ending-ends (text_between bytes start end) here.1
fit bytes names BlankLineEnding around before start end children here inside =
    text_fits is_line_ending rule.LineEnding (λ text. is_line_ends text
    ≡ true) ending-ends (text_between bytes start end) here.1
fit bytes names HeadingAtx around before start end children here inside =
    heading_fits bytes names children inside here.0.1
fit bytes names ListOrdered around before start end children here inside =
    list_fits bytes names children inside here.0.1
fit bytes names CodeFenced around before start end children here inside =
    fence_first symbol.CodeFence role.CodeFenced bytes names children refl inside
    (head (IsFine bytes names) symbol.CodeFence _ role.CodeFenced children refl refl refl inside
    here.0.1)
fit bytes names MathFlow around before start end children here inside =
    fence_first symbol.MathFence role.Math bytes names children refl inside
    (head (IsFine bytes names) symbol.MathFence _ role.Math children refl refl refl inside
    here.0.1)
fit bytes names _ around before start end children here inside = tt
