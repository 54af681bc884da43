-- The last name on a spine, and the last symbol.
use Rattle.std.proofs.Common.{◌≡◌, suc, Bool, true, Option, Some, None, List, [], ◌∷◌, ◌++◌, refl}
use Rattle.std.proofs.Common.{sym, ap, ◌∙◌, append_assoc, append-nil, arith}
use Rattle.std.specs.Prelude.{map, is_some, unwrap_or, length, slice_get, ◌-◌}
use Rattle.std.specs.List.{list_all}
use Rattle.std.proofs.lemmas.Bool.{and_parts, and_from}
use Rattle.md_base.specs.declared.event.Name.{Name}
use Rattle.md_pattern.specs.declared.kinds.Symbol.{Symbol}
use Rattle.md_pattern.specs.declared.kinds.Role.{Role}
use Rattle.md_pattern.specs.declared.kinds.Standing.{Standing}
use Rattle.md_base.specs.Tree.{Forest}
use Rattle.md_pattern.specs.Standing.{standing_of}
use Rattle.md_pattern.specs.Spine.{shown}
use Rattle.md_pattern.specs.Shape.{IsShapedNode, AreShaped, last_symbol}
use Rattle.md_tree.specs.Laws.{symbols_of}
use Rattle.md_base.specs.Children.{spine_names}
use Rattle.md_meaning.specs.Surroundings.{last_of}
use Rattle.md_content.proofs.SymbolNames.{symbol_in}
use Rattle.md_content.proofs.Stands.{Stand, Stood, EachStood, each-stood, names-stand}

abbrev pub symbol_of : Option Name → Option Symbol
symbol_of None = None
symbol_of (Some n) = symbol_in (standing_of n)

abbrev pub is_solid : Name → Bool
is_solid n = is_some (symbol_in (standing_of n))

pub last-push : (names : List Name) (n : Name) → last_of (names ++ n ∷ []) ≡ Some n
last-push [] n = refl
last-push (other ∷ names) n = ap (λ o. Some (unwrap_or o other)) (last-push names n)

solid-shown : (standing : Standing) (before : Option Symbol) (symbols : List Symbol) →
    is_some (symbol_in standing) ≡ true →
    last_symbol before (shown standing [] ++ symbols) ≡ last_symbol (symbol_in standing) symbols
solid-shown standing before symbols h = grind arith

-- names that stand on a spine follow others
pub last-symbols : (names earlier : List Name) (before : Option Symbol) →
    list_all is_solid names ≡ true → before ≡ symbol_of (last_of earlier) →
    last_symbol before (symbols_of names) ≡ symbol_of (last_of (earlier ++ names))
last-symbols [] earlier before h e = grind (arith, append-nil)
last-symbols (n ∷ names) earlier before h e =
    let parts = and_parts _ _ h in
    solid-shown (standing_of n) before (symbols_of names) parts.0
    ∙ last-symbols names (earlier ++ n ∷ []) (symbol_in (standing_of n)) parts.1
    (ap symbol_of (sym (last-push earlier n)))
    ∙ ap (λ ns. symbol_of (last_of ns)) (append_assoc earlier (n ∷ []) names)

solid-stood : (around : Role) (before : Option Symbol) (nodes : List Stand) →
    EachStood IsShapedNode around before nodes →
    list_all is_solid (map (λ node. node.name) nodes) ≡ true
solid-stood around before [] stood = refl
solid-stood around before (node ∷ nodes) stood = and_from _ _ (ap is_some (Stood.shows stood.0))
    (solid-stood around (Some node.seen) nodes stood.1)

pub solid-names : (forest : Forest) (around : Role) (before : Option Symbol) →
    AreShaped forest around before → list_all is_solid (spine_names forest) ≡ true
solid-names forest around before shaped =
    grind (arith, names-stand, solid-stood, each-stood)

pub last-got : (names : List Name) → last_of names ≡ slice_get names (length names - 1)
last-got [] = refl
last-got (n ∷ []) = refl
last-got (n ∷ other ∷ names) =
    let next : suc (length names) - 1 ≡ length names = omega arith in
    let later : suc (suc (length names)) - 1 ≡ suc (length names) = omega arith in
    ap (λ o. Some (unwrap_or o n)) (last-got (other ∷ names))
    ∙ ap (λ k. Some (unwrap_or (slice_get (other ∷ names) k) n)) next
    ∙ there names other
    ∙ sym (ap (λ k. slice_get (n ∷ other ∷ names) k) later)
  where
    there : (names : List Name) (other : Name) →
        Some (unwrap_or (slice_get (other ∷ names) (length names)) n)
        ≡ slice_get (other ∷ names) (length names)
    there [] other = refl
    there (more ∷ names) other = there names more
