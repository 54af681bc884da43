-- The elements of a reading are open in its text, byte by byte. So a text with a bound on how many
-- are open has a reading that nests no deeper.
use Rattle.std.specs.Str.{bytes_eq}
use Rattle.std.specs.List.{list_all}
use Rattle.std.specs.Cmp.Lexicographic.{bytes_decides}
use Rattle.std.proofs.Common.{◌≡◌, ℕ, ◌+◌, ◌≤◌, suc, max, true, ◌&&◌, List, [], ◌∷◌, ◌++◌, refl, ap}
use Rattle.std.proofs.Common.{◌∙◌, subst, arith, inl, inr}
use Rattle.std.proofs.lemmas.Bool.{and_parts, or_cases}
use Rattle.std.proofs.lemmas.List.Folds.{list_all-append}
use Rattle.md_base.proofs.Lies.{lie}
use Rattle.md_text.specs.Html.{Forest, Empty, Text, Void, Element, Attribute, written}
use Rattle.md_text.specs.Html.{written_attributes, are_attributes, is_tag, is_forest, is_printed}
use Rattle.md_text.specs.Html.{printed_elements, printed_void_tags, IsReading}
use Rattle.md_text.proofs.HtmlNames.{no_angle, escaped-angle, element-tidy, void-tidy}
use Rattle.md_text.proofs.HtmlAngles.{name-angle, tag-angle}
use Rattle.md_depth.specs.Levels.{levels}
use Rattle.md_depth.proofs.Machine.{at, Begun, to, run, run-append, quiet, Leads}

-- something holds of the name of each of some tags
abbrev Each : (List ℕ → Type 0) → List (List ℕ × List (List ℕ)) → Type 0
Each holds [] = Unit {0}
Each holds (rule ∷ rules) = holds rule.0 × Each holds rules

of-tag : (holds : List ℕ → Type 0) (rules : List (List ℕ × List (List ℕ))) (name : List ℕ)
    (attributes : List Attribute) → Each holds rules → is_tag rules name attributes ≡ true →
    holds name
of-tag holds [] name attributes each is = lie is
of-tag holds (rule ∷ rules) name attributes each is =
    elim (or_cases (bytes_eq rule.0 name && are_attributes rule.1 attributes)
    (is_tag rules name attributes) is) [
      | inl here ↦ subst holds ((bytes_decides rule.0 name).0
          (and_parts (bytes_eq rule.0 name) (are_attributes rule.1 attributes) here).0) each.0
      | inr later ↦ of-tag holds rules name attributes each.1 later
    ]

-- after `<` a name opens an element, or is that of a void tag
abbrev Opens : List ℕ → Type 0
Opens name = (l t : ℕ) → run (to Begun (at l t)) name ≡ at (suc l) (max t (suc l))

abbrev Voids : List ℕ → Type 0
Voids name = (l t : ℕ) → run (to Begun (at l t)) name ≡ at l (max t (suc l))

-- some text without `<`, and then another
past : (x y : List ℕ) (l t : ℕ) → list_all no_angle x ≡ true →
    run (at l t) (x ++ y) ≡ run (at l t) y
past x y l t h = rw (run-append, quiet x h l t)

-- a tag up to its end
tag : (name : List ℕ) (attributes : List Attribute) (end rest : List ℕ) (l t level top : ℕ) →
    run (to Begun (at l t)) name ≡ at level top →
    list_all no_angle (name ++ (written_attributes attributes ++ end)) ≡ true →
    run (at l t) (60 ∷ (name ++ (written_attributes attributes ++ (end ++ rest))))
    ≡ run (at level top) rest
tag name attributes end rest l t level top after h = grind (
  arith,
  list_all-append,
  run-append,
  past,
)

-- the text of a forest of what the compiler writes opens as many elements as nest in it, and closes
-- them
pub opens : (forest : Forest) → is_forest forest ≡ true → is_printed forest ≡ true → (l t : ℕ) →
    l ≤ t → run (at l t) (written forest) ≡ at l (max t (l + levels forest))
opens Empty h f l t low = grind arith
opens (Text bytes rest) h f l t low =
    let p = and_parts _ _ h in
    let r = and_parts _ _ (and_parts _ _ p.0).0 in
    past bytes (written rest) l t (escaped-angle bytes r.1) ∙ opens rest p.1 f l t low
opens (Void name attributes rest) h f l t low =
    let p = and_parts _ _ h in
    let u = and_parts _ _ f in
    let end : List ℕ = 32 ∷ 47 ∷ 62 ∷ [] in
    tag name attributes end (written rest) l t l (max t (suc l)) (of-tag Voids printed_void_tags name
    attributes (grind arith) u.0 l t) (tag-angle name attributes end (void-tidy name attributes p.0)
    refl) ∙ opens rest p.1 u.1 l (max t (suc l)) (omega arith) ∙ ap (λ top. at l top) (omega arith)
opens (Element name attributes inner rest) h f l t low =
    let p = and_parts _ _ h in
    let q = and_parts _ _ p.0 in
    let u = and_parts _ _ f in
    let v = and_parts _ _ u.0 in
    let tidy = element-tidy name attributes q.0 in
    let end : List ℕ = 62 ∷ [] in
    let close : List ℕ = 60 ∷ 47 ∷ (name ++ (62 ∷ written rest)) in
    let letters : list_all no_angle name ≡ true = name-angle name (and_parts _ _ tidy.0).1 in
    let top : ℕ = max (max t (suc l)) (suc l + levels inner) in
    tag name attributes end (written inner ++ close) l t (suc l) (max t (suc l)) (of-tag Opens
    printed_elements name attributes (grind arith) v.0 l t) (tag-angle name attributes end tidy refl) ∙
    run-append (at (suc l) (max t (suc l))) (written inner) close ∙ ap (λ s. run s close) (opens
    inner q.1 v.1 (suc l) (max t (suc l)) (omega arith)) ∙ past name (62 ∷ written rest) l top letters ∙
    opens rest p.1 u.1 l top (omega arith) ∙ ap (λ top. at l top) (omega arith)

-- a text in which no more are open has a reading that nests no deeper
pub levels-kept : (n : ℕ) (x : List ℕ) (forest : Forest) → IsReading x forest →
    is_printed forest ≡ true → Leads 0 0 n x → levels forest ≤ n
levels-kept n x forest reading printed f =
    let all = opens forest reading.in_grammar printed 0 n (omega arith) in
    grind (arith, f.leads 0 n, reading.written_so, all)
