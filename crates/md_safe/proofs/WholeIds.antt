-- No id stands twice in the meaning of a document, nor in two documents whose prefixes are apart:
-- an id by number determines its prefix, since what follows it begins with `fn`, and has no other
-- `fn`.
use Rattle.std.proofs.Common.{◌≡◌, ℕ, ◌≤◌, ◌==◌, Bool, true, false, ◌&&◌, ◌||◌, List, [], ◌∷◌, ◌++◌}
use Rattle.std.proofs.Common.{refl, sym, ap, ◌∙◌, arith, codes, bytes_eq, append-nil, ◌⊎◌, inl, inr}
use Rattle.std.proofs.Common.{not, length, ◌<◌, ◌^◌, ◌+◌}
use Rattle.std.specs.List.{list_any, list_all}
use Rattle.std.specs.Fmt.{decimal}
use Rattle.std.proofs.lemmas.Bool.{or_right, and_from, or_left}
use Rattle.md_base.proofs.Lies.{lie}
use Rattle.md_text.proofs.HtmlIds.{occurs, counted-once}
use Rattle.md_content.specs.Built.{is_digit, Blocks, IsBuilt}
use Rattle.md_safe.proofs.Texts.{decimal-digits}
use Rattle.std.specs.Str.{bytes_eq}
use Rattle.md_base.specs.declared.event.Name.TheVariants.{GfmFootnoteCall}
use Rattle.md_text.specs.Html.{Forest as Html, IsReading}
use Rattle.md_text.proofs.HtmlReading.{one_reading}
use Rattle.md_meaning.proofs.Identifiers.{itself}
use Rattle.std.proofs.lemmas.List.{length-append}
use Rattle.md_base.specs.Is.{is as named}
use Rattle.md_base.specs.Tree.{Forest, Empty, Node, flatten}
use Rattle.md_text.specs.Ids.{ids, HasDistinctIds}
use Rattle.md_content.specs.Underlined.{IsUnderlined}
use Rattle.md_text.specs.declared.options.CompileOptions.{CompileOptions}
use Rattle.md_meaning.specs.Meaning.{meaning}
use Rattle.md_meaning.specs.Meaning.Inherited.{outermost}
use Rattle.md_meaning.specs.Meaning.At.{Context, Before, identifier_of}
use Rattle.md_meaning.specs.Meaning.Before.{nothing_before}
use Rattle.md_meaning.specs.Meaning.Layout.{when}
use Rattle.md_meaning.specs.Meaning.Nodes.{outcome}
use Rattle.md_meaning.specs.declared.surroundings.Surroundings.{Surroundings}
use Rattle.md_safe.proofs.Prepared.{document_of, alone_of}
use Rattle.md_safe.specs.Options.{KeepsIds}
use Rattle.md_safe.proofs.Tags.{reading}
use Rattle.md_safe.proofs.Costs.{Document}
use Rattle.md_safe.specs.Apart.{prefix_of, are_apart, ShareNoId}
use Rattle.md_safe.proofs.CountedSection.{document-counts, document-counted}
use Rattle.md_safe.proofs.IdsOnce.{IsNote, IsCall, document-known}

-- begins with `n`
abbrev begins_n : List ℕ → Bool
begins_n [] = false
begins_n (b ∷ x) = b == 110

-- has `fn` somewhere
abbrev pub has_fn : List ℕ → Bool
has_fn [] = false
has_fn (b ∷ x) = ((b == 102) && begins_n x) || has_fn x

fn-inside : (p x : List ℕ) → has_fn (p ++ (102 ∷ 110 ∷ x)) ≡ true
fn-inside [] x = refl
fn-inside (b ∷ p) x = or_right _ _ (fn-inside p x)

-- two texts with one such beginning each begin alike
pub same-prefix : (p q x y : List ℕ) → has_fn x ≡ false → has_fn y ≡ false →
    p ++ (102 ∷ 110 ∷ x) ≡ q ++ (102 ∷ 110 ∷ y) → p ≡ q
same-prefix [] [] x y h g e = refl
same-prefix [] (c ∷ q) x y h g e =
    let after : 110 ∷ x ≡ q ++ (102 ∷ 110 ∷ y) = cc e in
    lie (sym h ∙ ap has_fn after ∙ fn-inside q y)
same-prefix (b ∷ p) [] x y h g e =
    let after : 110 ∷ y ≡ p ++ (102 ∷ 110 ∷ x) = cc (sym e) in
    lie (sym g ∙ ap has_fn after ∙ fn-inside p x)
same-prefix (b ∷ p) (c ∷ q) x y h g e = grind (arith, same-prefix p q x y h g)

fn-past : (x y : List ℕ) → list_all is_digit x ≡ true → has_fn (x ++ y) ≡ has_fn y
fn-past [] y h = refl
fn-past (b ∷ x) y h = grind (arith, fn-past x y)

fn-digits : (x : List ℕ) → list_all is_digit x ≡ true → has_fn x ≡ false
fn-digits x h = ap has_fn (sym (append-nil x)) ∙ fn-past x [] h

-- after `fn` of a footnote, and after that of a call
pub note-once : (n : ℕ) → has_fn (45 ∷ decimal n) ≡ false
note-once n = fn-digits (decimal n) (decimal-digits n)

-- what is found among some texts stands there once or more
pub any-occurs : (x : List ℕ) (ys : List (List ℕ)) → list_any (λ y. bytes_eq y x) ys ≡ true →
    1 ≤ occurs x ys
any-occurs x [] h = lie h
any-occurs x (y ∷ ys) h = grind (arith, any-occurs x ys)

-- the identifiers of the footnote calls in some nodes, in the order of their exits
abbrev calls_in : List ℕ → Forest → List (List ℕ)
calls_in bytes Empty = []
calls_in bytes (Node name start end children rest) =
    (calls_in bytes children
    ++ when (named GfmFootnoteCall name) (identifier_of bytes children ∷ [])) ++ calls_in bytes rest

-- the calls don't depend on the rest of the context
calls-same : (context : Context) (forest : Forest) (around : Surroundings) (before : Before) →
    (outcome context around before forest).calls ≡ calls_in context.bytes forest
calls-same context Empty around before = refl
calls-same context (Node name start end children rest) around before =
    grind (arith, calls-same context children, calls-same context rest around)

-- a document has at most half as many calls as events
calls-fewer : (bytes : List ℕ) (forest : Forest) →
    length (calls_in bytes forest) + length (calls_in bytes forest) ≤ length (flatten forest)
calls-fewer bytes Empty = omega arith
calls-fewer bytes (Node name start end children rest) =
    grind (arith, length-append, calls-fewer bytes children, calls-fewer bytes rest)

pub distinct-ids : (bytes : List ℕ) (names : List (List ℕ × List ℕ)) (options : CompileOptions)
    (document : Forest) →
    IsBuilt bytes Blocks document → IsUnderlined false document → KeepsIds options →
    length (flatten document) < 2 ^ 64 → HasDistinctIds (meaning options names bytes document)
distinct-ids bytes names options document built underlined keeps small =
    let alone : Context = alone_of bytes names options document in
    let d : Document = document_of bytes names options document built keeps.grammar in
    counted-once (meaning options names bytes document)
    (λ w. document-counted d w document keeps.grammar keeps.by_number built underlined
    (omega (
      ap length (calls-same alone document outermost nothing_before),
      calls-fewer bytes document,
      small,
      arith,
    )) (grind (arith, calls-same)))

-- each id of a document is that of the heading, of a footnote or of a call
known-id : (bytes : List ℕ) (names : List (List ℕ × List ℕ)) (options : CompileOptions)
    (document : Forest) →
    IsBuilt bytes Blocks document → IsUnderlined false document → KeepsIds options → (f : Html) →
    IsReading (meaning options names bytes document) f → (w : List ℕ) → 1 ≤ occurs w (ids f) →
    (codes "footnote-label" ≡ w) ⊎ (IsNote options w ⊎ IsCall options w)
known-id bytes names options document built underlined keeps f reading w some =
    let alone : Context = alone_of bytes names options document in
    let d : Document = document_of bytes names options document built keeps.grammar in
    let counts = document-counts d w document keeps.grammar built underlined
    (grind (arith, calls-same)) in
    let same : f ≡ counts.forest =
    one_reading (meaning options names bytes document) f counts.forest reading counts.reading in
    grind (arith, document-known)

-- what follows the prefix in the id of a footnote or of a call
tail_of : (options : CompileOptions) (w : List ℕ) → IsNote options w ⊎ IsCall options w →
    (tail : List ℕ) × (has_fn tail ≡ false) × (w ≡ prefix_of options ++ (102 ∷ 110 ∷ tail))
tail_of options w h = grind (arith, note-once, fn-past, decimal-digits, fn-digits)

-- what follows two prefixes of one id proves that they are equal
one-prefix : (options other : CompileOptions) (w : List ℕ) → IsNote options w ⊎ IsCall options w →
    IsNote other w ⊎ IsCall other w → prefix_of options ≡ prefix_of other
one-prefix options other w n m =
    let a = tail_of options w n in
    let b = tail_of other w m in
    same-prefix (prefix_of options) (prefix_of other) a.0 b.0 a.1 b.1 (sym a.2 ∙ b.2)

-- where no id but the heading's is among both, they are apart
apart-ids : (xs ys : List (List ℕ)) → ((w : List ℕ) → 1 ≤ occurs w xs → 1 ≤ occurs w ys → codes
    "footnote-label" ≡ w) → are_apart xs ys ≡ true
apart-ids [] ys h = refl
apart-ids (x ∷ xs) ys h = and_from _ _ (of (list_any (λ other. bytes_eq other x) ys) refl)
    (apart-ids xs ys (λ w some. h w (later w some)))
  where
    later : (w : List ℕ) → 1 ≤ occurs w xs → 1 ≤ occurs w (x ∷ xs)
    later w some = grind (arith, some)

    first : 1 ≤ occurs x (x ∷ xs)
    first = grind (arith, itself x)

    of : (is : Bool) → list_any (λ other. bytes_eq other x) ys ≡ is →
        (bytes_eq (codes "footnote-label") x || not is) ≡ true
    of false e = or_right _ _ refl
    of true e = or_left _ _ (ap (λ y. bytes_eq y x) (h x first (any-occurs x ys e)) ∙ itself x)

pub apart : (bytes other_bytes : List ℕ) (names other_names : List (List ℕ × List ℕ))
    (options other_options : CompileOptions) (document other : Forest) →
    IsBuilt bytes Blocks document →
    IsUnderlined false document → KeepsIds options → IsBuilt other_bytes Blocks other →
    IsUnderlined false other →
    KeepsIds other_options → (prefix_of options ≡ prefix_of other_options → ⊥) →
    ShareNoId (meaning options names bytes document)
    (meaning other_options other_names other_bytes other)
apart bytes other_bytes names other_names options other_options document other built underlined
    keeps other_built other_underlined other_keeps differ f g reading other_reading =
    apart-ids (ids f) (ids g) (λ w here there. of w (known-id bytes names options document built
    underlined keeps f reading w here) (grind (arith, known-id)))
  where
    of : (w : List ℕ) → (codes "footnote-label" ≡ w) ⊎ (IsNote options w ⊎ IsCall options w) →
        (codes "footnote-label" ≡ w) ⊎ (IsNote other_options w ⊎ IsCall other_options w) →
        codes "footnote-label" ≡ w
    of w (inl label) any = label
    of w (inr here) (inl label) = label
    of w (inr here) (inr there) = absurd (differ (one-prefix options other_options w here there))
