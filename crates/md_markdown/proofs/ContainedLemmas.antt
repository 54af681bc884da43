-- A text that is built as it is read is contained: it has no link in a link, and links may contain
-- links.
use Rattle.std.proofs.Common.{◌≡◌, ℕ, Bool, true, false, List, [], ◌∷◌, ◌++◌, arith, refl}
use Rattle.std.proofs.Common.{◌∙◌, codes, inl, inr, map, subst, sym, if◌then◌else◌}
use Rattle.std.specs.Prelude.{Option, Some, None, find, option_map, bytes_eq}
use Rattle.std.specs.Option.{option_map_or}
use Rattle.std.proofs.lemmas.Bool.{and_parts, and_from, cases_Bool}
use Rattle.std.proofs.lemmas.Slice.Eq.{bytes_eq-Decides}
use Rattle.md_text.specs.Bytes.{is_one_of}
use Rattle.md_text.specs.Html.{Forest, Empty, Text, Void, Element}
use Rattle.md_safe.specs.Contents.{Content, Flow, Phrasing, Linked, Items, Parts, Rows, Cells}
use Rattle.md_safe.specs.Contents.{Preformatted, Characters, held_in, is_contained, IsContained}
use Rattle.md_safe.specs.Contents.{spans_of, block_elements, voids_in, may_say}
use Rattle.md_safe.specs.Built.{IsBuiltAsRead}

-- a content, and that which takes its place if links may contain links
data Looser : Content → Content → Type 0 where
  Same : {c : Content} → Looser c c
  Freed : Looser Linked Phrasing

abbrev Pair : Type 0
Pair = List ℕ × Content

abbrev what : Option Pair → Option Content
what found = option_map (λ (pair : Pair). pair.1) found

-- what was found holds this, or what takes its place
abbrev Frees : Option Content → Option Content → Type 0
Frees found more = (h : Content) → found ≡ Some h → (m : Content) × (Looser h m × (more ≡ Some m))

same : (found : Option Content) → Frees found found
same found h e = (h, (Same, e))

of_some : {c d : Content} → Some c ≡ Some d → c ≡ d
of_some e = grind arith

choose : (b : Bool) (x y : Pair) (r s : Option Pair) → Looser x.1 y.1 → Frees (what r) (what s) →
    Frees (what (if b then Some x else r)) (what (if b then Some y else s))
choose true x y r s l f h e = (y.1, (subst (λ c. Looser c y.1) (of_some e) l, refl))
choose false x y r s l f h e = f h e

skip : (b : Bool) (y : Pair) (r s : Option Pair) → b ≡ false → Frees (what r) (what s) →
    Frees (what r) (what (if b then Some y else s))
skip b y r s n f h e = rw n (f h e)

abbrev named : List ℕ → Pair → Bool
named name pair = bytes_eq pair.0 name

among : (name : List ℕ) (names : List (List ℕ)) →
    Frees (what (find (named name) (map (λ n. (n, Linked)) names)))
    (what (find (named name) (map (λ n. (n, Phrasing)) names)))
among name [] = λ h e. grind arith
among name (n ∷ names) =
    choose (bytes_eq n name) (n, Linked) (n, Phrasing)
    (find (named name) (map (λ n. (n, Linked)) names))
    (find (named name) (map (λ n. (n, Phrasing)) names)) Freed (among name names)

-- the spans beside links and code
abbrev spans : List (List ℕ)
spans = codes "em" ∷ codes "strong" ∷ codes "del" ∷ codes "sup"
    ∷ codes "b" ∷ codes "i" ∷ codes "u" ∷ codes "s" ∷ codes "small" ∷ codes "sub" ∷ codes "span"
    ∷ codes "kbd" ∷ codes "samp" ∷ codes "var" ∷ codes "q" ∷ codes "cite" ∷ codes "abbr"
    ∷ codes "dfn" ∷ codes "ins" ∷ codes "mark" ∷ []

unlinked : (name : List ℕ) → codes "a" ≡ name →
    Frees (held_in false Linked name) (held_in true Phrasing name)
unlinked name is h e = grind arith

freed : (name : List ℕ) → Frees (held_in false Linked name) (held_in true Phrasing name)
freed name = elim (cases_Bool (bytes_eq (codes "a") name)) [
  | inl y ↦ unlinked name (grind (arith, bytes_eq-Decides))
  | inr n ↦ skip (bytes_eq (codes "a") name) (codes "a", Phrasing)
      (find (named name) (spans_of Linked)) (find (named name) (spans_of Phrasing)) n
      (choose (bytes_eq (codes "code") name) (codes "code", Characters) (codes "code", Characters)
      _ _ Same (among name spans))
]

held : (c : Content) (name : List ℕ) → Frees (held_in false c name) (held_in true c name)
held Flow name =
    choose (bytes_eq (codes "a") name) (codes "a", Linked) (codes "a", Phrasing)
    (find (named name) (spans_of Phrasing ++ block_elements))
    (find (named name) (spans_of Phrasing ++ block_elements)) Freed (same _)
held Phrasing name =
    choose (bytes_eq (codes "a") name) (codes "a", Linked) (codes "a", Phrasing)
    (find (named name) (spans_of Phrasing)) (find (named name) (spans_of Phrasing)) Freed (same _)
held Linked name = same _
held Items name = same _
held Parts name = same _
held Rows name = same _
held Cells name = same _
held Preformatted name = same _
held Characters name = same _

looser : (c d : Content) → Looser c d → (name : List ℕ) →
    Frees (held_in false c name) (held_in true d name)
looser c d Same name = held c name
looser c d Freed name = freed name

voids : (c d : Content) → Looser c d → voids_in c ≡ voids_in d
voids c d Same = refl
voids c d Freed = refl

says : (c d : Content) (text : List ℕ) → Looser c d → may_say c text ≡ may_say d text
says c d text Same = refl
says c d text Freed = refl

-- an element stands where it may
element : (found more : Option Content) (p q : Content → Bool) → Frees found more →
    ((c d : Content) → Looser c d → p c ≡ true → q d ≡ true) → option_map_or p found false ≡ true →
    option_map_or q more false ≡ true
element None more p q f g h = grind arith
element (Some c) more p q f g h =
    let m = f c refl in rw (m.1.1) (g c m.0 m.1.0 h)

contained : (c d : Content) → Looser c d → (f : Forest) → is_contained false c f ≡ true →
    is_contained true d f ≡ true
contained c d l Empty h = refl
contained c d l (Text bytes rest) h =
    let p = and_parts (may_say c bytes) _ h in
    and_from _ _ (sym (says c d bytes l) ∙ p.0) (contained c d l rest p.1)
contained c d l (Void name attributes rest) h =
    let p = and_parts (is_one_of (voids_in c) name) _ h in
    and_from _ _ (subst (λ v. is_one_of v name ≡ true) (voids c d l) p.0)
    (contained c d l rest p.1)
contained c d l (Element name attributes inner rest) h =
    let p = and_parts (option_map_or (λ held. is_contained false held inner)
    (held_in false c name) false) _ h in
    and_from _ _ (element (held_in false c name) (held_in true d name)
    (λ held. is_contained false held inner) (λ held. is_contained true held inner)
    (looser c d l name) (λ c d l. contained c d l inner) p.0)
    (contained c d l rest p.1)

pub built-contained : (text : List ℕ) → IsBuiltAsRead text → IsContained text
built-contained text built = record {
  forest = built.forest;
  reading = built.reading;
  contained = contained Flow Flow Same built.forest built.contained;
  only = built.only;
}
