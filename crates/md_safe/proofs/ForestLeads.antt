-- A forest, node by node: to the data state, before whatever follows.
use Rattle.md_safe.proofs.Cases.{all-weaker}
use Rattle.std.proofs.Common.{◌≡◌, ℕ, true, false, List, [], ◌∷◌, ◌++◌, refl, sym, arith, ◌∙◌}
use Rattle.std.proofs.Common.{append-nil, append_assoc}
use Rattle.std.proofs.lemmas.Bool.{and_parts}
use Rattle.md_text.specs.Html.{Attribute, Forest, Empty, Text, Void, Element, is_forest, written}
use Rattle.md_text.specs.Html.{IsReading}
use Rattle.md_text.proofs.HtmlWriting.{attributes_before, forest_before, written-before}
use Rattle.md_safe.specs.Input.{with_line_feeds, begins_with_line_feed}
use Rattle.md_safe.specs.Token.{Token, EndTag}
use Rattle.md_safe.specs.TokenizerStates.{Data}
use Rattle.md_safe.specs.Tokens.{tokens}
use Rattle.md_safe.proofs.TagLeads.{good_parts, lined, line_feeds-attributes, element-leads}
use Rattle.md_safe.proofs.TagLeads.{void-leads, end-leads}
use Rattle.md_safe.proofs.LineFeeds.{line_feeds-append, line_feeds-name, line_feeds-escaped}
use Rattle.md_safe.proofs.GoodNames.{is_good_name, are_good, element-good, void-good}
use Rattle.md_safe.specs.Embedded.{EndsInDataState}
use Rattle.md_safe.proofs.TextLeads.{To, arrived, text-leads}

pub good-line_feeds : (name r : List ℕ) → is_good_name name ≡ true →
    with_line_feeds (name ++ r) ≡ name ++ with_line_feeds r
good-line_feeds name r g = grind (arith, and_parts, line_feeds-name, all-weaker, good_parts)

attributes-append : (x : List Attribute) (r left : List ℕ) →
    attributes_before x r ++ left ≡ attributes_before x (r ++ left)
attributes-append [] r left = refl
attributes-append (a ∷ x) r left = grind (arith, append_assoc, attributes-append x r left)

-- a tag's name and its attributes, and what follows them
tag-lined : (name : List ℕ) (x : List Attribute) (r left : List ℕ) →
    is_good_name name ≡ true → are_good x ≡ true →
    name ++ attributes_before (lined x) (with_line_feeds r ++ left)
    ≡ with_line_feeds (name ++ attributes_before x r) ++ left
tag-lined name x r left g h =
    grind (arith, attributes-append, append_assoc, line_feeds-attributes, good-line_feeds)

forest-leads : {left : List ℕ} (f : Forest) (r : List ℕ) (t : List Token) → is_forest f ≡ true →
    begins_with_line_feed r ≡ false → To left Data (with_line_feeds r ++ left) t →
    To left Data (with_line_feeds (forest_before f r) ++ left) (tokens f ++ t)
forest-leads Empty r t h n k = k
forest-leads {left} (Text bytes rest) r t h n k =
    let p = and_parts _ _ h in
    let q = and_parts _ _ p.0 in
    let s = and_parts _ _ q.0 in
    let on = forest_before rest r in
    rw (line_feeds-append bytes on (grind arith)) (simp append_assoc (text-leads left
    (with_line_feeds bytes) (line_feeds-escaped bytes s.1) (with_line_feeds on ++ left) (tokens rest
    ++ t) (forest-leads rest r t p.1 n k)))
forest-leads {left} (Void name attributes rest) r t h n k =
    let p = and_parts _ _ h in
    let good = void-good name attributes p.0 in
    let on = forest_before rest r in
    rw (← (tag-lined name attributes (32 ∷ 47 ∷ 62 ∷ on) left good.0 good.1))
    (grind (arith, void-leads, forest-leads rest r t p.1 n k))
forest-leads {left} (Element name attributes children rest) r t h n k =
    let p = and_parts _ _ h in
    let q = and_parts _ _ p.0 in
    let good = element-good name attributes q.0 in
    let on = forest_before rest r in
    let close = 60 ∷ 47 ∷ (name ++ (62 ∷ on)) in
    let inside = forest_before children close in
    let later : List Token = EndTag name ∷ (tokens rest ++ t) in
    let ending : To left Data (with_line_feeds close ++ left) later = rw (← (tag-lined name [] (62 ∷
    on) left good.0 refl)) (grind (arith, end-leads, forest-leads rest r t p.1 n k)) in
    rw (← (tag-lined name attributes (62 ∷ inside) left good.0 good.1), append_assoc)
    (grind (arith, element-leads, forest-leads children close later q.1 refl ending))

pub forest-ends : (f : Forest) → is_forest f ≡ true → EndsInDataState (written f) (tokens f)
forest-ends f h left =
    let ends = forest-leads f [] [] h refl (arrived left) in
    rw (append-nil (tokens f)) at (rw (sym (written-before f []) ∙ append-nil (written f)) at ends)

pub reading-ends : (text : List ℕ) (f : Forest) → IsReading text f → EndsInDataState text (tokens f)
reading-ends text f reading = grind (arith, forest-ends)
