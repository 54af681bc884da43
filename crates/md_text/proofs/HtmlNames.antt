-- The names of the tables, and where names, values and texts end: so a reading can't go wrong at a
-- boundary.
use Rattle.md_base.proofs.Lies.{lie}
use Rattle.std.proofs.Common.{arith, ◌≡◌, ℕ, ◌==◌, Bool, true, not, ◌&&◌, List, [], ◌∷◌, refl}
use Rattle.std.proofs.Common.{ne_eqb}
use Rattle.std.specs.List.{list_all, list_any}
use Rattle.std.specs.Str.{bytes_eq}
use Rattle.std.specs.Cmp.Lexicographic.{bytes_decides}
use Rattle.std.proofs.lemmas.Bool.{and_parts, and_from, cases_eq}
use Rattle.md_text.specs.Bytes.{is_one_of}
use Rattle.md_text.specs.References.{is_escaped, is_escaped_byte}
use Rattle.md_text.specs.Html.{Attribute, is_tag, are_attributes, elements, void_tags}
use Rattle.md_text.specs.Html.{printed_elements, printed_void_tags}
pub use Rattle.md_text.specs.HtmlName.{is_name_byte, is_name}

abbrev pub no_angle : ℕ → Bool
no_angle b = not (b == 60)

abbrev pub no_quote : ℕ → Bool
no_quote b = not (b == 34)

-- attributes whose names are names, and whose values end where they are to
abbrev pub are_tidy : List Attribute → Bool
are_tidy [] = true
are_tidy (a ∷ rest) =
    is_name a.name && (list_all no_quote a.value && (list_all no_angle a.value && are_tidy rest))

-- the tables hold only names
abbrev pub rules_hold_names : List (List ℕ × List (List ℕ)) → Bool
rules_hold_names [] = true
rules_hold_names (rule ∷ rules) =
    is_name rule.0 && (list_all is_name rule.1 && rules_hold_names rules)

-- what is escaped has none of these
escaped_byte-angle : (b : ℕ) (rest : List ℕ) → is_escaped_byte b rest ≡ true → no_angle b ≡ true
escaped_byte-angle b rest e = grind arith

escaped_byte-quote : (b : ℕ) (rest : List ℕ) → is_escaped_byte b rest ≡ true → no_quote b ≡ true
escaped_byte-quote b rest e = grind (arith, cases_eq, ne_eqb)

pub escaped-angle : (text : List ℕ) → is_escaped text ≡ true → list_all no_angle text ≡ true
escaped-angle [] e = refl
escaped-angle (b ∷ rest) e =
    let parts = and_parts (is_escaped_byte b rest) (is_escaped rest) e in
    grind (arith, escaped_byte-angle b rest parts.0, escaped-angle rest parts.1)

pub escaped-quote : (text : List ℕ) → is_escaped text ≡ true → list_all no_quote text ≡ true
escaped-quote [] e = refl
escaped-quote (b ∷ rest) e =
    let parts = and_parts (is_escaped_byte b rest) (is_escaped rest) e in
    and_from (no_quote b) (list_all no_quote rest) (escaped_byte-quote b rest parts.0)
    (escaped-quote rest parts.1)

-- what holds of each listed name holds of one of them
pub one_of-passes : (p : List ℕ → Bool) (listed : List (List ℕ)) (name : List ℕ) →
    list_all p listed ≡ true → is_one_of listed name ≡ true → p name ≡ true
one_of-passes p [] name g e = lie e
one_of-passes p (t ∷ ts) name g e =
    let same = (bytes_decides name t).0 in
    let later = one_of-passes p ts name in
    grind (arith, same, later, g, e)

attributes-tidy : (listed : List (List ℕ)) (attributes : List Attribute) →
    list_all is_name listed ≡ true →
    are_attributes listed attributes ≡ true → are_tidy attributes ≡ true
attributes-tidy listed [] g e = refl
attributes-tidy listed (a ∷ rest) g e =
    let later = attributes-tidy listed rest g in
    grind (arith, one_of-passes is_name listed a.name, escaped-quote, escaped-angle, later, g, e)

-- a tag of a table of names has a name, and tidy attributes
tag-tidy : (rules : List (List ℕ × List (List ℕ))) (name : List ℕ) (attributes : List Attribute) →
    rules_hold_names rules ≡ true → is_tag rules name attributes ≡ true →
    (is_name name ≡ true) × (are_tidy attributes ≡ true)
tag-tidy [] name attributes g e = lie e
tag-tidy (rule ∷ rules) name attributes g e =
    let same = (bytes_decides rule.0 name).0 in
    let later = tag-tidy rules name attributes in
    grind (arith, same, attributes-tidy, later, g, e)

pub element-tidy : (name : List ℕ) (attributes : List Attribute) →
    is_tag elements name attributes ≡ true →
    (is_name name ≡ true) × (are_tidy attributes ≡ true)
element-tidy name attributes e = tag-tidy elements name attributes refl e

pub void-tidy : (name : List ℕ) (attributes : List Attribute) →
    is_tag void_tags name attributes ≡ true →
    (is_name name ≡ true) × (are_tidy attributes ≡ true)
void-tidy name attributes e = tag-tidy void_tags name attributes refl e

-- ---- what the compiler writes is in the tables of the grammar

attributes-wider : (few listed : List (List ℕ)) (x : List Attribute) →
    list_all (is_one_of listed) few ≡ true → are_attributes few x ≡ true →
    are_attributes listed x ≡ true
attributes-wider few listed [] g e = refl
attributes-wider few listed (a ∷ rest) g e =
    let later = attributes-wider few listed rest g in
    grind (arith, one_of-passes (is_one_of listed) few a.name, later, g, e)

-- a rule for the same name lists these attributes, and perhaps others
abbrev widens : List ℕ × List (List ℕ) → List ℕ × List (List ℕ) → Bool
widens few rule = bytes_eq rule.0 few.0 && list_all (is_one_of rule.1) few.1

abbrev is_widened : List (List ℕ × List (List ℕ)) → List ℕ × List (List ℕ) → Bool
is_widened rules few = list_any (widens few) rules

rule-wider : (few : List ℕ × List (List ℕ)) (rules : List (List ℕ × List (List ℕ)))
    (x : List Attribute) → is_widened rules few ≡ true → are_attributes few.1 x ≡ true →
    is_tag rules few.0 x ≡ true
rule-wider few [] x g e = lie g
rule-wider few (rule ∷ rules) x g e =
    let later = rule-wider few rules x in
    grind (arith, attributes-wider few.1 rule.1 x, later, g, e)

tag-wider : (some rules : List (List ℕ × List (List ℕ))) (name : List ℕ) (x : List Attribute) →
    list_all (is_widened rules) some ≡ true → is_tag some name x ≡ true → is_tag rules name x ≡ true
tag-wider [] rules name x g e = lie e
tag-wider (few ∷ some) rules name x g e =
    let same = (bytes_decides few.0 name).0 in
    let later = tag-wider some rules name x in
    grind (arith, same, rule-wider few rules x, later, g, e)

pub printed-element : (name : List ℕ) (x : List Attribute) →
    is_tag printed_elements name x ≡ true → is_tag elements name x ≡ true
printed-element name x e = tag-wider printed_elements elements name x refl e

pub printed-void : (name : List ℕ) (x : List Attribute) →
    is_tag printed_void_tags name x ≡ true → is_tag void_tags name x ≡ true
printed-void name x e = tag-wider printed_void_tags void_tags name x refl e
