-- Tests that pass each token of a forest; the tables have no name by which something runs.
use Rattle.std.proofs.Common.{◌≡◌, ℕ, Bool, true, false, List, [], ◌∷◌, ◌++◌, map, refl, subst}
use Rattle.std.proofs.Common.{arith, ◌∙◌, not, ◌&&◌}
use Rattle.std.specs.List.{list_all}
use Rattle.std.proofs.lemmas.Bool.{and_parts, and_from}
use Rattle.md_text.specs.Bytes.{is_one_of}
use Rattle.md_text.specs.Html.{Attribute, Forest, Empty, Text, Void, Element, is_forest, is_tag}
use Rattle.md_text.specs.Html.{are_attributes, elements, void_tags, all_attributes, any_attribute}
use Rattle.md_text.specs.Html.{HasOneReadingWith, IsPrinted, is_printed, printed_elements}
use Rattle.md_text.specs.Html.{printed_void_tags}
use Rattle.md_text.proofs.HtmlReading.{all-any}
use Rattle.md_safe.specs.Input.{with_line_feeds}
use Rattle.md_safe.specs.Token.{Token, Character, StartTag, EndTag, EndOfFile, TokenAttribute}
use Rattle.md_safe.specs.TokenizerStates.{Data, leaves_state}
use Rattle.md_safe.specs.Tokenizer.{IsTokenized}
use Rattle.md_safe.specs.Tokens.{tokens, seen, seen_attributes, is_listed, is_tag_of}
use Rattle.md_safe.specs.Tokens.{is_printed_token}
use Rattle.md_safe.proofs.GoodNames.{element-good, void-good, good-leaves, by_rule}
use Rattle.md_safe.proofs.OneRun.{one_run}
use Rattle.md_safe.proofs.Between.{reading-runs}
use Rattle.std.proofs.lemmas.List.Folds.{list_all-append}
use Rattle.md_safe.proofs.Cases.{one_of-passes, all-weaker}
use Rattle.md_safe.specs.Running.{running_elements, is_running_attribute, runs_nothing}

pub all-append : (p : Token → Bool) (x y : List Token) → list_all p x ≡ true → list_all p y ≡ true →
    list_all p (x ++ y) ≡ true
all-append p x y h k = list_all-append p x y ∙ and_from _ _ h k

-- a test that passes what isn't a tag, each end tag of an element of the tables, and each start tag
-- of the tables whose attributes pass a test of theirs
pub record PassesTags (p : Token → Bool) (q : Attribute → Bool) : Type 0 where
  pub characters : (b : ℕ) → p (Character b) ≡ true
  pub end_of_file : p EndOfFile ≡ true
  pub ends : (name : List ℕ) (attributes : List Attribute) →
      is_tag elements name attributes ≡ true →
      p (EndTag name) ≡ true
  pub starts : (name : List ℕ) (attributes : List Attribute) →
      is_tag elements name attributes ≡ true →
      list_all q attributes ≡ true → p (StartTag name (seen_attributes attributes) false) ≡ true
  pub voids : (name : List ℕ) (attributes : List Attribute) →
      is_tag void_tags name attributes ≡ true →
      list_all q attributes ≡ true → p (StartTag name (seen_attributes attributes) true) ≡ true

pub all-characters : (p : Token → Bool) → ((b : ℕ) → p (Character b) ≡ true) → (x : List ℕ) →
    list_all p (map Character x) ≡ true
all-characters p passes [] = refl
all-characters p passes (b ∷ x) = and_from _ _ (passes b) (all-characters p passes x)

pub all-tokens : (p : Token → Bool) (q : Attribute → Bool) → PassesTags p q → (f : Forest) →
    is_forest f ≡ true → all_attributes q f ≡ true → list_all p (tokens f) ≡ true
all-tokens p q o Empty h k = refl
all-tokens p q o (Text bytes rest) h k = all-append p _ _ (all-characters p o.characters (seen bytes))
    (all-tokens p q o rest (and_parts _ _ h).1 k)
all-tokens p q o (Void name attributes rest) h k =
    grind (arith, and_parts, and_from, all-tokens p q o rest)
all-tokens p q o (Element name attributes children rest) h k =
    grind (arith, and_parts, and_from, all-append, all-tokens p q o children, all-tokens p q o rest)

-- and the same for any tokens of a text
pub all-tokenized : (p : Token → Bool) (q : Attribute → Bool) → PassesTags p q →
    (text : List ℕ) (x : List Token) → HasOneReadingWith q text → IsTokenized text x →
    list_all p x ≡ true
all-tokenized p q o text x one h = subst (λ x. list_all p x ≡ true) (one_run Data
    (with_line_feeds text) (tokens one.forest ++ (EndOfFile ∷ [])) x (reading-runs q text one) h)
    (grind (arith, all-append, all-tokens, and_from))

-- ---- two of them

pub left_alone : (q : Attribute → Bool) (text : List ℕ) (x : List Token) →
    HasOneReadingWith q text →
    IsTokenized text x → list_all leaves_state x ≡ true
left_alone q text x one h =
    all-tokenized leaves_state q record {
      characters = λ b. refl;
      end_of_file = refl;
      ends = λ name attributes g. refl;
      starts = λ name attributes g k. good-leaves name (element-good name attributes g).0;
      voids = λ name attributes g k. good-leaves name (void-good name attributes g).0;
    } text x one h

pub names-listed : (listed : List (List ℕ)) (x : List Attribute) → are_attributes listed x ≡ true →
    list_all (λ a. is_one_of listed a.name) (seen_attributes x) ≡ true
names-listed listed [] h = refl
names-listed listed (a ∷ x) h = grind (arith, names-listed listed x)

tag-listed : (rules : List (List ℕ × List (List ℕ))) (name : List ℕ) (attributes : List Attribute)
    (x : List TokenAttribute) → is_tag rules name attributes ≡ true →
    ((listed : List (List ℕ)) → are_attributes listed attributes ≡ true →
    list_all (λ a. is_one_of listed a.name) x ≡ true) → is_tag_of rules name x ≡ true
tag-listed [] name attributes x h f = h
tag-listed (rule ∷ rules) name attributes x h f =
    grind (arith, f rule.1, tag-listed rules name attributes x)

-- a test of the tables passes each token of a forest
listed-passes : (q : Attribute → Bool) → PassesTags is_listed q
listed-passes q = record {
  characters = λ b. refl;
  end_of_file = refl;
  ends = λ name attributes g. tag-listed elements name attributes [] g (λ listed k. refl);
  starts = λ name attributes g k.
      tag-listed elements name attributes (seen_attributes attributes) g
      (λ listed. names-listed listed attributes);
  voids = λ name attributes g k.
      tag-listed void_tags name attributes (seen_attributes attributes) g
      (λ listed. names-listed listed attributes);
}

pub forest-listed : (f : Forest) → is_forest f ≡ true → list_all is_listed (tokens f) ≡ true
forest-listed f h =
    all-tokens is_listed any_attribute (listed-passes any_attribute) f h (all-any f)

pub all_listed : (q : Attribute → Bool) (text : List ℕ) (x : List Token) →
    HasOneReadingWith q text → IsTokenized text x → list_all is_listed x ≡ true
all_listed q text x one h = all-tokenized _ q (listed-passes q) _ x one h

-- the tags of a forest of what the compiler writes
forest-printed : (f : Forest) → is_printed f ≡ true → list_all is_printed_token (tokens f) ≡ true
forest-printed Empty h = refl
forest-printed (Text bytes rest) h = all-append is_printed_token (map Character (seen bytes))
    (tokens rest) (all-characters is_printed_token (λ b. refl) (seen bytes)) (forest-printed rest h)
forest-printed (Void name attributes rest) h =
    let parts = and_parts (is_tag printed_void_tags name attributes) (is_printed rest) h in
    and_from _ _ (tag-listed printed_void_tags name attributes (seen_attributes attributes) parts.0
    (λ listed. names-listed listed attributes)) (forest-printed rest parts.1)
forest-printed (Element name attributes children rest) h =
    let parts = and_parts (is_tag printed_elements name attributes && is_printed children)
    (is_printed rest) h in
    let own = and_parts (is_tag printed_elements name attributes) (is_printed children) parts.0 in
    and_from _ _ (tag-listed printed_elements name attributes (seen_attributes attributes) own.0
    (λ listed. names-listed listed attributes)) (all-append is_printed_token (tokens children)
    (EndTag name ∷ tokens rest) (forest-printed children own.1) (and_from _ _
    (tag-listed printed_elements name attributes [] own.0 (λ listed k. refl))
    (forest-printed rest parts.1)))

pub all_printed : (q : Attribute → Bool) (text : List ℕ) (x : List Token) →
    HasOneReadingWith q text → IsPrinted text → IsTokenized text x →
    list_all is_printed_token x ≡ true
all_printed q text x one printed h = subst (λ x. list_all is_printed_token x ≡ true) (one_run Data
    (with_line_feeds text) (tokens one.forest ++ (EndOfFile ∷ [])) x (reading-runs q text one) h)
    (all-append is_printed_token (tokens one.forest) (EndOfFile ∷ [])
    (forest-printed one.forest (printed one.forest one.reading)) refl)

abbrev is_still : List ℕ → Bool
is_still name = not (is_running_attribute name)

-- a rule of a table has a name and attributes by which nothing runs
abbrev rule_is_still : List ℕ × List (List ℕ) → Bool
rule_is_still rule = not (is_one_of running_elements rule.0) && list_all is_still rule.1

tag-still : (rules : List (List ℕ × List (List ℕ))) (name : List ℕ) (x : List Attribute) →
    list_all rule_is_still rules ≡ true → is_tag rules name x ≡ true → (not
    (is_one_of running_elements name) && list_all (λ (a : TokenAttribute). is_still a.name)
    (seen_attributes x)) ≡ true
tag-still rules name x g e =
    let stills = list_all (λ (a : TokenAttribute). is_still a.name) (seen_attributes x) in
    by_rule (λ name. (not (is_one_of running_elements name) && stills) ≡ true) rule_is_still rules
    name x g (λ rule still allowed.
    let q = and_parts _ _ still in
    and_from _ _ q.0 (all-weaker (λ (a : TokenAttribute). is_one_of rule.1 a.name)
    (λ a. is_still a.name) (λ a h. one_of-passes is_still rule.1 a.name q.1 h) (seen_attributes x)
    (names-listed rule.1 x allowed))) e

pub all_still : (q : Attribute → Bool) (text : List ℕ) (x : List Token) → HasOneReadingWith q text →
    IsTokenized text x → list_all runs_nothing x ≡ true
all_still q text x one h =
    all-tokenized runs_nothing q record {
      characters = λ b. refl;
      end_of_file = refl;
      ends = λ name attributes g. refl;
      starts = λ name attributes g k. tag-still elements name attributes refl g;
      voids = λ name attributes g k. tag-still void_tags name attributes refl g;
    } text x one h
