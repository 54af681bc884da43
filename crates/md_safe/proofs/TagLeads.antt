-- The name of a tag and those of its attributes, byte after byte; from `<` or `</` to the end of a
-- tag, and on to the data state; and a run from there.
use Rattle.std.proofs.Common.{◌≡◌, ℕ, ◌==◌, true, false, not, List, [], ◌∷◌, ◌++◌, refl, ap}
use Rattle.std.proofs.Common.{append-nil, append_assoc, arith, Bool, ◌&&◌, sym}
use Rattle.std.specs.List.{list_all, list_any}
use Rattle.std.proofs.lemmas.Bool.{and_parts, not-true}
use Rattle.md_base.proofs.Lies.{lie}
use Rattle.md_text.specs.Bytes.{is_between}
use Rattle.md_text.specs.References.{is_escaped, read_back}
use Rattle.md_safe.proofs.Cases.{all-weaker}
use Rattle.md_safe.specs.Token.{Token, TokenAttribute, StartTag, EndTag}
use Rattle.md_safe.specs.Tag.{Tag, with_tag_name, kept}
use Rattle.md_safe.specs.TokenizerStates.{State, TagName, BeforeAttributeName, AttributeName, Goes}
use Rattle.md_safe.specs.TokenizerStates.{AfterAttributeValueQuoted, is_space, Data, Stuck, emitted}
use Rattle.md_safe.specs.Tokenizer.{step, IsRun}
use Rattle.md_safe.proofs.LineFeeds.{no_return, line_feeds-append, line_feeds-name}
use Rattle.md_safe.proofs.LineFeeds.{line_feeds-escaped}
use Rattle.md_safe.proofs.GoodNames.{is_good_byte, is_good_attribute_name, is_good_name, are_good}
use Rattle.md_safe.proofs.GoodNames.{good_attribute, begins_tag, good-leaves, good-not_title}
use Rattle.md_safe.proofs.Steps.{tag_with, attribute, past, here}
use Rattle.md_safe.proofs.TextLeads.{To, quiet, value-leads, arrived, loud, along}
use Rattle.std.specs.Str.{bytes_eq}
use Rattle.md_text.specs.Html.{Attribute}
use Rattle.md_text.proofs.HtmlWriting.{attributes_before}
use Rattle.md_safe.specs.Input.{with_line_feeds}
use Rattle.md_safe.specs.Tokens.{seen, seen_attributes}
use Rattle.md_safe.proofs.Joining.{runs-on}

pub record IsGoodByte (b : ℕ) : Type 0 where
  pub no_space : is_space b ≡ false
  pub no_slash : (b == 47) ≡ false
  pub no_angle : (b == 62) ≡ false
  pub no_equals : (b == 61) ≡ false
  pub no_upper : is_between 65 90 b ≡ false
  pub no_nul : (b == 0) ≡ false
  pub no_return : (b == 13) ≡ false

pub good_parts : (b : ℕ) → is_good_byte b ≡ true → IsGoodByte b
good_parts b h = grind arith

pub tag_name_step : (tag : Tag) (b : ℕ) (rest : List ℕ) → IsGoodByte b →
    step (TagName tag) (b ∷ rest) ≡ Goes [] (TagName (with_tag_name tag (b ∷ []))) rest
tag_name_step tag b rest g = simp (g.no_space, g.no_slash, g.no_angle, g.no_upper, g.no_nul)

-- a name, after a first part of it, where each good byte is appended to it
pub name-leads : {left : List ℕ} (S : List ℕ → State) → ((before : List ℕ) (b : ℕ) (rest : List ℕ) →
    IsGoodByte b → step (S before) (b ∷ rest) ≡ Goes [] (S (before ++ (b ∷ []))) rest) →
    (before name r : List ℕ) (t : List Token) → list_all is_good_byte name ≡ true →
    To left (S (before ++ name)) r t → To left (S before) (name ++ r) t
name-leads S steps before [] r t g h = rw append-nil at h
name-leads S steps before (b ∷ name) r t g h =
    let p = and_parts _ _ g in
    quiet (steps before b (name ++ r) (good_parts b p.0))
    (name-leads S steps (before ++ (b ∷ [])) name r t p.1 (rw append_assoc h))

-- where an attribute's name is read, up to here
abbrev pub AtName : List ℕ → List TokenAttribute → List ℕ → State
AtName tag earlier name = AttributeName (tag_with false tag (attribute name [] ∷ earlier))

-- a name begins another attribute
attribute-begins : {left : List ℕ} (tag : List ℕ) (earlier : List TokenAttribute) (name r : List ℕ)
    (t : List Token) → is_good_attribute_name name ≡ true → To left (AtName tag earlier name) r t →
    To left (BeforeAttributeName (tag_with false tag earlier)) (name ++ r) t
attribute-begins tag earlier [] r t g h = lie g
attribute-begins tag earlier (b ∷ name) r t g h =
    let q = good_parts b (and_parts _ _ g).0 in
    quiet (grind (arith, q)) (name-leads (AtName tag earlier) (λ before b rest good. grind arith) []
    (b ∷ name) r t g h)

-- a name, `="`, a value and `"`
pub attribute-leads :
    {left : List ℕ} (tag : List ℕ) (earlier : List TokenAttribute) (name value r : List ℕ)
    (t : List Token) → is_good_attribute_name name ≡ true → is_escaped value ≡ true →
    To left (AfterAttributeValueQuoted (tag_with false tag
    (attribute name (read_back value) ∷ earlier))) r t →
    To left (BeforeAttributeName (tag_with false tag earlier))
    (name ++ (61 ∷ 34 ∷ (value ++ (34 ∷ r)))) t
attribute-leads tag earlier name value r t g e h =
    attribute-begins tag earlier name (61 ∷ 34 ∷ (value ++ (34 ∷ r))) t g
    (quiet refl (quiet refl (value-leads _ value e tag earlier name [] (34 ∷ r) t (quiet refl h))))

-- ---- attributes

-- with line feeds for the line ends in values
abbrev pub lined : List Attribute → List Attribute
lined [] = []
lined (a ∷ rest) = record { name = a.name; value = with_line_feeds a.value } ∷ lined rest

pub line_feeds-attributes : (x : List Attribute) (r : List ℕ) → are_good x ≡ true →
    with_line_feeds (attributes_before x r) ≡ attributes_before (lined x) (with_line_feeds r)
line_feeds-attributes [] r g = refl
line_feeds-attributes (a ∷ x) r g =
    let later = line_feeds-attributes x r in
    grind (arith, good_attribute, line_feeds-name, all-weaker, good_parts, line_feeds-append, later)

-- more attributes, the last one first
abbrev pub onto : List TokenAttribute → List Attribute → List TokenAttribute
onto earlier [] = earlier
onto earlier (a ∷ rest) = onto (attribute a.name (seen a.value) ∷ earlier) rest

attributes-lead :
    {left : List ℕ} (tag : List ℕ) (earlier : List TokenAttribute) (x : List Attribute) (r : List ℕ)
    (t : List Token) → are_good x ≡ true →
    To left (AfterAttributeValueQuoted (tag_with false tag (onto earlier x))) r t →
    To left (AfterAttributeValueQuoted (tag_with false tag earlier))
    (attributes_before (lined x) r) t
attributes-lead tag earlier [] r t g h = h
attributes-lead tag earlier (a ∷ x) r t g h =
    let p = good_attribute a x g in
    let later = attributes-lead tag (attribute a.name (seen a.value) ∷ earlier) x r t p.3 h in
    quiet refl (grind (arith, attribute-leads, line_feeds-escaped, later))

-- after the name: both states take what ends a tag alike
after_name-leads :
    {left : List ℕ} (tag : List ℕ) (x : List Attribute) (r : List ℕ) (t : List Token) →
    are_good x ≡ true → To left (TagName (tag_with false tag (onto [] x))) r t →
    To left (AfterAttributeValueQuoted (tag_with false tag (onto [] x))) r t →
    To left (TagName (tag_with false tag [])) (attributes_before (lined x) r) t
after_name-leads tag [] r t g h k = h
after_name-leads tag (a ∷ x) r t g h k =
    let p = good_attribute a x g in
    quiet refl
    (attribute-leads tag [] a.name (with_line_feeds a.value) (attributes_before (lined x) r) t p.0
    (line_feeds-escaped a.value p.1)
    (attributes-lead tag (attribute a.name (seen a.value) ∷ []) x r t p.3 k))

-- ---- no attribute is dropped

-- none of the attributes has the name of an earlier one
abbrev fresh : List TokenAttribute → List Attribute → Bool
fresh earlier [] = true
fresh earlier (a ∷ rest) =
    not (list_any (λ b. bytes_eq b.name a.name) earlier) && fresh earlier rest

fresh-none : (x : List Attribute) → fresh [] x ≡ true
fresh-none [] = refl
fresh-none (a ∷ x) = fresh-none x

fresh-more : (a : TokenAttribute) (earlier : List TokenAttribute) (x : List Attribute) →
    list_any (λ later. bytes_eq a.name later.name) x ≡ false → fresh earlier x ≡ true →
    fresh (a ∷ earlier) x ≡ true
fresh-more a earlier [] n f = refl
fresh-more a earlier (b ∷ x) n f = grind (arith, fresh-more a earlier x)

kept-onto : (earlier : List TokenAttribute) (x : List Attribute) → are_good x ≡ true →
    fresh earlier x ≡ true → kept (onto earlier x) ≡ kept earlier ++ seen_attributes x
kept-onto earlier [] g f = sym (append-nil (kept earlier))
kept-onto earlier (a ∷ x) g f =
    let p = good_attribute a x g in
    let u = and_parts _ _ f in
    let now = attribute a.name (seen a.value) in
    let later = kept-onto (now ∷ earlier) x p.3 (fresh-more now earlier x p.2 u.1) in
    grind (arith, not-true, append_assoc, later)

-- ---- whole tags

tag-begins : {left : List ℕ} (is_end : Bool) (name r : List ℕ) (t : List Token) →
    is_good_name name ≡ true → To left (TagName (tag_with is_end name [])) r t →
    To left (TagName (tag_with is_end [] [])) (name ++ r) t
tag-begins is_end name r t g h =
    let p = and_parts _ _ g in
    name-leads (λ n. TagName (tag_with is_end n [])) (λ before b rest good. tag_name_step
    (tag_with is_end before []) b rest good) [] name r t (and_parts _ _ p.1).0 h

start-leads : {left : List ℕ} (name : List ℕ) (x : List Attribute) (r : List ℕ) (t : List Token) →
    is_good_name name ≡ true → are_good x ≡ true →
    To left (TagName (tag_with false name (onto [] x))) r t →
    To left (AfterAttributeValueQuoted (tag_with false name (onto [] x))) r t →
    To left Data (60 ∷ (name ++ attributes_before (lined x) r)) t
start-leads name x r t n g h k =
    let begins = (and_parts (begins_tag name) _ n).0 in
    quiet refl (quiet (grind arith) (tag-begins false name (attributes_before (lined x) r) t n
    (after_name-leads name x r t g h k)))

-- what is kept is all
pub all-kept : (name : List ℕ) (x : List Attribute) (flag : Bool) (t : List Token) →
    are_good x ≡ true →
    StartTag name (kept (onto [] x)) flag ∷ t ≡ StartTag name (seen_attributes x) flag ∷ t
all-kept name x flag t g = ap (λ y. StartTag name y flag ∷ t) (kept-onto [] x g (fresh-none x))

-- a tag with such a name is emitted, and the data state stays
pub good-emitted : (name : List ℕ) (x : List Attribute) (flag : Bool) (r : List ℕ) →
    is_good_name name ≡ true →
    emitted (tag_with false name (onto [] x)) flag r
    ≡ Goes (StartTag name (kept (onto [] x)) flag ∷ []) Data r
good-emitted name x flag r n = past _ (good-not_title name n) (here Stuck (good-leaves name n) refl)

pub element-leads : {left : List ℕ} (name : List ℕ) (x : List Attribute) (r : List ℕ)
    (t : List Token) → is_good_name name ≡ true → are_good x ≡ true → To left Data r t → To left
    Data
    (60 ∷ (name ++ attributes_before (lined x) (62 ∷ r)))
    (StartTag name (seen_attributes x) false ∷ t)
element-leads name x r t n g h =
    let token = StartTag name (kept (onto [] x)) false in
    along Data _ _ _ _ refl (all-kept name x false t g) (start-leads name x (62 ∷ r) (token ∷ t) n g
    (loud token (good-emitted name x false r n) h) (loud token (good-emitted name x false r n) h))

pub void-leads : {left : List ℕ} (name : List ℕ) (x : List Attribute) (r : List ℕ)
    (t : List Token) → is_good_name name ≡ true → are_good x ≡ true → To left Data r t → To left
    Data (60
    ∷ (name ++ attributes_before (lined x) (32 ∷ 47 ∷ 62 ∷ r)))
    (StartTag name (seen_attributes x) true ∷ t)
void-leads {left = left} name x r t n g h =
    let token = StartTag name (kept (onto [] x)) true in
    let on : To left (BeforeAttributeName (tag_with false name (onto [] x))) (47 ∷ 62 ∷ r)
    (token ∷ t) = quiet refl (quiet refl (loud token (good-emitted name x true r n) h)) in
    along Data _ _ _ _ refl (all-kept name x true t g) (grind (arith, start-leads, quiet))

pub end-leads : {left : List ℕ} (name r : List ℕ) (t : List Token) → is_good_name name ≡ true →
    To left Data r t → To left Data (60 ∷ 47 ∷ (name ++ (62 ∷ r))) (EndTag name ∷ t)
end-leads name r t n h = quiet refl (quiet refl (quiet (grind arith) (tag-begins true name (62 ∷ r)
    (EndTag name ∷ t) n (loud (EndTag name) refl h))))

-- ---- a run of what follows a tag

pub element-runs : (name : List ℕ) (x : List Attribute) (r : List ℕ) (t : List Token) →
    is_good_name name ≡ true → are_good x ≡ true → IsRun Data r t → IsRun Data
    (60 ∷ (name ++ attributes_before (lined x) (62 ∷ r)))
    (StartTag name (seen_attributes x) false ∷ t)
element-runs name x r t n g h = runs-on _ _ r _ t (element-leads _ x r _ n g (arrived r)) h

pub void-runs : (name : List ℕ) (x : List Attribute) (r : List ℕ) (t : List Token) →
    is_good_name name ≡ true → are_good x ≡ true → IsRun Data r t → IsRun Data (60
    ∷ (name ++ attributes_before (lined x) (32 ∷ 47 ∷ 62 ∷ r)))
    (StartTag name (seen_attributes x) true ∷ t)
void-runs name x r t n g h = runs-on _ _ r _ t (void-leads _ x r _ n g (arrived r)) h

pub end-runs : (name r : List ℕ) (t : List Token) → is_good_name name ≡ true → IsRun Data r t →
    IsRun Data (60 ∷ 47 ∷ (name ++ (62 ∷ r))) (EndTag name ∷ t)
end-runs name r t n h = runs-on Data _ r _ t (end-leads name r [] n (arrived r)) h
