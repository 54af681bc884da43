-- A safe text in the words of the compiler's promises.
use Rattle.std.proofs.Common.{arith, ◌≡◌, ℕ, ◌≤◌, Bool, true, not, ◌&&◌, ◌||◌, List, [], ◌∷◌, ◌++◌}
use Rattle.std.proofs.Common.{refl}
use Rattle.std.proofs.Common.{sym, ap, ◌∙◌, subst, length, append-nil, Result, Ok, Err, IfOk}
use Rattle.std.specs.List.{list_all, list_any}
use Rattle.std.proofs.lemmas.Bool.{and_parts, and_from}
use Rattle.md_text.specs.Bytes.{is_one_of}
use Rattle.md_text.specs.References.{is_escaped}
use Rattle.md_text.specs.Safe.{is_safe_link, is_safe_image}
use Rattle.md_text.specs.Url.{link_protocols, image_protocols}
use Rattle.md_text.specs.Html.{Attribute, Forest, Empty, Text, Void, Element, all_attributes}
use Rattle.md_text.specs.Html.{HasOneReadingWith, IsReading, written}
use Rattle.md_text.proofs.HtmlReading.{one_reading}
use Rattle.md_safe.proofs.Cases.{all-weaker}
use Rattle.md_safe.specs.Contents.{Flow, IsUnnested}
use Rattle.md_safe.specs.Built.{IsBuiltAsRead}
use Rattle.md_depth.specs.Levels.{levels, NestsWithin}
use Rattle.md_reader.specs.Permitted.{is_permitted}
use Rattle.md_reader.specs.Authors.{IsOfAuthors, is_of_authors, is_authors_tag, own_attributes}
use Rattle.md_reader.specs.Authors.{own_tags}
use Rattle.md_reader.specs.Chosen.{HasChosenOnly, has_chosen_only, is_chosen}
use Rattle.md_reader.specs.Levels.{IsLevel}
use Rattle.md_reader.specs.Tests.{Test, all_pass, permitted_test}
use Rattle.md_reader.specs.Safe.{IsSafeHtml, IsSafeReading, max_depth}

-- ---- both tests
both-list : (p q : Attribute → Bool) (x : List Attribute) →
    list_all (λ a. p a && q a) x ≡ true → (list_all p x ≡ true) × (list_all q x ≡ true)
both-list p q [] h = (refl, refl)
both-list p q (a ∷ x) h =
    let parts = and_parts (p a && q a) (list_all (λ a. p a && q a) x) h in
    let own = and_parts (p a) (q a) parts.0 in
    let later = both-list p q x parts.1 in
    (and_from (p a) (list_all p x) own.0 later.0, and_from (q a) (list_all q x) own.1 later.1)

pub both : (p q : Attribute → Bool) (f : Forest) → all_attributes (λ a. p a && q a) f ≡ true →
    (all_attributes p f ≡ true) × (all_attributes q f ≡ true)
both p q Empty h = (refl, refl)
both p q (Text bytes rest) h = both p q rest h
both p q (Void name x rest) h =
    let parts = and_parts (list_all (λ a. p a && q a) x)
    (all_attributes (λ a. p a && q a) rest) h in
    let own = both-list p q x parts.0 in
    let later = both p q rest parts.1 in (
      and_from (list_all p x) (all_attributes p rest) own.0 later.0,
      and_from (list_all q x) (all_attributes q rest) own.1 later.1,
    )
both p q (Element name x inner rest) h =
    let parts = and_parts (list_all (λ a. p a && q a) x
    && all_attributes (λ a. p a && q a) inner) (all_attributes (λ a. p a && q a) rest) h in
    let front = and_parts (list_all (λ a. p a && q a) x) (all_attributes (λ a. p a && q a) inner)
    parts.0 in
    let own = both-list p q x front.0 in
    let inside = both p q inner front.1 in
    let later = both p q rest parts.1 in (
      and_from (list_all p x && all_attributes p inner) (all_attributes p rest)
          (and_from (list_all p x) (all_attributes p inner) own.0 inside.0) later.0,
      and_from (list_all q x && all_attributes q inner) (all_attributes q rest)
          (and_from (list_all q x) (all_attributes q inner) own.1 inside.1) later.1,
    )

joined-list : (p q : Attribute → Bool) (x : List Attribute) → list_all p x ≡ true →
    list_all q x ≡ true → list_all (λ a. p a && q a) x ≡ true
joined-list p q [] g h = refl
joined-list p q (a ∷ x) g h =
    let u = and_parts (p a) (list_all p x) g in
    let v = and_parts (q a) (list_all q x) h in
    and_from (p a && q a) (list_all (λ a. p a && q a) x) (and_from (p a) (q a) u.0 v.0)
    (joined-list p q x u.1 v.1)

pub joined : (p q : Attribute → Bool) (f : Forest) → all_attributes p f ≡ true →
    all_attributes q f ≡ true → all_attributes (λ a. p a && q a) f ≡ true
joined p q Empty g h = refl
joined p q (Text bytes rest) g h = joined p q rest g h
joined p q (Void name x rest) g h =
    let u = and_parts (list_all p x) (all_attributes p rest) g in
    let v = and_parts (list_all q x) (all_attributes q rest) h in
    and_from (list_all (λ a. p a && q a) x) (all_attributes (λ a. p a && q a) rest)
    (joined-list p q x u.0 v.0) (joined p q rest u.1 v.1)
joined p q (Element name x inner rest) g h =
    let u = and_parts (list_all p x && all_attributes p inner) (all_attributes p rest) g in
    let v = and_parts (list_all q x && all_attributes q inner) (all_attributes q rest) h in
    let s = and_parts (list_all p x) (all_attributes p inner) u.0 in
    let t = and_parts (list_all q x) (all_attributes q inner) v.0 in
    and_from (list_all (λ a. p a && q a) x && all_attributes (λ a. p a && q a) inner)
    (all_attributes (λ a. p a && q a) rest) (and_from (list_all (λ a. p a && q a) x)
    (all_attributes (λ a. p a && q a) inner) (joined-list p q x s.0 t.0)
    (joined p q inner s.1 t.1)) (joined p q rest u.1 v.1)

-- ---- in the compiler's words
pub unnested : (links images : List (List ℕ)) (text : List ℕ) → IsSafeHtml links images text →
    IsUnnested text
unnested links images text safe = record {
  forest = safe.forest;
  reading = safe.safe.reading;
  contained = safe.safe.contained;
  only = safe.only;
}

pub read : (links images : List (List ℕ)) (text : List ℕ) → IsSafeHtml links images text →
    HasOneReadingWith (is_permitted links images) text
read links images text safe = record {
  forest = safe.forest;
  reading = safe.safe.reading;
  passes = safe.safe.permitted;
  only = safe.only;
}

pub links-safe : (text : List ℕ) → IsSafeHtml link_protocols image_protocols text →
    HasOneReadingWith is_safe_link text
links-safe text safe = record {
  forest = safe.forest;
  reading = safe.safe.reading;
  passes = (both is_safe_link is_safe_image safe.forest safe.safe.permitted).0;
  only = safe.only;
}

pub images-safe : (text : List ℕ) → IsSafeHtml link_protocols image_protocols text →
    HasOneReadingWith is_safe_image text
images-safe text safe = record {
  forest = safe.forest;
  reading = safe.safe.reading;
  passes = (both is_safe_link is_safe_image safe.forest safe.safe.permitted).1;
  only = safe.only;
}

pub nests : (links images : List (List ℕ)) (text : List ℕ) → IsSafeHtml links images text →
    NestsWithin max_depth text
nests links images text safe = λ tree reading.
    subst (λ f. levels f ≤ max_depth) (sym (safe.only tree reading)) safe.safe.shallow

pub compiled-safe : (text : List ℕ) → HasOneReadingWith is_safe_link text →
    HasOneReadingWith is_safe_image text → IsBuiltAsRead text → NestsWithin max_depth text →
    IsSafeHtml link_protocols image_protocols text
compiled-safe text links images built nests =
    let f = built.forest in
    record {
      forest = f;
      safe = record {
        reading = built.reading;
        contained = built.contained;
        permitted = joined is_safe_link is_safe_image f
            (subst (λ x. all_attributes is_safe_link x ≡ true)
            (sym (links.only f built.reading)) links.passes)
            (subst (λ x. all_attributes is_safe_image x ≡ true)
            (sym (images.only f built.reading)) images.passes);
        shallow = nests f built.reading;
      };
      only = built.only;
    }

-- ---- tests of tags and attributes
-- what passes has permitted attributes
pass-attributes : (t : Test) (p : Attribute → Bool) →
    ((a : Attribute) → t.attribute a ≡ true → p a ≡ true) → (f : Forest) → all_pass t f ≡ true →
    all_attributes p f ≡ true
pass-attributes t p weaker Empty h = refl
pass-attributes t p weaker (Text bytes rest) h = pass-attributes t p weaker rest h
pass-attributes t p weaker (Void name x rest) h =
    let parts = and_parts (t.tag name && list_all t.attribute x) (all_pass t rest) h in
    let own = and_parts (t.tag name) (list_all t.attribute x) parts.0 in
    and_from (list_all p x) (all_attributes p rest) (all-weaker t.attribute p weaker x own.1)
    (pass-attributes t p weaker rest parts.1)
pass-attributes t p weaker (Element name x inner rest) h =
    let parts = and_parts (t.tag name && list_all t.attribute x && all_pass t inner)
    (all_pass t rest) h in
    let within = and_parts (t.tag name && list_all t.attribute x) (all_pass t inner) parts.0 in
    let own = and_parts (t.tag name) (list_all t.attribute x) within.0 in
    and_from (list_all p x && all_attributes p inner) (all_attributes p rest)
    (and_from (list_all p x) (all_attributes p inner) (all-weaker t.attribute p weaker x own.1)
    (pass-attributes t p weaker inner within.1)) (pass-attributes t p weaker rest parts.1)

-- permitted attributes pass by protocols alone
permitted-pass : (links images : List (List ℕ)) (f : Forest) →
    all_attributes (is_permitted links images) f ≡ true →
    all_pass (permitted_test links images) f ≡ true
permitted-pass links images Empty h = refl
permitted-pass links images (Text bytes rest) h = permitted-pass links images rest h
permitted-pass links images (Void name x rest) h =
    let p = is_permitted links images in
    let parts = and_parts (list_all p x) (all_attributes p rest) h in
    and_from (list_all p x) (all_pass (permitted_test links images) rest) parts.0
    (permitted-pass links images rest parts.1)
permitted-pass links images (Element name x inner rest) h =
    let p = is_permitted links images in
    let t = permitted_test links images in
    let parts = and_parts (list_all p x && all_attributes p inner) (all_attributes p rest) h in
    let own = and_parts (list_all p x) (all_attributes p inner) parts.0 in
    and_from (list_all p x && all_pass t inner) (all_pass t rest)
    (and_from (list_all p x) (all_pass t inner) own.0 (permitted-pass links images inner own.1))
    (permitted-pass links images rest parts.1)

-- ---- a level that is the whole text
pub whole : (t : Test) (links images : List (List ℕ)) (text : List ℕ) →
    ((a : Attribute) → t.attribute a ≡ true → is_permitted links images a ≡ true) →
    IsLevel t Flow max_depth text [] → IsSafeHtml links images text
whole t links images text weaker level =
    let reading : IsReading text level.forest = record {
      in_grammar = level.inside;
      written_so = sym (level.is ∙ append-nil (written level.forest));
    } in
    record {
      forest = level.forest;
      safe = record {
        reading = reading;
        contained = level.contained;
        permitted = pass-attributes t (is_permitted links images) weaker level.forest level.passes;
        shallow = level.shallow;
      };
      only = λ other found. one_reading text other level.forest found reading;
    }

pub level-whole : (t : Test) (links images : List (List ℕ)) (text : List ℕ) (forest : Forest) →
    all_pass t forest ≡ true → IsSafeReading links images text forest →
    IsLevel t Flow max_depth text []
level-whole t links images text forest passes safe = record {
  forest = forest;
  is = sym safe.reading.written_so ∙ sym (append-nil (written forest));
  inside = safe.reading.in_grammar;
  contained = safe.contained;
  passes = passes;
  shallow = safe.shallow;
}

pub level-permitted : (links images : List (List ℕ)) (text : List ℕ) (forest : Forest) →
    IsSafeReading links images text forest →
    IsLevel (permitted_test links images) Flow max_depth text []
level-permitted links images text forest safe = level-whole (permitted_test links images) links
    images text forest (permitted-pass links images forest safe.permitted) safe

-- ---- what authors may write
-- permitted, and not the compiler's own
abbrev authors_pass : (Attribute → Bool) → Attribute → Bool
authors_pass p a = not (is_one_of own_attributes a.name) && p a

abbrev pub authors_test : (Attribute → Bool) → Test
authors_test p = record {
  tag = λ name. not (is_one_of own_tags name);
  attribute = authors_pass p;
}

abbrev has_own : List Attribute → Bool
has_own x = list_any (λ a. is_one_of own_attributes a.name) x

list-authors : (p : Attribute → Bool) (x : List Attribute) → list_all (authors_pass p) x ≡ true →
    not (has_own x) ≡ true
list-authors p [] h = refl
list-authors p (a ∷ x) h =
    let later = list-authors p x in
    by (is_one_of own_attributes a.name) (p a) (list_all (authors_pass p) x) (has_own x) later h
  where
    by : (own passes all rest : Bool) → (all ≡ true → not rest ≡ true) →
        ((not own && passes) && all) ≡ true → not (own || rest) ≡ true
    by own passes all rest later h = grind (arith, later, h)

authors-list : (p : Attribute → Bool) (x : List Attribute) → not (has_own x) ≡ true →
    list_all p x ≡ true → list_all (authors_pass p) x ≡ true
authors-list p [] h g = refl
authors-list p (a ∷ x) h g =
    let later = authors-list p x in
    by (is_one_of own_attributes a.name) (p a) (list_all (authors_pass p) x) (has_own x)
    (list_all p x) later h g
  where
    by : (own passes all rest permitted : Bool) →
        (not rest ≡ true → permitted ≡ true → all ≡ true) → not (own || rest) ≡ true →
        (passes && permitted) ≡ true → ((not own && passes) && all) ≡ true
    by own passes all rest permitted later h g = grind (arith, later, h, g)

pub pass-authors : (p : Attribute → Bool) (f : Forest) → all_pass (authors_test p) f ≡ true →
    is_of_authors f ≡ true
pass-authors p Empty h = refl
pass-authors p (Text bytes rest) h = pass-authors p rest h
pass-authors p (Void name x rest) h =
    let t = authors_test p in
    let parts = and_parts (t.tag name && list_all t.attribute x) (all_pass t rest) h in
    let own = and_parts (t.tag name) (list_all t.attribute x) parts.0 in
    and_from (is_authors_tag name x) (is_of_authors rest)
    (and_from (t.tag name) (not (has_own x)) own.0 (list-authors p x own.1))
    (pass-authors p rest parts.1)
pass-authors p (Element name x inner rest) h =
    let t = authors_test p in
    let parts = and_parts (t.tag name && list_all t.attribute x && all_pass t inner)
    (all_pass t rest) h in
    let within = and_parts (t.tag name && list_all t.attribute x) (all_pass t inner) parts.0 in
    let own = and_parts (t.tag name) (list_all t.attribute x) within.0 in
    and_from (is_authors_tag name x && is_of_authors inner) (is_of_authors rest)
    (and_from (is_authors_tag name x) (is_of_authors inner)
    (and_from (t.tag name) (not (has_own x)) own.0 (list-authors p x own.1))
    (pass-authors p inner within.1)) (pass-authors p rest parts.1)

pub authors-pass : (p : Attribute → Bool) (f : Forest) → is_of_authors f ≡ true →
    all_attributes p f ≡ true → all_pass (authors_test p) f ≡ true
authors-pass p Empty h g = refl
authors-pass p (Text bytes rest) h g = authors-pass p rest h g
authors-pass p (Void name x rest) h g =
    let t = authors_test p in
    let parts = and_parts (is_authors_tag name x) (is_of_authors rest) h in
    let tag = and_parts (t.tag name) (not (has_own x)) parts.0 in
    let passes = and_parts (list_all p x) (all_attributes p rest) g in
    and_from (t.tag name && list_all t.attribute x) (all_pass t rest)
    (and_from (t.tag name) (list_all t.attribute x) tag.0 (authors-list p x tag.1 passes.0))
    (authors-pass p rest parts.1 passes.1)
authors-pass p (Element name x inner rest) h g =
    let t = authors_test p in
    let parts = and_parts (is_authors_tag name x && is_of_authors inner) (is_of_authors rest) h in
    let within = and_parts (is_authors_tag name x) (is_of_authors inner) parts.0 in
    let tag = and_parts (t.tag name) (not (has_own x)) within.0 in
    let passes = and_parts (list_all p x && all_attributes p inner) (all_attributes p rest) g in
    let own = and_parts (list_all p x) (all_attributes p inner) passes.0 in
    and_from (t.tag name && list_all t.attribute x && all_pass t inner) (all_pass t rest)
    (and_from (t.tag name && list_all t.attribute x) (all_pass t inner)
    (and_from (t.tag name) (list_all t.attribute x) tag.0 (authors-list p x tag.1 own.0))
    (authors-pass p inner within.1 own.1)) (authors-pass p rest parts.1 passes.1)

pub authors-only : (p : Attribute → Bool) (text : List ℕ) →
    IsLevel (authors_test p) Flow max_depth text [] → IsOfAuthors text
authors-only p text level other also =
    let reading : IsReading text level.forest = record {
      in_grammar = level.inside;
      written_so = sym (level.is ∙ append-nil (written level.forest));
    } in
    subst (λ f. is_of_authors f ≡ true) (one_reading text level.forest other reading also)
    (pass-authors p level.forest level.passes)

pub permitted-of : (p : Attribute → Bool) (a : Attribute) → authors_pass p a ≡ true → p a ≡ true
permitted-of p a h = (and_parts (not (is_one_of own_attributes a.name)) (p a) h).1

-- ---- what a caller chose
-- what passes by the first test and by the second one passes by the third one
module _ (t u v : Test)
    (tags : (name : List ℕ) → t.tag name ≡ true → u.tag name ≡ true → v.tag name ≡ true)
    (each : (a : Attribute) → t.attribute a ≡ true → u.attribute a ≡ true →
    v.attribute a ≡ true) where
  list-both : (x : List Attribute) → list_all t.attribute x ≡ true →
      list_all u.attribute x ≡ true → list_all v.attribute x ≡ true
  list-both [] h g = refl
  list-both (a ∷ x) h g =
      let p = and_parts (t.attribute a) (list_all t.attribute x) h in
      let q = and_parts (u.attribute a) (list_all u.attribute x) g in
      and_from (v.attribute a) (list_all v.attribute x) (each a p.0 q.0) (list-both x p.1 q.1)

  pub pass-both : (f : Forest) → all_pass t f ≡ true → all_pass u f ≡ true → all_pass v f ≡ true
  pass-both Empty h g = refl
  pass-both (Text bytes rest) h g = pass-both rest h g
  pass-both (Void name x rest) h g =
      let p = and_parts (t.tag name && list_all t.attribute x) (all_pass t rest) h in
      let q = and_parts (u.tag name && list_all u.attribute x) (all_pass u rest) g in
      let m = and_parts (t.tag name) (list_all t.attribute x) p.0 in
      let n = and_parts (u.tag name) (list_all u.attribute x) q.0 in
      and_from (v.tag name && list_all v.attribute x) (all_pass v rest)
      (and_from (v.tag name) (list_all v.attribute x) (tags name m.0 n.0) (list-both x m.1 n.1))
      (pass-both rest p.1 q.1)
  pass-both (Element name x inner rest) h g =
      let p = and_parts (t.tag name && list_all t.attribute x && all_pass t inner)
      (all_pass t rest) h in
      let q = and_parts (u.tag name && list_all u.attribute x && all_pass u inner)
      (all_pass u rest) g in
      let i = and_parts (t.tag name && list_all t.attribute x) (all_pass t inner) p.0 in
      let j = and_parts (u.tag name && list_all u.attribute x) (all_pass u inner) q.0 in
      let m = and_parts (t.tag name) (list_all t.attribute x) i.0 in
      let n = and_parts (u.tag name) (list_all u.attribute x) j.0 in
      and_from (v.tag name && list_all v.attribute x && all_pass v inner) (all_pass v rest)
      (and_from (v.tag name && list_all v.attribute x) (all_pass v inner)
      (and_from (v.tag name) (list_all v.attribute x) (tags name m.0 n.0) (list-both x m.1 n.1))
      (pass-both inner i.1 j.1)) (pass-both rest p.1 q.1)

-- chosen elements alone
abbrev pub names_test : List (List ℕ) → Test
names_test chosen = record { tag = is_chosen chosen; attribute = λ a. true }

-- what authors may write, of chosen elements alone
abbrev pub chosen_test : List (List ℕ) → (Attribute → Bool) → Test
chosen_test chosen p = record {
  tag = λ name. not (is_one_of own_tags name) && is_chosen chosen name;
  attribute = authors_pass p;
}

list-true : (x : List Attribute) → list_all (λ a. true) x ≡ true
list-true [] = refl
list-true (a ∷ x) = list-true x

pub pass-names : (chosen : List (List ℕ)) (f : Forest) →
    all_pass (names_test chosen) f ≡ true → has_chosen_only chosen f ≡ true
pass-names chosen Empty h = refl
pass-names chosen (Text bytes rest) h = pass-names chosen rest h
pass-names chosen (Void name x rest) h =
    let t = names_test chosen in
    let p = and_parts (t.tag name && list_all t.attribute x) (all_pass t rest) h in
    and_from (is_chosen chosen name) (has_chosen_only chosen rest)
    (and_parts (t.tag name) (list_all t.attribute x) p.0).0 (pass-names chosen rest p.1)
pass-names chosen (Element name x inner rest) h =
    let t = names_test chosen in
    let p = and_parts (t.tag name && list_all t.attribute x && all_pass t inner)
    (all_pass t rest) h in
    let i = and_parts (t.tag name && list_all t.attribute x) (all_pass t inner) p.0 in
    and_from (is_chosen chosen name && has_chosen_only chosen inner) (has_chosen_only chosen rest)
    (and_from (is_chosen chosen name) (has_chosen_only chosen inner)
    (and_parts (t.tag name) (list_all t.attribute x) i.0).0 (pass-names chosen inner i.1))
    (pass-names chosen rest p.1)

pub names-pass : (chosen : List (List ℕ)) (f : Forest) →
    has_chosen_only chosen f ≡ true → all_pass (names_test chosen) f ≡ true
names-pass chosen Empty h = refl
names-pass chosen (Text bytes rest) h = names-pass chosen rest h
names-pass chosen (Void name x rest) h =
    let t = names_test chosen in
    let p = and_parts (is_chosen chosen name) (has_chosen_only chosen rest) h in
    and_from (t.tag name && list_all t.attribute x) (all_pass t rest)
    (and_from (t.tag name) (list_all t.attribute x) p.0 (list-true x))
    (names-pass chosen rest p.1)
names-pass chosen (Element name x inner rest) h =
    let t = names_test chosen in
    let p = and_parts (is_chosen chosen name && has_chosen_only chosen inner)
    (has_chosen_only chosen rest) h in
    let i = and_parts (is_chosen chosen name) (has_chosen_only chosen inner) p.0 in
    and_from (t.tag name && list_all t.attribute x && all_pass t inner) (all_pass t rest)
    (and_from (t.tag name && list_all t.attribute x) (all_pass t inner)
    (and_from (t.tag name) (list_all t.attribute x) i.0 (list-true x))
    (names-pass chosen inner i.1)) (names-pass chosen rest p.1)

-- a level of chosen elements is one of what authors may write
pub level-authors : (chosen : List (List ℕ)) (p : Attribute → Bool) (text : List ℕ) →
    IsLevel (chosen_test chosen p) Flow max_depth text [] →
    IsLevel (authors_test p) Flow max_depth text []
level-authors chosen p text level =
    let t = chosen_test chosen p in
    record {
      forest = level.forest;
      is = level.is;
      inside = level.inside;
      contained = level.contained;
      shallow = level.shallow;
      passes = pass-both t t (authors_test p) (λ name h g.
          (and_parts (not (is_one_of own_tags name)) (is_chosen chosen name) h).0)
          (λ a h g. h) level.forest level.passes level.passes;
    }

pub chosen-only : (chosen : List (List ℕ)) (p : Attribute → Bool) (text : List ℕ) →
    IsLevel (chosen_test chosen p) Flow max_depth text [] → HasChosenOnly chosen text
chosen-only chosen p text level other also =
    let t = chosen_test chosen p in
    let reading : IsReading text level.forest = record {
      in_grammar = level.inside;
      written_so = sym (level.is ∙ append-nil (written level.forest));
    } in
    subst (λ f. has_chosen_only chosen f ≡ true)
    (one_reading text level.forest other reading also) (pass-names chosen level.forest
    (pass-both t t (names_test chosen) (λ name h g.
    (and_parts (not (is_one_of own_tags name)) (is_chosen chosen name) h).1)
    (λ a h g. refl) level.forest level.passes level.passes))

pub chosen-pass : (chosen : List (List ℕ)) (p : Attribute → Bool) (f : Forest) →
    is_of_authors f ≡ true → all_attributes p f ≡ true → has_chosen_only chosen f ≡ true →
    all_pass (chosen_test chosen p) f ≡ true
chosen-pass chosen p f authors passes only = pass-both (authors_test p) (names_test chosen)
    (chosen_test chosen p)
    (λ name h g. and_from (not (is_one_of own_tags name)) (is_chosen chosen name) h g)
    (λ a h g. h) f (authors-pass p f authors passes) (names-pass chosen f only)

-- ---- an escaped text
pub escaped-safe-with : (links images : List (List ℕ)) (text : List ℕ) →
    is_escaped text ≡ true → IsSafeHtml links images text
escaped-safe-with links images [] h = whole (permitted_test links images) links images []
    (λ a h. h) (record {
      forest = Empty;
      is = refl;
      inside = refl;
      contained = refl;
      passes = refl;
      shallow = omega arith;
    })
escaped-safe-with links images (b ∷ rest) h = whole (permitted_test links images) links images
    (b ∷ rest) (λ a h. h) (record {
      forest = Text (b ∷ rest) Empty;
      is = sym (append-nil (b ∷ rest)) ∙ ap (λ x. x ++ []) (sym (append-nil (b ∷ rest)));
      inside = and_from (true && is_escaped (b ∷ rest) && true) true
          (and_from (true && is_escaped (b ∷ rest)) true (and_from true (is_escaped
          (b ∷ rest)) refl h)
          refl) refl;
      contained = refl;
      passes = refl;
      shallow = omega arith;
    })

pub escaped-safe : (text : List ℕ) → is_escaped text ≡ true →
    IsSafeHtml link_protocols image_protocols text
escaped-safe = escaped-safe-with link_protocols image_protocols

-- ---- results
pub none-left : (rest : List ℕ) → length rest ≡ 0 → rest ≡ []
none-left [] h = refl
none-left (b ∷ rest) h = absurd (omega (arith, h))

pub ok-with : {A E : Type 0} (f : A → List ℕ) (P : List ℕ → Type 0) (r : Result A E)
    (x : List ℕ) → IfOk r (λ a. f a ≡ x) → P x → IfOk r (λ a. P (f a))
ok-with f P (Ok a) x h px = subst P (sym h) px
ok-with f P (Err e) x h px = tt
