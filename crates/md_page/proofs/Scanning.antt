-- What the program makes of sound pieces is written for the changed ones.
use Rattle.std.proofs.Common.{◌≡◌, ℕ, suc, Bool, true, false, not, List, [], ◌∷◌, ◌++◌, arith}
use Rattle.std.proofs.Common.{map, refl, sym, ap, ◌∙◌, append_assoc}
use Rattle.std.specs.List.{list_all}
use Rattle.std.proofs.lemmas.Bool.{and_parts, and_from, cond_both}
use Rattle.md_text.specs.Bytes.{is_one_of}
use Rattle.md_text.specs.References.{is_escaped}
use Rattle.md_text.specs.Html.{Attribute, written_attributes}
use Rattle.md_safe.specs.Token.{Token, Character, StartTag}
use Rattle.md_safe.specs.Tokens.{seen, seen_attributes}
use Rattle.md_page.specs.Added.{added}
use Rattle.md_page.specs.Pieces.{Piece, Words, Opening, Single, Closing, all_written, all_tokens}
use Rattle.md_page.specs.Pieces.{are_sound, are_plain, is_tag_name, void_names, begins_with_words}
use Rattle.md_page.specs.Scan.{differs, scanned}
use Rattle.md_page.proofs.Plain.{and3}
use Rattle.md_page.proofs.Tags.{PicksBy, picks-tag, is_sound_tag, token_of, inside, tag-written}
use Rattle.md_page.proofs.Tags.{tag-sound, escaped-differs, tag-differs, opens, closes}
use Rattle.md_page.proofs.Adding.{changed, MayAdd, seen_new, seen-append, added-other}
use Rattle.md_page.proofs.Adding.{added-characters, plain-more}

-- ---- how a scan goes

-- outside a tag that is picked, bytes that aren't `<`
pub scanned-run : (picks : List ℕ → Bool) (add : ℕ → List ℕ) (n : ℕ) (x r : List ℕ) →
    list_all (differs 60) x ≡ true →
    scanned picks add false n (x ++ r) ≡ x ++ scanned picks add false n r
scanned-run picks add n [] r h = refl
scanned-run picks add n (b ∷ x) r h = grind (arith, scanned-run picks add n x r)

-- inside a tag that is picked
pub scanned-inside : (picks : List ℕ → Bool) (add : ℕ → List ℕ) (n : ℕ) (x r : List ℕ) →
    list_all (differs 62) x ≡ true →
    scanned picks add true n (x ++ (62 ∷ r))
    ≡ x ++ (add n ++ (62 ∷ scanned picks add false (suc n) r))
scanned-inside picks add n [] r h = refl
scanned-inside picks add n (b ∷ x) r h = grind (arith, scanned-inside picks add n x r)

pub scanned-unclosed : (picks : List ℕ → Bool) (add : ℕ → List ℕ) (n : ℕ) (x : List ℕ) →
    list_all (differs 62) x ≡ true → scanned picks add true n x ≡ x
scanned-unclosed picks add n [] h = refl
scanned-unclosed picks add n (b ∷ x) h = grind (arith, scanned-unclosed picks add n x)

-- ---- over pieces

-- an attribute as it is inserted
abbrev inserted : (ℕ → Attribute) → ℕ → List ℕ
inserted new n = written_attributes (new n ∷ [])

attributes-append : (x y : List Attribute) →
    written_attributes (x ++ y) ≡ written_attributes x ++ written_attributes y
attributes-append [] y = refl
attributes-append (a ∷ x) y = simp (attributes-append x y, append_assoc)

grown-written : (name : List ℕ) (x : List Attribute) (a : Attribute) (r : List ℕ) →
    (name ++ written_attributes x) ++ (written_attributes (a ∷ []) ++ (62 ∷ r))
    ≡ name ++ (written_attributes (x ++ (a ∷ [])) ++ (62 ∷ r))
grown-written name x a r = simp (attributes-append x (a ∷ []), append_assoc)

-- what is known of pieces and of the changed ones, if n tags passed before
pub record AreChanged (picks : List ℕ → Bool) (test : Token → Bool) (new : ℕ → Attribute) (n : ℕ)
    (x y : List Piece) : Type 0 where
  pub tokens : all_tokens y ≡ added test (seen_new new) n (all_tokens x)
  pub sound : are_sound y ≡ true
  pub words : begins_with_words y ≡ begins_with_words x
  pub written : scanned picks (inserted new) false n (all_written x) ≡ all_written y

-- a tag that isn't picked, before such pieces
kept : {picks : List ℕ → Bool} {test : Token → Bool} {new : ℕ → Attribute} {n : ℕ}
    {more y : List Piece} → PicksBy picks test → (tag : Piece) → is_sound_tag tag ≡ true →
    test (token_of tag) ≡ false → AreChanged picks test new n more y →
    AreChanged picks test new n (tag ∷ more) (tag ∷ y)
kept {picks} {test} {new} {n} {more} {y} by tag sound fails r = record {
  tokens = grind arith;
  sound = tag-sound tag y sound r.sound;
  words = words tag;
  written = rw (tag-written tag more sound, tag-written tag y sound)
      (rw (picks-tag by tag (all_written more) sound, fails)
      (rw (scanned-run picks (inserted new) n (inside tag) (62 ∷ all_written more)
      (tag-differs 60 tag opens sound))
      (rw r.written refl)));
}
  where
    words : (tag : Piece) → begins_with_words (tag ∷ y) ≡ begins_with_words (tag ∷ more)
    words (Words text) = refl
    words tag = refl

-- a tag that is picked, before such pieces
grown : {picks : List ℕ → Bool} {test : Token → Bool} {new : ℕ → Attribute} {n : ℕ}
    {more y : List Piece} → PicksBy picks test → MayAdd test new →
    (name : List ℕ) (x : List Attribute) → is_tag_name name ≡ true → are_plain x ≡ true →
    test (StartTag name (seen_attributes x) false) ≡ true →
    AreChanged picks test new (suc n) more y →
    AreChanged picks test new n (Opening name x ∷ more) (Opening name (x ++ (new n ∷ [])) ∷ y)
grown {picks} {test} {new} {n} {more} {y} by may name x named plain passes r =
    let tag = Opening name x in
    let sound : is_sound_tag tag ≡ true = and_from _ _ named plain in
    record {
      tokens = rw (passes, seen-append x (new n ∷ []), r.tokens) refl;
      sound = and_from _ _ named (and_from _ _
          (plain-more x (new n) plain (may.named n) (may.escaped n) (may.fresh n name x passes))
          r.sound);
      words = refl;
      written = rw (← append_assoc name (written_attributes x) (62 ∷ all_written more))
          (rw (picks-tag by tag (all_written more) sound, passes)
          (rw (scanned-inside picks (inserted new) n (inside tag) (all_written more)
          (tag-differs 62 tag closes sound))
          (rw (r.written, grown-written name x (new n) (all_written y)) refl)));
    }

pub changed-pieces : {picks : List ℕ → Bool} {test : Token → Bool} {new : ℕ → Attribute} →
    PicksBy picks test → MayAdd test new → (n : ℕ) (x : List Piece) → are_sound x ≡ true →
    AreChanged picks test new n x (changed test new n x)
changed-pieces {test = test} {new = new} by may n [] h = grind (arith, added-other)
changed-pieces {picks} {test} {new} by may n (Words text ∷ more) h =
    let q = and3 (is_escaped text) _ (are_sound more) h in
    let r = changed-pieces by may n more q.2 in
    record {
      tokens = ap (λ ts. map Character (seen text) ++ ts) r.tokens
          ∙ sym (added-characters test (seen_new new) n (seen text) (all_tokens more) by);
      sound = and_from _ _ q.0 (and_from _ _ (ap not r.words ∙ q.1) r.sound);
      words = refl;
      written = grind (arith, scanned-run, escaped-differs);
    }
changed-pieces {picks} {test} {new} by may n (Opening name x ∷ more) h =
    let q = and3 (is_tag_name name) (are_plain x) (are_sound more) h in
    let tag = Opening name x in
    cond_both (test (token_of tag))
    (Opening name (x ++ (new n ∷ [])) ∷ changed test new (suc n) more)
    (tag ∷ changed test new n more) (AreChanged picks test new n (tag ∷ more))
    (λ passes. grown by may name x q.0 q.1 passes (changed-pieces by may (suc n) more q.2))
    (λ fails. kept by tag (and_from _ _ q.0 q.1) fails (changed-pieces by may n more q.2))
changed-pieces by may n (Single name x ∷ more) h =
    let q = and3 (is_one_of void_names name) (are_plain x) (are_sound more) h in
    kept by (Single name x) (and_from _ _ q.0 q.1) (by.void_tokens name (seen_attributes x) q.0)
    (changed-pieces by may n more q.2)
changed-pieces by may n (Closing name ∷ more) h =
    let q = and_parts (is_tag_name name) (are_sound more) h in
    kept by (Closing name) q.0 (by.end_tokens name) (changed-pieces by may n more q.1)
