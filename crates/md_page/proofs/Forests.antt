-- One more attribute in the tags of a forest: it is written, contained and built as before.
use Rattle.std.proofs.Common.{◌≡◌, ℕ, suc, Bool, true, false, not, ◌&&◌, List, [], ◌∷◌, ◌++◌, arith}
use Rattle.std.proofs.Common.{refl, sym, ap, ap₂, ◌∙◌, subst, inl, inr}
use Rattle.std.specs.Prelude.{Option, Some, None}
use Rattle.std.specs.Option.{option_map_or}
use Rattle.std.proofs.lemmas.Bool.{and_parts, and_from, cases_Bool, cond-true, cond-false}
use Rattle.md_base.specs.Identifier.{is_nonempty}
use Rattle.md_text.specs.Bytes.{is_one_of}
use Rattle.md_text.specs.References.{is_escaped}
use Rattle.md_text.specs.Html.{Attribute, Forest, Empty, Text, Void, Element, begins_with_text}
use Rattle.md_text.specs.Html.{written}
use Rattle.md_safe.specs.Token.{Token, TokenAttribute, StartTag}
use Rattle.md_safe.specs.Tokenizer.{IsTokenized}
use Rattle.md_safe.specs.Tokens.{seen_attributes}
use Rattle.md_safe.specs.Contents.{Content, Flow, held_in, is_contained}
use Rattle.md_safe.specs.Built.{has_whole_texts, IsBuiltAsRead}
use Rattle.md_safe.proofs.WholeTrees.{forest-built}
use Rattle.md_page.specs.Added.{added}
use Rattle.md_page.specs.Pieces.{Piece, Words, Opening, Single, are_plain}
use Rattle.md_page.specs.Pieces.{is_tag_name, void_names, IsWritten}
use Rattle.md_page.specs.Scan.{with_new}
use Rattle.md_page.specs.Built.{is_plain_forest, IsBuiltAsWritten}
use Rattle.md_page.proofs.Plain.{and3}
use Rattle.md_page.proofs.Tags.{PicksBy}
use Rattle.md_page.proofs.FromForest.{pieces_of, pieces-tokens, forest-plain, plain-sound}
use Rattle.md_page.proofs.FromForest.{whole-written}
use Rattle.md_page.proofs.PieceRuns.{pieces-run}
use Rattle.md_page.proofs.Adding.{MayAdd, changed, plain-more}
use Rattle.md_page.proofs.Scanning.{changed-pieces}
use Rattle.md_page.proofs.Rules.{IsRule, changes}

plain-texts : (f : Forest) → is_plain_forest f ≡ true → has_whole_texts f ≡ true
plain-texts Empty h = refl
plain-texts (Text bytes rest) h = let later = plain-texts rest in grind (arith, later, h)
plain-texts (Void name x rest) h = let later = plain-texts rest in grind (arith, later, h)
plain-texts (Element name x inner rest) h =
    let p = and_parts _ _ (and3 (is_tag_name name) (are_plain x) _ h).2 in
    and_from _ _ (plain-texts inner p.0) (plain-texts rest p.1)

-- ---- one more attribute

-- a forest whose start tags that pass have one more attribute, if n tags passed before
record Grown (test : Token → Bool) (new : ℕ → Attribute) (n : ℕ) (f : Forest) : Type 0 where
  after : ℕ
  forest : Forest
  pieces : (more : List Piece) →
      changed test new n (pieces_of f more) ≡ pieces_of forest (changed test new after more)
  texts : begins_with_text forest ≡ begins_with_text f
  plain : is_plain_forest forest ≡ true
  contained : (nested : Bool) (content : Content) →
      is_contained nested content forest ≡ is_contained nested content f

-- an element with these attributes
element-grown : {test : Token → Bool} {new : ℕ → Attribute} {n m : ℕ} {name : List ℕ}
    {x y : List Attribute} {inner rest : Forest} →
    ((more : List Piece) →
    changed test new n (Opening name x ∷ more) ≡ Opening name y ∷ changed test new m more) →
    is_tag_name name ≡ true → are_plain y ≡ true → (g : Grown test new m inner) →
    Grown test new g.after rest → Grown test new n (Element name x inner rest)
element-grown {name = name} {y = y} {inner = inner} {rest = rest} opens named plain g r = record {
  after = r.after;
  forest = Element name y g.forest r.forest;
  pieces = grind arith;
  texts = refl;
  plain = and_from _ _ named (and_from _ _ plain (and_from _ _ g.plain r.plain));
  contained = λ nested content.
      ap₂ (λ a b. a && b) (held nested (held_in nested content name)) (r.contained nested content);
}
  where
    held : (nested : Bool) (content : Option Content) →
        option_map_or (λ held. is_contained nested held g.forest) content false
        ≡ option_map_or (λ held. is_contained nested held inner) content false
    held nested None = refl
    held nested (Some content) = g.contained nested content

grow : {test : Token → Bool} {new : ℕ → Attribute} → MayAdd test new → (n : ℕ) (f : Forest) →
    is_plain_forest f ≡ true → Grown test new n f
grow may n Empty h = record {
  after = n;
  forest = Empty;
  pieces = λ more. refl;
  texts = refl;
  plain = refl;
  contained = λ nested content. refl;
}
grow may n (Text bytes rest) h =
    let p = and3 (is_nonempty bytes) (is_escaped bytes) _ h in
    let q = and_parts (not (begins_with_text rest)) (is_plain_forest rest) p.2 in
    let r = grow may n rest q.1 in
    record {
      after = r.after;
      forest = Text bytes r.forest;
      pieces = λ more. ap (λ z. Words bytes ∷ z) (r.pieces more);
      texts = refl;
      plain = grind arith;
      contained = grind arith;
    }
grow may n (Void name x rest) h =
    let p = and3 (is_one_of void_names name) (are_plain x) (is_plain_forest rest) h in
    let r = grow may n rest p.2 in
    record {
      after = r.after;
      forest = Void name x r.forest;
      pieces = λ more. ap (λ z. Single name x ∷ z) (r.pieces more);
      texts = refl;
      plain = and_from _ _ p.0 (and_from _ _ p.1 r.plain);
      contained = grind arith;
    }
grow {test} {new} may n (Element name x inner rest) h =
    let p = and3 (is_tag_name name) (are_plain x) _ h in
    let q = and_parts (is_plain_forest inner) (is_plain_forest rest) p.2 in
    let token = StartTag name (seen_attributes x) false in
    elim (cases_Bool (test token)) [
      | inl passes ↦ (let g = grow may (suc n) inner q.0 in
          element-grown {y = x ++ (new n ∷ [])} (λ more. cond-true (test token) _ _ passes) p.0
          (plain-more x (new n) p.1 (may.named n) (may.escaped n) (may.fresh n name x passes)) g
          (grow may g.after rest q.1))
      | inr fails ↦ (let g = grow may n inner q.0 in
          element-grown {y = x} (λ more. cond-false (test token) _ _ fails) p.0 p.1 g
          (grow may g.after rest q.1))
    ]

-- ---- texts

-- what is known of a forest is known of the text that it is written as
built-so : (f : Forest) (text : List ℕ) → is_plain_forest f ≡ true → written f ≡ text →
    is_contained false Flow f ≡ true → IsBuiltAsWritten text
built-so f text h e c = record {
  forest = f;
  plain = h;
  written_so = e;
  contained = c;
  tokenized = rw (← e, ← whole-written f, ← pieces-tokens f [])
      (pieces-run (pieces_of f []) (plain-sound f [] h refl refl));
  builds = forest-built f (plain-texts f h) c;
}

pub read-built : (text : List ℕ) → IsBuiltAsRead text → IsBuiltAsWritten text
read-built text u = grind (arith, built-so, forest-plain)

grown-built : {picks : List ℕ → Bool} {test : Token → Bool} {new : ℕ → Attribute} →
    PicksBy picks test → MayAdd test new →
    (text : List ℕ) → IsBuiltAsWritten text → IsBuiltAsWritten (with_new picks new text)
grown-built {picks} {new = new} by may text b =
    let f = b.forest in
    let g = grow may 0 f b.plain in
    let r = changed-pieces by may 0 (pieces_of f []) (plain-sound f [] b.plain refl refl) in
    let after : written g.forest ≡ with_new picks new text = grind (arith, whole-written) in
    built-so g.forest (with_new picks new text) g.plain after (g.contained false Flow ∙ b.contained)

-- ---- what is known of a text after the additions of a rule

pub record Changed (test : Token → Bool) (attribute : ℕ → TokenAttribute) (text after : List ℕ) :
    Type 0 where
  pub written : IsWritten after
  pub tokens : (x : List Token) → IsTokenized text x → IsTokenized after (added test attribute 0 x)
  pub tree : IsBuiltAsWritten text → IsBuiltAsWritten after

pub changed-text : {picks : List ℕ → Bool} {test : Token → Bool} {new : ℕ → Attribute}
    {attribute : ℕ → TokenAttribute} {text given after : List ℕ} →
    IsRule picks test new attribute → IsWritten text → given ≡ text →
    after ≡ with_new picks new given → Changed test attribute text after
changed-text {picks} {test} {new} {attribute} {text} rule w same made =
    let results = changes rule text w in
    subst (Changed test attribute text) (sym (made ∙ ap (with_new picks new) same)) (record {
      written = results.0;
      tokens = results.1;
      tree = grown-built rule.picks_by rule.may_add text;
    })
