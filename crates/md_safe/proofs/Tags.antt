-- What is claimed of a text: that it has a reading, and more. Tags of the HTML grammar, written in
-- one or between other pieces: a text between them keeps the claim.
use Rattle.std.specs.List.{list_all}
use Rattle.std.proofs.Common.{◌≡◌, ℕ, Bool, true, List, [], ◌∷◌, ◌++◌, codes, false, not, ◌&&◌}
use Rattle.std.proofs.Common.{refl, ap, subst, append_assoc, append-nil, arith}
use Rattle.md_text.specs.Laws.{is_line_ends}
use Rattle.md_text.specs.Html.{Attribute, HasReadingWith, is_tag, printed_elements, written_attributes}
use Rattle.md_text.specs.Html.{opening_tag, closing_tag, printed_void_tags}
use Rattle.md_text.proofs.HtmlJoin.{join, element, text, void, opening-before}
use Rattle.md_text.proofs.HtmlPut.{paragraph_takes}
use Rattle.std.specs.Str.{bytes_eq}
use Rattle.md_text.proofs.HtmlWriting.{attributes_before, written_attributes-before}
use Rattle.md_text.specs.declared.options.CompileOptions.{CompileOptions}
use Rattle.md_meaning.specs.Meaning.Layout.{Piece, Text, Needed, Forced}
use Rattle.md_meaning.specs.Meaning.Media.{href, src}
use Rattle.md_safe.proofs.Texts.{Escaped}
use Rattle.md_safe.proofs.Laid.{Adds, adds-append, adds-text, adds-weaker, adds-needed, adds-forced}
use Rattle.md_safe.proofs.Laid.{adds-nothing, IsBeside}

-- a claim about texts, with a test on the attributes in the tags beside a text or around it
pub record Claim : Type 1 where
  pub holds : List ℕ → Type 0
  pub test : Attribute → Bool
  pub plain : (x : List ℕ) → HasReadingWith test x → holds x
  pub before : (x y : List ℕ) → HasReadingWith test x → holds y → holds (x ++ y)
  pub after : (x y : List ℕ) → holds x → HasReadingWith test y → holds (x ++ y)
  pub within : (name : List ℕ) (attributes : List Attribute) (inside : List ℕ) →
      is_tag printed_elements name attributes ≡ true → list_all test attributes ≡ true → holds inside
      → holds (60 ∷ (name
      ++ (written_attributes attributes ++ (62 ∷ (inside ++ (60 ∷ 47 ∷ (name ++ (62 ∷ []))))))))
  pub takes : (before endings inserted : List ℕ) → is_line_ends endings ≡ true →
      holds (before ++ codes "</p>" ++ endings) → HasReadingWith test inserted
      → holds (before ++ inserted ++ codes "</p>" ++ endings)

-- a reading in which each attribute passes the test
abbrev pub reading : (Attribute → Bool) → Claim
reading test = record {
  holds = HasReadingWith test;
  test = test;
  plain = λ x h. h;
  before = join test;
  after = join test;
  within = element test;
  takes = paragraph_takes test;
}

-- a text with a reading alone
abbrev pub plain_of : Claim → Claim
plain_of p = reading p.test

-- an attribute
abbrev pub attribute : List ℕ → List ℕ → Attribute
attribute name value = record { name = name; value = value }

-- neither `href` nor `src`, and no `id`
abbrev pub is_other_name : List ℕ → Bool
is_other_name name = not (bytes_eq name (codes "href")) && (not (bytes_eq name (codes "src"))
    && not (bytes_eq name (codes "id")))

-- what is known of a test on attributes, and of the options
pub record IsTest (p : Attribute → Bool) (options : CompileOptions) : Type 0 where
  pub other : (name value : List ℕ) → is_other_name name ≡ true → p (attribute name value) ≡ true
  pub link : (destination : List ℕ) → p (attribute (codes "href") (href options destination)) ≡ true
  pub anchor : (rest : List ℕ) → p (attribute (codes "href") (35 ∷ rest)) ≡ true
  pub image : (destination : List ℕ) → p (attribute (codes "src") (src options destination)) ≡ true
  pub html : options.allow_dangerous_html ≡ false

-- two texts around a text, so that a claim on it becomes one on the whole
pub record Turns (Q R : List ℕ → Type 0) (o c : List ℕ) : Type 0 where
  pub turn : (x : List ℕ) → Q x → R (o ++ (x ++ c))

-- two texts that preserve a claim about the text between them
abbrev pub Bracket : Claim → List ℕ → List ℕ → Type 0
Bracket p o c = Turns p.holds p.holds o c

-- the tag of an element, with any attributes that pass, changes one claim into another
pub record TurnsTag (test : Attribute → Bool) (Q R : List ℕ → Type 0) (name : List ℕ) : Type 0 where
  pub tag : (attributes : List Attribute) → is_tag printed_elements name attributes ≡ true →
      list_all test attributes ≡ true → Turns Q R (opening_tag name attributes) (closing_tag name)

pub bracket-tag : (p : Claim) (name : List ℕ) → TurnsTag p.test p.holds p.holds name
bracket-tag p name = record {
  tag = λ attributes h a. record {
    turn = λ x r. rw (opening-before name attributes (x ++ closing_tag name)) (p.within name
        attributes x h a r);
  };
}

pub turns-two : {Q R S : List ℕ → Type 0} {o c o' c' : List ℕ} → Turns R S o c → Turns Q R o' c' →
    Turns Q S (o ++ o') (c' ++ c)
turns-two a b = grind (arith, append_assoc)

-- the same of the whole element, attribute by attribute, and of a void tag
pub record Tagged (test : Attribute → Bool) (Q R : List ℕ → Type 0) (name : List ℕ) : Type 0 where
  pub tag : (attributes : List Attribute) (inside : List ℕ) →
      is_tag printed_elements name attributes ≡ true → list_all test attributes ≡ true → Q inside → R (60
      ∷ (name ++ attributes_before attributes (62 ∷ (inside ++ (60 ∷ 47 ∷ (name ++ (62 ∷ [])))))))

pub record Single (test : Attribute → Bool) (R : List ℕ → Type 0) (name : List ℕ) : Type 0 where
  pub tag : (attributes : List Attribute) → is_tag printed_void_tags name attributes ≡ true →
      list_all test attributes ≡ true → R
      (60 ∷ (name ++ attributes_before attributes (32 ∷ 47 ∷ 62 ∷ [])))

pub element-read : (p : Claim) (name : List ℕ) → Tagged p.test p.holds p.holds name
element-read p name = record {
  tag = λ attributes inside h a r. rw (← (written_attributes-before attributes _)) (p.within name
      attributes inside h a r);
}

pub void-read : (p : Claim) (name : List ℕ) → Single p.test p.holds name
void-read p name = record {
  tag = λ attributes h a. rw (← (written_attributes-before attributes _)) (grind (arith, void));
}

-- what stays when such texts are beside it
pub record Takes (W Q : List ℕ → Type 0) : Type 0 where
  pub take : (w x v : List ℕ) → W w → Q x → W v → Q (w ++ (x ++ v))

pub takes-escaped : (p : Claim) → Takes Escaped p.holds
takes-escaped p = grind (arith, text)

-- a text between two such ones
pub record IsFramed (W : List ℕ → Type 0) (c x : List ℕ) : Type 0 where
  pub before : List ℕ
  pub after : List ℕ
  pub whole : x ≡ before ++ (c ++ after)
  pub is_before : W before
  pub is_after : W after

enclosed : {W Q R : List ℕ → Type 0} {o c x y z : List ℕ} → Takes W Q → Takes W R → Turns Q R o c →
    IsFramed W o x → Q y → IsFramed W c z → R (x ++ (y ++ z))
enclosed {y = y} takes stays turns a r b =
    let inside = takes.take a.after y b.before a.is_after r b.is_before in
    grind (arith, append_assoc)

-- pieces between those of two texts
pub adds-turned : {W Q R : List ℕ → Type 0} {ending o c : List ℕ} {xs ys zs : List Piece} →
    Takes W Q → Takes W R → Turns Q R o c → Adds ending (IsFramed W o) xs → Adds ending Q ys →
    Adds ending (IsFramed W c) zs → Adds ending R (xs ++ (ys ++ zs))
adds-turned {W} {Q} {c = c} takes stays turns a r b = adds-append
    {g = λ w. (y : List ℕ) × (z : List ℕ) × (w ≡ y ++ z) × Q y × IsFramed W c z}
    (λ x w f g. rw g.2 (enclosed takes stays turns f g.3 g.4)) a
    (adds-append (λ y z f g. (y, z, refl, f, g)) r b)

-- a text between pieces that add such texts, and a tag
pub framed-around : {W : List ℕ → Type 0} {ending c : List ℕ} {xs ys zs : List Piece} →
    Adds ending W xs → Adds ending (λ y. y ≡ c) ys → Adds ending W zs →
    Adds ending (IsFramed W c) (xs ++ (ys ++ zs))
framed-around {W} {c = c} a t b = adds-append {g = λ w. (z : List ℕ) × (w ≡ c ++ z) × W z}
    (grind arith) a (adds-append (λ x z f g. (z, ap (λ x. x ++ z) f, g)) t b)

pub adds-framed : {W : List ℕ → Type 0} {ending c : List ℕ} {xs zs : List Piece} →
    Adds ending W xs → Adds ending W zs → Adds ending (IsFramed W c) (xs ++ (Text c ∷ zs))
adds-framed a b = framed-around a (adds-text refl) b

-- a tag after such pieces, alone, or on a line of its own
pub framed-after : {W : List ℕ → Type 0} {ending c : List ℕ} {xs : List Piece} → IsBeside W →
    Adds ending W xs → Adds ending (IsFramed W c) (xs ++ (Text c ∷ []))
framed-after beside a = adds-framed a (adds-nothing beside.none)

pub framed-text : {W : List ℕ → Type 0} {ending c : List ℕ} → IsBeside W →
    Adds ending (IsFramed W c) (Text c ∷ [])
framed-text beside = framed-after beside (adds-nothing beside.none)

pub framed-needed : {W : List ℕ → Type 0} {ending c : List ℕ} → IsBeside W → W ending →
    Adds ending (IsFramed W c) (Needed ∷ Text c ∷ [])
framed-needed beside h = framed-after beside (adds-needed beside h)

pub framed-forced : {W : List ℕ → Type 0} {ending c : List ℕ} → IsBeside W → W ending →
    Adds ending (IsFramed W c) (Forced ∷ Text c ∷ [])
framed-forced beside h = framed-after beside (adds-forced h)

-- what is claimed before or after what has a reading
pub adds-before : (p : Claim) {ending : List ℕ} {xs ys : List Piece} →
    Adds ending (HasReadingWith p.test) xs → Adds ending p.holds ys → Adds ending p.holds (xs ++ ys)
adds-before p a b = adds-append p.before a b

pub adds-after : (p : Claim) {ending : List ℕ} {xs ys : List Piece} → Adds ending p.holds xs →
    Adds ending (HasReadingWith p.test) ys → Adds ending p.holds (xs ++ ys)
adds-after p a b = adds-append p.after a b

-- an escaped text has a reading
pub adds-escaped : (p : Claim) {ending : List ℕ} {xs : List Piece} → Adds ending Escaped xs →
    Adds ending (HasReadingWith p.test) xs
adds-escaped p a = adds-weaker (text p.test) a

-- the texts of some pieces in one
abbrev pub flat : List Piece → List ℕ
flat [] = []
flat (Text x ∷ pieces) = x ++ flat pieces
flat (_ ∷ pieces) = flat pieces

abbrev pub are_texts : List Piece → Bool
are_texts [] = true
are_texts (Text x ∷ pieces) = are_texts pieces
are_texts (_ ∷ pieces) = false

pub adds-flat : {ending : List ℕ} {f : List ℕ → Type 0} {pieces : List Piece} →
    are_texts pieces ≡ true → f (flat pieces) → Adds ending f pieces
adds-flat {pieces = []} texts h = adds-nothing h
adds-flat {pieces = Text x ∷ pieces} texts h = adds-append {f = λ y. y ≡ x} {g = λ z. z ≡ flat
    pieces} (λ y z e g. rw (e, g) h) (adds-text refl) (adds-flat texts refl)
adds-flat {pieces = Needed ∷ pieces} texts h = absurd (cc texts)
adds-flat {pieces = Forced ∷ pieces} texts h = absurd (cc texts)

-- some texts after pieces that add such a one
pub adds-framed_flat : {W : List ℕ → Type 0} {ending : List ℕ} {xs : List Piece} → IsBeside W →
    (zs : List Piece) → are_texts zs ≡ true → Adds ending W xs →
    Adds ending (IsFramed W (flat zs)) (xs ++ zs)
adds-framed_flat {W} {ending} {xs} beside zs texts a = subst (λ zs'. Adds ending (IsFramed W (flat
    zs)) (xs ++ zs')) (append-nil zs) (grind (arith, framed-around, adds-flat, adds-nothing))
