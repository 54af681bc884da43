-- What is found where a node stands is good: a heading's text, titles, and the texts of footnotes.
use Rattle.std.proofs.Common.{◌≡◌, ℕ, Bool, true, ◌||◌, List, [], ◌∷◌, ◌++◌, arith}
use Rattle.std.specs.Prelude.{Option}
use Rattle.md_base.proofs.Lies.{lie}
use Rattle.md_base.specs.declared.event.Name.{Name}
use Rattle.md_base.specs.declared.event.Name.TheVariants as name_variants
use name_variants.{HeadingSetextText, DefinitionTitleString, GfmFootnoteDefinition}
use name_variants.{ResourceTitleString}
use Rattle.md_base.specs.Is.{is as named}
use Rattle.md_base.specs.NameTests.{is_transparent}
use Rattle.md_meaning.specs.Meaning.At.{Defined, Footnote, Found, At}
use Rattle.md_meaning.specs.Meaning.Layout.{Piece, layout}
use Rattle.md_meaning.specs.Meaning.Nodes.{found_at}
use Rattle.md_content.specs.Built.{Content, may_stand, content_inside, IsBuilt}
use Rattle.md_safe.proofs.Media.{IsEscapedTitle}
use Rattle.md_safe.proofs.Contents.{Holds}
use Rattle.md_safe.proofs.Insides.{is_blocks, Suits, is_blocks-same}
use Rattle.md_safe.proofs.Spot.{Setting, AreTitles, IsGoodTarget, IsFitAt}
use Rattle.md_safe.proofs.FlowNodes.{Reads}
use Rattle.md_safe.proofs.Nodes.{inside-alone, Before as PrintsBefore}
use Rattle.md_safe.proofs.Laid.{adds-alone}
use Rattle.md_safe.proofs.Cases.{OnSome}

-- what holds of a text among blocks is what is claimed
blocks-read : (s : Setting) (escaping in_image : Bool) (content : Content) →
    is_blocks content ≡ true →
    (x : List ℕ) → Holds s.p escaping in_image content x → Reads s x
blocks-read s escaping in_image content is x h = rw (is_blocks-same content is) at h

-- a heading's text that was found is as claimed
abbrev pub IsRead : Setting → Option (List ℕ) → Type 0
IsRead s found = OnSome (Reads s) found

-- what is found: among blocks a heading as is claimed, and titles that are escaped
pub record AreFound (s : Setting) (content : Content) (found : Found) : Type 0 where
  pub heading : is_blocks content ≡ true → IsRead s found.heading
  pub title : IsEscapedTitle found.title
  pub resource : IsGoodTarget found.resource

-- the texts of some footnotes are as claimed
abbrev pub AreTexts : (List ℕ → Type 0) → List Footnote → Type 0
AreTexts Q [] = Unit {0}
AreTexts Q (footnote ∷ others) = Q footnote.text × AreTexts Q others

abbrev pub AreRead : Setting → List Footnote → Type 0
AreRead s footnotes = AreTexts (Reads s) footnotes

pub titles-append : (xs ys : List Defined) → AreTitles xs → AreTitles ys → AreTitles (xs ++ ys)
titles-append [] ys a b = b
titles-append (x ∷ xs) ys a b = (a.0, titles-append xs ys a.1 b)

pub texts-append : (Q : List ℕ → Type 0) (xs ys : List Footnote) → AreTexts Q xs →
    AreTexts Q ys → AreTexts Q (xs ++ ys)
texts-append Q [] ys a b = b
texts-append Q (x ∷ xs) ys a b = (a.0, texts-append Q xs ys a.1 b)

-- a node and its children: what may stand where, and what the children print
pub record Inner (s : Setting) (t : At) (content : Content) (name : Name)
    (inner : List Piece) : Type 0 where
  pub stands : (is_transparent name || may_stand content name) ≡ true
  pub fit : IsFitAt s t name
  pub suits : Suits t.around.is_escaping t.around.in_image content
  pub built : IsBuilt s.context.bytes (content_inside content name) t.children
  pub before : PrintsBefore s t (content_inside content name) name inner
  pub found : AreFound s (content_inside content name) t.found

-- what is found where a node stands
pub found-node : {s : Setting} {content : Content} {inner : List Piece} (t : At) (name : Name) →
    Inner s t content name inner → AreFound s
    content (found_at t name (layout s.context.ending inner))
found-node {s} {content} {inner} t HeadingSetextText i = record {
  heading = λ is. blocks-read s t.around.is_escaping t.around.in_image content is
      (layout s.context.ending inner) (adds-alone (inside-alone s t content HeadingSetextText
      i.stands i.fit i.built inner i.before));
  title = tt;
  resource = tt;
}
found-node {s} {content} {inner} t DefinitionTitleString i = record {
  heading = λ _. tt;
  title = adds-alone (inside-alone s t content DefinitionTitleString i.stands i.fit i.built inner
      i.before) (i.suits.escaped (grind arith));
  resource = tt;
}
found-node {s} {content} {inner} t ResourceTitleString i = record {
  heading = λ _. tt;
  title = adds-alone (inside-alone s t content ResourceTitleString i.stands i.fit i.built inner
      i.before) (i.suits.escaped (grind arith));
  resource = tt;
}
found-node t name i = grind arith

-- the text of a footnote that is the node
pub note-node : {s : Setting} {content : Content} {inner : List Piece} (t : At) (name : Name) →
    Inner s t content name inner → named GfmFootnoteDefinition name ≡ true →
    Reads s (layout s.context.ending inner)
note-node {s = s} {content = content} {inner = inner} t GfmFootnoteDefinition i is = blocks-read s _
    _ _ (grind arith) _ (adds-alone (inside-alone s t _ _ i.stands i.fit i.built _ i.before))
note-node t _ i is = lie is
