-- A node in its context: the facts about the document, and the node's meaning. The lemmas on nodes
-- use this record.
use Rattle.std.proofs.Common.{◌≡◌, ℕ, Bool, true, List, [], ◌∷◌, ◌++◌, codes, ◌&&◌, arith}
use Rattle.std.specs.Prelude.{Option, find, bytes_eq}
use Rattle.std.specs.Option.{option_map_or}
use Rattle.md_base.specs.declared.event.Name.{Name}
use Rattle.md_text.specs.Html.{Attribute}
use Rattle.md_text.specs.Encode.{encoded}
use Rattle.md_text.proofs.EncodeLaws.{is_escaped-encoded}
use Rattle.md_pattern.specs.Looseness.{is_loose}
use Rattle.md_meaning.specs.Meaning.Inherited.{inside}
use Rattle.md_meaning.specs.Meaning.At.{Target, Defined, Context, At, nothing_found, target_in}
use Rattle.md_meaning.specs.Meaning.At.{Before}
use Rattle.md_meaning.specs.Meaning.Layout.{Piece}
use Rattle.md_meaning.specs.Meaning.Media.{leads_to}
use Rattle.md_meaning.specs.Meaning.Means.{prints}
use Rattle.md_content.specs.Built.{Content, IsFit, content_of}
use Rattle.md_safe.proofs.Texts.{Escaped}
use Rattle.md_safe.proofs.Tags.{Claim, IsTest, attribute}
use Rattle.md_safe.proofs.Laid.{Adds}
use Rattle.md_safe.proofs.Media.{IsEscapedTitle}
use Rattle.md_safe.proofs.Contents.{Holds}
use Rattle.md_meaning.specs.declared.surroundings.Surroundings.{Surroundings}
use Rattle.md_base.specs.declared.event.Point.{Point}
use Rattle.md_base.specs.Tree.{Forest}
use Rattle.md_meaning.specs.Meaning.Nodes.{Outcome}
use Rattle.md_tree.specs.Rules.{place}
use Rattle.md_base.specs.Children.{is_empty}
use Rattle.std.proofs.lemmas.Bool.{cond_both}
use Rattle.md_safe.proofs.Cases.{OnSome}

-- the title of a target is escaped, where there is one
abbrev pub IsGoodTarget : Option Target → Type 0
IsGoodTarget resource = OnSome (λ (target : Target). IsEscapedTitle target.title) resource

-- the titles of some definitions are escaped
abbrev pub AreTitles : List Defined → Type 0
AreTitles [] = Unit {0}
AreTitles (defined ∷ others) = IsEscapedTitle defined.target.title × AreTitles others

-- a document, and a claim
pub record Setting : Type 1 where
  pub p : Claim
  pub context : Context
  pub test : IsTest p.test context.options
  pub ending : Escaped context.ending
  pub titles : AreTitles context.definitions

-- each `id` passes
abbrev pub PassesIds : (Attribute → Bool) → Type 0
PassesIds test = (value : List ℕ) → test (attribute (codes "id") value) ≡ true

-- the conditions on a claim other than a test on tags: the claims about two texts hold for the
-- joined one, and each `id` passes
pub record IsWhole (p : Claim) : Type 0 where
  pub both : (x y : List ℕ) → p.holds x → p.holds y → p.holds (x ++ y)
  pub ids : PassesIds p.test

-- the conditions on a node
abbrev pub IsFitAt : Setting → At → Name → Type 0
IsFitAt s t name = IsFit s.context.bytes name t.place.start t.place.end t.children

-- what holds of the text of a content where the node stands
abbrev pub Here : Setting → At → Content → List ℕ → Type 0
Here s t content x = Holds s.p t.around.is_escaping t.around.in_image content x

-- pieces add a text that fulfils a claim
abbrev pub Prints : Setting → (List ℕ → Type 0) → List Piece → Type 0
Prints s holds pieces = Adds s.context.ending holds pieces

-- the children print what may stand in the node
abbrev pub Inside : Setting → At → Content → Name → List Piece → Type 0
Inside s t content name inner =
    Prints s (Holds s.p (inside s.context.options (is_loose t.children) name t.around).is_escaping
    (inside s.context.options (is_loose t.children) name t.around).in_image
    (content_of name content))
    inner

-- by what its children print, a node prints what may stand there
abbrev pub NodeAdds : Setting → At → Content → Name → Type 0
NodeAdds s t content name = (inner : List Piece) → Inside s t content name inner →
    Prints s (Here s t content) (prints s.context t name inner)

-- holds for a text that is escaped if that is required
abbrev pub IsNarrow : Bool → (List ℕ → Type 0) → Type 0
IsNarrow escaping holds = (x : List ℕ) → (escaping ≡ true → Escaped x) → holds x

-- an encoded text is escaped if that is required
pub encoded-escaped : (escaping : Bool) (x : List ℕ) → escaping ≡ true →
    Escaped (encoded escaping x)
encoded-escaped escaping x e = rw e (is_escaped-encoded x)

-- the title of a definition is escaped
defined-title : (definitions : List Defined) (identifier : List ℕ) → AreTitles definitions →
    IsEscapedTitle (option_map_or (λ defined. defined.target)
    (find (λ defined. bytes_eq defined.identifier identifier) definitions)
    (target_in nothing_found)).title
defined-title [] identifier h = tt
defined-title (defined ∷ others) identifier h =
    grind (arith, cond_both, defined-title others identifier h.1)

pub target-title : (s : Setting) (t : At) → IsGoodTarget t.found.resource →
    IsEscapedTitle (leads_to s.context t).title
target-title s t good = grind (arith, defined-title)

-- a node in the document, by what its children mean
abbrev pub at_in : Surroundings → Before → Point → Point → Forest → Forest → Outcome → At
at_in around before start end children rest inner = record {
  around = around;
  before = before;
  children = children;
  found = inner.found;
  calls = before.calls ++ inner.calls;
  place = place start end;
  is_last = around.is_outermost && is_empty rest;
}
