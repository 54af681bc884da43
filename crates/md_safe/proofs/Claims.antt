-- Claims about texts, one for each content: the lemmas on nodes take them as a parameter. And what
-- is known where a node stands, and of what its children print.
use Rattle.std.proofs.Common.{arith, ◌≡◌, ℕ, Bool, true, false, cond, List, [], ◌∷◌, ◌++◌, refl}
use Rattle.std.proofs.Common.{subst, append-nil, codes}
use Rattle.std.proofs.lemmas.Bool.{cond_both}
use Rattle.std.specs.List.{flat_map}
use Rattle.md_base.specs.declared.event.Name.{Name}
use Rattle.md_base.specs.declared.event.Name.TheVariants as name_variants
use name_variants.{Link}
use Rattle.md_base.specs.declared.event.AlignKind.{AlignKind}
use Rattle.md_base.specs.Is.{is as named}
use Rattle.md_base.specs.NameTests.{is_call}
use Rattle.md_text.specs.Html.{printed_elements, is_tag, opening_tag, closing_tag}
use Rattle.md_text.specs.Bytes.{is_one_of}
use Rattle.md_text.specs.Laws.{is_line_ends}
use Rattle.md_meaning.specs.Meaning.At.{At, text_in}
use Rattle.md_meaning.specs.Meaning.Spans.{is_dropped, line_ending, span}
use Rattle.md_meaning.specs.Meaning.Layout.{Piece, Needed, said, on_own_line}
use Rattle.md_meaning.specs.Meaning.Means.{prints}
use Rattle.md_meaning.specs.Meaning.Tables.{cell_of}
use Rattle.md_content.specs.Built.{Blocks, content_of}
use Rattle.md_content.specs.Underlined.{is_underline}
use Rattle.md_safe.specs.Contents.{Content, Phrasing, Flow, Characters, Cells, may_say, voids_in}
use Rattle.md_safe.specs.Links.{prints_link}
use Rattle.md_safe.proofs.Insides.{is_blocks}
use Rattle.md_safe.proofs.Texts.{Escaped}
use Rattle.md_safe.proofs.Laid.{Adds, IsBeside, adds-append, adds-nothing, adds-text, adds-needed}
use Rattle.md_safe.proofs.Laid.{adds-weaker}
use Rattle.md_safe.proofs.Tags.{Turns, TurnsTag, Tagged, Single, Takes, IsFramed, adds-turned}
use Rattle.md_safe.proofs.Tags.{framed-text, framed-needed}
use Rattle.md_safe.proofs.Spot.{Setting, IsFitAt, IsGoodTarget, Inside, PassesIds}
use Rattle.md_safe.proofs.Stands.{Opens, is_spaced}
use Rattle.md_safe.proofs.Linking.{is_spans, in_link, place_in}

-- claims in a document: what may be around a text, and how texts and tags fulfil them
pub record Claims : Type 1 where
  pub s : Setting
  pub nested : Bool
  pub holds : Content → List ℕ → Type 0
  pub around : List ℕ → Type 0
  pub beside : IsBeside around
  pub ending : around s.context.ending
  pub line_ends : (x : List ℕ) → is_line_ends x ≡ true → around x
  pub space : around (32 ∷ [])
  pub takes : (content : Content) → is_spaced content ≡ true → Takes around (holds content)
  pub alone : (content : Content) → is_spaced content ≡ true → (x : List ℕ) → around x →
      holds content x
  pub text : (content : Content) (x : List ℕ) → Escaped x → may_say content x ≡ true →
      holds content x
  pub tag : (held content : Content) (name : List ℕ) → Opens nested content held name →
      TurnsTag s.p.test (holds held) (holds content) name
  pub element : (held content : Content) (name : List ℕ) → Opens nested content held name →
      Tagged s.p.test (holds held) (holds content) name
  pub void : (content : Content) (name : List ℕ) → is_one_of (voids_in content) name ≡ true →
      Single s.p.test (holds content) name
  pub wider : (x : List ℕ) → holds Phrasing x → holds Flow x
  pub code : (x w : List ℕ) → Escaped x → around w → holds Characters (x ++ w)
  pub filled : (in_head : Bool) (kinds : List AlignKind) (inner : List Piece) →
      Adds s.context.ending (holds Cells) inner → Adds s.context.ending
      (holds Cells) (inner ++ flat_map (cell_of in_head []) kinds)

-- what pieces add in a document
abbrev pub Prints : Claims → Content → List Piece → Type 0
Prints m content pieces = Adds m.s.context.ending (m.holds content) pieces

-- ---- tags, and what may be around them

pub turned : (m : Claims) {held content : Content} {o c : List ℕ} {xs ys zs : List Piece} →
    is_spaced held ≡ true → is_spaced content ≡ true → Turns (m.holds held) (m.holds content) o c →
    Adds m.s.context.ending (IsFramed m.around o) xs → Prints m held ys →
    Adds m.s.context.ending (IsFramed m.around c) zs → Prints m content (xs ++ (ys ++ zs))
turned m hs cs turn a r b = adds-turned (m.takes _ hs) (m.takes _ cs) turn a r b

pub plain_tag : (m : Claims) {held content : Content} (name : List ℕ) →
    is_tag printed_elements name [] ≡ true → Opens m.nested content held name →
    Turns (m.holds held) (m.holds content) (opening_tag name []) (closing_tag name)
plain_tag m name h opens = (m.tag _ _ name opens).tag [] h refl

-- tags on lines of their own
pub block-pair : (m : Claims) {held content : Content} {o c : List ℕ} {inner : List Piece} →
    is_spaced held ≡ true → is_spaced content ≡ true → Turns (m.holds held) (m.holds content) o c →
    Prints m held inner → Prints m content (on_own_line o ++ (inner ++ on_own_line c))
block-pair m hs cs turn a = turned m hs cs turn (framed-needed m.beside m.ending) a
    (framed-needed m.beside m.ending)

-- tags around what children print
pub pair : (m : Claims) (t : At) {content : Content} {o c : List ℕ} {inner : List Piece} →
    is_spaced content ≡ true → t.around.in_image ≡ false → Turns (m.holds content) (m.holds content)
    o c → Prints m content inner → Prints m content (span t (said o) inner (said c))
pair m t is out turn a =
    rw out (turned m is is turn (framed-text m.beside) a (framed-text m.beside))

-- what may be around a text, and nothing, may stand alone
pub alone : (m : Claims) {content : Content} {pieces : List Piece} → is_spaced content ≡ true →
    Adds m.s.context.ending m.around pieces → Prints m content pieces
alone m is a = adds-weaker (λ x h. m.alone _ is x h) a

pub nothing : (m : Claims) {content : Content} → is_spaced content ≡ true → Prints m content []
nothing m is = alone m is (adds-nothing m.beside.none)

-- on a line of its own
pub lined : (m : Claims) {content : Content} {xs : List Piece} → is_spaced content ≡ true →
    Prints m content xs → Prints m content (Needed ∷ xs)
lined m {content} is a = adds-append {f = m.around} (λ x y f g. subst
    (λ y. m.holds content (x ++ y)) (append-nil y)
    ((m.takes content is).take x y [] f g m.beside.none)) (adds-needed m.beside m.ending) a

pub ending-around : (m : Claims) (t : At) → is_line_ends (text_in m.s.context.bytes t.place)
    ≡ true → Adds m.s.context.ending m.around (line_ending m.s.context t)
ending-around m t h =
    let x : List ℕ = text_in m.s.context.bytes t.place in
    cond_both t.around.in_code (said (32 ∷ [])) (cond (is_dropped t) [] (said x))
    (Adds m.s.context.ending m.around) (λ _. adds-text m.space) (λ _. cond_both (is_dropped t) []
    (said x) (Adds m.s.context.ending m.around) (λ _. adds-nothing m.beside.none)
    (λ _. adds-text (m.line_ends x h)))

-- ---- where a node stands

-- the facts about a node that isn't transparent, and what its children print to the grammar
pub record Known (m : Claims) (t : At) (name : Name) (inner : List Piece) : Type 0 where
  pub escaping : t.around.is_escaping ≡ true
  pub outside : t.around.in_image ≡ false
  pub fit : IsFitAt m.s t name
  pub resource : IsGoodTarget t.found.resource
  pub ids : is_call name ≡ true → PassesIds m.s.p.test
  pub heading : is_underline name ≡ true → m.holds Phrasing t.before.heading
  pub within : Inside m.s t Blocks name inner

-- what children print as content, where to the grammar they are blocks
abbrev pub Own : Claims → Content → Name → List Piece → Type 0
Own m content name inner = is_blocks (content_of name Blocks) ≡ true → Prints m
    (place_in m.nested content name) inner

abbrev pub NodePrints : Claims → At → Content → Name → Type 0
NodePrints m t content name = (inner : List Piece) → Known m t name inner → Own m content name inner
    → Prints m content (prints m.s.context t name inner)

-- what is known of spans, with links or without
pub record AreSpans (nested : Bool) (content : Content) : Type 0 where
  pub text : (x : List ℕ) → may_say content x ≡ true
  pub em : Opens nested content content (codes "em")
  pub strong : Opens nested content content (codes "strong")
  pub del : Opens nested content content (codes "del")
  pub code : Opens nested content Characters (codes "code")
  pub br : is_one_of (voids_in content) (codes "br") ≡ true
  pub img : is_one_of (voids_in content) (codes "img") ≡ true
  pub input : is_one_of (voids_in content) (codes "input") ≡ true
  pub spaced : is_spaced content ≡ true

pub are-spans : (nested : Bool) (content : Content) → is_spans content ≡ true →
    AreSpans nested content
are-spans nested content is = grind arith

-- where spans stand: what is known of them, what children print, that of a link too, and of a node
-- that prints a link that it may
pub record Here (m : Claims) (t : At) (content : Content) (name : Name) (inner : List Piece) : Type
    0 where
  pub spans : AreSpans m.nested content
  pub own : is_blocks (content_of name Blocks) ≡ true → named Link name ≡ false →
      Prints m content inner
  pub label : named Link name ≡ true → Prints m (in_link m.nested) inner
  pub free : prints_link name ≡ true → content ≡ Phrasing
  pub plain : t.around.in_link ≡ false → content ≡ Phrasing

-- what a node prints there
abbrev pub SpanPrints : Claims → At → Content → Name → Type 0
SpanPrints m t content name = (inner : List Piece) → Known m t name inner → Here m t content name
    inner → Prints m content (prints m.s.context t name inner)

-- an escaped text may stand there
pub says : (m : Claims) {content : Content} → AreSpans m.nested content → (x : List ℕ) → Escaped x →
    m.holds content x
says m f x h = m.text _ x h (f.text x)
