-- How often an id stands in what is printed: what is claimed of texts and of footnotes. What a node
-- costs: how often an id stands in what it prints, as often as calls have it at most.
use Rattle.std.proofs.Common.{append_assoc, ◌≡◌, ℕ, ◌+◌, ◌≤◌, Bool, true, false, List, [], ◌∷◌}
use Rattle.std.proofs.Common.{◌++◌, refl, subst, arith, codes, append-nil}
use Rattle.std.specs.Prelude.{unwrap_or}
use Rattle.md_text.specs.References.{read_back}
use Rattle.md_text.specs.Html.{Attribute, is_tag, printed_elements, any_attribute}
use Rattle.md_text.proofs.HtmlJoin.{text, nothing}
use Rattle.md_text.proofs.HtmlNames.{printed-element}
use Rattle.md_text.proofs.HtmlWriting.{attributes_before, written_attributes-before}
use Rattle.md_text.specs.Ids.{ids_in}
use Rattle.md_text.proofs.HtmlIds.{occurs, is_without, none-attributes, Counts, counts-plain}
use Rattle.md_text.proofs.HtmlIds.{counts-more, counts-join, counts-element, counts-takes}
use Rattle.md_text.proofs.HtmlIds.{occurs-append}
use Rattle.md_text.specs.declared.options.CompileOptions.{CompileOptions}
use Rattle.md_meaning.specs.Meaning.At.{Footnote, Context, Before, At, identifier_of}
use Rattle.md_safe.proofs.Tags.{Claim, reading, IsTest, attribute}
use Rattle.md_safe.proofs.Texts.{Escaped}
use Rattle.md_safe.proofs.Calls.{a_call, call_text}
use Rattle.md_base.specs.declared.event.Name.{Name}
use Rattle.md_base.specs.declared.event.Name.TheVariants as name_variants
use name_variants.{GfmFootnoteDefinition, GfmFootnoteCall}
use Rattle.md_base.specs.declared.event.Point.{Point}
use Rattle.md_base.specs.Is.{is as named}
use Rattle.md_base.specs.Tree.{Forest}
use Rattle.md_base.specs.NameTests.{is_transparent}
use Rattle.md_pattern.specs.Looseness.{is_loose}
use Rattle.md_meaning.specs.declared.surroundings.Surroundings.{Surroundings}
use Rattle.md_meaning.specs.Meaning.Inherited.{inside}
use Rattle.md_meaning.specs.Meaning.Before.{before_children}
use Rattle.md_meaning.specs.Meaning.Layout.{when}
use Rattle.md_meaning.specs.Meaning.Nodes.{Outcome, node, outcome}
use Rattle.md_content.specs.Underlined.{waits_after}
use Rattle.md_safe.proofs.Laid.{Adds}
use Rattle.md_safe.proofs.Spot.{Setting, AreTitles, at_in}
use Rattle.md_safe.proofs.NumberedIds.{ids_after, ids-append}

-- an id stands in a text at most so often
abbrev pub counting : List ℕ → ℕ → Claim
counting w n = record {
  holds = Counts w n;
  test = is_without w;
  plain = λ x h. counts-more w _ _ _ (omega arith) (counts-plain w x h);
  before = λ x y h g. counts-more w _ _ _ (omega arith)
      (counts-join w 0 n x y (counts-plain w x h) g);
  after = λ x y h g. counts-more w _ _ _ (omega arith)
      (counts-join w n 0 x y h (counts-plain w y g));
  within = λ name attributes inside h a within. counts-more w _ _ _ (omega arith) (counts-element w
      n 0 name attributes inside (printed-element name attributes h)
      (omega (none-attributes w attributes a, arith)) within);
  takes = counts-takes w n;
}

-- the test on attributes in such a claim
pub without-test : (w : List ℕ) (options : CompileOptions) → options.allow_dangerous_html ≡ false →
    IsTest (is_without w) options
without-test w options html = grind arith

-- a heading that waits for its underline has an id at most so often
abbrev pub Waiting : List ℕ → Bool → ℕ → List ℕ → Type 0
Waiting w true n x = Counts w n x
Waiting w false n x = Unit {0}

-- an id stands in the texts of some footnotes at most so often
abbrev pub TextsCount : List ℕ → ℕ → List Footnote → Type 0
TextsCount w n [] = Unit {0}
TextsCount w n (footnote ∷ others) =
    (m : ℕ) × (k : ℕ) × (m + k ≤ n) × Counts w m footnote.text × TextsCount w k others

pub texts-append : (w : List ℕ) (n m : ℕ) (xs ys : List Footnote) →
    TextsCount w n xs → TextsCount w m ys →
    TextsCount w (n + m) (xs ++ ys)
texts-append w n m [] ys a b = texts-more w m (n + m) ys (omega arith) b
  where
    texts-more : (w : List ℕ) (n m : ℕ) (xs : List Footnote) → n ≤ m →
        TextsCount w n xs → TextsCount w m xs
    texts-more w n m [] more h = tt
    texts-more w n m (x ∷ xs) more h = (h.0, h.1, omega (h.2, more, arith), h.3, h.4)
texts-append w n m (x ∷ xs) ys a b = grind (arith, texts-append w a.1 m xs ys a.4 b)

-- an element, attribute by attribute
counted-element :
    (w : List ℕ) (n m : ℕ) (name : List ℕ) (attributes : List Attribute) (inside : List ℕ) →
    is_tag printed_elements name attributes ≡ true → occurs w (ids_in attributes) ≤ m
    → Counts w n inside → Counts w (m + n)
    (60 ∷ (name ++ attributes_before attributes (62 ∷ (inside ++ (60 ∷ 47 ∷ (name ++ (62 ∷ [])))))))
counted-element w n m name attributes inside h few within =
    subst (λ x. Counts w (m + n) (60 ∷ (name ++ x))) (grind (arith, written_attributes-before))
    (counts-element w n m name attributes inside (printed-element name attributes h) few within)

-- a call has its own id
pub counts-call : (w v id n : List ℕ) → Escaped v → Escaped id → Escaped n →
    Counts w (occurs w (read_back id ∷ [])) (call_text v id n)
counts-call w v id n h g k =
    let hit : ℕ = occurs w (read_back id ∷ []) in
    let attributes : List Attribute = attribute (codes "href") (35 ∷ v) ∷ attribute (codes "id") id
    ∷ attribute (codes "data-footnote-ref") [] ∷ attribute (codes "aria-describedby")
    (codes "footnote-label") ∷ [] in
    let link : List ℕ = codes "<a href=\"#" ++ (v ++ (codes "\" id=\"" ++ (id ++ (codes
    "\" data-footnote-ref=\"\" aria-describedby=\"footnote-label\">" ++ (n ++ codes "</a>"))))) in
    let own : occurs w (ids_in attributes) ≤ hit = omega arith in
    let inner : Counts w (hit + 0) link = counted-element w 0 hit (codes "a") attributes n
    (a_call v id h g) own (counts-plain w n (text (is_without w) n k)) in
    let outer : Counts w (0 + (hit + 0)) (codes "<sup>" ++ (link ++ codes "</sup>")) =
    counted-element w (hit + 0) 0 (codes "sup") [] link refl (omega arith) inner in
    counts-more w _ _ _ (omega arith) (subst (Counts w (0 + (hit + 0))) (simp append_assoc) outer)

-- the heading of the section has its id
pub counts-heading : (w label : List ℕ) → Escaped label → Counts w
    (occurs w (codes "footnote-label" ∷ [])) (codes
    "<h2 id=\"footnote-label\" class=\"sr-only\">" ++ (label ++ codes "</h2>"))
counts-heading w label h =
    let hit : ℕ = occurs w (codes "footnote-label" ∷ []) in
    let attributes : List Attribute = attribute (codes "id") (codes "footnote-label") ∷ attribute
    (codes "class") (codes "sr-only") ∷ [] in
    let own : occurs w (ids_in attributes) ≤ hit = omega arith in
    counts-more w _ _ _ (omega arith) (counted-element w 0 hit (codes "h2") attributes label refl
    own (counts-plain w label (text (is_without w) label h)))

-- a document whose HTML is escaped
pub record Document : Type 0 where
  pub context : Context
  pub html : context.options.allow_dangerous_html ≡ false
  pub ending : Escaped context.ending
  pub titles : AreTitles context.definitions

-- a setting in which an id is counted
abbrev pub counted_in : Document → List ℕ → ℕ → Setting
counted_in d w n = record {
  p = counting w n;
  context = d.context;
  test = without-test w d.context.options d.html;
  ending = d.ending;
  titles = d.titles;
}

-- a setting in which texts have readings
abbrev pub read_in : Document → Setting
read_in d = record {
  p = reading any_attribute;
  context = d.context;
  test = record {
    other = λ name value h. refl;
    link = λ destination. refl;
    anchor = λ rest. refl;
    image = λ destination. refl;
    html = d.html;
  };
  ending = d.ending;
  titles = d.titles;
}

-- how many of some calls after others have the id
abbrev pub due : Document → List ℕ → (before calls : List (List ℕ)) → ℕ
due d w before calls = occurs w (ids_after d.context.options d.context.calls before calls)

pub due-append : (d : Document) (w : List ℕ) (before xs ys : List (List ℕ)) →
    due d w before (xs ++ ys) ≡ due d w before xs + due d w (before ++ xs) ys
due-append d w before xs ys = grind (arith, ids-append, occurs-append)

-- what is printed has the id so often, the heading that waits after it so often, and footnotes so
-- often: together at most so often as the heading that waits before it, and as calls
pub record Costs (d : Document) (w : List ℕ) (before : Before) (m : ℕ) (waits : Bool)
    (means : Outcome) : Type 0 where
  pub body : ℕ
  pub left : ℕ
  pub notes : ℕ
  pub prints : Adds d.context.ending (Counts w body) means.pieces
  pub heading : Waiting w waits left (unwrap_or means.found.heading before.heading)
  pub texts : TextsCount w notes means.footnotes
  pub few : body + left + notes ≤ m + due d w before.calls means.calls

-- where a node is
pub record Place : Type 0 where
  pub around : Surroundings
  pub before : Before
  pub start : Point
  pub end : Point
  pub children : Forest
  pub rest : Forest

abbrev pub place_at : Surroundings → Before → Point → Point → Forest → Forest → Place
place_at around before start end children rest = record {
  around = around;
  before = before;
  start = start;
  end = end;
  children = children;
  rest = rest;
}

abbrev pub inner_around : Document → Place → Name → Surroundings
inner_around d p name = inside d.context.options (is_loose p.children) name p.around

abbrev pub inner_before : Place → Name → Before
inner_before p name = before_children name p.children p.before

abbrev pub inner_of : Document → Place → Name → Outcome
inner_of d p name = outcome d.context (inner_around d p name) (inner_before p name) p.children

abbrev pub at_of : Document → Place → Name → At
at_of d p name = at_in p.around p.before p.start p.end p.children p.rest (inner_of d p name)

abbrev pub here_of : Document → Place → Name → Outcome
here_of d p name = node d.context (at_of d p name) name (inner_of d p name)

-- the children, where blocks stand in the node
abbrev pub Below : Document → List ℕ → Place → Name → Bool → ℕ → Type 0
Below d w p name waits m =
    Costs d w (inner_before p name) m (waits_after waits p.children) (inner_of d p name)

-- what a node costs is what its children do, and it itself where it is a call
pub cost-parts : (d : Document) (w : List ℕ) (p : Place) (name : Name) → due d w p.before.calls
    (here_of d p name).calls ≡ due d w p.before.calls (inner_of d p name).calls + due d w
    (p.before.calls ++ (inner_of d p name).calls) (when
    (named GfmFootnoteCall name) (identifier_of d.context.bytes p.children ∷ []))
cost-parts d w p name = due-append d w _ _ _

pub cost-least : (d : Document) (w : List ℕ) (p : Place) (name : Name) →
    due d w p.before.calls (inner_of d p name).calls
    ≤ due d w p.before.calls (here_of d p name).calls
cost-least d w p name = omega (cost-parts d w p name, arith)

-- nothing of no text
pub counts-none : (w : List ℕ) → Counts w 0 []
counts-none w = counts-plain w [] (nothing (is_without w))

-- what isn't a footnote has those of its children
pub no-footnote : (d : Document) (w : List ℕ) (n : ℕ) (p : Place) (name : Name) →
    named GfmFootnoteDefinition name ≡ false → TextsCount w n (inner_of d p name).footnotes →
    TextsCount w n (here_of d p name).footnotes
no-footnote d w n p name none h = rw (none, append-nil) h

-- a transparent node means what its children do
pub through-node : (context : Context) (t : At) (name : Name) (inner : Outcome) →
    is_transparent name ≡ true → t.found ≡ inner.found →
    node context t name inner ≡ record inner {
      calls = inner.calls ++ [];
      definitions = inner.definitions ++ [];
      footnotes = inner.footnotes ++ [];
      slurps = (node context t name inner).slurps;
    }
through-node context t name inner is same = grind arith
