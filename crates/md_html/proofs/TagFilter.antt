-- Where HTML is escaped the tag filter changes no meaning.
use Rattle.std.proofs.Common.{◌≡◌, ℕ, Bool, false, ◌&&◌, List, [], ◌++◌, arith}
use Rattle.std.proofs.Common.{refl, ap, ◌∙◌}
use Rattle.md_base.specs.declared.event.Name.{Name}
use Rattle.md_base.specs.declared.event.Name.TheVariants.{BlockQuote}
use Rattle.md_base.specs.Tree.{Forest, Empty, Node}
use Rattle.md_base.specs.Children.{is_empty}
use Rattle.md_pattern.specs.Looseness.{is_loose}
use Rattle.md_text.specs.declared.options.CompileOptions.{CompileOptions}
use Rattle.md_meaning.specs.declared.surroundings.Surroundings.{Surroundings}
use Rattle.md_meaning.specs.Meaning.Inherited.{inside, outermost}
use Rattle.md_tree.specs.Rules.{place}
use Rattle.md_meaning.specs.Meaning.Finds.{first_ending}
use Rattle.md_meaning.specs.Meaning.{meaning, ending_at}
use Rattle.md_meaning.specs.Meaning.Layout.{layout}
use Rattle.md_meaning.specs.Meaning.At.{Context, Defined, Footnote, At, Before}
use Rattle.md_meaning.specs.Meaning.Before.{nothing_before, before_children}
use Rattle.md_meaning.specs.Meaning.Nodes.{Outcome, outcome, node, both, continued, before_next}
use Rattle.md_meaning.specs.Meaning.Footnotes.{section}

-- the options with the tag filter on or off
abbrev pub filtering : Bool → CompileOptions → CompileOptions
filtering filter options = record options { gfm_tagfilter = filter }

-- the context of nodes, under these options
abbrev under : Bool → Context → Context
under filter context = record context { options = filtering filter context.options }

inside-moot : (filter : Bool) (options : CompileOptions) (loose : Bool) (name : Name)
    (around : Surroundings) →
    inside (filtering filter options) loose name around ≡ inside options loose name around
inside-moot filter options loose BlockQuote around = refl
inside-moot filter options loose _ around = refl

node-moot : (filter : Bool) (context : Context) (at : At) → context.options.allow_dangerous_html ≡
    false →
    (name : Name) (inner : Outcome) →
    node (under filter context) at name inner ≡ node context at name inner
node-moot filter context at h name inner = grind arith

meant-moot : (filter : Bool) (context : Context) → context.options.allow_dangerous_html ≡ false →
    (around : Surroundings) (before : Before) (forest : Forest) →
    outcome (under filter context) around before forest ≡ outcome context around before forest
meant-moot filter context h around before Empty = refl
meant-moot filter context h around before (Node name start end children rest) =
    let other : Context = under filter context in
    let own : Before = before_children name children before in
    let nested : Surroundings = inside context.options (is_loose children) name around in
    let at : Outcome → At = λ inner. record {
      around = around;
      before = before;
      children = children;
      found = inner.found;
      calls = before.calls ++ inner.calls;
      place = place start end;
      is_last = around.is_outermost && is_empty rest;
    } in
    let inner : Outcome = outcome context nested own children in
    let here : At = at inner in
    let by : Outcome → (Before → Outcome) → Outcome = λ n later. continued here name n later in
    ap (λ ar. continued (at (outcome other ar own children)) name
    (node other (at (outcome other ar own children)) name (outcome other ar own children))
    (λ next. outcome other around next rest))
    (inside-moot filter context.options (is_loose children) name around)
    ∙ ap (λ m. continued (at m) name (node other (at m) name m)
    (λ next. outcome other around next rest)) (meant-moot filter context h nested own children)
    ∙ ap (λ n. by n (λ next. outcome other around next rest))
    (node-moot filter context here h name inner)
    ∙ ap (λ m. both (node context here name inner) m) (meant-moot filter context h around
    (before_next here name (node context here name inner)) rest)

section-moot : (filter : Bool) (context : Context) (footnotes : List Footnote) →
    section (under filter context) footnotes ≡ section context footnotes
section-moot filter context footnotes = grind arith

-- the text of what a document means
abbrev text_by : Context → Outcome → List ℕ
text_by context document = layout context.ending (document.pieces ++ section context
    document.footnotes)

pub meaning-moot :
    (filter : Bool) (options : CompileOptions) (names : List (List ℕ × List ℕ)) (bytes : List ℕ)
    (document : Forest) → options.allow_dangerous_html ≡ false →
    meaning (filtering filter options) names bytes document ≡ meaning options names bytes document
meaning-moot filter options names bytes document h =
    let ending : List ℕ = ending_at options bytes (first_ending document) in
    let context : List (List ℕ) → List Defined → Context = λ cs ds. record {
      bytes = bytes;
      names = names;
      options = options;
      ending = ending;
      calls = cs;
      definitions = ds;
    } in
    let all : Context → Outcome = λ g. outcome g outermost nothing_before document in
    let calls : List (List ℕ) = (all (context [] [])).calls in
    let known : List Defined = (all (context calls [])).definitions in
    let whole : Outcome = all (context calls known) in
    let other : List (List ℕ) → List Defined → List ℕ =
    λ cs ds. text_by (under filter (context cs ds)) (all (under filter (context cs ds))) in
    ap (λ (m : Outcome). other m.calls (all (under filter (context m.calls []))).definitions)
    (meant-moot filter (context [] []) h outermost nothing_before document)
    ∙ ap (λ (m : Outcome). other calls m.definitions)
    (meant-moot filter (context calls []) h outermost nothing_before document)
    ∙ ap (λ m. text_by (under filter (context calls known)) m)
    (meant-moot filter (context calls known) h outermost nothing_before document)
    ∙ ap (λ ps. layout ending (whole.pieces ++ ps))
    (section-moot filter (context calls known) whole.footnotes)
