-- Where nothing is printed, called or noted, and where no line ending is slurped anew.
use Rattle.std.proofs.Common.{◌≡◌, Bool, true, false, not, arith, ◌&&◌, List, [], ◌∷◌, ◌++◌, refl}
use Rattle.std.proofs.Common.{ap, ◌∙◌}
use Rattle.std.specs.Prelude.{if◌then◌else◌}
use Rattle.std.proofs.lemmas.Bool.{not-true}
use Rattle.md_base.specs.declared.event.Name.{Name}
use Rattle.md_base.specs.declared.event.Name.TheVariants as name_variants
use name_variants.{Data, Definition, GfmFootnoteCall, GfmFootnoteDefinition}
use Rattle.md_base.specs.declared.event.Point.{Point}
use Rattle.md_base.specs.Is.{is}
use Rattle.md_base.specs.Tree.{Forest, Empty, Node}
use Rattle.md_base.specs.Children.{is_empty}
use Rattle.md_base.specs.NameTests.{is_transparent}
use Rattle.md_pattern.specs.Looseness.{is_loose}
use Rattle.md_text.specs.declared.options.CompileOptions.{CompileOptions}
use Rattle.md_meaning.specs.declared.surroundings.Surroundings.{Surroundings}
use Rattle.md_meaning.specs.Meaning.Inherited.{inside}
use Rattle.md_meaning.specs.Meaning.Layout.{when}
use Rattle.md_meaning.specs.Meaning.At.{Context, Before}
use Rattle.md_meaning.specs.Meaning.Before.{before_children}
use Rattle.md_meaning.specs.Meaning.Nodes.{outcome}
use Rattle.md_steps.specs.Content.{Content, Blocks, Fits, is_allowed, content_of, content_inside}
use Rattle.md_steps.specs.Content.{content_past, content_after_node}
use Rattle.md_steps.specs.Claim.{inner_of, node_of, next_before}
use Rattle.md_steps.proofs.Standing.{allowed-facts, is_callless, is_nothing, is_quiet, implies}
use Rattle.md_steps.proofs.Staying.{node-same, past-as}

abbrev pub here_before : Context → Surroundings → Before → Name → Point → Point →
    Forest → Forest → Before
here_before context around before name start end children rest =
    next_before context around before (around.is_outermost && is_empty rest) name start end children

prints-through : (context : Context) (around : Surroundings) (before : Before) (last : Bool)
    (name : Name) (start end : Point) (children : Forest) → is_transparent name ≡ true →
    (node_of context around before last name start end children).pieces
    ≡ (inner_of context around before name children).pieces
prints-through context around before last name start end children h = grind arith

silent : (context : Context) (around : Surroundings) (before : Before) (c : Content)
    (forest : Forest) → is_nothing c ≡ true → Fits c forest →
    (outcome context around before forest).pieces ≡ []
silent context around before c Empty bare fits = refl
silent context around before c (Node name start end children rest) bare fits =
    let through = (allowed-facts c name fits.0).nothing bare in
    let last : Bool = around.is_outermost && is_empty rest in
    let next = here_before context around before name start end children rest in
    ap (λ ps. ps ++ (outcome context around next rest).pieces)
    (prints-through context around before last name start end children through
    ∙ silent context (inside context.options (is_loose children) name around)
    (before_children name children before) (content_inside c name) children
    (ap (λ t. is_nothing (if t then c else content_of name)) through ∙ bare) fits.1)
    ∙ silent context around next (content_after_node c name children) rest
    (node-same is_nothing (past-as is_nothing refl) c name children ∙ bare) fits.2

abbrev Says : Context → Surroundings → Before → Content → Name → Forest → Type 0
Says context around before c name children =
    Fits (content_inside c name) children → is_quiet name ≡ true →
    (inner_of context around before name children).pieces ≡ []

pub quiet : (context : Context) (around : Surroundings) (before : Before) (c : Content)
    (name : Name)
    (children : Forest) →
    Says context around before c name children
quiet context around before c name children fits h = grind (arith, not-true, silent)

-- ---- no call and no footnote

callless-names : (c : Content) (n : Name) → implies (is_callless c && is_allowed c n)
    (not (is GfmFootnoteCall n) && (not (is GfmFootnoteDefinition n) && not (is Definition n)))
    ≡ true
callless-names Blocks Data = refl
callless-names _ Data = refl
callless-names _ _ = refl

pub past-callless : (c : Content) → is_callless (content_past c) ≡ is_callless c
past-callless c = past-as is_callless refl c

no_more : {A : Type 0} (a b : List A) (t : Bool) (x : A) → a ≡ [] → t ≡ false → b ≡ [] →
    (a ++ when t (x ∷ [])) ++ b ≡ []
no_more a b t x h k l = rw (h, k, l) refl

pub no-calls :
    (context : Context) (around : Surroundings) (before : Before) (c : Content) (forest : Forest) →
    is_callless c ≡ true → Fits c forest →
    ((outcome context around before forest).calls ≡ [])
    × ((outcome context around before forest).footnotes ≡ [])
    × ((outcome context around before forest).definitions ≡ [])
no-calls context around before c Empty h fits = (refl, refl, refl)
no-calls context around before c (Node name start end children rest) h fits =
    let next = here_before context around before name start end children rest in
    let inner = no-calls context (inside context.options (is_loose children) name around)
    (before_children name children before) (content_inside c name) children
    ((allowed-facts c name fits.0).callless h).0 fits.1 in
    let later = no-calls context around next (content_after_node c name children) rest
    (node-same is_callless past-callless c name children ∙ h) fits.2 in
    let names = callless-names c name in
    let allowed = fits.0 in (
      no_more (inner_of context around before name children).calls
          (outcome context around next rest).calls (is GfmFootnoteCall name) _ inner.0
          (grind arith) later.0,
      no_more (inner_of context around before name children).footnotes
          (outcome context around next rest).footnotes (is GfmFootnoteDefinition name) _ inner.1
          (grind arith) later.1,
      no_more (inner_of context around before name children).definitions
          (outcome context around next rest).definitions (is Definition name) _ inner.2
          (grind arith) later.2,
    )

-- ---- in a definition

pub defines-inside :
    (options : CompileOptions) (loose : Bool) (name : Name) (around : Surroundings) →
    around.in_definition ≡ true → (inside options loose name around).in_definition ≡ true
defines-inside options loose Definition around h = refl
defines-inside options loose _ around h = h

pub definition-slurps :
    (context : Context) (around : Surroundings) (before : Before) (forest : Forest) →
    around.in_definition ≡ true → (outcome context around before forest).slurps ≡ before.slurps
definition-slurps context around before Empty h = refl
definition-slurps context around before (Node name start end children rest) h =
    rw (
      definition-slurps context around (here_before context around before name start end children
          rest) rest h,
      definition-slurps context (inside context.options (is_loose children) name around)
          (before_children name children before) children
          (defines-inside context.options (is_loose children) name around h),
      h,
    ) refl
