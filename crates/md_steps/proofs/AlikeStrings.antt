-- If strings are read alike, nodes that consist only of strings have the same meaning.
use Rattle.std.proofs.Common.{◌≡◌, Bool, true, ◌&&◌, ◌||◌, List, [], ◌∷◌, ◌++◌, Option, refl, ap}
use Rattle.std.proofs.Common.{◌∙◌, arith}
use Rattle.std.specs.Prelude.{if◌then◌else◌}
use Rattle.md_base.specs.declared.event.Name.{Name}
use Rattle.md_base.specs.declared.event.Position.{Position}
use Rattle.md_base.specs.Tree.{Forest, Empty, Node}
use Rattle.md_base.specs.Children.{is_empty, spine_names}
use Rattle.md_base.specs.NameTests.{is_transparent}
use Rattle.md_pattern.specs.Looseness.{is_loose}
use Rattle.md_text.specs.declared.options.CompileOptions.{CompileOptions}
use Rattle.md_meaning.specs.declared.surroundings.Surroundings.{Surroundings}
use Rattle.md_meaning.specs.Meaning.Inherited.{inside}
use Rattle.md_meaning.specs.Meaning.Layout.{Piece, layout}
use Rattle.md_meaning.specs.Meaning.At.{Context, At, Before, Found}
use Rattle.md_meaning.specs.Meaning.Before.{before_children}
use Rattle.md_meaning.specs.Meaning.Means.{prints}
use Rattle.md_meaning.specs.Meaning.Nodes.{outcome, found_at}
use Rattle.md_steps.specs.Content.{Content, Fits, is_string, is_code_data, is_source, is_allowed}
use Rattle.md_steps.specs.Content.{content_inside, content_after_node}
use Rattle.md_steps.specs.Claim.{at_node, inner_of, next_before}
use Rattle.md_steps.proofs.Standing.{follows, picked, allowed-facts, is_callless}
use Rattle.md_steps.proofs.Staying.{node-same}
use Rattle.md_steps.proofs.Quiet.{past-callless, defines-inside}

-- names of nodes that consist only of strings
abbrev pub is_plain : Name → Bool
is_plain name = is_transparent name || (is_string name || (is_code_data name || is_source name))

pub plain : (c : Content) (n : Name) → is_callless c ≡ true → is_allowed c n ≡ true →
    is_plain n ≡ true
plain c n h k = grind (arith, follows)

-- two places in which strings are read alike
pub record Alike (a b : Surroundings) (x y : Before) : Type 0 where
  pub escaping : a.is_escaping ≡ b.is_escaping
  pub code : a.in_code ≡ b.in_code
  pub one : a.in_definition ≡ true
  pub other : b.in_definition ≡ true
  pub spine : x.spine ≡ y.spine
  pub previous : x.previous ≡ y.previous

alike-inside : (options : CompileOptions) (name : Name) (children : Forest)
    (a b : Surroundings) (x y : Before) →
    Alike a b x y →
    Alike (inside options (is_loose children) name a) (inside options (is_loose children) name b)
    (before_children name children x) (before_children name children y)
alike-inside options name children a b x y h = grind (arith, defines-inside)

-- a place in a definition, with all that strings read of one
abbrev read_at : Position → Surroundings → List Name → Option Name → Found → At → At
read_at place around spine previous found at = record at {
  place = place;
  around = record at.around {
    is_escaping = around.is_escaping;
    in_code = around.in_code;
    in_definition = true;
  };
  before = record at.before { spine = spine; previous = previous };
  found = found;
}

module _ (context : Context) (at other : At) (place : at.place ≡ other.place)
    (alike : Alike at.around other.around at.before other.before) (p q : List Piece)
    (same : p ≡ q) where
  prints-alike : (name : Name) → is_plain name ≡ true → at.found ≡ other.found →
      prints context at name p ≡ prints context other name q
  prints-alike name h found = grind (arith, picked)

  found-alike : (name : Name) → at.found ≡ other.found →
      found_at at name (layout context.ending p) ≡ found_at other name (layout context.ending q)
  found-alike name found = grind arith

pub outcomes-alike :
    (context : Context) (a b : Surroundings) (x y : Before) (c : Content) (forest : Forest) →
    is_callless c ≡ true → Fits c forest → Alike a b x y →
    ((outcome context a x forest).pieces ≡ (outcome context b y forest).pieces)
    × ((outcome context a x forest).found ≡ (outcome context b y forest).found)
outcomes-alike context a b x y c Empty h fits alike = (refl, refl)
outcomes-alike context a b x y c (Node name start end children rest) h fits alike =
    let lasts : Bool = a.is_outermost && is_empty rest in
    let lastt : Bool = b.is_outermost && is_empty rest in
    let at : At = at_node context a x lasts name start end children in
    let other : At = at_node context b y lastt name start end children in
    let facts = (allowed-facts c name fits.0).callless h in
    let inner = outcomes-alike context (inside context.options (is_loose children) name a)
    (inside context.options (is_loose children) name b) (before_children name children x)
    (before_children name children y)
    (content_inside c name) children facts.0 fits.1
    (alike-inside context.options name children a b x y alike) in
    let next = next_before context a x lasts name start end children in
    let beyond = next_before context b y lastt name start end children in
    let later = outcomes-alike context a b next beyond (content_after_node c name children) rest
    (node-same is_callless past-callless c name children ∙ h) fits.2 (record {
      escaping = alike.escaping;
      code = alike.code;
      one = alike.one;
      other = alike.other;
      spine = ap (λ l. l ++ (if is_transparent name then spine_names children else name ∷ []))
          alike.spine;
      previous = refl;
    }) in
    let ps = (inner_of context a x name children).pieces in
    let qs = (inner_of context b y name children).pieces in (
      rw (
        prints-alike context at other refl alike ps qs inner.0 name (plain c name h fits.0)
            inner.1,
        later.0,
      ) refl,
      rw (later.1, found-alike context at other refl alike ps qs inner.0 name inner.1) refl,
    )
