-- The steps over a whole document: over its events, and what they print.
use Rattle.std.proofs.Common.{◌≡◌, ℕ, zero, suc, Bool, true, false, ◌&&◌, List, [], ◌∷◌, ◌++◌}
use Rattle.std.proofs.Common.{refl, ap, sym, ◌∙◌, append-nil}
use Rattle.std.specs.Prelude.{if◌then◌else◌}
use Rattle.md_base.specs.declared.event.Event.{Event}
use Rattle.md_base.specs.declared.event.Name.TheVariants.{Definition, GfmFootnoteCall}
use Rattle.md_base.specs.Is.{is}
use Rattle.md_base.specs.Tree.{Forest, Empty, Node, flatten}
use Rattle.md_base.specs.Children.{is_empty}
use Rattle.md_pattern.specs.Looseness.{is_loose}
use Rattle.md_tree.specs.Grammar.{IsGrammatical}
use Rattle.md_meaning.specs.declared.surroundings.Surroundings.{Surroundings}
use Rattle.md_meaning.specs.Meaning.Inherited.{inside, outermost}
use Rattle.md_meaning.specs.Meaning.Layout.{laid_after, layout, when}
use Rattle.md_meaning.specs.Meaning.At.{Context, Before, identifier_of}
use Rattle.md_meaning.specs.Meaning.Before.{before_children, nothing_before}
use Rattle.md_meaning.specs.Meaning.Nodes.{Outcome, outcome}
use Rattle.md_content.proofs.Underlines.{grammatical-underlined}
use Rattle.md_steps.specs.Content.{Blocks}
use Rattle.md_steps.specs.State.{State, NodeFacts, facts_of}
use Rattle.md_steps.specs.Steps.{entered, exited, passed, is_passed, over, beginning}
use Rattle.md_steps.specs.Claim.{Done, noted_all, next_before}
use Rattle.md_steps.specs.Run.{Noticed, noticed, run, defined, stepped, passes, context_alone}
use Rattle.md_steps.specs.Run.{printed}
use Rattle.md_text.specs.declared.options.CompileOptions.{CompileOptions}
use Rattle.md_meaning.specs.Meaning.{ending_at, meaning}
use Rattle.md_meaning.specs.Meaning.Finds.{first_ending}
use Rattle.md_meaning.specs.Meaning.Footnotes.{section}
use Rattle.md_steps.proofs.Laid.{laid-append}
use Rattle.md_steps.proofs.Noted.{section-noted}
use Rattle.md_steps.proofs.ContentFits.{shaped-fits}
use Rattle.md_steps.proofs.Past.{past}
use Rattle.md_steps.proofs.Runs.{nodes, begins}
use Rattle.md_steps.proofs.Defined.{defined-known}
use Rattle.md_steps.proofs.Running.{run-over}

-- ---- a document

abbrev Says : Context → Forest → Type 0
Says context document =
    let after : State =
    run context 0 (flatten document) (noticed context.bytes true document) beginning in
    (after.text ≡ layout context.ending (outcome context outermost nothing_before document).pieces)
    × (after.calls ≡ (outcome context outermost nothing_before document).calls)
    × (after.footnotes ≡ noted_all [] (outcome context outermost nothing_before document).footnotes)

pub prints-meant : (context : Context) (document : Forest) →
    IsGrammatical context.bytes context.names document →
    context.calls ≡ (outcome context outermost nothing_before document).calls → Says context
    document
prints-meant context document grammatical calls =
    let ran : run context 0 (flatten document) (noticed context.bytes true document) beginning
    ≡ over context true document beginning =
    ap (λ es. run context 0 es (noticed context.bytes true document) beginning)
    (sym (append-nil (flatten document)))
    ∙ ap (λ ts. run context 0 (flatten document ++ []) ts beginning)
    (sym (append-nil (noticed context.bytes true document)))
    ∙ run-over context true document [] [] beginning in
    let done : Done context Blocks false outermost nothing_before document beginning
    (over context true document
    beginning) =
    nodes context Blocks false outermost nothing_before document beginning (shaped-fits document
    grammatical.shape) (grammatical-underlined context.bytes context.names document grammatical)
    begins
    ([], calls ∙ sym (append-nil (outcome context outermost nothing_before document).calls)) in (
      ap (λ (s : State). s.text) ran ∙ done.text refl,
      ap (λ (s : State). s.calls) ran ∙ done.knows.calls
          ∙ (past context outermost nothing_before document).calls,
      ap (λ (s : State). s.footnotes) ran ∙ done.footnotes,
    )

pub defines-meant : (context : Context) (document : Forest) →
    IsGrammatical context.bytes context.names document →
    (outcome context outermost nothing_before document).definitions ≡ defined context document
defines-meant context document grammatical =
    defined-known context outermost nothing_before Blocks false document
    (shaped-fits document grammatical.shape)
    (grammatical-underlined context.bytes context.names document grammatical) (λ b. (refl, refl))

-- ---- the whole text

-- the calls of some nodes
abbrev calls_in : List ℕ → Forest → List (List ℕ)
calls_in bytes Empty = []
calls_in bytes (Node name start end children rest) =
    (calls_in bytes children ++ when (is GfmFootnoteCall name) (identifier_of bytes children ∷ []))
    ++ calls_in bytes rest

calls-in : (context : Context) (around : Surroundings) (before : Before) (forest : Forest) →
    (outcome context around before forest).calls ≡ calls_in context.bytes forest
calls-in context around before Empty = refl
calls-in context around before (Node name start end children rest) =
    rw (
      calls-in context around (next_before context around before
          (around.is_outermost && is_empty rest) name start end children) rest,
      calls-in context (inside context.options (is_loose children) name around)
          (before_children name children before) children,
    ) refl

-- no step reads the calls of the document
over-same :
    (context : Context) (calls : List (List ℕ)) (outermost : Bool) (forest : Forest)
    (state : State) →
    over (record context { calls = calls }) outermost forest state ≡ over context outermost forest
    state
over-same context calls outer Empty state = refl
over-same context calls outer (Node name start end children rest) state =
    let facts : NodeFacts = facts_of context.bytes (outer && is_empty rest) children start end in
    rw (over-same context calls false children (entered context facts name state))
    (over-same context calls outer rest (if is_passed name then passed state
    else exited context facts name (over context false children
    (entered context facts name state))))

defined-same : (context : Context) (calls : List (List ℕ)) (forest : Forest) →
    defined (record context { calls = calls }) forest ≡ defined context forest
defined-same context calls Empty = refl
defined-same context calls (Node name start end children rest) =
    rw (
      over-same context calls false children
          (entered context (facts_of context.bytes false children start end) Definition beginning),
      defined-same context calls children,
      defined-same context calls rest,
    ) refl

run-same : (context : Context) (calls : List (List ℕ)) (left : ℕ)
    (events : List Event) (seen : List Noticed) (state : State) →
    run (record context { calls = calls }) left events seen state ≡ run context left events seen
    state
run-same context calls left [] seen state = refl
run-same context calls left (event ∷ events) [] state = refl
run-same context calls (suc left) (event ∷ events) (one ∷ seen) state =
    run-same context calls left events seen state
run-same context calls zero (event ∷ events) (one ∷ seen) state =
    run-same context calls (passes event one.inside) events seen
    (stepped context event one.facts state)

pub printed-meant : (options : CompileOptions) (names : List (List ℕ × List ℕ)) (bytes : List ℕ)
    (document : Forest) →
    IsGrammatical bytes names document →
    printed options names bytes document ≡ meaning options names bytes document
printed-meant options names bytes document grammatical =
    let ending = ending_at options bytes (first_ending document) in
    let alone : Context = context_alone options names bytes ending in
    let calls : List (List ℕ) = (outcome alone outermost nothing_before document).calls in
    let called : Context = record alone { calls = calls } in
    let mine : Context = record alone { definitions = defined alone document } in
    let context : Context =
    record called { definitions = (outcome called outermost nothing_before document).definitions }
    in
    let counted : (g : Context) → g.bytes ≡ bytes →
    calls ≡ (outcome g outermost nothing_before document).calls =
    λ g e. calls-in alone outermost nothing_before document ∙ ap (λ b. calls_in b document) (sym e)
    ∙ sym (calls-in g outermost nothing_before document) in
    let defines : (outcome called outermost nothing_before document).definitions
    ≡ defined alone document =
    defines-meant called document grammatical ∙ defined-same alone calls document in
    let after : Context → State =
    λ g. run g 0 (flatten document) (noticed bytes true document) beginning in
    let says : Says context document = prints-meant context document grammatical
    (counted context refl) in
    let same : after mine ≡ after context =
    sym (run-same mine calls 0 (flatten document) (noticed bytes true document) beginning)
    ∙ ap (λ ds. after (record called { definitions = ds })) (sym defines) in
    let out : Outcome = outcome context outermost nothing_before document in
    rw (same, says.0, says.1, sym (counted context refl), says.2)
    (ap (laid_after ending (layout ending out.pieces)) (section-noted context out.footnotes)
    ∙ sym (laid-append ending [] out.pieces (section context out.footnotes)))
