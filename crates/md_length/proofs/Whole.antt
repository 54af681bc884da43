-- The text of a document is no longer than the section's heading, what the nodes may print, and
-- what they use.
use Rattle.std.proofs.Common.{ℕ, ◌+◌, ◌*◌, ◌^◌, ◌≤◌, ◌<◌, false, List, [], ◌++◌, length, arith}
use Rattle.md_base.specs.Is.{is}
use Rattle.md_base.specs.Tree.{Forest}
use Rattle.md_text.specs.declared.options.CompileOptions.{CompileOptions}
use Rattle.md_tree.specs.Grammar.{IsGrammatical}
use Rattle.md_meaning.specs.Meaning.{ending_at, meaning}
use Rattle.md_meaning.specs.Meaning.Inherited.{outermost}
use Rattle.md_meaning.specs.Meaning.At.{Context}
use Rattle.md_meaning.specs.Meaning.Before.{nothing_before}
use Rattle.md_meaning.specs.Meaning.Finds.{first_ending}
use Rattle.md_meaning.specs.Meaning.Footnotes.{section}
use Rattle.md_meaning.specs.Meaning.Nodes.{Outcome, outcome}
use Rattle.md_steps.specs.Content.{Blocks}
use Rattle.md_steps.proofs.ContentFits.{shaped-fits}
use Rattle.md_content.proofs.Underlines.{grammatical-underlined}
use Rattle.md_length.specs.Costs.{unit, nodes}
use Rattle.md_length.specs.Lengths.{lengths}
use Rattle.md_length.specs.Uses.{referred, cells, called, call_cost, back_cost, item_cost}
use Rattle.md_length.specs.Reuse.{option_length}
use Rattle.md_length.specs.Bound.{for_document}
use Rattle.md_length.proofs.Forests.{nodes-short}
use Rattle.md_length.proofs.Kept.{calls-few, calls-sum}
use Rattle.md_length.proofs.Grammar.{grammatical-sound, grammatical-ending}
use Rattle.md_length.proofs.Labels.{labels-short, called-split}
use Rattle.md_length.proofs.Numbers.{numbers-short}
use Rattle.md_length.proofs.Units.{cost-split}
use Rattle.md_length.proofs.Pieces.{size-append, layout-short}
use Rattle.md_length.proofs.Sections.{section-short}

-- the length of each call besides what depends on its identifier's length
abbrev pub call_fixed : CompileOptions → ℕ
call_fixed options = 600 + 6 * (4 * option_length options.gfm_footnote_clobber_prefix
    + option_length options.gfm_footnote_back_label)

-- the context of a document's nodes: first without calls and definitions, then with the calls, then
-- also with the definitions
abbrev pub alone_in : CompileOptions → List (List ℕ × List ℕ) → List ℕ → Forest → Context
alone_in options names bytes document = record {
  bytes = bytes;
  names = names;
  options = options;
  ending = ending_at options bytes (first_ending document);
  calls = [];
  definitions = [];
}

abbrev pub called_in : CompileOptions → List (List ℕ × List ℕ) → List ℕ → Forest → Context
called_in options names bytes document =
    let alone = alone_in options names bytes document in
    record alone { calls = (outcome alone outermost nothing_before document).calls }

abbrev pub given_in : CompileOptions → List (List ℕ × List ℕ) → List ℕ → Forest → Context
given_in options names bytes document =
    let called = called_in options names bytes document in record called {
      definitions = (outcome called outermost nothing_before document).definitions;
    }

pub meaning-short : (options : CompileOptions) (names : List (List ℕ × List ℕ)) (bytes : List ℕ)
    (document : Forest) → IsGrammatical bytes names document → nodes document < 2 ^ 63 →
    length (meaning options names bytes document)
    ≤ for_document options + nodes document * unit names + 3 * nodes document
    + 331 * lengths document + referred (given_in options names bytes document) document
    + 32 * cells [] document + called (λ identifier. 1) bytes document * call_fixed options
meaning-short options names bytes document is few =
    let alone : Context = alone_in options names bytes document in
    let context : Context = given_in options names bytes document in
    let all : Outcome = outcome context outermost nothing_before document in
    let ending = grammatical-ending options bytes names document is in
    let calls : length context.calls < 2 ^ 63 =
    omega (arith, calls-few alone outermost nothing_before document, few) in
    let fixed : ℕ = 6 * option_length options.gfm_footnote_clobber_prefix in
    let split = λ (f : List ℕ → ℕ) (n times : ℕ) (each : (identifier : List ℕ) → f identifier
    ≤ n + times * length identifier). called-split f n times bytes document each in
    omega (
      arith,
      nodes-short context outermost nothing_before false Blocks document ending calls
          (omega (arith, few)) (grammatical-sound bytes names document is)
          (shaped-fits document is.shape) (grammatical-underlined bytes names document is),
      split (call_cost options) (268 + 2 * fixed) 12 (λ identifier. omega arith),
      split (item_cost options) (96 + fixed) 6 (λ identifier. omega arith),
      split (back_cost options)
          (224 + fixed + 6 * option_length options.gfm_footnote_back_label) 6
          (λ identifier. omega arith),
      layout-short context.ending (all.pieces ++ section context all.footnotes) ending,
      size-append,
      section-short context all.footnotes calls,
      calls-sum (item_cost options) alone,
      calls-sum (back_cost options) alone,
      cost-split names document,
      numbers-short bytes document,
      labels-short bytes document,
    )
