-- The meaning of a document: its text.
pub mod Layout
pub mod Inherited
pub mod At
pub mod Finds
pub mod Before
pub mod Spans
pub mod Blocks
pub mod Media
pub mod Tables
pub mod Footnotes
pub mod Means
pub mod Nodes
use Rattle.std.specs.Prelude.{ℕ, List, [], ◌++◌, Option}
use Rattle.std.specs.Option.{option_map_or}
use Rattle.md_base.specs.declared.event.Position.{Position}
use Rattle.md_text.specs.LineEnding.{ending_text}
use Rattle.md_base.specs.Tree.{Forest}
use Rattle.md_text.specs.declared.options.CompileOptions.{CompileOptions}
use Rattle.md_meaning.specs.Meaning.Layout.{layout}
use Rattle.md_meaning.specs.Meaning.Inherited.{outermost}
use Rattle.md_meaning.specs.Meaning.At.{Context, text_in}
use Rattle.md_meaning.specs.Meaning.Finds.{first_ending}
use Rattle.md_meaning.specs.Meaning.Before.{nothing_before}
use Rattle.md_meaning.specs.Meaning.Nodes.{Outcome, outcome}
use Rattle.md_meaning.specs.Meaning.Footnotes.{section}

-- the line ending to print: the text of the document's first one, else that of the options
abbrev pub ending_at : CompileOptions → List ℕ → Option Position → List ℕ
ending_at options bytes place =
    option_map_or (text_in bytes) place (ending_text options.default_line_ending)

-- the meaning of a document over its bytes: computed without calls to find the calls, with these to
-- find the definitions, and then with both; the section of its footnotes comes last
abbrev pub meaning : CompileOptions → List (List ℕ × List ℕ) → List ℕ → Forest → List ℕ
meaning options names bytes document =
    let ending = ending_at options bytes (first_ending document) in
    let alone : Context = record {
      bytes = bytes;
      names = names;
      options = options;
      ending = ending;
      calls = [];
      definitions = [];
    } in
    let called : Context =
    record alone { calls = (outcome alone outermost nothing_before document).calls } in
    let context = record called {
      definitions = (outcome called outermost nothing_before document).definitions;
    } in
    let all : Outcome = outcome context outermost nothing_before document in
    layout ending (all.pieces ++ section context all.footnotes)
