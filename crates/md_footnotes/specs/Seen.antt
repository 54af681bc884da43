-- The footnotes and calls that the printer has found.
use Rattle.std.specs.Prelude.{ℕ, List, []}
use Rattle.md_text.specs.declared.options.CompileOptions.{CompileOptions}
use Rattle.md_meaning.specs.Meaning.At.{Footnote, Context}

-- the identifiers of all calls, in their order, and the first footnote with each identifier
pub record Seen : Type 0 where
  pub calls : List (List ℕ)
  pub footnotes : List Footnote

-- the context for printing the section of footnotes, which reads only the options and the calls
abbrev pub context_by : CompileOptions → List (List ℕ) → Context
context_by options calls = record {
  bytes = [];
  names = [];
  options = options;
  ending = [];
  calls = calls;
  definitions = [];
}
