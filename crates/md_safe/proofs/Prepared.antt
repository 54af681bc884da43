-- What the inductions need is known at the beginning of a document.
use Rattle.std.proofs.Common.{◌≡◌, ℕ, Bool, true, List, [], refl, arith}
use Rattle.std.specs.Prelude.{Option, Some, None}
use Rattle.std.specs.Option.{option_map_or}
use Rattle.md_base.specs.declared.event.Position.{Position}
use Rattle.md_text.specs.Laws.{is_line_ends}
use Rattle.md_text.specs.Html.{Attribute, any_attribute}
use Rattle.md_text.proofs.HtmlJoin.{join}
use Rattle.md_base.specs.Tree.{Forest, Empty, Node}
use Rattle.md_base.specs.Children.{or_else}
use Rattle.md_text.specs.Ids.{ids}
use Rattle.md_text.specs.declared.options.CompileOptions.{CompileOptions}
use Rattle.md_meaning.specs.Meaning.{ending_at}
use Rattle.md_meaning.specs.Meaning.Inherited.{outermost}
use Rattle.md_meaning.specs.Meaning.At.{Context, text_in}
use Rattle.md_meaning.specs.Meaning.Before.{nothing_before}
use Rattle.md_meaning.specs.Meaning.Finds.{first_ending}
use Rattle.md_meaning.specs.Meaning.Nodes.{outcome}
use Rattle.md_content.specs.Built.{Content, Blocks, content_inside, content_after_node, IsBuilt}
use Rattle.md_safe.proofs.Stands.{IsWhite, line_ends-white}
use Rattle.md_safe.proofs.Costs.{Document, read_in}
use Rattle.md_safe.specs.Options.{KeepsGrammar}
use Rattle.md_safe.proofs.Texts.{Escaped}
use Rattle.md_safe.proofs.Tags.{reading}
use Rattle.md_safe.proofs.Spot.{PassesIds, IsWhole, Setting}
use Rattle.md_safe.proofs.Forests.{Ready, means}

-- a place, where there is one, has the text of line endings
abbrev pub IsEnding : List ℕ → Option Position → Type 0
IsEnding bytes place = option_map_or (λ found. is_line_ends (text_in bytes found)) place true ≡ true

first_of_two : (bytes : List ℕ) (first second : Option Position) → IsEnding bytes first →
    IsEnding bytes second →
    IsEnding bytes (or_else first second)
first_of_two bytes first second f g = grind arith

-- the first line ending of a document is one
pub first-is_ending : (bytes : List ℕ) (content : Content) (forest : Forest) →
    IsBuilt bytes content forest →
    IsEnding bytes (first_ending forest)
first-is_ending bytes content Empty built = refl
first-is_ending bytes content (Node name start end children rest) built =
    let inner = first-is_ending bytes (content_inside content name) children built.2 in
    let later = first-is_ending bytes (content_after_node content name children) rest built.3 in
    grind (arith, first_of_two, inner, later)

-- the line ending that is used is white space, and escaped
pub ending-white : (options : CompileOptions) (bytes : List ℕ) (place : Option Position) →
    IsEnding bytes place → IsWhite (ending_at options bytes place)
ending-white options bytes None h = grind arith
ending-white options bytes (Some place) h = line_ends-white (text_in bytes place) h

-- what is known at the document's beginning
pub outermost-ready : (s : Setting) → IsWhole s.p → Ready s outermost nothing_before Blocks
outermost-ready s whole = grind arith

-- a reading is claimed as a whole
pub reads-whole : (p : Attribute → Bool) → PassesIds p → IsWhole (reading p)
reads-whole p ids = record { both = join p; ids = ids }

-- the context of a document: its line ending, then its calls, and then its definitions
abbrev pub alone_of : List ℕ → List (List ℕ × List ℕ) → CompileOptions → Forest → Context
alone_of bytes names options document = record {
  bytes = bytes;
  names = names;
  options = options;
  ending = ending_at options bytes (first_ending document);
  calls = [];
  definitions = [];
}

abbrev called_of : List ℕ → List (List ℕ × List ℕ) → CompileOptions → Forest → Context
called_of bytes names options document = record (alone_of bytes names options document) {
  calls = (outcome (alone_of bytes names options document) outermost nothing_before document).calls;
}

abbrev pub context_of : List ℕ → List (List ℕ × List ℕ) → CompileOptions → Forest → Context
context_of bytes names options document = record (called_of bytes names options document) {
  definitions =
      (outcome (called_of bytes names options document) outermost nothing_before
      document).definitions;
}

-- that document: its line ending is escaped, and so are the titles of definitions
abbrev pub document_of : (bytes : List ℕ) (names : List (List ℕ × List ℕ))
    (options : CompileOptions) (document : Forest) → IsBuilt bytes Blocks document →
    KeepsGrammar options → Document
document_of bytes names options document built keeps =
    let escaped : Escaped (ending_at options bytes (first_ending document)) =
    (ending-white options bytes (first_ending document)
    (first-is_ending bytes Blocks document built)).0 in
    let before : Setting = read_in (record {
      context = called_of bytes names options document;
      html = keeps.escapes_html;
      ending = escaped;
      titles = tt;
    }) in
    record {
      context = context_of bytes names options document;
      html = keeps.escapes_html;
      ending = escaped;
      titles = (means before document outermost nothing_before Blocks built
          (outermost-ready before (reads-whole any_attribute (λ value. refl)))).titles;
    }
