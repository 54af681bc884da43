-- The context of a node.
use Rattle.std.specs.Prelude.{ℕ, Bool, List, [], Option, None, unwrap_or}
use Rattle.md_base.specs.declared.event.AlignKind.{AlignKind}
use Rattle.md_base.specs.declared.event.Name.{Name}
use Rattle.md_base.specs.declared.event.Position.{Position}
use Rattle.md_base.specs.Place.{text_between}
use Rattle.md_base.specs.Tree.{Forest}
use Rattle.md_meaning.specs.declared.surroundings.Surroundings.{Surroundings}
use Rattle.md_text.specs.declared.options.CompileOptions.{CompileOptions}
use Rattle.md_tree.specs.declared.mention.Referral.TheVariants.{Missing, Label}
use Rattle.md_tree.specs.Mentions.{identifier_at}
use Rattle.md_tree.specs.Rules.{target_of}

-- the destination and the title of a link or an image
pub record Target : Type 0 where
  pub destination : List ℕ
  pub title : Option (List ℕ)

-- a definition: its identifier, and its target
pub record Defined : Type 0 where
  pub identifier : List ℕ
  pub target : Target

-- a footnote: its identifier and the text of its definition
pub record Footnote : Type 0 where
  pub identifier : List ℕ
  pub text : List ℕ

-- the document's bytes, the names of references, the options, the line ending to print, the
-- identifiers of all footnote calls, in the order of their exits, and the definitions
pub record Context : Type 0 where
  pub bytes : List ℕ
  pub names : List (List ℕ × List ℕ)
  pub options : CompileOptions
  pub ending : List ℕ
  pub calls : List (List ℕ)
  pub definitions : List Defined

-- what a spine contains: the text of a setext heading, a destination, a title, and the target of a
-- resource
pub record Found : Type 0 where
  pub heading : Option (List ℕ)
  pub destination : Option (List ℕ)
  pub title : Option (List ℕ)
  pub resource : Option Target

abbrev pub nothing_found : Found
nothing_found = record { heading = None; destination = None; title = None; resource = None }

-- the target with this destination and title
abbrev pub target_in : Found → Target
target_in found = record { destination = unwrap_or found.destination []; title = found.title }

-- the state before a node: the calls that have ended, whether the next line ending is slurped, its
-- previous sibling, the names and the text of a setext heading on its spine, and the alignments of
-- the table that contains it
pub record Before : Type 0 where
  pub calls : List (List ℕ)
  pub slurps : Bool
  pub previous : Option Name
  pub spine : List Name
  pub heading : List ℕ
  pub columns : List AlignKind

-- a node: its ancestors' facts, the state before it, its children, what their spine contains, the
-- calls that end before it does, its position, and whether it ends the document
pub record At : Type 0 where
  pub around : Surroundings
  pub before : Before
  pub children : Forest
  pub found : Found
  pub calls : List (List ℕ)
  pub place : Position
  pub is_last : Bool

-- the text at a position, or the empty text if there is none; in a grammatical document each
-- position that is read has one
abbrev pub text_in : List ℕ → Position → List ℕ
text_in bytes place = unwrap_or (text_between bytes place.start place.end) []

-- the identifier by which a node refers to others or is referred to: that of the label that the
-- grammar finds in it
abbrev pub identifier_of : List ℕ → Forest → List ℕ
identifier_of bytes children = elim (target_of children Missing) [
  | Label place ↦ unwrap_or (identifier_at bytes place) []
  | _ ↦ []
]
