-- The entries of a document: its blocks as a flat list, in document order.
use Rattle.std.specs.Prelude.{ℕ, Bool, List, [], ◌-◌, get_or, length}

-- a line of a leaf: its text, and its ending, which the last line may lack (2.1)
pub record Line : Type 0 where
  pub text : List ℕ
  pub ending : List ℕ

-- the last of some lines
abbrev pub last_line : List Line → Line
last_line lines = get_or lines (length lines - 1) (record { text = []; ending = [] })

-- a container has an entry where it begins, and one where it ends; a leaf has one
pub data Entry : Type 0 where
  QuoteBegins : Entry
  ListBegins : Bool → List ℕ → Entry
  ItemBegins : Entry
  FootnoteBegins : List ℕ → Entry
  ContainerEnds : Entry
  Task : Bool → Entry
  Paragraph : List Line → Entry
  Heading : ℕ → List Line → Entry
  IndentedCode : List Line → Entry
  FencedCode : List ℕ → List Line → Entry
  Html : List Line → Entry
  Break : Entry
  Table : List Line → Entry
  Math : List Line → Entry
  FrontMatter : List ℕ → Entry
  Blank : Entry
  OnlyDefinitions : Entry
