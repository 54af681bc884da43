-- The tokens that the tokenizer emits (HTML Standard, 13.2.5). A character token is one byte here:
-- a character of several bytes is as many tokens.
use Rattle.std.specs.Prelude.{ℕ, Bool, List}

-- an attribute of a start tag: its name and its value
pub record TokenAttribute : Type 0 where
  pub name : List ℕ
  pub value : List ℕ

-- a doctype that has a name, no identifiers, and no force-quirks flag; a byte of a character; a
-- start tag's name, attributes, and whether its self-closing flag is set; an end tag's name (its
-- attributes and its flag are parse errors, and no one reads them); the end of file
pub data Token : Type 0 where
  Doctype : List ℕ → Token
  Character : ℕ → Token
  StartTag : List ℕ → List TokenAttribute → Bool → Token
  EndTag : List ℕ → Token
  EndOfFile : Token
