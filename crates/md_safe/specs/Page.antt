-- The document that tree construction builds from a list of tokens from its beginning, and that of
-- a page.
use Rattle.std.specs.Prelude.{◌≡◌, ℕ, Bool, not, ◌==◌, List, [], ◌∷◌, length, if◌then◌else◌, Option}
use Rattle.std.specs.Prelude.{Some, None, option_map, option_and_then, bytes_eq, codes}
use Rattle.std.specs.List.{list_all}
use Rattle.md_text.specs.Html.{Forest, IsReading}
use Rattle.md_safe.specs.Token.{Token, Doctype, EndOfFile}
use Rattle.md_safe.specs.Tokenizer.{IsTokenized}
use Rattle.md_safe.specs.PageTokens.{charset, page_tokens}
use Rattle.md_safe.specs.Node.{Nodes, Empty, Element, with_character, Open, Mode, Initial}
use Rattle.md_safe.specs.Node.{BeforeHtml, BeforeHead, InHead, InText, AfterHead, InTableText}
use Rattle.md_safe.specs.Node.{Parser}
use Rattle.md_safe.specs.Stack.{popped_by}
use Rattle.md_safe.specs.AroundBody.{with_root, with_head, without_head, with_body}
use Rattle.md_safe.specs.InTable.{end_table_text}
use Rattle.md_safe.specs.Construction.{step}
use Rattle.md_safe.specs.Built.{at, put, with_characters}

-- a document: the name of its doctype, if it has one, and its root
pub record Document : Type 0 where
  pub doctype : Option (List ℕ)
  pub root : Nodes

-- the end of file: a missing element is created; in a body, a table and after a body, parsing stops
abbrev pub stop : Mode → Parser → Option Parser
stop Initial parser = Some (with_body (without_head (with_head (with_root parser))))
stop BeforeHtml parser = Some (with_body (without_head (with_head (with_root parser))))
stop BeforeHead parser = Some (with_body (without_head (with_head parser)))
stop InHead parser = Some (with_body (without_head parser))
stop (InText mode) parser = None
stop AfterHead parser = Some (with_body parser)
stop (InTableText mode) parser = end_table_text mode parser
stop _ parser = Some parser

-- 13.2.7, parsing stops: all elements are popped, the root too
abbrev pub root_of : List Open → Nodes
root_of stack = elim (popped_by (length stack) stack) [
  | root ∷ rest ↦ Element root.name root.attributes root.children Empty
  | [] ↦ Empty
]

-- 13.2.6.4.1, a doctype in "initial"; the name `html`, without identifiers, sets no quirks, and no
-- other is written out
abbrev pub with_doctype : List ℕ → Parser → Option Parser
with_doctype name parser = elim parser.mode [
  | Initial ↦
      if bytes_eq name (codes "html") then Some (record parser { mode = BeforeHtml }) else None
  | _ ↦ None
]

-- the document of the tokens up to the end of file, after a doctype or none
abbrev pub constructed : Option (List ℕ) → Parser → List Token → Option Document
constructed doctype parser [] = None
constructed doctype parser (Doctype name ∷ tokens) =
    option_and_then (λ next. constructed (Some name) next tokens) (with_doctype name parser)
constructed doctype parser (EndOfFile ∷ tokens) =
    option_map (λ last. record { doctype = doctype; root = root_of last.stack })
    (stop parser.mode parser)
constructed doctype parser (token ∷ tokens) =
    option_and_then (λ next. constructed doctype next tokens) (step parser token)

-- from the beginning: in "initial", with nothing open
abbrev pub document_of : List Token → Option Document
document_of tokens = constructed None (at Initial [] [] 0) tokens

-- the tokenizer emits U+FFFD for each NUL in a title
abbrev pub has_no_nul : List ℕ → Bool
has_no_nul bytes = list_all (λ byte. not (byte == 0)) bytes

-- a page's document: its head has the title's characters, its body the nodes of a reading and the
-- line feed that ends the page, in one text with the text before it
abbrev pub page_document : List ℕ → Forest → Document
page_document title body = record {
  doctype = Some (codes "html");
  root =
      Element (codes "html") []
      (Element (codes "head") [] (Element (codes "meta") (charset ∷ []) Empty
      (Element (codes "title") [] (with_characters Empty title) Empty))
      (Element (codes "body") [] (with_character (put Empty body) 10) Empty))
      Empty;
}

-- a body's text has exactly one reading; the tokenizer emits for the page's text the tokens from
-- which the document with that reading is built
pub record IsBuiltPage (title body text : List ℕ) : Type 0 where
  pub inside : Forest
  pub reading : IsReading body inside
  pub only : (other : Forest) → IsReading body other → other ≡ inside
  pub tokenized : IsTokenized text (page_tokens title inside)
  pub built : document_of (page_tokens title inside) ≡ Some (page_document title inside)
