-- A page's document: its fixed parts by computing, its title character by character, and its
-- body as it is built.
use Rattle.std.proofs.Common.{◌≡◌, ℕ, true, false, List, [], ◌∷◌, ◌++◌, refl, arith, ap, ◌∙◌, map}
use Rattle.std.proofs.Common.{codes}
use Rattle.std.specs.Prelude.{Option, Some, None, is_some, option_and_then}
use Rattle.std.specs.List.{list_all}
use Rattle.std.proofs.lemmas.Bool.{and_parts, not-true}
use Rattle.md_base.proofs.Lies.{lie}
use Rattle.md_text.specs.Html.{Forest, is_forest}
use Rattle.md_safe.specs.Token.{Token, Doctype, Character, StartTag, EndTag, EndOfFile}
use Rattle.md_safe.specs.Tokens.{tokens}
use Rattle.md_safe.specs.PageTokens.{charset, page_tokens, plain_tag}
use Rattle.md_safe.specs.Contents.{Flow, is_contained}
use Rattle.md_safe.specs.Node.{Nodes, Open, Entry, Element, InHead, InText, InBody, Parser, Mode}
use Rattle.md_safe.specs.Node.{with_character, Empty as NoNode}
use Rattle.md_safe.specs.Construction.{step, run}
use Rattle.md_safe.specs.Built.{at, open_at, put, with_characters, IsPlace, Builds, IsBuiltAsRead}
use Rattle.md_safe.specs.Page.{constructed, document_of, page_document}
use Rattle.md_safe.proofs.TreeSteps.{after-one, is_character}
use Rattle.md_safe.proofs.WholeTrees.{forest-built, reading-texts}

pub constructed-after : (doctype : Option (List ℕ)) (p q : Parser) (xs ys : List Token) →
    run p xs ≡ Some q →
    constructed doctype p (xs ++ ys) ≡ constructed doctype q ys
constructed-after doctype p q [] ys e = grind arith
constructed-after doctype p q (x ∷ xs) ys e =
    by x (λ next e. constructed-after doctype next q xs ys e) e
  where
    Later : Type 0
    Later = (next : Parser) → run next xs ≡ Some q →
        constructed doctype next (xs ++ ys) ≡ constructed doctype q ys

    go : (next : Option Parser) → Later → option_and_then (λ next. run next xs) next ≡ Some q →
        option_and_then (λ next. constructed doctype next (xs ++ ys)) next ≡ constructed doctype q
        ys
    go None later e = absurd (cc e)
    go (Some next) later e = later next e

    by : (x : Token) → Later → run p (x ∷ xs) ≡ Some q →
        constructed doctype p (x ∷ (xs ++ ys)) ≡ constructed doctype q ys
    by (Doctype name) later e = lie (ap is_some e)
    by EndOfFile later e = lie (ap is_some e)
    by (Character byte) later e = go (step p (Character byte)) later e
    by (StartTag name attributes flag) later e = go (step p (StartTag name attributes flag)) later e
    by (EndTag name) later e = go (step p (EndTag name)) later e

-- characters in "text"
text-says : (mode : Mode) (bytes : List ℕ) (node : Open) (others : List Open) (active : List Entry)
    (created : ℕ) → list_all is_character bytes ≡ true → run
    (at (InText mode) (node ∷ others) active created) (map Character bytes) ≡ Some (at (InText mode)
    (record node { children = with_characters node.children bytes } ∷ others) active created)
text-says mode [] node others active created h = refl
text-says mode (byte ∷ bytes) node others active created h =
    let parts = and_parts _ _ h in
    let next : Open = record node { children = with_character node.children byte } in
    grind (arith, after-one, not-true, text-says mode bytes next others active created parts.1)

-- the body and its ancestors, after a title of these characters
abbrev pub root_at : List ℕ → Open
root_at title =
    open_at 0 (codes "html")
    (Element (codes "head") [] (Element (codes "meta") (charset ∷ []) NoNode
    (Element (codes "title") [] (with_characters NoNode title) NoNode)) NoNode)

abbrev pub body_at : Nodes → Open
body_at nodes = open_at 4 (codes "body") nodes

pub body-place : (title : List ℕ) → IsPlace InBody (body_at NoNode) (root_at title ∷ []) [] 5
body-place title = search

pub page-built : (title : List ℕ) (body : Forest) → list_all is_character title ≡ true →
    Builds InBody (body_at NoNode) (root_at title ∷ []) [] 5 body →
    document_of (page_tokens title body) ≡ Some (page_document title body)
page-built title body h built =
    let html : Option (List ℕ) = Some (codes "html") in
    let ending : List Token =
    EndTag (codes "body") ∷ EndTag (codes "html") ∷ Character 10 ∷ EndOfFile ∷ [] in
    let later : List Token =
    EndTag (codes "title") ∷ EndTag (codes "head") ∷ plain_tag (codes "body")
    ∷ (tokens body ++ ending) in
    let others : List Open =
    open_at 1 (codes "head") (Element (codes "meta") (charset ∷ []) NoNode NoNode)
    ∷ open_at 0 (codes "html") NoNode ∷ [] in
    constructed-after html (at (InText InHead) (open_at 3 (codes "title") NoNode ∷ others) [] 4)
    (at (InText InHead) (open_at 3 (codes "title") (with_characters NoNode title) ∷ others) [] 4)
    (map Character title) later
    (text-says InHead title (open_at 3 (codes "title") NoNode) others [] 4 h)
    ∙ constructed-after html (at InBody (body_at NoNode ∷ root_at title ∷ []) [] 5)
    (at InBody (body_at (put NoNode body) ∷ root_at title ∷ []) [] built.0)
    (tokens body) ending built.1

pub reading-page-built : (title : List ℕ) (body : Forest) → list_all is_character title ≡ true →
    is_forest body ≡ true → is_contained false Flow body ≡ true →
    document_of (page_tokens title body) ≡ Some (page_document title body)
reading-page-built title body h grammar contained =
    grind (arith, page-built, forest-built, reading-texts, body-place)

pub text-page-built : (title text : List ℕ) → list_all is_character title ≡ true →
    (built : IsBuiltAsRead text) →
    document_of (page_tokens title built.forest) ≡ Some (page_document title built.forest)
text-page-built title text h built = grind (arith, page-built, body-place)
