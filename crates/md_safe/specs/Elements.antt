-- The classes of elements in tree construction (HTML Standard, 13.2.4.2 and 13.2.6). Elements of
-- MathML and SVG are not among them: an open element has no namespace here.
use Rattle.std.specs.Prelude.{List, [], ◌∷◌, ◌++◌, ℕ, codes}

-- the special elements of HTML
abbrev pub special : List (List ℕ)
special = codes "address" ∷ codes "applet" ∷ codes "area" ∷ codes "article" ∷ codes "aside"
    ∷ codes "base" ∷ codes "basefont" ∷ codes "bgsound" ∷ codes "blockquote" ∷ codes "body"
    ∷ codes "br" ∷ codes "button" ∷ codes "caption" ∷ codes "center" ∷ codes "col"
    ∷ codes "colgroup" ∷ codes "dd" ∷ codes "details" ∷ codes "dir" ∷ codes "div" ∷ codes "dl"
    ∷ codes "dt" ∷ codes "embed" ∷ codes "fieldset" ∷ codes "figcaption" ∷ codes "figure"
    ∷ codes "footer" ∷ codes "form" ∷ codes "frame" ∷ codes "frameset" ∷ codes "h1" ∷ codes "h2"
    ∷ codes "h3" ∷ codes "h4" ∷ codes "h5" ∷ codes "h6" ∷ codes "head" ∷ codes "header"
    ∷ codes "hgroup" ∷ codes "hr" ∷ codes "html" ∷ codes "iframe" ∷ codes "img" ∷ codes "input"
    ∷ codes "keygen" ∷ codes "li" ∷ codes "link" ∷ codes "listing" ∷ codes "main"
    ∷ codes "marquee" ∷ codes "menu" ∷ codes "meta" ∷ codes "nav" ∷ codes "noembed"
    ∷ codes "noframes" ∷ codes "noscript" ∷ codes "object" ∷ codes "ol" ∷ codes "p"
    ∷ codes "param" ∷ codes "plaintext" ∷ codes "pre" ∷ codes "script" ∷ codes "search"
    ∷ codes "section" ∷ codes "select" ∷ codes "source" ∷ codes "style" ∷ codes "summary"
    ∷ codes "table" ∷ codes "tbody" ∷ codes "td" ∷ codes "template" ∷ codes "textarea"
    ∷ codes "tfoot" ∷ codes "th" ∷ codes "thead" ∷ codes "title" ∷ codes "tr" ∷ codes "track"
    ∷ codes "ul" ∷ codes "wbr" ∷ codes "xmp" ∷ []

-- the ends of scopes: the default scope, and those of a list item, of a button, of a table
abbrev pub any_scope : List (List ℕ)
any_scope =
    codes "applet" ∷ codes "caption" ∷ codes "html" ∷ codes "table" ∷ codes "td" ∷ codes "th"
    ∷ codes "marquee" ∷ codes "object" ∷ codes "select" ∷ codes "template" ∷ []

abbrev pub list_item_scope : List (List ℕ)
list_item_scope = codes "ol" ∷ codes "ul" ∷ any_scope

abbrev pub button_scope : List (List ℕ)
button_scope = codes "button" ∷ any_scope

abbrev pub table_scope : List (List ℕ)
table_scope = codes "html" ∷ codes "table" ∷ codes "template" ∷ []

-- elements whose end tags are implied
abbrev pub implied : List (List ℕ)
implied = codes "dd" ∷ codes "dt" ∷ codes "li" ∷ codes "optgroup" ∷ codes "option"
    ∷ codes "p" ∷ codes "rb"
    ∷ codes "rp" ∷ codes "rt" ∷ codes "rtc" ∷ []

abbrev pub headings : List (List ℕ)
headings = codes "h1" ∷ codes "h2" ∷ codes "h3" ∷ codes "h4" ∷ codes "h5" ∷ codes "h6" ∷ []

-- elements of the grammar whose start and end tags are treated alike in a body
abbrev pub blocks : List (List ℕ)
blocks = codes "blockquote" ∷ codes "ol" ∷ codes "section" ∷ codes "ul" ∷ codes "div"
    ∷ codes "details" ∷ codes "summary" ∷ codes "figure" ∷ codes "figcaption" ∷ []

-- formatting elements of the grammar except `a`
abbrev pub formatting : List (List ℕ)
formatting = codes "code" ∷ codes "em" ∷ codes "strong" ∷ codes "b" ∷ codes "i" ∷ codes "u"
    ∷ codes "s" ∷ codes "small" ∷ []

-- the other elements of the grammar, which have no rules of their own in a body
abbrev pub ordinary : List (List ℕ)
ordinary = codes "del" ∷ codes "sup" ∷ codes "sub" ∷ codes "span" ∷ codes "kbd" ∷ codes "samp"
    ∷ codes "var" ∷ codes "q" ∷ codes "cite" ∷ codes "abbr" ∷ codes "dfn" ∷ codes "ins"
    ∷ codes "mark" ∷ []

-- parts of tables
abbrev pub sections : List (List ℕ)
sections = codes "tbody" ∷ codes "thead" ∷ codes "tfoot" ∷ []

abbrev pub cells : List (List ℕ)
cells = codes "td" ∷ codes "th" ∷ []

abbrev pub parts : List (List ℕ)
parts = codes "tr" ∷ (cells ++ sections)

-- elements with rules that aren't written out: foreign content, and the content of a `select`
abbrev pub apart : List (List ℕ)
apart = codes "svg" ∷ codes "math" ∷ codes "select" ∷ codes "optgroup" ∷ codes "option" ∷ []
