-- The names of the program's enums: only contracts of private functions cite these.
use Rattle.std.specs.Prelude.{ℕ, Bool, List, [], ◌∷◌, codes, bytes_eq}
use Rattle.std.specs.List.{list_any}
use Rattle.md_text.specs.Html.{shared}
use Rattle.md_reader.specs.declared.names.Void.{Void}
use Rattle.md_reader.specs.declared.names.Void.TheVariants.{Br, Hr, Wbr, Img, Input}
use Rattle.md_reader.specs.declared.names.Listed.{Listed}
use Rattle.md_reader.specs.declared.names.Listed.TheVariants.{Shared, OfBlock, OfRow, OfCell}
use Rattle.md_reader.specs.declared.names.Listed.TheVariants.{OfTable, OfCode, OfList, OfSecond}
use Rattle.md_reader.specs.declared.names.Listed.TheVariants.{OfDetails, OfSection, OfLink}
use Rattle.md_reader.specs.declared.names.Listed.TheVariants.{OfImage, OfInput}

-- a table of tags has a name
abbrev pub has_rule : List (List ℕ × List (List ℕ)) → List ℕ → Bool
has_rule rules name = list_any (λ rule. bytes_eq rule.0 name) rules

abbrev pub void_name : Void → List ℕ
void_name Br = codes "br"
void_name Hr = codes "hr"
void_name Wbr = codes "wbr"
void_name Img = codes "img"
void_name Input = codes "input"

-- the attributes of a list, those that it shares with others last
abbrev pub listed : Listed → List (List ℕ)
listed Shared = shared
listed OfBlock = codes "align" ∷ shared
listed OfRow = codes "align" ∷ codes "valign" ∷ shared
listed OfCell = codes "colspan" ∷ codes "rowspan" ∷ codes "width" ∷ codes "height"
    ∷ codes "align" ∷ codes "valign" ∷ shared
listed OfTable = codes "align" ∷ codes "width" ∷ shared
listed OfCode = codes "class" ∷ shared
listed OfList = codes "start" ∷ shared
listed OfSecond = codes "class" ∷ codes "align" ∷ shared
listed OfDetails = codes "open" ∷ shared
listed OfSection = codes "data-footnotes" ∷ codes "class" ∷ []
listed OfLink =
    codes "href" ∷ codes "class" ∷ codes "data-footnote-ref" ∷ codes "data-footnote-backref"
    ∷ codes "aria-describedby" ∷ codes "aria-label" ∷ codes "rel" ∷ codes "name" ∷ shared
listed OfImage =
    codes "src" ∷ codes "alt" ∷ codes "width" ∷ codes "height" ∷ codes "align" ∷ shared
listed OfInput = codes "type" ∷ codes "disabled" ∷ codes "checked" ∷ []
