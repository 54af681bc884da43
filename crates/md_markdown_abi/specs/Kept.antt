-- The model of a text with HTML of authors. No public contract cites this.
use Rattle.std.specs.String.{string_bytes}
use Rattle.md_page.specs.Pieces.{IsWritten}
use Rattle.md_markdown_abi.specs.declared.kept.KeptHtml.TheInside.{Inside}

abbrev pub HasWrittenText : Inside → Type 0
HasWrittenText inside = IsWritten (string_bytes inside.text)
