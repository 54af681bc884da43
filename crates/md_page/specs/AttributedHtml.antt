-- The model of the type.
use Rattle.std.specs.String.{string_bytes}
use Rattle.md_page.specs.declared.html.AttributedHtml.TheInside.{Inside}
use Rattle.md_page.specs.Pieces.{IsWritten}

abbrev pub IsKept : Inside → Type 0
IsKept inside = IsWritten (string_bytes inside.text)
