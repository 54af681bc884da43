-- The model of a safe text.
use Rattle.std.specs.String.{string_bytes}
use Rattle.md_html.specs.declared.safe_html.SafeHtml.TheInside.{Inside}
use Rattle.md_html.specs.Safe.{IsSafe}

abbrev pub IsKept : Inside → Type 0
IsKept inside = IsSafe (string_bytes inside.text)
