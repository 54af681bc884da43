-- A heading of the result, as it is listed.
use Rattle.std.specs.String.{string_bytes}
use Rattle.md_page.specs.Added.{Listed}
use Rattle.md_page.specs.declared.headings.Heading.{Heading}

abbrev pub listed : Heading → Listed
listed heading =
    record { level = heading.level; number = heading.number; text = string_bytes heading.text }
