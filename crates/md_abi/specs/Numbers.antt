-- The numbers that C reads in an answer.
use Rattle.std.specs.Prelude.{ℕ}
use Rattle.md_tree.specs.declared.rule.Rule.{Rule}
use Rattle.md_tree.specs.declared.rule.Rule.TheVariants as rule_variants
use rule_variants.{Order, Mdx, Place, LineEnding, HeadingMark, ListNumber, CharacterReference}
use rule_variants.{Definition, Footnote, Target}

-- ---- statuses

-- the text is in the buffer
abbrev pub written : ℕ
written = 0

-- the buffer is too short
abbrev pub too_short : ℕ
too_short = 1

-- an event is refused
abbrev pub refused : ℕ
refused = 2

-- an event is invalid
abbrev pub no_event : ℕ
no_event = 3

-- a named character reference is invalid
abbrev pub no_name : ℕ
no_name = 4

-- an option is invalid
abbrev pub no_option : ℕ
no_option = 5

-- a line of a script is invalid
abbrev pub no_line : ℕ
no_line = 6

-- memory ran out
abbrev pub no_memory : ℕ
no_memory = 7

-- the call requests attributes under options that aren't safe
abbrev pub unsafe_options : ℕ
unsafe_options = 8

-- an attribute is invalid
abbrev pub no_attribute : ℕ
no_attribute = 9

-- the text exceeds its limit
abbrev pub too_long : ℕ
too_long = 10

-- reading and printing exceed the work limit
abbrev pub too_much : ℕ
too_much = 11

-- a link contains a link
abbrev pub nested : ℕ
nested = 12

-- the events nest deeper than the limit allows
abbrev pub too_deep : ℕ
too_deep = 13

-- ---- rules; 0 is none

abbrev pub rule_number : Rule → ℕ
rule_number Order = 1
rule_number Mdx = 2
rule_number Place = 3
rule_number LineEnding = 4
rule_number HeadingMark = 5
rule_number ListNumber = 6
rule_number CharacterReference = 7
rule_number Definition = 8
rule_number Footnote = 9
rule_number Target = 10
