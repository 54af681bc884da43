-- For the code alone: a pass within a line.
use Rattle.std.specs.Prelude.{ℕ, Bool, List, ◌≡◌, ◌||◌, not, nat_lt, true}
use Rattle.md_blocks.specs.declared.options.MarkdownOptions.{MarkdownOptions}
use Rattle.md_blocks.specs.BlockStructure.{line_read}
use Rattle.md_blocks.specs.Rests.{Rest, is_blank_rest}
use Rattle.md_blocks.specs.States.{State}
use Rattle.md_lines.specs.Classes.{is_in}
use Rattle.md_lines.specs.declared.class.Class.TheVariants.{Alphabetic}
use Rattle.md_blocks.specs.declared.pass.Pass.{Pass}
use Rattle.md_blocks.specs.declared.position.Position.{Position}
use Rattle.md_blocks.specs.ContainerBlocks.{Begun}
use Rattle.md_blocks.specs.Passes.{state_of}
use Rattle.md_blocks.specs.Positions.{rest_of}

-- the state, and what is left of the line at a position
abbrev pub begun_of : Pass → Position → Begun
begun_of pass position = record { state = state_of pass; rest = rest_of position }

-- whether a byte begins nothing but text
abbrev pub is_text : ℕ → Bool
is_text byte = not (nat_lt byte 128) || is_in Alphabetic byte

-- a blank line changes nothing
abbrev pub SkipsBlank : State → Type 0
SkipsBlank state =
    (options : MarkdownOptions) (ended : Bool) (rest : Rest) (ending : List ℕ) →
    is_blank_rest rest ≡ true → line_read options ended rest ending state ≡ state
