-- The statuses of an answer, and which of its fields each uses.
use Rattle.std.specs.Prelude.{◌≡◌, ◌≢◌, ◌⊎◌, ℕ, ◌<◌, ◌≤◌}
use Rattle.md_abi.specs.Numbers.{too_short, refused, no_line, no_option, no_event, no_memory}
use Rattle.md_abi.specs.Numbers.{unsafe_options, no_attribute}
use Rattle.md_abi.specs.Numbers.{too_long, too_much, nested, too_deep}
use Rattle.md_abi.specs.declared.answer.Answer.{Answer}

-- a rule is reported only for a refusal, an index for what is refused or invalid, a length for a
-- text
pub record IsPlain (answer : Answer) : Type 0 where
  pub known : answer.status ≤ no_memory
  pub no_rule : answer.status ≢ refused → answer.rule ≡ 0
  pub no_index : answer.status ≤ too_short → answer.index ≡ 0
  pub no_place : answer.status ≡ no_memory → answer.index ≡ 0
  pub no_length : too_short < answer.status → answer.length ≡ 0

-- no line is reported for events
pub record IsOfCompile (answer : Answer) : Type 0 where
  pub plain : IsPlain answer
  pub without_lines : answer.status ≢ no_line

-- for a script, a line is reported, or an event is refused
pub record IsOfRun (answer : Answer) : Type 0 where
  pub plain : IsPlain answer
  pub script_only : no_event ≤ answer.status → no_option < answer.status

-- with attributes an index is reported for a text too: it is within its length
pub record IsOfAttributed (answer : Answer) : Type 0 where
  pub known : answer.status ≤ no_attribute
  pub without_lines : answer.status ≢ no_line
  pub no_rule : answer.status ≢ refused → answer.rule ≡ 0
  pub within : answer.status ≤ too_short → answer.index ≤ answer.length
  pub no_place : answer.status ≡ no_memory → answer.index ≡ 0
  pub no_option_place : answer.status ≡ unsafe_options → answer.index ≡ 0
  pub no_length : too_short < answer.status → answer.length ≡ 0

-- within limits no attribute is reported, and no link in a link
pub record IsOfWithin (answer : Answer) : Type 0 where
  pub known : answer.status ≤ too_deep
  pub without_nested : answer.status ≢ nested
  pub without_lines : answer.status ≢ no_line
  pub without_attributes : no_memory < answer.status → too_long ≤ answer.status
  pub no_rule : answer.status ≢ refused → answer.rule ≡ 0
  pub no_index : answer.status ≤ too_short → answer.index ≡ 0
  pub no_place : no_memory ≤ answer.status → answer.index ≡ 0
  pub no_length : too_short < answer.status → answer.length ≡ 0

-- the work was checked: the answer is a text, a text that is too long, or a refused event
abbrev pub TellsOfEvents : ℕ → Type 0
TellsOfEvents status = (status ≤ refused) ⊎ (status ≡ too_long)

-- the nesting was checked: the answer is one of these, or too much work
abbrev pub TellsPastDepth : ℕ → Type 0
TellsPastDepth status = TellsOfEvents status ⊎ (status ≡ too_much)
