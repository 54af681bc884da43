-- The meaning of an answer about front matter.
use Rattle.std.specs.Prelude.{◌≡◌, ◌⊎◌, ℕ, ◌+◌, ◌≤◌, List, length}
use Rattle.std.specs.Str.{IsUtf8, IsValidUpTo}
use Rattle.md_abi.specs.Numbers.{written}
use Rattle.md_abi.specs.declared.answer.Answer.{Answer}
use Rattle.md_markdown_abi.specs.Numbers.{not_utf8}

-- the number of bytes before the front matter and its length don't exceed the document; a document
-- that isn't UTF-8 is reported
pub record TellsOfFrontMatter (bytes : List ℕ) (answer : Answer) : Type 0 where
  pub known : (answer.status ≡ written) ⊎ (answer.status ≡ not_utf8)
  pub within : answer.status ≡ written → answer.index + answer.length ≤ length bytes
  pub utf8 : answer.status ≡ written → IsUtf8 bytes
  pub invalid_from : answer.status ≡ not_utf8 → IsValidUpTo bytes answer.index
  pub no_length : answer.status ≡ not_utf8 → answer.length ≡ 0
  pub no_rule : answer.rule ≡ 0

-- the position is reported; only the contract of a private function cites it
pub record IsPlaceReported (bytes : List ℕ) (answer : Answer) : Type 0 where
  pub known : answer.status ≡ written
  pub within : answer.index + answer.length ≤ length bytes
  pub no_rule : answer.rule ≡ 0
