-- A text that is written to a buffer.
use Rattle.std.specs.Prelude.{◌≡◌, ◌≢◌, ◌⊎◌, ℕ, ◌<◌, ◌≤◌, List, length, take, drop}
use Rattle.md_abi.specs.Numbers.{written, too_short}
use Rattle.md_abi.specs.declared.answer.Answer.{Answer}

-- there is such a text, of this length, and the buffer is shorter
pub record IsLonger (claim : List ℕ → Type 0) (buffer : List ℕ) (size : ℕ) : Type 0 where
  pub text : List ℕ
  pub claimed : claim text
  pub counted : length text ≡ size
  pub longer : length buffer < size

-- what an answer says about a buffer: with status `written` the buffer begins with a text that
-- fulfils the claim, and the rest of it is unchanged; with `too_short` there is such a text, and it
-- is longer; with all statuses except `written` the buffer is unchanged
pub record HandsOver (claim : List ℕ → Type 0) (old new : List ℕ) (answer : Answer) : Type 0 where
  pub text : answer.status ≡ written → claim (take answer.length new)
  pub fits : answer.status ≡ written → answer.length ≤ length old
  pub rest : answer.status ≡ written → drop answer.length new ≡ drop answer.length old
  pub short : answer.status ≡ too_short → IsLonger claim old answer.length
  pub untouched : answer.status ≢ written → new ≡ old

-- ---- how a text is written to a buffer; only contracts of private functions cite it

-- the answer with only a length
abbrev pub with_length : ℕ → ℕ → Answer
with_length status size = record { status = status; rule = 0; index = 0; length = size }

-- the text is written
pub record IsWritten (text old new : List ℕ) (answer : Answer) : Type 0 where
  pub answered : answer ≡ with_length written (length text)
  pub fits : length text ≤ length old
  pub start : take (length text) new ≡ text
  pub rest : drop (length text) new ≡ drop (length text) old

-- the text doesn't fit
pub record IsKept (text old new : List ℕ) (answer : Answer) : Type 0 where
  pub answered : answer ≡ with_length too_short (length text)
  pub longer : length old < length text
  pub untouched : new ≡ old

abbrev pub IsHandedOver : List ℕ → List ℕ → List ℕ → Answer → Type 0
IsHandedOver text old new answer = IsWritten text old new answer ⊎ IsKept text old new answer

-- the answer's index says where something begins in the text; else the answer is that for the text
-- alone
pub record IsListHandedOver (whole : List ℕ) (start : ℕ) (old new : List ℕ)
    (answer : Answer) : Type 0 where
  pub alone : Answer
  pub handed : IsHandedOver whole old new alone
  pub answered : answer ≡ record alone { index = start }
