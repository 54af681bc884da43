-- The behaviour of `serve` with bytes in memory, in terms of the input and output bytes.
use Rattle.std.specs.Prelude.{◌≡◌, ℕ, List, ◌++◌}
use Rattle.md_script.specs.Run.{IsTextOf, ExplainsRun}
use Rattle.md_script.specs.declared.serving.ServeError.{ServeError}
use Rattle.md_script.specs.declared.serving.ServeError.TheVariants.{Run, Input, Output}

-- the script has a text, and this text was appended
pub record IsAppended (script before after : List ℕ) : Type 0 where
  pub text : List ℕ
  pub compiled : IsTextOf script text
  pub written : after ≡ before ++ text

-- the script has a text, and a prefix of it was appended
pub record IsPartAppended (script before after : List ℕ) : Type 0 where
  pub front : List ℕ
  pub others : List ℕ
  pub compiled : IsTextOf script (front ++ others)
  pub written : after ≡ before ++ front

-- why the text of a script wasn't appended
abbrev pub ExplainsAppend : List ℕ → List ℕ → List ℕ → ServeError → Type 0
ExplainsAppend script before after (Run cause) = ExplainsRun script cause × (after ≡ before)
ExplainsAppend script before after Input = after ≡ before
ExplainsAppend script before after Output = IsPartAppended script before after
