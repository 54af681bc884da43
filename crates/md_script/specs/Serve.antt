-- The behaviour of `serve`: it reads a script to its end, runs it, and writes its text. The
-- remaining input of a reader and the output of a writer are known or unknown; if unknown, nothing
-- is claimed about them.
use Rattle.std.specs.Prelude.{◌≡◌, ℕ, List, ◌++◌, codes, Option}
use Rattle.std.specs.Io.KnownBytes.{Keeps, Appends, Consumes, IsAtEnd}
use Rattle.md_script.specs.declared.error.RunError.{RunError}
use Rattle.md_script.specs.declared.error.RunError.TheVariants.{Memory, Line, Event}
use Rattle.md_script.specs.declared.serving.ServeError.{ServeError}
use Rattle.md_script.specs.declared.serving.ServeError.TheVariants.{Run, Input, Output}
use Rattle.md_script.specs.Error.{message_of, status_of}
use Rattle.md_script.specs.Run.{IsTextOf, ExplainsRun}

-- the line on standard error
abbrev pub serve_message : ServeError → List ℕ
serve_message (Run error) = message_of error
serve_message Input = codes "input or output failed"
serve_message Output = codes "input or output failed"

-- the exit status of a program for this error
abbrev pub serve_status : ServeError → ℕ
serve_status (Run error) = status_of error
serve_status Input = 4
serve_status Output = 4

-- a reader returned these bytes, and reached its end
abbrev pub IsReadWhole : Option (List ℕ) → Option (List ℕ) → List ℕ → Type 0
IsReadWhole left leaves input = Consumes left leaves input × IsAtEnd leaves

-- the whole input has a text
pub record IsRun (left leaves : Option (List ℕ)) (text : List ℕ) : Type 0 where
  pub input : List ℕ
  pub whole : IsReadWhole left leaves input
  pub compiled : IsTextOf input text

-- the whole input has a text, and exactly this was written
pub record IsServed (left leaves held holds : Option (List ℕ)) : Type 0 where
  pub text : List ℕ
  pub run : IsRun left leaves text
  pub written : Appends held holds text

-- the whole input has no text, for this reason
abbrev pub IsTold : Option (List ℕ) → Option (List ℕ) → RunError → Type 0
IsTold left leaves cause =
    (input : List ℕ) × IsReadWhole left leaves input × ExplainsRun input cause

-- why a script wasn't served; nothing is claimed if memory ran out or a read failed
abbrev pub ExplainsServe : Option (List ℕ) → Option (List ℕ) → ServeError → Type 0
ExplainsServe left leaves (Run Memory) = Unit {0}
ExplainsServe left leaves (Run (Line number)) = IsTold left leaves (Line number)
ExplainsServe left leaves (Run (Event index rule)) = IsTold left leaves (Event index rule)
ExplainsServe left leaves Input = Unit {0}
ExplainsServe left leaves Output = (text : List ℕ) × IsRun left leaves text

-- a prefix of a text was written, and nothing else
pub record IsCutOff (held holds : Option (List ℕ)) (text : List ℕ) : Type 0 where
  pub front : List ℕ
  pub others : List ℕ
  pub whole : text ≡ front ++ others
  pub written : Appends held holds front

-- nothing was written, unless writing failed: then a prefix of the text of the input
abbrev pub IsUnwritten : Option (List ℕ) → Option (List ℕ) → Option (List ℕ) → Option (List ℕ) →
    ServeError → Type 0
IsUnwritten left leaves held holds (Run cause) = Keeps held holds
IsUnwritten left leaves held holds Input = Keeps held holds
IsUnwritten left leaves held holds Output =
    (text : List ℕ) × IsRun left leaves text × IsCutOff held holds text

-- reading failed, or memory ran out
abbrev pub IsBeforeRun : ServeError → Type 0
IsBeforeRun (Run cause) = cause ≡ Memory
IsBeforeRun Input = Unit {0}
IsBeforeRun Output = ⊥
