-- The results of several steps of the HTML Standard's tokenizer, whatever the later steps are.
use Rattle.std.specs.Prelude.{◌≡◌, ℕ, zero, suc, List, [], ◌++◌}
use Rattle.md_safe.specs.Token.{Token}
use Rattle.md_safe.specs.TokenizerStates.{State, Data, Step, Goes, Stops, Stuck}
use Rattle.md_safe.specs.Tokenizer.{step}

-- a step, with what was emitted before it
abbrev pub emitted_before : List Token → Step → Step
emitted_before tokens (Goes later state rest) = Goes (tokens ++ later) state rest
emitted_before tokens (Stops later) = Stops (tokens ++ later)
emitted_before tokens Stuck = Stuck

-- a step, and then a continuation from the state after it
abbrev pub and_then : (State → List ℕ → Step) → Step → Step
and_then go (Goes tokens state rest) = emitted_before tokens (go state rest)
and_then go (Stops tokens) = Stops tokens
and_then go Stuck = Stuck

-- so many steps as one
abbrev pub steps : ℕ → State → List ℕ → Step
steps zero state input = Goes [] state input
steps (suc n) state input = and_then (steps n) (step state input)

-- from a state, some steps emit these tokens and end in the data state, where this remains of the
-- input
pub record Tokenizes (state : State) (input : List ℕ) (tokens : List Token)
    (rest : List ℕ) : Type 0 where
  pub count : ℕ
  pub goes : steps count state input ≡ Goes tokens Data rest
