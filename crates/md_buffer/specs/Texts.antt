-- The pieces since the innermost capture, and those before each.
use Rattle.std.specs.Prelude.{ℕ, List}
pub use Rattle.md_steps.specs.Steps.{first_or, others_of}

-- the text since the innermost capture, and the outer texts, the innermost first
pub record Texts : Type 0 where
  pub text : List ℕ
  pub below : List (List ℕ)
