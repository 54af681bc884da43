-- The pieces of a cell, laid on a text at once.
use Rattle.std.proofs.Common.{◌≡◌, ℕ, List, [], ◌++◌, append_assoc}

pub started : (t a b c : List ℕ) → t ++ (a ++ (b ++ c)) ≡ ((t ++ a) ++ b) ++ c
started t a b c = simp append_assoc

pub emptied : (t a b c d : List ℕ) →
    t ++ ((a ++ (b ++ c)) ++ d) ≡ ((((t ++ a) ++ b) ++ c) ++ []) ++ d
emptied t a b c d = simp append_assoc
