-- A name and what follows it: only contracts of private functions cite this.
use Rattle.std.specs.Prelude.{◌≡◌, ℕ, Bool, true, false, List, ◌∷◌, ◌++◌}
use Rattle.std.specs.List.{list_all}
use Rattle.md_text.specs.HtmlName.{is_name_byte}

-- a text begins with a byte of a name
abbrev pub begins_name : List ℕ → Bool
begins_name text = elim text [ b ∷ rest ↦ is_name_byte b | _ ↦ false ]

-- a text is bytes of a name, and a rest that begins with no such byte
pub record IsSplitName (text name rest : List ℕ) : Type 0 where
  pub is : text ≡ name ++ rest
  pub named : list_all is_name_byte name ≡ true
  pub stops : begins_name rest ≡ false
