-- Escaped text, and the four references in it: only contracts of private functions cite these.
use Rattle.std.specs.Prelude.{◌≡◌, ℕ, Bool, true, false, not, ◌||◌, ◌==◌, List, ◌∷◌, ◌++◌}
use Rattle.md_text.specs.References.{is_escaped, is_escaped_byte, read_back}

-- a byte that is escaped whatever follows it
abbrev pub is_plain : ℕ → Bool
is_plain b = not ((b == 0) || (b == 60) || (b == 62) || (b == 34) || (b == 38))

-- a text begins with such a byte
abbrev pub begins_plain : List ℕ → Bool
begins_plain text = elim text [ b ∷ rest ↦ is_plain b | _ ↦ false ]

-- the first byte of a text is escaped, given the bytes after it
abbrev pub begins_escaped : List ℕ → Bool
begins_escaped text = elim text [ b ∷ rest ↦ is_escaped_byte b rest | _ ↦ false ]

-- a text is an escaped beginning and a rest
pub record IsEscapedBefore (text rest : List ℕ) : Type 0 where
  pub front : List ℕ
  pub is : text ≡ front ++ rest
  pub escaped : is_escaped front ≡ true

-- a text is an escaped beginning, and a rest whose first byte isn't escaped
pub record IsRun (text front rest : List ℕ) : Type 0 where
  pub is : text ≡ front ++ rest
  pub escaped : is_escaped front ≡ true
  pub stops : begins_escaped rest ≡ false

-- after its `&`, a text is the rest of a reference to this character, and what follows it
pub record IsReference (text : List ℕ) (character : ℕ) (rest : List ℕ) : Type 0 where
  pub name : List ℕ
  pub is : text ≡ name ++ rest
  pub escaped : is_escaped (38 ∷ name) ≡ true
  pub reads : read_back (38 ∷ text) ≡ character ∷ read_back rest
