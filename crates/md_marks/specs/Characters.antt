-- The class of a character: white space and punctuation as CommonMark defines them.
use Rattle.std.specs.Prelude.{ℕ, Bool, true, false, List, [], ◌∷◌, ◌==◌, ◌||◌, reverse, if◌then◌else◌}
use Rattle.std.specs.Char.{is_ascii_punctuation}
use Rattle.ucd_category.specs.GeneralCategory.{general_category}
use Rattle.ucd_category.specs.declared.GeneralCategory.{GeneralCategory}
use Rattle.ucd_category.specs.declared.GeneralCategory.TheVariants.{SpaceSeparator}
use Rattle.ucd_category.specs.declared.GeneralCategoryGroup.TheVariants as group
use Rattle.ucd_category.specs.GeneralCategoryGroup.{in_group}
use Rattle.md_marks.specs.declared.characters.CharacterClass.{CharacterClass}
use Rattle.md_marks.specs.declared.characters.CharacterClass.TheVariants.{Space, Punctuation, Word}

-- whether a category is Zs
abbrev pub is_separator : GeneralCategory → Bool
is_separator category = elim category [ SpaceSeparator ↦ true | _ ↦ false ]

-- whether a character is Unicode white space: Zs, tab, line feed, form feed or carriage return
abbrev pub is_white_space : ℕ → Bool
is_white_space c =
    c == 9 || c == 10 || c == 12 || c == 13 || is_separator (general_category c)

-- whether a byte is white space of ASCII, but for the vertical tab
abbrev pub is_ascii_space : ℕ → Bool
is_ascii_space byte = byte == 32 || byte == 9 || byte == 10 || byte == 12 || byte == 13

-- whether a character is punctuation: that of ASCII, or of a category of punctuation (P)
abbrev pub is_punctuation_character : ℕ → Bool
is_punctuation_character c =
    is_ascii_punctuation c || in_group group.Punctuation (general_category c)

-- the class of a character
abbrev pub class_of : ℕ → CharacterClass
class_of c =
    if is_punctuation_character c then Punctuation else if is_white_space c then Space else Word

-- the class of the first character, and white space without one
abbrev pub class_of_first : List ℕ → CharacterClass
class_of_first [] = Space
class_of_first (c ∷ cs) = class_of c

-- the class of the last character, and white space without one
abbrev pub class_of_last : List ℕ → CharacterClass
class_of_last cs = class_of_first (reverse cs)
