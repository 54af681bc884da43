-- The options of the cleaner that C's fields encode.
use Rattle.std.specs.Prelude.{ℕ, ◌==◌, List, Option, option_map}
use Rattle.std.specs.List.{slice_split}
use Rattle.md_abi.specs.Options.{text_of}
use Rattle.md_abi.specs.declared.option.CText.{CText}

-- the words of a text, which spaces divide
abbrev pub words : List ℕ → List (List ℕ)
words = slice_split (λ byte. byte == 32)

-- the names in a text, if it is set; a text that is invalid encodes none
abbrev pub names_of : CText → Option (Option (List (List ℕ)))
names_of text = option_map (λ read. option_map words read) (text_of text)
