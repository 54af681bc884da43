-- What the options write of the heading above the footnotes.
use Rattle.std.specs.Prelude.{ℕ, List, option_map}
use Rattle.std.specs.Prelude.{codes, string_bytes}
use Rattle.std.specs.Option.{option_map_or}
use Rattle.md_text.specs.declared.options.CompileOptions.{CompileOptions}
use Rattle.md_meaning.specs.Meaning.Footnotes.{option_or}

-- the name of its tag
abbrev pub tag_of : CompileOptions → List ℕ
tag_of options =
    option_or (option_map string_bytes options.gfm_footnote_label_tag_name) (codes "h2")

-- its attributes
abbrev pub attributes_of : CompileOptions → List ℕ
attributes_of options =
    option_map_or string_bytes options.gfm_footnote_label_attributes (codes "class=\"sr-only\"")
