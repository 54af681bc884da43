-- Bounds on the length of a document's text: by its number of events, by how much there is to read
-- and to print, and by how much is used again.
use Rattle.std.specs.Prelude.{ℕ, ◌+◌, ◌*◌, List}
use Rattle.md_text.specs.declared.options.CompileOptions.{CompileOptions}
use Rattle.md_length.specs.Longest.{longest}
use Rattle.md_length.specs.Reuse.{option_length}

-- for each document: the heading of its footnotes, and their section's tags
abbrev pub for_document : CompileOptions → ℕ
for_document options = 256 + 12 * option_length options.gfm_footnote_label_tag_name
    + option_length options.gfm_footnote_label_attributes
    + 6 * option_length options.gfm_footnote_label

-- for each event: tags, and the text of a reference
abbrev pub for_event : List (List ℕ × List ℕ) → ℕ
for_event names = 446 + 21 * longest names

-- for each byte of work and of reuse: its replacement, escaped or as a URL
abbrev pub for_work : List (List ℕ × List ℕ) → ℕ
for_work names = 331 + 21 * longest names

-- the maximum length in bytes of the text of a document with so many events and so much work, reuse
-- included
abbrev pub text_bound : CompileOptions → List (List ℕ × List ℕ) → ℕ → ℕ → ℕ
text_bound options names events work =
    for_document options + for_event names * events + for_work names * work
