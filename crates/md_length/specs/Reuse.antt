-- How much a document uses again when it is printed: definitions for the links and images that
-- refer to them, and for footnote calls their labels and the texts of options.
use Rattle.std.specs.Prelude.{ℕ, ◌+◌, ◌*◌, suc, Bool, true, false, if◌then◌else◌, List, [], ◌∷◌}
use Rattle.std.specs.Prelude.{map, drop, length, slice_get, Option, Some, None, string_bytes}
use Rattle.std.specs.Prelude.{String}
use Rattle.std.specs.Option.{option_map_or}
use Rattle.std.specs.declared.alloc.Global.{Global}
use Rattle.md_base.specs.declared.event.Event.{Event}
use Rattle.md_base.specs.declared.event.Name.{Name}
use Rattle.md_base.specs.declared.event.Name.TheVariants.{Image, Link}
use Rattle.md_base.specs.Tree.{Forest, flatten}
pub use Rattle.md_base.specs.NameTests.{is_call}
use Rattle.md_pattern.specs.Partners.{definition_entries}
use Rattle.md_text.specs.declared.options.CompileOptions.{CompileOptions}
use Rattle.md_tree.specs.declared.mention.Mention.{Mention}
use Rattle.md_tree.specs.Mentions.{mentions_of}
use Rattle.md_tree.specs.Numbers.{definition_for}
use Rattle.md_length.specs.Work.{enters, before_definition, read_length, covered}

-- the length of what is read in the definition that the event at an index enters, plus one for each
-- event in it
abbrev pub definition_length : List Event → ℕ → ℕ
definition_length events entry =
    let inside = before_definition (drop (suc entry) events) in
    read_length inside + length inside

-- the same for each definition, in the order of their exits
abbrev pub definition_lengths : Forest → List ℕ
definition_lengths document =
    map (definition_length (flatten document)) (definition_entries 0 document)

-- the length at an index, and 0 if there is none
abbrev pub length_at : List ℕ → Option ℕ → ℕ
length_at lengths None = 0
length_at lengths (Some place) = option_map_or (λ found. found) (slice_get lengths place) 0

-- for each of some mentions the length of the definition that it refers to
abbrev pub resolved_lengths : List ℕ → (Mention → Option ℕ) → List Mention → ℕ
resolved_lengths lengths leads [] = 0
resolved_lengths lengths leads (mention ∷ mentions) =
    length_at lengths (leads mention) + resolved_lengths lengths leads mentions

-- for each link and image that refers to a definition, the length of that definition
abbrev pub referred : List ℕ → Forest → ℕ
referred bytes document =
    resolved_lengths (definition_lengths document) (definition_for bytes (mentions_of document))
    (mentions_of document)

abbrev pub is_media : Name → Bool
is_media name = elim name [ Link ↦ true | Image ↦ true | _ ↦ false ]

-- how many events enter a node whose name passes a test
abbrev pub entries : (Name → Bool) → List Event → ℕ
entries is [] = 0
entries is (event ∷ events) = (if enters is event then 1 else 0) + entries is events

abbrev pub option_length : Option (String Global) → ℕ
option_length text = option_map_or (λ set. length (string_bytes set)) text 0

-- the lengths of the option texts that a call prints: the prefix in its link, its id, the
-- backreference and the id of its footnote; the label of the backreference
abbrev pub call_texts : CompileOptions → ℕ
call_texts options = 4 * option_length options.gfm_footnote_clobber_prefix
    + option_length options.gfm_footnote_back_label

-- the lengths of the definitions that links and images refer to; for each call the option texts;
-- and five times the lengths of calls, whose labels are printed four times, as URLs
abbrev pub reuse : CompileOptions → List ℕ → Forest → ℕ
reuse options bytes document = referred bytes document
    + entries is_call (flatten document) * call_texts options
    + 5 * covered is_call (flatten document)
