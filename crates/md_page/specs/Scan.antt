-- How the program finds the tags: definitions of its own, which no public contract cites.
use Rattle.std.specs.Str.{bytes_eq}
use Rattle.std.specs.Prelude.{◌≡◌, ℕ, zero, suc, ◌<◌, ◌≤◌, ◌-◌, ◌==◌, IsTrue, length, take}
use Rattle.std.specs.Prelude.{slice_index, Bool, true, false, not, ◌&&◌, ◌||◌, if◌then◌else◌, List}
use Rattle.std.specs.Prelude.{[], ◌∷◌, ◌++◌, drop, Option, Some, None, option_map, is_none, codes}
use Rattle.std.specs.Prelude.{MatchOption, nat_eq}
use Rattle.std.specs.Option.{option_map_or}
use Rattle.std.specs.List.{list_all, ends_with}
use Rattle.std.specs.Fmt.{decimal}
use Rattle.md_base.specs.Identifier.{is_nonempty}
use Rattle.md_text.specs.Bytes.{is_between}
use Rattle.md_text.specs.Encode.{encoded}
use Rattle.md_text.specs.Html.{Attribute, written_attributes}
use Rattle.md_text.specs.References.{begins_with}
use Rattle.md_safe.specs.Input.{begins_with_line_feed, with_line_feeds}
use Rattle.md_page.specs.Added.{Listed}
use Rattle.md_page.specs.GivenIds.{id_text}
use Rattle.md_page.specs.declared.scan.Rule.{Rule}
use Rattle.md_page.specs.declared.scan.Rule.TheVariants.{Link, Heading}

-- not this byte
abbrev pub differs : ℕ → ℕ → Bool
differs n b = not (b == n)

-- the first of this byte is here
pub record IsFirstOf (byte : ℕ) (text : List ℕ) (at : ℕ) : Type 0 where
  pub within : at < length text
  pub is : slice_index text at ≡ byte
  pub before : IsTrue (list_all (differs byte) (take at text))

-- a text with an insertion before the `>` of each tag that is picked by the bytes after its `<`;
-- the insertion depends on how many were picked before; `inside` says that such a tag is open
abbrev pub scanned : (List ℕ → Bool) → (ℕ → List ℕ) → Bool → ℕ → List ℕ → List ℕ
scanned picks add inside n [] = []
scanned picks add inside n (b ∷ rest) =
    if inside && (b == 62) then add n ++ (b ∷ scanned picks add false (suc n) rest)
    else b ∷ scanned picks add (inside || ((b == 60) && picks rest)) n rest

-- the bytes before the first `>`
abbrev pub before_angle : List ℕ → Option (List ℕ)
before_angle [] = None
before_angle (b ∷ rest) =
    if b == 62 then Some [] else option_map (λ later. b ∷ later) (before_angle rest)

-- a byte prepended to the first of some parts
abbrev pub onto_first : ℕ → List (List ℕ) → List (List ℕ)
onto_first b [] = (b ∷ []) ∷ []
onto_first b (part ∷ more) = (b ∷ part) ∷ more

-- the parts of a text between its `"`
abbrev pub parts_of : List ℕ → List (List ℕ)
parts_of [] = [] ∷ []
parts_of (b ∷ rest) = if b == 34 then [] ∷ parts_of rest else onto_first b (parts_of rest)

-- the value after this key (a space, a name and `=`) in attributes that are split so
abbrev pub value_in : List ℕ → List (List ℕ) → Option (List ℕ)
value_in key [] = None
value_in key (name ∷ []) = None
value_in key (name ∷ value ∷ []) = None
value_in key (name ∷ value ∷ next ∷ more) =
    if bytes_eq key name then Some value else value_in key (next ∷ more)

-- the value after this key in attributes as they are written
abbrev pub value_of : List ℕ → List ℕ → Option (List ℕ)
value_of key attributes = value_in key (parts_of attributes)

-- a value that isn't empty and doesn't begin with `#`
abbrev pub is_away : List ℕ → Bool
is_away value = is_nonempty value && not (begins_with (codes "#") value)

-- attributes of a link that gets a `rel`
abbrev pub want_rel : List ℕ → Bool
want_rel attributes =
    option_map_or is_away (value_of (codes " href=") attributes) false
    && is_none (value_of (codes " rel=") attributes)

-- a link that gets a `rel`, by the bytes after its `<`
abbrev pub picks_link : List ℕ → Bool
picks_link tag =
    begins_with (codes "a ") tag && option_map_or want_rel (before_angle (drop 1 tag)) false

-- `h` and a digit from 1 to 6
abbrev pub begins_heading : List ℕ → Bool
begins_heading [] = false
begins_heading (b ∷ []) = false
begins_heading (b ∷ level ∷ rest) = (b == 104) && is_between 49 54 level

-- the rest of a heading's tag after its name: attributes without an `id`
abbrev pub want_id : List ℕ → Bool
want_id attributes = (not (is_nonempty attributes) || begins_with (codes " ") attributes)
    && is_none (value_of (codes " id=") attributes)

-- a heading that gets an `id`, by the bytes after its `<`
abbrev pub picks_heading : List ℕ → Bool
picks_heading tag = begins_heading tag && option_map_or want_id (before_angle (drop 2 tag)) false

-- the test that picks the tags of a rule
abbrev pub picks_of : Rule → List ℕ → Bool
picks_of Link = picks_link
picks_of Heading = picks_heading

-- no picked tag begins in the first so many bytes
abbrev pub clear : (List ℕ → Bool) → ℕ → List ℕ → Bool
clear picks zero text = true
clear picks (suc k) [] = true
clear picks (suc k) (b ∷ rest) = not ((b == 60) && picks rest) && clear picks k rest

-- if none begins before one index, none begins before another
abbrev pub IsPassed : Rule → List ℕ → ℕ → ℕ → Type 0
IsPassed rule text from to =
    clear (picks_of rule) from text ≡ true → clear (picks_of rule) to text ≡ true

-- the first picked tag begins here
pub record IsTagAt (picks : List ℕ → Bool) (text : List ℕ) (at : ℕ) : Type 0 where
  pub within : at < length text
  pub angle : slice_index text at ≡ 60
  pub picked : picks (drop (suc at) text) ≡ true
  pub before : clear picks at text ≡ true

-- a `<` is here, and no tag of a rule begins between another index and it
pub record IsAngleFrom (rule : Rule) (text : List ℕ) (from at : ℕ) : Type 0 where
  pub later : from ≤ at
  pub within : at < length text
  pub angle : slice_index text at ≡ 60
  pub passed : IsPassed rule text from at

-- the `>` of a tag is here
abbrev pub IsEndAt : List ℕ → ℕ → Type 0
IsEndAt text end = (0 < end) × (end < length text) × (slice_index text end ≡ 62)

-- the result for a text whose first picked tag ends here, if there is one
abbrev pub IsScannedTo : (List ℕ → Bool) → List ℕ → Option ℕ → Type 0
IsScannedTo picks text found = (add : ℕ → List ℕ) (n : ℕ) → MatchOption found
    (scanned picks add false n text ≡ text)
    (λ end. scanned picks add false n text
    ≡ take end text ++ (add n ++ scanned picks add false (suc n) (drop end text)))

-- a text with one more attribute on each picked tag
abbrev pub with_new : (List ℕ → Bool) → (ℕ → Attribute) → List ℕ → List ℕ
with_new picks new text = scanned picks (λ n. written_attributes (new n ∷ [])) false 0 text

-- `rel` with this text, escaped
abbrev pub new_rel : List ℕ → ℕ → Attribute
new_rel text n = record { name = codes "rel"; value = encoded true text }

-- `id` with this prefix, escaped, and a number
abbrev pub new_id : List ℕ → ℕ → Attribute
new_id prefix n = record { name = codes "id"; value = encoded true prefix ++ decimal (suc n) }

-- `id` with the text for the heading with this number, from 0, escaped
abbrev pub new_given : List (List ℕ) → ℕ → Attribute
new_given ids n = record { name = codes "id"; value = encoded true (id_text ids n) }

-- ---- the ids of a text

-- the text ends in ` id=`
abbrev pub ends_at_id : List ℕ → Bool
ends_at_id before = ends_with nat_eq before (codes " id=")

-- the values after ` id=` in a text that is split so, with a line feed for each line ending
abbrev pub ids_in_parts : List (List ℕ) → List (List ℕ)
ids_in_parts [] = []
ids_in_parts (before ∷ []) = []
ids_in_parts (before ∷ value ∷ []) = []
ids_in_parts (before ∷ value ∷ next ∷ more) =
    (if ends_at_id before then with_line_feeds value ∷ [] else []) ++ ids_in_parts (next ∷ more)

-- those of a text
abbrev pub scanned_ids : List ℕ → List (List ℕ)
scanned_ids text = ids_in_parts (parts_of text)

-- ---- the headings of a table of contents

-- the bytes after the first `>`
abbrev pub past_angle : List ℕ → List ℕ
past_angle [] = []
past_angle (b ∷ rest) = if b == 62 then rest else past_angle rest

-- the replacement of a byte, depending on the next bytes, when newlines are normalized
abbrev pub lined_byte : ℕ → List ℕ → List ℕ
lined_byte b rest = if b == 13 then (if begins_with_line_feed rest then [] else 10 ∷ []) else b ∷ []

-- the end tag of a heading with this digit, after its `<`
abbrev pub closes_heading : ℕ → List ℕ → Bool
closes_heading digit tag = begins_with (47 ∷ 104 ∷ digit ∷ 62 ∷ []) tag

-- the texts before that end tag; `inside` says that a tag is open
abbrev pub text_before : ℕ → Bool → List ℕ → List ℕ
text_before digit inside [] = []
text_before digit inside (b ∷ rest) =
    if inside then text_before digit (not (b == 62)) rest
    else (if b == 60 then (if closes_heading digit rest then [] else text_before digit true rest)
    else lined_byte b rest ++ text_before digit false rest)

-- a heading, by the bytes after its `<`
abbrev pub scanned_heading : ℕ → List ℕ → Listed
scanned_heading number tag = record {
  level = slice_index tag 1 - 48;
  number = number;
  text = text_before (slice_index tag 1) false (past_angle tag);
}

-- the headings that are picked, after so many of them
abbrev pub scanned_headings : ℕ → List ℕ → List Listed
scanned_headings n [] = []
scanned_headings n (b ∷ rest) = if (b == 60) && picks_heading rest
    then scanned_heading (suc n) rest ∷ scanned_headings (suc n) rest
    else scanned_headings n rest
