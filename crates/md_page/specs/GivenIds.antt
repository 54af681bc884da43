-- Ids for headings, given as a list of texts.
use Rattle.std.specs.Prelude.{ℕ, suc, Bool, true, if◌then◌else◌, List, [], ◌∷◌, codes, slice_get}
use Rattle.std.specs.Str.{bytes_eq}
use Rattle.std.specs.List.{list_any}
use Rattle.std.specs.Option.{option_map_or}
use Rattle.std.specs.Fmt.{decimal}
use Rattle.md_text.specs.Encode.{encoded}
use Rattle.md_safe.specs.Input.{with_line_feeds}
use Rattle.md_safe.specs.Token.{Token, TokenAttribute}
use Rattle.md_page.specs.Added.{added, gets_id, shown}

-- the text for the heading with this number, from 0: the one of the list, or past its end the
-- heading's number, from 1
abbrev pub id_text : List (List ℕ) → ℕ → List ℕ
id_text ids n = option_map_or (λ text. text) (slice_get ids n) (decimal (suc n))

-- `id` with this text
abbrev pub given_id : List (List ℕ) → ℕ → TokenAttribute
given_id ids n = record { name = codes "id"; value = shown (id_text ids n) }

-- tokens, with the next of these ids on each heading without an `id`
abbrev pub with_given_ids : List (List ℕ) → List Token → List Token
with_given_ids ids tokens = added gets_id (given_id ids) 0 tokens

-- the ids that headings get, after so many of them
abbrev pub ids_after : List (List ℕ) → ℕ → List Token → List (List ℕ)
ids_after ids n [] = []
ids_after ids n (t ∷ more) =
    if gets_id t then shown (id_text ids n) ∷ ids_after ids (suc n) more else ids_after ids n more

-- all of them
abbrev pub ids_given : List (List ℕ) → List Token → List (List ℕ)
ids_given ids tokens = ids_after ids 0 tokens

-- ---- ids as they are written

-- a text is one of some
abbrev pub is_among : List ℕ → List (List ℕ) → Bool
is_among text texts = list_any (λ other. bytes_eq other text) texts

-- an id as it is written, with a line feed for each line ending
abbrev pub written_id : List ℕ → List ℕ
written_id id = with_line_feeds (encoded true id)
