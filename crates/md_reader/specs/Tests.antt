-- Tests of a text's tags and attributes: only contracts of private functions cite these.
use Rattle.std.specs.Prelude.{ℕ, Bool, true, not, ◌&&◌, List, map}
use Rattle.std.specs.List.{list_all}
use Rattle.md_text.specs.Bytes.{is_one_of}
use Rattle.md_text.specs.Html.{Attribute, Forest, Empty, Text, Void, Element}
use Rattle.md_reader.specs.Authors.{own_tags, own_attributes}
use Rattle.md_reader.specs.Permitted.{is_permitted, permits}
use Rattle.md_reader.specs.Chosen.{is_chosen}
use Rattle.md_reader.specs.declared.rules.Rules.{Rules}
use Rattle.md_reader.specs.declared.rules.Tags.{Tags}
use Rattle.md_reader.specs.declared.rules.Tags.TheVariants.{Any, OfAuthors, Chosen}

-- a test of names of tags, and one of attributes
pub record Test : Type 0 where
  pub tag : List ℕ → Bool
  pub attribute : Attribute → Bool

-- each tag of a forest passes by its name, and each of its attributes
abbrev pub all_pass : Test → Forest → Bool
all_pass t Empty = true
all_pass t (Text bytes rest) = all_pass t rest
all_pass t (Void name attributes rest) =
    t.tag name && list_all t.attribute attributes && all_pass t rest
all_pass t (Element name attributes inner rest) =
    t.tag name && list_all t.attribute attributes && all_pass t inner && all_pass t rest

-- what passes by protocols alone
abbrev pub permitted_test : List (List ℕ) → List (List ℕ) → Test
permitted_test links images =
    record { tag = λ name. true; attribute = is_permitted links images }

-- the names that some tags allow, and those of their attributes
abbrev pub has_tag : Tags → List ℕ → Bool
has_tag Any name = true
has_tag OfAuthors name = not (is_one_of own_tags name)
has_tag (Chosen names) name =
    not (is_one_of own_tags name) && is_chosen (map (λ other. other.now) names.now) name

abbrev pub has_attribute : Tags → List ℕ → Bool
has_attribute Any name = true
has_attribute OfAuthors name = not (is_one_of own_attributes name)
has_attribute (Chosen names) name = not (is_one_of own_attributes name)

-- what passes by some rules
abbrev pub test_of : Rules → Test
test_of rules = record {
  tag = has_tag rules.tags;
  attribute = λ a. has_attribute rules.tags a.name && permits rules.protocols a;
}
