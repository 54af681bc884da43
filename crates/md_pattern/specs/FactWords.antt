-- The words that store the facts at the events. Contracts of private functions cite them, and so
-- does the model of `FactList`, which maps it to a list of facts.
use Rattle.std.specs.Prelude.{ℕ, ◌+◌, ◌-◌, ◌^◌, ◌<◌, if◌then◌else◌, nat_le, List, length, get_or}
use Rattle.std.specs.Prelude.{map, ◌≡◌, ◌≤◌, [], ◌++◌}
use Rattle.std.specs.List.{All}
use Rattle.md_pattern.specs.declared.facts.Fact.{Fact}
use Rattle.md_pattern.specs.Facts.{partner_alone}

-- a word is the index of an event, or 2^31 and the number of a record
abbrev pub IsWord : List Fact → ℕ → Type 0
IsWord records word = word < 2 ^ 31 + length records

abbrev pub AreWords : List Fact → List ℕ → Type 0
AreWords records words = All (IsWord records) words

-- the fact that a word encodes: only the partner, or its record
abbrev pub fact_of_word : List Fact → ℕ → Fact
fact_of_word records word =
    if nat_le (2 ^ 31) word then get_or records (word - 2 ^ 31) (partner_alone 0)
    else partner_alone word

-- the facts that some words encode
abbrev pub facts_of_words : List Fact → List ℕ → List Fact
facts_of_words records words = map (fact_of_word records) words

-- the facts at all events: those that words encode, and the rest
abbrev pub all_facts : List Fact → List ℕ → List Fact → List Fact
all_facts records words rest = facts_of_words records words ++ rest

-- there is a rest only if the words fill their capacity
abbrev pub IsAfterWords : List ℕ → ℕ → List Fact → Type 0
IsAfterWords words capacity rest = length words < capacity → rest ≡ []

-- what is true of the parts of a list of facts
abbrev pub AreParts : List Fact → List ℕ → ℕ → List Fact → Type 0
AreParts records words capacity rest =
    AreWords records words × (capacity ≤ 2 ^ 31) × IsAfterWords words capacity rest
