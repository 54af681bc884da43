-- What words say where a record has come, and where a word comes or changes.
use Rattle.std.proofs.Common.{◌≡◌, ℕ, ◌-◌, ◌<◌, ◌^◌, List, [], ◌∷◌, ◌++◌, length, ap, ◌∙◌, arith}
use Rattle.std.specs.Prelude.{set, ◌≤◌}
use Rattle.std.proofs.lemmas.List.{map-append, map-set, append-nil, length-map}
use Rattle.std.proofs.lemmas.List.{set-append_left, set-append_right}
use Rattle.std.proofs.lemmas.List.Elements.{All-head, All-tail}
use Rattle.md_pattern.specs.declared.facts.Fact.{Fact}
use Rattle.md_pattern.specs.Facts.{partner_alone}
use Rattle.md_pattern.specs.FactWords.{IsWord, AreWords, fact_of_word, facts_of_words, all_facts}

module _ (old new : List Fact) (still : (word : ℕ) → IsWord old word → IsWord new word)
    (same : (word : ℕ) → IsWord old word → fact_of_word new word ≡ fact_of_word old word) where
  pub facts-same : (words : List ℕ) → AreWords old words →
      facts_of_words new words ≡ facts_of_words old words
  facts-same [] are = grind (arith, All-head, All-tail)
  facts-same (word ∷ words) are =
      grind (arith, All-head, All-tail, facts-same words (All-tail (IsWord old) word words are))

  -- a word that is added
  pub facts-push : (words : List ℕ) (word : ℕ) (fact : Fact) → AreWords old words →
      fact_of_word new word ≡ fact →
      facts_of_words new (words ++ word ∷ []) ≡ facts_of_words old words ++ fact ∷ []
  facts-push words word fact are says = grind (arith, map-append, facts-same)

  -- writing a word at an index
  pub facts-put : (words : List ℕ) (index word : ℕ) (fact : Fact) → AreWords old words →
      fact_of_word new word ≡ fact →
      facts_of_words new (set words index word) ≡ set (facts_of_words old words) index fact
  facts-put words index word fact are says = grind (arith, map-set, facts-same)

-- an index that is low enough encodes a partner
partner-low : (records : List Fact) (index : ℕ) → index < 2 ^ 31 →
    fact_of_word records index ≡ partner_alone index
partner-low records index low = grind arith

-- with no rest the facts are those that the words encode
pub no_rest : (records : List Fact) (words : List ℕ) (rest : List Fact) → rest ≡ [] →
    all_facts records words rest ≡ facts_of_words records words
no_rest records words rest none = grind (arith, append-nil)

-- with no rest, what changes the words and adds to them changes the facts likewise
pub by_words : (old new : List Fact) (words changed : List ℕ) (rest more : List Fact) → rest ≡ [] →
    (change : List Fact → List Fact) →
    facts_of_words new changed ≡ change (facts_of_words old words) ++ more →
    all_facts new changed rest ≡ change (all_facts old words rest) ++ more
by_words old new words changed rest more none change is = grind (arith, no_rest)

-- the word of an entry whose exit is the next event, and the word of the exit
pub facts-closed : (records : List Fact) (words : List ℕ) (entry : ℕ) (fact : Fact) →
    entry < length words → length words < 2 ^ 31 → fact ≡ partner_alone (length words) →
    facts_of_words records (set words entry (length words) ++ entry ∷ [])
    ≡ set (facts_of_words records words) entry fact ++ partner_alone entry ∷ []
facts-closed records words entry fact before low is =
    grind (arith, map-append, map-set, partner-low)

-- a fact that is written at an index, among those that words encode and among the rest
pub facts-written : (old new : List Fact) (words changed : List ℕ) (rest : List Fact) (index : ℕ)
    (fact : Fact) → index < length words →
    facts_of_words new changed ≡ set (facts_of_words old words) index fact →
    all_facts new changed rest ≡ set (all_facts old words rest) index fact
facts-written old new words changed rest index fact before is =
    grind (arith, set-append_left, length-map)

pub rest-written : (records : List Fact) (words : List ℕ) (rest : List Fact) (n index : ℕ)
    (fact : Fact) → length words ≡ n → n ≤ index →
    all_facts records words (set rest (index - n) fact)
    ≡ set (all_facts records words rest) index fact
rest-written records words rest n index fact is after = grind (arith, set-append_right, length-map)

-- the index of an event that comes as a word
pub facts-pushed : (records : List Fact) (words : List ℕ) (rest : List Fact) (partner : ℕ) →
    rest ≡ [] → partner < 2 ^ 31 →
    all_facts records (words ++ partner ∷ []) rest
    ≡ all_facts records words rest ++ partner_alone partner ∷ []
facts-pushed records words rest partner none low =
    by_words records records words (words ++ partner ∷ []) rest (partner_alone partner ∷ []) none
    (λ facts. facts) (map-append (fact_of_word records) words (partner ∷ [])
    ∙ ap (λ f. facts_of_words records words ++ f ∷ []) (partner-low records partner low))
