-- What is kept of a document's events: what is found at them, with a number at each
-- exit of a mention.
use Rattle.std.proofs.Common.{rules, arith, ◌≡◌, ℕ, zero, suc, true, Option, Some, List, [], ◌∷◌}
use Rattle.std.proofs.Common.{◌++◌, length, refl}
use Rattle.md_tree.proofs.Common.{map, slice_get, option_map, Name, Enter, Exit, Event, Fact}
use Rattle.md_tree.proofs.Common.{facts_at, facts_of, facts-flatten, standing_of, Forest, Empty}
use Rattle.md_tree.proofs.Common.{Node, flatten, Referral, Mention, Nothing, reading_of}
use Rattle.md_tree.proofs.Common.{partner_event, position_at, position_ended}
use Rattle.md_tree.proofs.Common.{mention_of, mentions_of, with_number, number_for, facts_with}
use Rattle.md_tree.proofs.Common.{place_of, definition_for, is_of_definitions}

-- ---- what doesn't change by numbers
pub partner-with : (numbers : List ℕ) (facts : List Fact) (index : ℕ) →
    option_map (λ (f : Fact). f.partner) (slice_get (facts_with numbers facts) index)
    ≡ option_map (λ (f : Fact). f.partner) (slice_get facts index)
partner-with (zero ∷ numbers) (fact ∷ facts) zero = refl
partner-with (_ ∷ numbers) (fact ∷ facts) zero = refl
partner-with (number ∷ numbers) (fact ∷ facts) (suc index) = partner-with numbers facts index
partner-with _ _ index = refl

by_partner : (events : List Event) (one other : Option Fact) →
    option_map (λ (f : Fact). f.partner) one ≡ option_map (λ (f : Fact). f.partner) other →
    partner_event events one ≡ partner_event events other
by_partner events one other e = grind arith

pub ended-with : (events : List Event) (numbers : List ℕ) (facts : List Fact) (index : ℕ) →
    position_ended events (facts_with numbers facts) index ≡ position_ended events facts index
ended-with events numbers facts index = grind (arith, by_partner, partner-with)

pub at-with : (events : List Event) (numbers : List ℕ) (facts : List Fact) (index : ℕ) →
    position_at events (facts_with numbers facts) index ≡ position_at events facts index
at-with events numbers facts index = grind (arith, by_partner, partner-with)

pub length-with : (numbers : List ℕ) (facts : List Fact) →
    length (facts_with numbers facts) ≡ length facts
length-with [] facts = refl
length-with (number ∷ numbers) facts = grind (arith, length-with numbers)

-- ---- events, facts and mentions of a document, one beside another

-- an entry mentions nothing; an exit mentions what its name does, and nothing but the
-- partner is found at it
abbrev pub IsRecorded : Event → Fact → Mention → Type 0
IsRecorded event fact mention =
    (event.kind ≡ Enter → mention ≡ Nothing) × (event.kind ≡ Exit → (fact.read_at ≡ 0)
    × ((target : Referral) × (mention ≡ mention_of (reading_of (standing_of event.name)) target)))

abbrev AreRecorded : List Event → List Fact → List Mention → Type 0
AreRecorded [] [] [] = Unit {0}
AreRecorded (event ∷ events) (fact ∷ facts) (mention ∷ mentions) =
    IsRecorded event fact mention × AreRecorded events facts mentions
AreRecorded _ _ _ = ⊥

recorded_append : (xs ys : List Event) (fs gs : List Fact) (ms ns : List Mention) →
    AreRecorded xs fs ms → AreRecorded ys gs ns → AreRecorded (xs ++ ys) (fs ++ gs) (ms ++ ns)
recorded_append [] ys [] gs [] ns one two = two
recorded_append (x ∷ xs) ys (f ∷ fs) gs (m ∷ ms) ns one two = grind (arith, recorded_append xs)
recorded_append _ ys _ gs _ ns one two = absurd one

recorded : (forest : Forest) (index tables : ℕ) →
    AreRecorded (flatten forest) (facts_of index tables forest) (mentions_of forest)
recorded Empty index tables = tt
recorded (Node name start end children rest) index tables =
    grind (arith, recorded children, recorded rest, recorded_append)

-- the three at an index
abbrev pub RecordedAt : List Event → List Fact → List Mention → ℕ → Event → Type 0
RecordedAt events facts mentions index event =
    (fact : Fact) × (mention : Mention) × (slice_get facts index ≡ Some fact)
    × (slice_get mentions index ≡ Some mention) × IsRecorded event fact mention

recorded_at : (events : List Event) (facts : List Fact) (mentions : List Mention) (index : ℕ)
    (event : Event) → AreRecorded events facts mentions → slice_get events index ≡ Some event →
    RecordedAt events facts mentions index event
recorded_at (x ∷ events) (f ∷ facts) (m ∷ mentions) zero event all e =
    let same : x ≡ event = cc in rw (← same) (f, m, refl, refl, all.0)
recorded_at (x ∷ events) (f ∷ facts) (m ∷ mentions) (suc index) event all e =
    recorded_at events facts mentions index event all.1 e
recorded_at _ _ _ index event all e = grind arith

pub recorded-at : (forest : Forest) (events : List Event) (index : ℕ) (event : Event) →
    flatten forest ≡ events → slice_get events index ≡ Some event →
    RecordedAt events (facts_at events) (mentions_of forest) index event
recorded-at forest events index event flattened here =
    recorded_at events (facts_at events) (mentions_of forest) index event
    (rw (← flattened, facts-flatten forest (flatten forest) refl) (recorded forest 0 0)) here

-- what is kept at an index
pub got-with : (number : Mention → ℕ) (mentions : List Mention) (facts : List Fact) (index : ℕ)
    (fact : Fact) (mention : Mention) → slice_get facts index ≡ Some fact →
    slice_get mentions index ≡ Some mention → slice_get (facts_with (map number mentions) facts)
    index ≡ Some (with_number (number mention) fact)
got-with number (n ∷ mentions) (g ∷ facts) zero fact mention f m = cc
got-with number (n ∷ mentions) (g ∷ facts) (suc index) fact mention f m =
    got-with number mentions facts index fact mention f m
got-with number _ _ index fact mention f m = cc

-- ---- the index that a number encodes
pub kept-number : (number : ℕ) (fact : Fact) → fact.read_at ≡ 0 →
    Fact.read_at (with_number number fact) ≡ number
kept-number number fact none = grind arith

pub number-definition : (bytes : List ℕ) (mentions : List Mention) (name : Name)
    (target : Referral) → is_of_definitions name ≡ true → place_of
    (number_for bytes mentions (mention_of (reading_of (standing_of name)) target)) ≡ definition_for
    bytes mentions (mention_of (reading_of (standing_of name)) target)
number-definition bytes mentions name target is = search rules
