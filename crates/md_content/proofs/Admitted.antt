-- A node that matches the pattern of a role may occur in each node with that role: by computing
-- over the patterns, once for each name. The proof that documents are built so depends on it.
use denote.Enum.Bare.{sameb}
use Rattle.std.proofs.Common.{◌≡◌, ℕ, zero, suc, Bool, true, false, ◌&&◌, List, [], ◌∷◌, ◌++◌}
use Rattle.std.proofs.Common.{length, replicate, refl, arith}
use Rattle.std.specs.List.{list_all, list_any}
use Rattle.std.proofs.lemmas.Bool.{or_cases, and_parts, and_from}
use Rattle.md_base.proofs.Lies.{lie}
use Rattle.md_pattern.specs.contracts.kinds.Symbol.{the_type}
use Rattle.md_pattern.specs.declared.kinds.Symbol.{Symbol}
use Rattle.md_pattern.specs.declared.kinds.Symbol.TheVariants as symbol_variants
use symbol_variants.{SetextUnderline, LineEnding}
use Rattle.md_pattern.specs.declared.kinds.Role.{Role}
use Rattle.md_pattern.specs.declared.kinds.Class.{Class}
use Rattle.md_pattern.specs.declared.kinds.Item.{Item}
use Rattle.md_pattern.specs.declared.kinds.Item.TheVariants.{Once, Maybe, Many}
use Rattle.md_pattern.specs.Pattern.{members, class_of, takes, pattern_of, Fits, IsCount}
use Rattle.md_pattern.specs.Spine.{IsTail, IsGrouped, Matches}
use Rattle.md_content.specs.Built.{Content, Blocks, Chunks}
use Rattle.md_content.proofs.Symbols.{may_show, past, admits, keeps, item_admits, pattern_admits}
use Rattle.md_content.proofs.Tails.{each-tail}

-- what may stand at the beginning may stand after others
may_show-earlier : (content : Content) (symbol : Symbol) → may_show false content symbol ≡ true →
    may_show true content symbol ≡ true
may_show-earlier Chunks symbol h = lie h
may_show-earlier _ symbol h = h

pub shown_earlier : (earlier : Bool) (content : Content) (symbol : Symbol) →
    may_show earlier content symbol ≡ true →
    may_show true content symbol ≡ true
shown_earlier true content symbol h = h
shown_earlier false content symbol h = may_show-earlier content symbol h

admits-earlier : (content : Content) (symbols : List Symbol) → admits false content symbols ≡ true →
    admits true content symbols ≡ true
admits-earlier content [] h = refl
admits-earlier content (symbol ∷ symbols) h = grind arith

-- what holds of each member of a class holds of each symbol that it takes
pub taken : (test : Symbol → Bool) (symbols : List Symbol) (symbol : Symbol) →
    list_any (λ member. sameb the_type member symbol) symbols ≡ true →
    list_all test symbols ≡ true → test symbol ≡ true
taken test [] symbol seen h = lie seen
taken test (member ∷ symbols) symbol seen h = grind (arith, or_cases, taken test symbols)

-- one symbol of an item, and the rest of the pattern after it
abbrev pub one_admits : (Bool → Content → Bool) → Bool → Content → Symbol → Bool
one_admits left earlier content member =
    may_show earlier content member && left true (past content member)

-- the rest is allowed after that
abbrev Admits : (Bool → Content → Bool) → List Symbol → Type 0
Admits left others = (earlier : Bool) (content : Content) → left earlier content ≡ true →
    admits earlier content others ≡ true

one : (class : Class) (left : Bool → Content → Bool) (others own : List Symbol) →
    Admits left others →
    length own ≡ 1 → list_all (takes class) own ≡ true → (earlier : Bool) (content : Content) →
    list_all (one_admits left earlier content) (members class) ≡ true →
    admits earlier content (own ++ others) ≡ true
one class left others [] rest count own_taken earlier content h = absurd (omega arith)
one class left others (symbol ∷ []) rest count own_taken earlier content h =
    let here = taken (one_admits left earlier content) (members class) symbol
    (and_parts _ _ own_taken).0 h in
    let parts = and_parts _ _ here in
    and_from _ _ parts.0
    (rest true (past content symbol) parts.1)
one class left others (symbol ∷ another ∷ own) rest count own_taken earlier content h =
    absurd (omega arith)

abbrev pub stays : Bool → Content → Symbol → Bool
stays earlier content member = may_show earlier content member && keeps content

several : (class : Class) (others own : List Symbol) (earlier : Bool) (content : Content) →
    list_all (takes class) own ≡ true → list_all (stays earlier content) (members class) ≡ true →
    admits earlier content others ≡ true → admits earlier content (own ++ others) ≡ true
several class others [] earlier content own_taken h rest = rest
several class others (symbol ∷ own) earlier content own_taken h rest =
    grind (arith, and_parts, taken, and_from, admits-earlier, several class others own)

item_fits : (item : Item) (left : Bool → Content → Bool) (others own : List Symbol) →
    Admits left others →
    IsCount item (length own) → list_all (takes (class_of item)) own ≡ true →
    (earlier : Bool) (content : Content) →
    item_admits item left earlier content ≡ true →
    admits earlier content (own ++ others) ≡ true
item_fits (Once class) left others own rest count own_taken earlier content h = grind (arith, one)
item_fits (Maybe class) left others [] rest count own_taken earlier content h = grind arith
item_fits (Maybe class) left others (symbol ∷ own) rest count own_taken earlier content h =
    one class left others (symbol ∷ own) rest (omega arith) own_taken earlier content
    (and_parts _ _ h).1
item_fits (Many class) left others own rest count own_taken earlier content h =
    grind (arith, and_parts, several)

-- what fits a pattern may stand where the pattern may
fits : (items : List Item) (firsts : List Symbol) → Fits items firsts →
    (earlier : Bool) (content : Content) →
    pattern_admits items earlier content ≡ true → admits earlier content firsts ≡ true
fits [] firsts fit earlier content h = grind arith
fits (item ∷ items) firsts fit earlier content h =
    grind (arith, item_fits, fits items)

-- what follows in a group may stand after its first symbol
endings_admit : (endings : ℕ) (others : List Symbol) → admits true Blocks others ≡ true →
    admits true Blocks ((replicate endings LineEnding ++ SetextUnderline ∷ []) ++ others) ≡ true
endings_admit zero others h = h
endings_admit (suc endings) others h = endings_admit endings others h

tail_admits : (others : List Symbol) (content : Content) (first : Symbol) (tail : List Symbol) →
    IsTail first tail →
    may_show true content first ≡ true → admits true (past content first) others ≡ true →
    admits true (past content first) (tail ++ others) ≡ true
tail_admits others content = grind (arith, each-tail, endings_admit)

grouped : (firsts spine : List Symbol) (earlier : Bool) (content : Content) →
    IsGrouped firsts spine →
    admits earlier content firsts ≡ true → admits earlier content spine ≡ true
grouped [] spine earlier content g h = grind arith
grouped (first ∷ firsts) spine earlier content g h =
    grind (arith, and_parts, and_from, tail_admits, shown_earlier, grouped firsts)

-- what matches the pattern of a role may stand where the pattern may
pub matches_admitted : (role : Role) (spine : List Symbol) (content : Content) →
    Matches role spine →
    pattern_admits (pattern_of role) false content ≡ true → admits false content spine ≡ true
matches_admitted role spine content match h =
    grouped match.0 spine false content match.1
    (fits (pattern_of role) match.0 match.2 false content h)
