-- The target of a mention: the first definition with its identifier, or none. First: identifiers
-- that are the same, and a set of them with one more.
use Rattle.std.proofs.Common.{arith, ◌≡◌, ℕ, suc, Bool, true, false, cond, Option, Some, None, List}
use Rattle.std.proofs.Common.{◌∷◌, refl, ap, ◌∙◌, ◌+◌, ◌<◌, ◌≤◌, [], ◌++◌, length, get_or, drop}
use Rattle.std.proofs.Common.{sym}
use Rattle.std.specs.Prelude.{◌||◌, string_bytes, String, set}
use Rattle.std.specs.Option.{option_cmp, ok_or}
use Rattle.std.specs.String.{string_cmp}
use Rattle.std.specs.Ordering.{is_eq}
use Rattle.std.specs.declared.cmp.Ordering.{Ordering}
use Rattle.std.specs.declared.alloc.Global.{Global}
use Rattle.std.specs.BTreeMap.{BTreeMap, UpdatesBy}
use Rattle.std.specs.BTreeSet.{BTreeSet, contains, Updates}
use Rattle.std.proofs.lemmas.Map.Text.{is_eq-slice_cmp}
use Rattle.std.proofs.lemmas.Slice.Eq.{bytes_eq-Decides}
use Rattle.md_tree.proofs.Common.{option_map, is_some, if◌then◌else◌, is_same, which}
use Rattle.md_tree.proofs.Common.{IdentifiersBefore, slice_get, Position, Fact, Mention, Definition}
use Rattle.md_tree.proofs.Common.{FootnoteDefinition, Mentioned, defined, defined_by, footnoted_by}
use Rattle.md_tree.proofs.Common.{mentions_among, put_number, numbered, NumbersFrom}
use Rattle.md_tree.proofs.Common.{slice_get_within, get_or_from_slice_get, Ok, Err, Contains}
use Rattle.md_tree.proofs.Common.{get_or-map, slice_get-get_or, Reference, Call, Rule}
use Rattle.md_tree.proofs.Common.{identifier_at, footnoted, IsResolved, IsUnresolvedBy}
use Rattle.std.proofs.lemmas.List.{at_drop_more}
use Rattle.md_tree.specs.Numbers.{found_in, IsNowhere, RefersTo}
use Rattle.md_tree.specs.declared.rule.Rule.TheVariants as rule

abbrev pub Text : Type 0
Text = Option (String Global)

abbrev pub Identifier : Type 0
Identifier = Option (List ℕ)

abbrev pub identifier_of : Text → Identifier
identifier_of text = option_map string_bytes text

abbrev pub text_cmp : Text → Text → Ordering
text_cmp = option_cmp string_cmp

abbrev pub Numbered : Type 0
Numbered = BTreeMap Text ℕ

abbrev pub Known : Type 0
Known = BTreeSet Text

-- ---- identifiers that are the same
-- texts compare equal exactly where their identifiers are the same
pub compared : (one other : Text) →
    is_eq (text_cmp one other) ≡ is_same (identifier_of one) (identifier_of other)
compared one other = grind (arith, is_eq-slice_cmp)

-- ---- one identifier more
-- it is known, and no longer left
module _ (old new : Known) (text : Text) (left all : List Identifier)
    (before : IdentifiersBefore old (identifier_of text ∷ left) all)
    (updates : Updates text_cmp old new text true) where
  pub IdentifiersBefore-put : IdentifiersBefore new left all
  IdentifiersBefore-put wanted =
      ap (λ b. b || is_some (which left (identifier_of wanted))) (updates.0 wanted
      ∙ ap (λ b. cond b true (contains text_cmp old wanted)) (compared text wanted))
      ∙ moved (is_same (identifier_of text) (identifier_of wanted)) (contains text_cmp old wanted)
      (which left _) ∙ before wanted
    where
      moved : (b known : Bool) (o : Option ℕ) → cond b true known || is_some o
          ≡ known || is_some (if b then Some 0 else option_map (λ place. suc place) o)
      moved true true o = refl
      moved true false o = refl
      moved false true o = refl
      moved false false None = refl
      moved false false _ = refl

-- Identifiers in an ordered map, each with its number: which of the definitions is the
-- first that has it.

-- ---- definitions from the last on
counted_on : (before : ℕ) (places : Option ℕ) → option_map (λ place. suc (suc before + place))
    places ≡ option_map (λ place. suc (before + place)) (option_map (λ place. suc place) places)
counted_on before places = grind arith

pub NumbersFrom-put : (old new : Numbered) (text : Text) (before : ℕ) (later : List Identifier) →
    NumbersFrom old (suc before) later →
    UpdatesBy text_cmp (text_cmp text) old new (Some (suc before)) →
    NumbersFrom new before (identifier_of text ∷ later)
NumbersFrom-put old new text before later from updates wanted =
    let at_first : suc before ≡ suc (before + 0) = omega arith in
    updates.0 wanted
    ∙ ap (λ b. cond b (Some (suc before)) (found_in old wanted)) (compared text wanted)
    ∙ elim (is_same (identifier_of text) (identifier_of wanted)) as (λ b. cond b (Some (suc before))
    (found_in old wanted) ≡ option_map (λ place. suc (before + place)) (if b then Some 0
    else option_map (λ place. suc place) (which later (identifier_of wanted)))) [
      | true ↦ ap Some at_first
      | false ↦ from wanted ∙ counted_on before _
    ]

-- how many more definitions there are with the last of some mentions
pub defined-last : (bytes : List ℕ) (before : List Mentioned) (last : Mentioned) →
    length (defined bytes (mentions_among (before ++ last ∷ [])))
    ≡ length (defined bytes (mentions_among before)) + length (defined_by bytes last.mention [])
defined-last bytes [] last = grind arith
defined-last bytes (one ∷ before) last = grind (arith, defined-last bytes before)

-- a loop over mentions knows what they define, which F gives
pub IdentifiersBefore-at : (F : List Mentioned → List Identifier) (mentioned : List Mentioned)
    (i : ℕ) (known : Known) → i < length mentioned →
    IdentifiersBefore known (F (drop i mentioned)) (F mentioned) → (n : Mentioned)
    (left : List Identifier) → F (get_or mentioned i n ∷ drop (i + 1) mentioned) ≡ left →
    IdentifiersBefore known left (F mentioned)
IdentifiersBefore-at F mentioned i known inside before n left is =
    rw (at_drop_more F mentioned i n inside ∙ is) at before

-- what a mention that defines nothing adds
pub defined_by-other : (bytes : List ℕ) (mention : Mention) (others : List Identifier) →
    ((label : Position) → mention ≡ Definition label → ⊥) → defined_by bytes mention others ≡ others
defined_by-other bytes mention others no_such = grind arith

pub footnoted_by-other : (bytes : List ℕ) (mention : Mention) (others : List Identifier) →
    ((label : Position) → mention ≡ FootnoteDefinition label → ⊥) →
    footnoted_by bytes mention others ≡ others
footnoted_by-other bytes mention others no_such = grind arith

-- ---- facts with a number at an index
pub put-none : (facts : List Fact) (index number : ℕ) → number ≡ 0 →
    put_number index number facts ≡ facts
put-none [] index number none = refl
put-none (fact ∷ facts) index number none = grind (arith, put-none facts)

pub put-past : (facts : List Fact) (index number : ℕ) → length facts ≤ index →
    put_number index number facts ≡ facts
put-past [] index number past = refl
put-past (fact ∷ facts) index number past = grind (arith, put-past facts)

pub put-nowhere : (facts : List Fact) (index number : ℕ) → slice_get facts index ≡ None →
    put_number index number facts ≡ facts
put-nowhere [] index number none = refl
put-nowhere (fact ∷ facts) index number none = grind (arith, put-nowhere facts)

pub put-set : (facts : List Fact) (index number : ℕ) (fact : Fact) →
    slice_get facts index ≡ Some fact → 0 < number →
    set facts index (record fact { read_at = number }) ≡ put_number index number facts
put-set [] index number fact is some = cc
put-set (first ∷ facts) index number fact is some = grind (arith, put-set facts)

-- a loop over mentions keeps their numbers
module _ (number : Mention → ℕ) (mentioned : List Mentioned) (i : ℕ) (facts all : List Fact)
    (inside : i < length mentioned) (so_far : numbered number (drop i mentioned) facts ≡ all) where
  pub numbered-kept : (n : Mentioned) (later : List Fact) (is : ℕ) →
      number (Mentioned.mention (get_or mentioned i n)) ≡ is →
      later ≡ put_number (Mentioned.index (get_or mentioned i n)) is facts →
      numbered number (drop (i + 1) mentioned) later ≡ all
  numbered-kept n later is same put =
      ap (λ fs. numbered number (drop (i + 1) mentioned) fs) (put
      ∙ ap (λ k. put_number (Mentioned.index (get_or mentioned i n)) k facts) (sym same))
      ∙ sym (at_drop_more (λ ms. numbered number ms facts) mentioned i n inside) ∙ so_far

-- ---- the target of a mention
which_got : (xs : List Identifier) (y : Identifier) (place : ℕ) → which xs y ≡ Some place →
    slice_get xs place ≡ Some y
which_got [] y place e = cc
which_got (x ∷ xs) y place e = grind (arith, bytes_eq-Decides, which_got xs y)

which_there : (xs : List Identifier) (y : Identifier) (place : ℕ) →
    which xs y ≡ Some place → Contains xs y
which_there xs y place e =
    let got = which_got xs y place e in
    (place, slice_get_within xs place y got, get_or_from_slice_get xs place y y got)

which_lost : (xs : List Identifier) (y : Identifier) → which xs y ≡ None → Contains xs y → ⊥
which_lost [] y e h = grind arith
which_lost (x ∷ xs) y e h = grind (arith, bytes_eq-Decides, which_lost xs)

pub resolved-reference :
    (bytes : List ℕ) (mentions : List Mention) (label : Position) (number : Option ℕ) → number
    ≡ option_map (λ place. suc place) (which (defined bytes mentions) (identifier_at bytes label)) →
    RefersTo bytes mentions (Reference label) (ok_or number rule.Definition)
resolved-reference bytes mentions label number is = grind (arith, which_there, which_lost)

module _ (bytes : List ℕ) (mentions : List Mention) (label : Position) (known : Bool)
    (is : known ≡ is_some (which (footnoted bytes mentions) (identifier_at bytes label))) where
  pub resolved-call : known ≡ true → RefersTo bytes mentions (Call label) (Ok 0)
  resolved-call there = grind (arith, which_there)

  pub lost-call : known ≡ false → RefersTo bytes mentions (Call label) (Err rule.Footnote)
  lost-call lost = grind (arith, which_lost)

-- a lost mention is unresolved
lost : (bytes : List ℕ) (mentioned : List Mentioned) (mention : Mention) (at index : ℕ)
    (broken : Rule) → slice_get mentioned at ≡ Some (record { index = index; mention = mention }) →
    IsNowhere bytes (mentions_among mentioned) mention broken →
    IsUnresolvedBy bytes mentioned index broken
lost bytes mentioned (Reference label) at index broken here is = rw is.0 (label, (at, here, is.1))
lost bytes mentioned (Call label) at index broken here is = rw is.0 (label, (at, here, is.1))
lost bytes mentioned _ at index broken here is = absurd is

pub IsUnresolvedBy-at : (bytes : List ℕ) (mentioned : List Mentioned) (at : ℕ) (n : Mentioned)
    (broken : Rule) → at < length mentioned →
    IsNowhere bytes (mentions_among mentioned) (Mentioned.mention (get_or mentioned at n)) broken →
    IsUnresolvedBy bytes mentioned (Mentioned.index (get_or mentioned at n)) broken
IsUnresolvedBy-at bytes mentioned at n broken inside is = grind (arith, lost, slice_get-get_or)

pub IsResolved-at : (bytes : List ℕ) (mentioned : List Mentioned) (index : ℕ) (n : Mentioned)
    (x : Mention) → index < length mentioned →
    IsResolved bytes (mentions_among mentioned) (Mentioned.mention (get_or mentioned index n)) →
    IsResolved bytes (mentions_among mentioned) (get_or (mentions_among mentioned) index x)
IsResolved-at bytes mentioned index n x inside is = grind (arith, get_or-map)

-- ---- one identifier for each place
pub which-one : (xs : List Identifier) (one other : Identifier) (place : ℕ) →
    which xs one ≡ Some place → which xs other ≡ Some place → one ≡ other
which-one xs one other place a b =
    let same = sym (which_got xs one place a) ∙ which_got xs other place b in cc
