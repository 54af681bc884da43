-- In nodes that meet the rules a heading's mark has a rank, and a list's number has only digits.
use Rattle.std.proofs.Common.{◌≡◌, ℕ, ◌≤◌, Bool, true, if◌then◌else◌, Option, Some, None, List, []}
use Rattle.std.proofs.Common.{◌∷◌, ◌++◌, length, refl, sym, subst, arith}
use Rattle.std.specs.Prelude.{nat_lt, unwrap_or}
use Rattle.std.specs.Char.{digit_value}
use Rattle.std.specs.Option.{option_map_or}
use Rattle.std.specs.List.{list_all}
use Rattle.md_base.specs.declared.event.Name.TheVariants as name_variants
use name_variants.{HeadingAtxSequence, ListItem, ListItemPrefix, ListItemValue}
use Rattle.md_base.specs.declared.event.Position.{Position}
use Rattle.md_base.specs.Place.{fits}
use Rattle.md_pattern.specs.declared.kinds.Symbol.{Symbol}
use Rattle.md_pattern.specs.declared.kinds.Symbol.TheVariants as symbol
use Rattle.md_pattern.specs.declared.kinds.Role.TheVariants as role
use Rattle.md_pattern.specs.declared.kinds.Class.TheVariants.{Only}
use Rattle.md_pattern.specs.declared.kinds.Item.TheVariants.{Once}
use Rattle.md_tree.specs.declared.rule.Rule.{Rule}
use Rattle.md_tree.specs.declared.rule.Rule.TheVariants as rule
use Rattle.md_base.specs.Tree.{Forest}
use Rattle.md_pattern.specs.Pattern.{takes, Fits}
use Rattle.md_pattern.specs.Spine.{spine, IsGrouped, Matches}
use Rattle.md_tree.specs.Rules.{is_rank, columns, unless, broken_by, place}
use Rattle.md_base.specs.Is.{is}
use Rattle.md_meaning.specs.Meaning.At.{text_in}
use Rattle.md_meaning.specs.Meaning.Finds.{first_named, in_first_named, number_in_list}
use Rattle.md_content.specs.Built.{is_digit, rank_in}
use Rattle.md_content.proofs.FineNodes.{IsFine, AreFine, shaped}
use Rattle.md_content.proofs.Stands.{Stand, stands, seen_of, spine-stands, EachStood, each-stood}
use Rattle.md_content.proofs.Stands.{first_seen, first-stands, none_left}
use Rattle.md_pattern.specs.declared.kinds.Item.{Item}
use Rattle.md_content.proofs.Heads.{Head, head_of, head, head-found}

-- a rule that isn't broken holds
pub unless-holds : (condition : Bool) (broken : Rule) →
    unless condition broken ≡ None → condition ≡ true
unless-holds condition broken e = grind arith

-- what holds of a text that breaks nothing holds of the text that is read
pub text_fits : (test : List ℕ → Bool) (broken : Rule) (Holds : List ℕ → Type 0) →
    ((text : List ℕ) → test text ≡ true → Holds text) → (text : Option (List ℕ)) →
    broken_by text (λ t. unless (test t) broken) ≡ None → Holds (unwrap_or text [])
text_fits test broken Holds each h e = grind arith

-- a rank of a heading's first mark
mark_fits : (lies : Bool) (length : ℕ) →
    (if lies then unless (is_rank role.Heading None length) rule.HeadingMark
    else Some rule.Place) ≡ None → (1 ≤ length) × (length ≤ 6) × (lies ≡ true)
mark_fits lies length e = grind arith

-- how long a mark that was found is
abbrev long : Option Position → ℕ
long mark = option_map_or (λ place. columns place.start place.end) mark 0

pub heading_fits : (bytes : List ℕ) (names : List (List ℕ × List ℕ)) (children : Forest) →
    AreFine bytes names children role.Heading None → Matches role.Heading (spine children) →
    (1 ≤ rank_in children) × (rank_in children ≤ 6)
    × (option_map_or (λ place. fits bytes place.start place.end)
    (first_named HeadingAtxSequence children) true ≡ true)
heading_fits bytes names children all match =
    let first = head (IsFine bytes names) symbol.HeadingSequence _ role.Heading children
    refl refl refl all match in
    subst (λ mark. (1 ≤ long mark) × (long mark ≤ 6)
    × (option_map_or (λ place. fits bytes place.start place.end) mark true ≡ true))
    (sym (head-found role.Heading children (is HeadingAtxSequence)
    (λ start end inner. place start end) (shaped bytes names children _ _ all)
    (refl, refl, λ n. refl) refl first))
    (mark_fits (fits bytes first.start first.end) (columns first.start first.end) first.here.1)

-- digits of a number are decimal digits
digits_fit : (digits : List ℕ) → list_all (λ digit. nat_lt (digit_value digit) 10) digits ≡ true →
    list_all is_digit digits ≡ true
digits_fit [] h = refl
digits_fit (digit ∷ digits) h = grind (arith, digits_fit digits)

-- the number at a place has only digits
abbrev pub MayHaveDigits : List ℕ → Option Position → Type 0
MayHaveDigits bytes number = option_map_or (λ place. list_all is_digit (text_in bytes place)) number
    true ≡ true

-- an ordered list's first prefix begins with its number, or has none
abbrev number_among : List Stand → Option Position
number_among nodes = first_seen (is ListItemValue) (λ start end inner. place start end) nodes

no_number : (bytes : List ℕ) (names : List (List ℕ × List ℕ)) (nodes : List Stand) →
    Head (IsFine bytes names) symbol.ListItemMarker [] role.FirstOrderedPrefix nodes →
    MayHaveDigits bytes (number_among nodes)
no_number bytes names nodes marker = grind (arith, none_left)

one_number : (bytes : List ℕ) (names : List (List ℕ × List ℕ)) {items : List Item}
    (nodes : List Stand) →
    Head (IsFine bytes names) symbol.ListItemValue items role.FirstOrderedPrefix nodes →
    MayHaveDigits bytes (number_among nodes)
one_number bytes names nodes value = grind (arith, text_fits, digits_fit)

number_first : (bytes : List ℕ) (names : List (List ℕ × List ℕ)) (nodes : List Stand)
    (own others firsts : List Symbol) →
    EachStood (IsFine bytes names) role.FirstOrderedPrefix None nodes →
    IsGrouped firsts (seen_of nodes) → length own ≤ 1 →
    list_all (takes (Only symbol.ListItemValue)) own ≡ true → firsts ≡ own ++ others →
    Fits (Once (Only symbol.ListItemMarker) ∷ []) others → MayHaveDigits bytes (number_among nodes)
number_first bytes names nodes [] others firsts stood grouped count own_taken e fit =
    no_number bytes names nodes (head_of (IsFine bytes names) symbol.ListItemMarker [] _ nodes
    others refl refl stood (subst (λ f. IsGrouped f (seen_of nodes)) e grouped) fit)
number_first bytes names nodes (seen ∷ own) others firsts stood grouped count own_taken e fit =
    one_number bytes names nodes (head_of (IsFine bytes names) symbol.ListItemValue
    (Once (Only symbol.ListItemMarker) ∷ []) _ nodes firsts refl refl stood grouped
    (seen ∷ own, others, e, own_taken, omega arith, fit))

pub list_fits : (bytes : List ℕ) (names : List (List ℕ × List ℕ)) (children : Forest) →
    AreFine bytes names children role.OrderedList None →
    Matches role.OrderedList (spine children) → MayHaveDigits bytes (number_in_list children)
list_fits bytes names children all match =
    let holds = IsFine bytes names in
    let item = head holds symbol.ListItem _ role.OrderedList children refl refl refl all match in
    let prefix = head holds symbol.ListItemPrefix _ role.FirstOrderedItem item.inner refl refl refl
    item.inside item.here.0.1 in
    let in_prefix = prefix.here.0.1 in
    let fit = in_prefix.2 in
    subst (λ found. MayHaveDigits bytes (unwrap_or found None))
    (sym (head-found role.OrderedList children (is ListItem)
    (λ start end inner. in_first_named ListItemPrefix (first_named ListItemValue) inner)
    (shaped bytes names children _ _ all) (refl, refl, λ n. refl) refl item))
    (subst (λ found. MayHaveDigits bytes (unwrap_or found None))
    (sym (head-found role.FirstOrderedItem item.inner (is ListItemPrefix)
    (λ start end inner. first_named ListItemValue inner)
    (shaped bytes names item.inner _ _ item.inside) (refl, refl, λ n. refl) refl prefix))
    (subst (MayHaveDigits bytes) (sym (first-stands (is ListItemValue)
    (λ start end inner. place start end) (refl, refl, λ n. refl) prefix.inner
    role.FirstOrderedPrefix None (shaped bytes names prefix.inner _ _ prefix.inside)))
    (number_first bytes names (stands prefix.inner) fit.0 fit.1 in_prefix.0
    (each-stood holds prefix.inner _ _ prefix.inside)
    (subst (IsGrouped in_prefix.0) (spine-stands prefix.inner) in_prefix.1) fit.4 fit.3 fit.2
    fit.5)))
