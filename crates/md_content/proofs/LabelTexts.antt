-- Labels: what leaves no target, and what a label leaves, the place of its text.
use Rattle.std.proofs.Common.{◌≡◌, ◌≤◌, Bool, true, false, ◌&&◌, Option, Some, None, List, [], ◌∷◌}
use Rattle.std.proofs.Common.{◌++◌, refl, ap, ◌∙◌, subst, length, arith, append-nil}
use Rattle.std.specs.Prelude.{if◌then◌else◌}
use Rattle.std.specs.List.{list_all}
use Rattle.std.specs.Option.{option_map_or}
use Rattle.std.proofs.lemmas.Bool.{and_parts, and_from}
use Rattle.md_base.specs.declared.event.Name.{Name}
use Rattle.md_base.specs.declared.event.Name.TheVariants as name
use Rattle.md_base.specs.declared.event.Position.{Position}
use Rattle.md_pattern.specs.declared.kinds.Symbol.{Symbol}
use Rattle.md_pattern.specs.declared.kinds.Symbol.TheVariants as symbol
use Rattle.md_pattern.specs.declared.kinds.Class.TheVariants.{Phrasing, Only}
use Rattle.md_pattern.specs.declared.kinds.Item.{Item}
use Rattle.md_pattern.specs.declared.kinds.Item.TheVariants.{Many}
use Rattle.md_pattern.specs.declared.kinds.Role.{Role}
use Rattle.md_pattern.specs.declared.kinds.Role.TheVariants as role
use Rattle.md_tree.specs.declared.mention.Referral.{Referral}
use Rattle.md_tree.specs.declared.mention.Referral.TheVariants.{Missing, Label}
use Rattle.md_base.specs.Tree.{Forest}
use Rattle.md_pattern.specs.Standing.{standing_of}
use Rattle.md_pattern.specs.Pattern.{takes, pattern_of, Fits}
use Rattle.md_pattern.specs.Spine.{spine, IsGrouped, Matches}
use Rattle.md_pattern.specs.Shape.{Claim, IsShapedNode, AreShaped, label_in}
use Rattle.md_tree.specs.Rules.{place, target_of}
use Rattle.md_base.specs.NameTests.{is_label_text}
use Rattle.md_meaning.specs.Places.{position, text_in_label}
use Rattle.md_content.specs.References.{label_target}
use Rattle.md_content.proofs.SymbolNames.{symbol_in}
use Rattle.md_content.proofs.Stands.{Stand, stands, seen_of, spine-stands, target_by, sought, Stood}
use Rattle.md_content.proofs.Stands.{EachStood, each-stood, target-stands, first_seen, first-stands}
use Rattle.md_content.proofs.Letters.{letters, fits-all, own-all, tail-all, followed-all}
use Rattle.md_content.proofs.LoneSymbols.{only-is}
use Rattle.md_content.proofs.Heads.{Head}

-- ---- symbols that leave no target, and those that do
abbrev pub is_text : Symbol → Bool
is_text symbol.LabelText = true
is_text _ = false

-- it leaves no target
abbrev pub is_neutral : Symbol → Bool
is_neutral symbol.LabelText = false
is_neutral symbol.ReferenceString = false
is_neutral symbol.DefinitionLabel = false
is_neutral symbol.FootnoteLabel = false
is_neutral symbol.Label = false
is_neutral symbol.FootnotePrefix = false
is_neutral symbol.Resource = false
is_neutral _ = true

symbol-told : (seen : Symbol) (found inner : Referral) (there : Position) →
    ((if is_neutral seen then target_by seen found inner there else found) ≡ found)
    × ((if is_text seen then target_by seen found inner there else Label there) ≡ Label there)
symbol-told symbol.Text found inner there = (refl, refl)
symbol-told _ found inner there = (refl, refl)

sought-neutral : (nodes : List Stand) (found : Referral) →
    list_all is_neutral (seen_of nodes) ≡ true →
    sought nodes found ≡ found
sought-neutral [] found h = refl
sought-neutral (node ∷ nodes) found h =
    let there = place node.start node.end in
    let told = symbol-told node.seen found (target_of node.children Missing) there in
    grind (arith, told.0, sought-neutral nodes)

grouped-neutral : (firsts spine : List Symbol) → list_all is_neutral firsts ≡ true →
    IsGrouped firsts spine → list_all is_neutral spine ≡ true
grouped-neutral firsts spine h is = followed-all is_neutral refl firsts spine is h

-- the target that the first node leaves, if the others leave none
pub head-leaves : {holds : Claim} {one : Symbol} {items : List Item} {around : Role}
    (children : Forest) (first : Head holds one items around (stands children)) →
    letters is_neutral items ≡ true → target_of children Missing
    ≡ target_by one Missing (target_of first.inner Missing) (place first.start first.end)
head-leaves {items = items} children first h =
    target-stands children Missing ∙ ap (λ nodes. sought nodes Missing) first.are
    ∙ sought-neutral first.rest _ (grouped-neutral first.firsts (seen_of first.rest)
    (fits-all is_neutral items first.firsts first.fit h) first.grouped)

-- ---- labels: at most one text among what leaves no target
abbrev has_one_text : List Symbol → Bool
has_one_text [] = true
has_one_text (seen ∷ others) = if is_text seen then list_all is_neutral others else is_neutral seen
    && has_one_text others

text-agree : (n : Name) → is_label_text n ≡ option_map_or is_text (symbol_in (standing_of n)) false
text-agree name.LabelText = refl
text-agree _ = refl

pub text-named : {holds : Claim} {around : Role} {before : Option Symbol} (node : Stand) →
    Stood holds around before node → is_label_text node.name ≡ is_text node.seen
text-named node stood = text-agree node.name ∙ ap (λ o. option_map_or is_text o false) stood.shows

abbrev pub text_seen : List Stand → Option Position
text_seen nodes = first_seen is_label_text position nodes

text-sought : (around : Role) (before : Option Symbol) (nodes : List Stand) →
    EachStood IsShapedNode around before nodes → has_one_text (seen_of nodes) ≡ true →
    sought nodes Missing ≡ label_target (text_seen nodes)
text-sought around before [] stood h = refl
text-sought around before (node ∷ nodes) stood h =
    let there = place node.start node.end in
    let told = symbol-told node.seen Missing (target_of node.children Missing) there in
    grind (
      arith,
      text-named node stood.0,
      told.0,
      told.1,
      sought-neutral nodes (Label there),
      text-sought around (Some node.seen) nodes stood.1,
    )

neutral-no_text : (seen : Symbol) → (if is_neutral seen then is_text seen else false) ≡ false
neutral-no_text symbol.Text = refl
neutral-no_text _ = refl

one_text-append : (symbols others : List Symbol) → list_all is_neutral symbols ≡ true →
    has_one_text others ≡ true →
    has_one_text (symbols ++ others) ≡ true
one_text-append [] others h g = g
one_text-append (seen ∷ symbols) others h g =
    let later : has_one_text (symbols ++ others) ≡ true =
    one_text-append symbols others
    (and_parts (is_neutral seen) (list_all is_neutral symbols) h).1 g in
    grind (arith, neutral-no_text seen)

-- so has a spine whose groups begin so
one-text : (firsts spine : List Symbol) → has_one_text firsts ≡ true → IsGrouped firsts spine →
    has_one_text spine ≡ true
one-text [] spine h is = ap has_one_text is
one-text (symbol.LabelText ∷ firsts) spine h is = grind (arith, grouped-neutral)
one-text (first ∷ firsts) spine h is =
    let parts = and_parts (is_neutral first) _ h in
    ap has_one_text is.2
    ∙ and_from (is_neutral first) _ parts.0
    (one_text-append is.0 is.1 (tail-all is_neutral first is.0 refl is.3)
    (one-text firsts is.1 parts.1 is.4))

label-firsts : (before own after : List Symbol) → list_all is_neutral before ≡ true →
    length own ≤ 1 → list_all (takes (Only symbol.LabelText)) own ≡ true →
    list_all is_neutral after ≡ true → has_one_text (before ++ (own ++ after)) ≡ true
label-firsts before own after neutral count own_taken later =
    one_text-append before (own ++ after) neutral (by own count own_taken)
  where
    by : (own : List Symbol) → length own ≤ 1 →
        list_all (takes (Only symbol.LabelText)) own ≡ true → has_one_text (own ++ after) ≡ true
    by [] count own_taken =
        subst (λ s. has_one_text s ≡ true) (append-nil after) (one_text-append after [] later refl)
    by (seen ∷ []) count own_taken =
        subst (λ s. has_one_text (s ∷ after) ≡ true) (only-is symbol.LabelText seen
        (and_parts _ _ own_taken).0) later
    by (seen ∷ another ∷ own) count own_taken = absurd (omega arith)

-- the patterns of labels
label-pattern : (firsts spine : List Symbol) → Fits (pattern_of role.Label) firsts →
    IsGrouped firsts spine → has_one_text spine ≡ true
label-pattern firsts spine fit is =
    let rest = fit.5 in
    one-text firsts spine (ap has_one_text (fit.2 ∙ ap (λ s. fit.0 ++ s) rest.2)
    ∙ label-firsts fit.0 rest.0 rest.1 (own-all is_neutral Phrasing fit.0 fit.3 refl) rest.4 rest.3
    (fits-all is_neutral (Many Phrasing ∷ []) rest.1 rest.5 refl)) is

-- what a label leaves is the place of its text
pub label-leaves : (around : Role) (children : Forest) → AreShaped children (label_in around) None →
    Matches (label_in around) (spine children) →
    target_of children Missing ≡ label_target (text_in_label children)
label-leaves around children shaped match =
    grind (arith, target-stands, text-sought, each-stood, spine-stands, first-stands, label-pattern)
