-- A table's head comes before its body, and a head has one row, by their spines.
use Rattle.std.proofs.Common.{◌≡◌, ℕ, ◌+◌, Bool, true, false, ◌&&◌, List, [], ◌∷◌, ◌++◌, refl, ap}
use Rattle.std.proofs.Common.{◌∙◌, subst, arith}
use Rattle.std.specs.Prelude.{if◌then◌else◌}
use Rattle.std.specs.List.{list_all}
use Rattle.md_pattern.specs.declared.kinds.Class.TheVariants.{Only}
use Rattle.md_pattern.specs.declared.kinds.Item.{Item}
use Rattle.md_pattern.specs.declared.kinds.Item.TheVariants.{Once, Maybe, Many}
use Rattle.md_pattern.specs.declared.kinds.Symbol.{Symbol}
use Rattle.md_pattern.specs.declared.kinds.Symbol.TheVariants as symbol
use Rattle.md_pattern.specs.declared.kinds.Role.TheVariants as role
use Rattle.md_pattern.specs.Pattern.{pattern_of}
use Rattle.md_pattern.specs.Spine.{IsGrouped, Matches}
use Rattle.md_content.proofs.Letters.{fits-all, grouped-all}
use Rattle.md_content.proofs.LoneSymbols.{once-is, follows}

-- what comes in a table after its head, what stands in a head, and there after its row
abbrev pub in_table : Symbol → Bool
in_table seen = elim seen [ symbol.TableBody ↦ true | symbol.LineEnding ↦ true | _ ↦ false ]

abbrev after_row : Symbol → Bool
after_row seen =
    elim seen [ symbol.TableDelimiterRow ↦ true | symbol.LineEnding ↦ true | _ ↦ false ]

abbrev pub is_row : Symbol → Bool
is_row seen = elim seen [ symbol.TableRow ↦ true | _ ↦ false ]

abbrev pub in_head : Symbol → Bool
in_head seen = elim seen [ symbol.TableRow ↦ true | other ↦ after_row other ]

abbrev pub is_head : Symbol → Bool
is_head seen = elim seen [ symbol.TableHead ↦ true | _ ↦ false ]

-- nothing, or a head and what comes after it
abbrev pub is_ordered : List Symbol → Bool
is_ordered [] = true
is_ordered (seen ∷ symbols) = is_head seen && list_all in_table symbols

-- an amount for each row
abbrev pub for_rows : ℕ → List Symbol → ℕ
for_rows amount [] = 0
for_rows amount (seen ∷ symbols) = (if is_row seen then amount else 0) + for_rows amount symbols

pub for_rows-append : (amount : ℕ) (xs ys : List Symbol) →
    for_rows amount (xs ++ ys) ≡ for_rows amount xs + for_rows amount ys
for_rows-append amount [] ys = omega arith
for_rows-append amount (x ∷ xs) ys = omega (arith, for_rows-append amount xs ys)

no-rows : (amount : ℕ) (symbols : List Symbol) → list_all after_row symbols ≡ true →
    for_rows amount symbols ≡ 0
no-rows amount [] h = refl
no-rows amount (seen ∷ symbols) h = grind (arith, no-rows amount symbols)

-- what may come after the head, and after its row
abbrev head_followers : List Item
head_followers =
    Many (Only symbol.LineEnding) ∷ Maybe (Only symbol.TableBody) ∷ Many (Only symbol.LineEnding)
    ∷ []

abbrev row_followers : List Item
row_followers = Many (Only symbol.LineEnding) ∷ Once (Only symbol.TableDelimiterRow)
    ∷ Many (Only symbol.LineEnding) ∷ []

pub table-ordered : (symbols : List Symbol) → Matches role.Table symbols →
    is_ordered symbols ≡ true
table-ordered symbols match =
    let fit = match.2 in
    let one = once-is symbol.TableHead head_followers fit.0 fit.1 match.0 fit.4 fit.3 fit.2 fit.5 in
    let next = follows symbol.TableHead one.others symbols refl
    (subst (λ firsts. IsGrouped firsts symbols) one.are match.1) in
    ap is_ordered next.are ∙ grouped-all in_table (grind arith) one.others next.others next.grouped
    (fits-all in_table head_followers one.others one.fit refl)

pub head-letters : (symbols : List Symbol) → Matches role.TableHead symbols →
    list_all in_head symbols ≡ true
head-letters symbols match =
    grouped-all in_head (grind arith) match.0 symbols match.1
    (fits-all in_head (pattern_of role.TableHead) match.0 match.2 refl)

pub head-row : (amount : ℕ) (symbols : List Symbol) → Matches role.TableHead symbols →
    for_rows amount symbols ≡ amount
head-row amount symbols match =
    let fit = match.2 in
    let one = once-is symbol.TableRow row_followers fit.0 fit.1 match.0 fit.4 fit.3 fit.2 fit.5 in
    let next = follows symbol.TableRow one.others symbols refl
    (subst (λ firsts. IsGrouped firsts symbols) one.are match.1) in
    omega (
      arith,
      ap (for_rows amount) next.are,
      no-rows amount next.others (grouped-all after_row (grind
          arith) one.others next.others next.grouped (fits-all after_row row_followers one.others
          one.fit refl)),
    )
