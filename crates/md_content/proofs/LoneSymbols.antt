-- What follows a symbol that stands alone on a spine.
use denote.Enum.Bare.{sameb, same_true}
use Rattle.std.proofs.Common.{◌≡◌, Bool, true, false, ◌||◌, List, [], ◌∷◌, ◌++◌, refl, length}
use Rattle.std.proofs.Common.{arith}
use Rattle.std.specs.List.{list_all}
use Rattle.std.proofs.lemmas.Bool.{and_parts}
use Rattle.md_pattern.specs.contracts.kinds.Symbol.{the_type}
use Rattle.md_pattern.specs.declared.kinds.Symbol.{Symbol}
use Rattle.md_pattern.specs.declared.kinds.Class.TheVariants.{Only}
use Rattle.md_pattern.specs.declared.kinds.Item.{Item}
use Rattle.md_pattern.specs.Pattern.{takes, Fits}
use Rattle.md_pattern.specs.Spine.{IsGrouped}
use Rattle.md_content.proofs.Tails.{is_lone}

or_false : (b : Bool) → (b || false) ≡ true → b ≡ true
or_false true h = refl
or_false false h = h

pub only-is : (one seen : Symbol) → takes (Only one) seen ≡ true → one ≡ seen
only-is one seen h = same_true the_type tt one seen (or_false (sameb the_type one seen) h)

-- one symbol of an item that occurs once, and what follows it
pub record Once (one : Symbol) (items : List Item) (firsts : List Symbol) : Type 0 where
  pub others : List Symbol
  pub are : firsts ≡ one ∷ others
  pub fit : Fits items others

pub once-is : (one : Symbol) (items : List Item) (own others firsts : List Symbol) →
    length own ≡ 1 →
    list_all (takes (Only one)) own ≡ true → firsts ≡ own ++ others → Fits items others →
    Once one items firsts
once-is one items [] others firsts count own_taken e fit = absurd (omega arith)
once-is one items (seen ∷ []) others firsts count own_taken e fit =
    let is = only-is one seen (and_parts _ _ own_taken).0 in grind arith
once-is one items (seen ∷ another ∷ own) others firsts count own_taken e fit = absurd (omega arith)

-- a spine after a symbol that stands alone
pub record Follows (first : Symbol) (firsts spine : List Symbol) : Type 0 where
  pub others : List Symbol
  pub are : spine ≡ first ∷ others
  pub grouped : IsGrouped firsts others

pub follows : (first : Symbol) (firsts spine : List Symbol) → is_lone first ≡ true →
    IsGrouped (first ∷ firsts) spine →
    Follows first firsts spine
follows first firsts spine h is = grind arith
