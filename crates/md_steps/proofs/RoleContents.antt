-- What matches the pattern of a role may stand in what its group of names is.
use Rattle.std.proofs.Common.{◌≡◌, ℕ, zero, suc, true, List, [], ◌∷◌, ◌++◌, refl, sym, ap, ◌∙◌}
use Rattle.std.proofs.Common.{subst, replicate, arith}
use Rattle.std.specs.List.{list_all}
use Rattle.std.proofs.lemmas.Bool.{and_parts, and_from}
use Rattle.md_pattern.specs.declared.kinds.Symbol.{Symbol}
use Rattle.md_pattern.specs.declared.kinds.Symbol.TheVariants as symbol_variants
use symbol_variants.{SetextUnderline, LineEnding, Label}
use Rattle.md_pattern.specs.declared.kinds.Item.{Item}
use Rattle.md_pattern.specs.declared.kinds.Item.TheVariants.{Once}
use Rattle.md_pattern.specs.declared.kinds.Role.{Role}
use Rattle.md_pattern.specs.declared.kinds.Role.TheVariants as role
use Rattle.md_pattern.specs.declared.kinds.Class.TheVariants as class
use Rattle.md_pattern.specs.Pattern.{pattern_of, Fits}
use Rattle.md_pattern.specs.Spine.{IsTail, IsGrouped, Matches}
use Rattle.md_content.proofs.Letters.{letters, fits-all, grouped-all}
use Rattle.md_content.proofs.LoneSymbols.{once-is, follows}
use Rattle.md_content.proofs.Tails.{each-tail}
use Rattle.md_steps.specs.Content.{Content, Blocks, BeforeLabel, AfterLabel, content_past}
use Rattle.md_steps.proofs.ContentSymbols.{may_show, admits, group_of}

-- ---- what may stand after a symbol of a group may stand there
endings-show : (endings : ℕ) →
    list_all (may_show Blocks) (replicate endings LineEnding ++ SetextUnderline ∷ []) ≡ true
endings-show zero = refl
endings-show (suc endings) = endings-show endings

tail-shows : (content : Content) (first : Symbol) (tail : List Symbol) →
    may_show content first ≡ true →
    IsTail first tail → list_all (may_show content) tail ≡ true
tail-shows content first tail h is = grind (arith, each-tail, endings-show)

-- ---- what matches a role's pattern may stand in what its group is
all-show : (content : Content) (usual : Role) (symbols : List Symbol) → Matches usual symbols →
    letters (may_show content) (pattern_of usual) ≡ true →
    list_all (may_show content) symbols ≡ true
all-show content usual symbols match h = grind (arith, grouped-all, tail-shows, fits-all)

admits-all : (content : Content) (symbols : List Symbol) → content_past content ≡ content →
    list_all (may_show content) symbols ≡ true → admits content symbols ≡ true
admits-all content [] same h = refl
admits-all content (seen ∷ symbols) same h =
    let parts = and_parts _ _ h in
    and_from _ _ parts.0
    (subst (λ c. admits c symbols ≡ true) (sym same) (admits-all content symbols same parts.1))

-- a label, and what comes after it
label-admitted : (items : List Item) (usual : Role) (symbols : List Symbol) →
    letters (may_show AfterLabel) items ≡ true →
    pattern_of usual ≡ Once (class.Only Label) ∷ items →
    Matches usual symbols → admits BeforeLabel symbols ≡ true
label-admitted items usual symbols h pattern match =
    let fit = subst (λ is. Fits is match.0) pattern match.2 in
    let once = once-is Label items fit.0 fit.1 match.0 fit.4 fit.3 fit.2 fit.5 in
    let f = follows Label once.others symbols refl
    (subst (λ s. IsGrouped s symbols) once.are match.1) in
    ap (admits BeforeLabel) f.are ∙ admits-all AfterLabel f.others refl
    (grouped-all (may_show AfterLabel) (tail-shows AfterLabel) once.others f.others f.grouped
    (fits-all (may_show AfterLabel) items once.others once.fit h))

pub matches-admitted : (usual : Role) (symbols : List Symbol) → Matches usual symbols →
    admits (group_of usual) symbols ≡ true
matches-admitted role.Media symbols match = label-admitted _ role.Media symbols refl refl match
matches-admitted role.FootnoteCall symbols match =
    label-admitted _ role.FootnoteCall symbols refl refl match
matches-admitted usual symbols match = admits-all (group_of usual) symbols refl
    (all-show (group_of usual) usual symbols match refl)
