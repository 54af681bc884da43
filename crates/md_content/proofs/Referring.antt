-- What links, images and calls refer by is the same in the grammar, which takes the last label on a
-- spine, and in the meaning, which looks for one by name.
use Rattle.std.proofs.Common.{◌≡◌, ◌≤◌, ◌⊎◌, inl, inr, true, Option, None, List, [], ◌∷◌, ◌++◌}
use Rattle.std.proofs.Common.{refl, sym, ap, ◌∙◌, subst, length, arith, append-nil}
use Rattle.std.specs.Prelude.{if◌then◌else◌, unwrap_or, is_some, Some}
use Rattle.std.specs.List.{list_all}
use Rattle.md_base.proofs.Lies.{lie}
use Rattle.md_base.specs.declared.event.Position.{Position}
use Rattle.md_pattern.specs.declared.kinds.Symbol.{Symbol}
use Rattle.md_pattern.specs.declared.kinds.Symbol.TheVariants as symbol
use Rattle.md_pattern.specs.declared.kinds.Class.TheVariants.{Either}
use Rattle.md_pattern.specs.declared.kinds.Item.{Item}
use Rattle.md_pattern.specs.declared.kinds.Role.{Role}
use Rattle.md_pattern.specs.declared.kinds.Role.TheVariants as role
use Rattle.md_tree.specs.declared.mention.Referral.TheVariants.{Missing, Resource}
use Rattle.md_base.specs.Tree.{Forest}
use Rattle.md_pattern.specs.Pattern.{takes}
use Rattle.md_pattern.specs.Spine.{spine, IsGrouped, Matches}
use Rattle.md_pattern.specs.Shape.{IsShapedNode, AreShaped}
use Rattle.md_tree.specs.Rules.{target_of}
use Rattle.md_base.specs.NameTests.{is_label, is_reference}
use Rattle.md_base.specs.Children.{first_on_spine}
use Rattle.md_meaning.specs.Places.{position, text_in_label}
use Rattle.md_content.specs.Labels.{label_in_node, referring_in}
use Rattle.md_content.specs.References.{label_target}
use Rattle.md_content.proofs.Stands.{Stand, stands, seen_of, sought, target-stands, EachStood}
use Rattle.md_content.proofs.Stands.{first_seen, first-stands}
use Rattle.md_content.proofs.Heads.{Head, head, head-found}
use Rattle.md_content.proofs.LabelTexts.{head-leaves, label-leaves}

-- the label's text is found by the meaning as well
pub label-found : {items : List Item} (around : Role) (children : Forest) →
    AreShaped children around None →
    (first : Head IsShapedNode symbol.Label items around (stands children)) →
    label_in_node children ≡ text_in_label first.inner
label-found around children shaped first =
    ap (λ found. unwrap_or found None) (head-found around children is_label
    (λ start end inner. text_in_label inner) shaped (refl, refl, λ n. refl) refl first)

-- a call refers by the text of its label
pub call-refers : (children : Forest) → AreShaped children role.FootnoteCall None →
    Matches role.FootnoteCall (spine children) →
    target_of children Missing ≡ label_target (label_in_node children)
call-refers children shaped match =
    let first = head IsShapedNode symbol.Label [] role.FootnoteCall children refl refl refl shaped
    match in
    head-leaves children first refl
    ∙ label-leaves role.FootnoteCall first.inner first.inside first.here.1
    ∙ ap label_target (sym (label-found role.FootnoteCall children shaped first))

-- what follows the label of a link or an image: nothing, a resource or a reference
rest-of-media : (own spine : List Symbol) → length own ≤ 1 →
    list_all (takes (Either symbol.Resource symbol.ReferenceString)) own ≡ true →
    IsGrouped own spine →
    (spine ≡ []) ⊎ ((spine ≡ symbol.Resource ∷ []) ⊎ (spine ≡ symbol.ReferenceString ∷ []))
rest-of-media [] spine count own_taken is = inl is
rest-of-media (symbol.Resource ∷ []) spine count own_taken is = grind arith
rest-of-media (symbol.ReferenceString ∷ []) spine count own_taken is = grind arith
rest-of-media (_ ∷ []) spine count own_taken is = lie own_taken
rest-of-media (_ ∷ _ ∷ own) spine count own_taken is = absurd (omega arith)

abbrev chosen : Option Position → Option Position → Option Position
chosen label found = if is_some found then found else label

-- so the target is a resource, or the reference if there is one, else the label
after-label : (rest : List Stand) (label : Option Position) →
    EachStood IsShapedNode role.Media (Some symbol.Label) rest →
    (seen_of rest ≡ []) ⊎ ((seen_of rest ≡ symbol.Resource ∷ [])
    ⊎ (seen_of rest ≡ symbol.ReferenceString ∷ [])) →
    (sought rest (label_target label) ≡ Resource) ⊎ (sought rest (label_target label)
    ≡ label_target (chosen label (first_seen is_reference position rest)))
after-label [] label stood which = inr refl
after-label (node ∷ nodes) label stood (inl e) = absurd (cc e)
after-label (node ∷ []) label stood (inr (inl e)) = grind arith
after-label (node ∷ []) label stood (inr (inr e)) = grind arith
after-label (node ∷ other ∷ nodes) label stood (inr (inl e)) = absurd (cc e)
after-label (node ∷ other ∷ nodes) label stood (inr (inr e)) = absurd (cc e)

-- a link or an image refers by its resource, else by the same label
pub media-refers : (children : Forest) → AreShaped children role.Media None →
    Matches role.Media (spine children) →
    (target_of children Missing ≡ Resource)
    ⊎ (target_of children Missing ≡ label_target (referring_in children))
media-refers children shaped match =
    let first = head IsShapedNode symbol.Label _ role.Media children refl refl refl shaped match in
    let fit = first.fit in
    let label = text_in_label first.inner in
    let leads : target_of children Missing ≡ sought first.rest (label_target label) =
    target-stands children Missing ∙ ap (λ nodes. sought nodes Missing) first.are
    ∙ ap (sought first.rest) (label-leaves role.Media first.inner first.inside first.here.1) in
    let refers : referring_in children
    ≡ chosen label (first_seen is_reference position first.rest) =
    ap (λ l. chosen l (first_on_spine is_reference position children))
    (label-found role.Media children shaped first)
    ∙ ap (chosen label) (first-stands is_reference position (refl, refl, λ n. refl) children
    role.Media None shaped ∙ ap (first_seen is_reference position) first.are) in
    elim (after-label first.rest label first.stood
    (rest-of-media fit.0 (seen_of first.rest) fit.4 fit.3
    (subst (λ f. IsGrouped f (seen_of first.rest))
    (fit.2 ∙ ap (λ s. fit.0 ++ s) fit.5 ∙ append-nil fit.0) first.grouped))) [
      | inl resource ↦ inl (leads ∙ resource)
      | inr alike ↦ inr (leads ∙ alike ∙ ap label_target (sym refers))
    ]
