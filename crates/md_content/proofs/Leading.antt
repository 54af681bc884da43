-- What definitions are referred to by is the same in the grammar and in the meaning, and a call's
-- label has a text.
use Rattle.std.proofs.Common.{◌≡◌, Bool, true, false, ◌||◌, Option, Some, None, List, [], ◌∷◌, ◌++◌}
use Rattle.std.proofs.Common.{refl, ap, ◌∙◌, subst, arith}
use Rattle.std.specs.Prelude.{if◌then◌else◌, unwrap_or}
use Rattle.std.specs.List.{list_any}
use Rattle.std.proofs.lemmas.Bool.{or_right}
use Rattle.std.proofs.lemmas.List.Folds.{list_any-append}
use Rattle.md_base.proofs.Lies.{lie}
use Rattle.md_base.specs.declared.event.Position.{Position}
use Rattle.md_pattern.specs.declared.kinds.Symbol.{Symbol}
use Rattle.md_pattern.specs.declared.kinds.Symbol.TheVariants as symbol
use Rattle.md_pattern.specs.declared.kinds.Class.TheVariants.{Phrasing}
use Rattle.md_pattern.specs.declared.kinds.Item.TheVariants.{Many}
use Rattle.md_pattern.specs.declared.kinds.Role.{Role}
use Rattle.md_pattern.specs.declared.kinds.Role.TheVariants as role
use Rattle.md_tree.specs.declared.mention.Referral.TheVariants.{Missing, Label}
use Rattle.md_base.specs.Tree.{Forest}
use Rattle.md_pattern.specs.Spine.{spine, IsGrouped, Matches}
use Rattle.md_pattern.specs.Shape.{IsShapedNode, AreShaped}
use Rattle.md_tree.specs.Rules.{target_of}
use Rattle.md_base.specs.NameTests.{is_label_text, is_definition_label, is_footnote_prefix}
use Rattle.md_base.specs.NameTests.{is_footnote_label}
use Rattle.md_base.specs.Children.{first_on_spine}
use Rattle.md_meaning.specs.Places.{position, label_in_prefix}
use Rattle.md_content.specs.Labels.{label_in_node, footnote_label}
use Rattle.md_content.proofs.Stands.{Stand, stands, seen_of, spine-stands, EachStood, each-stood}
use Rattle.md_content.proofs.Stands.{first-stands}
use Rattle.md_content.proofs.LabelTexts.{is_text, text-named, text_seen, head-leaves}
use Rattle.md_content.proofs.LoneSymbols.{once-is}
use Rattle.md_content.proofs.Heads.{head, head-found}
use Rattle.md_content.proofs.Referring.{label-found}

-- a definition is referred to by its label, which is there
pub definition-label : (children : Forest) → AreShaped children role.Definition None →
    Matches role.Definition (spine children) → (there : Position)
    × (first_on_spine is_definition_label position children ≡ Some there)
    × (target_of children Missing ≡ Label there)
definition-label children shaped match =
    let first = head IsShapedNode symbol.DefinitionLabel _ role.Definition children refl refl refl
    shaped match in (
      position first.start first.end first.inner,
      head-found role.Definition children is_definition_label position shaped
          (refl, refl, λ n. refl) refl first,
      head-leaves children first refl,
    )

-- a footnote definition is referred to by the label in its prefix, which is there
pub footnote-label : (children : Forest) → AreShaped children role.FootnoteDefinition None →
    Matches role.FootnoteDefinition (spine children) →
    (there : Position) × (footnote_label children ≡ Some there)
    × (target_of children Missing ≡ Label there)
footnote-label children shaped match =
    let prefix = head IsShapedNode symbol.FootnotePrefix _ role.FootnoteDefinition children
    refl refl refl shaped match in
    let label = head IsShapedNode symbol.FootnoteLabel _ role.FootnotePrefix prefix.inner
    refl refl refl prefix.inside prefix.here.1 in (
      position label.start label.end label.inner,
      ap (λ found. unwrap_or found None) (head-found role.FootnoteDefinition children
          is_footnote_prefix (λ start end inside. label_in_prefix inside) shaped
          (refl, refl, λ n. refl) refl prefix)
          ∙ head-found role.FootnotePrefix prefix.inner is_footnote_label position prefix.inside
          (refl, refl, λ n. refl) refl label,
      head-leaves children prefix refl ∙ head-leaves prefix.inner label refl,
    )

-- ---- the text of a call's label is there
text-grouped : (firsts spine : List Symbol) → list_any is_text firsts ≡ true →
    IsGrouped firsts spine → list_any is_text spine ≡ true
text-grouped [] spine h is = lie h
text-grouped (symbol.LabelText ∷ firsts) spine h is = ap (list_any is_text) is.2
text-grouped (first ∷ firsts) spine h is =
    grind (arith, list_any-append, text-grouped firsts)

text-there : (around : Role) (before : Option Symbol) (nodes : List Stand) →
    EachStood IsShapedNode around before nodes → list_any is_text (seen_of nodes) ≡ true →
    (there : Position) × (text_seen nodes ≡ Some there)
text-there around before [] stood h = lie h
text-there around before (node ∷ nodes) stood h =
    by (is_label_text node.name) (ap (λ b. b || list_any is_text (seen_of nodes))
    (text-named node stood.0) ∙ h) (text-there around (Some node.seen) nodes stood.1)
  where
    by : (text : Bool) → (text || list_any is_text (seen_of nodes)) ≡ true →
        (list_any is_text (seen_of nodes) ≡ true →
        (there : Position) × (text_seen nodes ≡ Some there)) →
        (there : Position)
        × ((if text then Some (position node.start node.end node.children) else text_seen nodes)
        ≡ Some there)
    by true h again = (position node.start node.end node.children, refl)
    by false h again = again h

pub call-label : (children : Forest) → AreShaped children role.FootnoteCall None →
    Matches role.FootnoteCall (spine children) →
    (there : Position) × (label_in_node children ≡ Some there)
call-label children shaped match =
    let first = head IsShapedNode symbol.Label _ role.FootnoteCall children refl refl refl shaped
    match in
    let inner = first.here.1 in
    let fit = inner.2 in
    let own = fit.5 in
    let once =
    once-is symbol.LabelText (Many Phrasing ∷ []) own.0 own.1 fit.1 own.4 own.3 own.2 own.5 in
    let firsts : list_any is_text inner.0 ≡ true =
    ap (list_any is_text) (fit.2 ∙ ap (λ s. fit.0 ++ s) once.are)
    ∙ list_any-append is_text fit.0 (symbol.LabelText ∷ once.others)
    ∙ or_right _ _ refl in
    let text = text-there role.CallLabel None (stands first.inner)
    (each-stood IsShapedNode first.inner role.CallLabel None first.inside)
    (subst (λ s. list_any is_text s ≡ true) (spine-stands first.inner)
    (text-grouped inner.0 (spine first.inner) firsts inner.1)) in (
      text.0,
      label-found role.FootnoteCall children shaped first
          ∙ first-stands is_label_text position (refl, refl, λ n. refl) first.inner role.CallLabel
          None first.inside ∙ text.1,
    )
