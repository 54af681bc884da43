-- The first node on a spine whose pattern begins with a symbol that occurs once: so a heading's
-- mark, a fence and a label are found where the meaning looks for them.
use Rattle.std.proofs.Common.{◌≡◌, Bool, true, false, Option, Some, None, List, [], ◌∷◌}
use Rattle.std.proofs.Common.{if◌then◌else◌, ap, ◌∙◌, subst, arith}
use Rattle.md_base.specs.declared.event.Name.{Name}
use Rattle.md_base.specs.declared.event.Point.{Point}
use Rattle.md_pattern.specs.declared.kinds.Symbol.{Symbol}
use Rattle.md_pattern.specs.declared.kinds.Class.TheVariants.{Only}
use Rattle.md_pattern.specs.declared.kinds.Item.{Item}
use Rattle.md_pattern.specs.declared.kinds.Item.TheVariants as item
use Rattle.md_pattern.specs.declared.kinds.Role.{Role}
use Rattle.md_base.specs.Tree.{Forest}
use Rattle.md_base.specs.Children.{first_on_spine}
use Rattle.md_pattern.specs.Standing.{standing_of}
use Rattle.md_pattern.specs.Pattern.{pattern_of, Fits}
use Rattle.md_pattern.specs.Spine.{spine, IsGrouped, Matches}
use Rattle.md_pattern.specs.Shape.{Claim, EachNode, AreShaped, inner_role, inner_before}
use Rattle.md_content.proofs.SymbolNames.{name_of, is_shared}
use Rattle.md_content.proofs.Stands.{Stand, stand, stands, seen_of, spine-stands, Stood, EachStood}
use Rattle.md_content.proofs.Stands.{each-stood, IsSolid, first_seen, first-stands}
use Rattle.md_content.proofs.LoneSymbols.{once-is, follows}
use Rattle.md_content.proofs.Tails.{is_lone}

-- the name of a node whose symbol has only one
pub named : (holds : Claim) (around : Role) (before : Option Symbol) (node : Stand) (one : Symbol) →
    Stood holds around before node → node.seen ≡ one → is_shared one ≡ false →
    node.name ≡ name_of one
named holds around before node one stood e alone = grind arith

-- the first node, and the others
pub record Head (holds : Claim) (one : Symbol) (items : List Item) (around : Role)
    (nodes : List Stand) : Type 0 where
  pub start : Point
  pub end : Point
  pub inner : Forest
  pub rest : List Stand
  pub are : nodes ≡ stand (name_of one) one start end inner ∷ rest
  pub here : holds around None (name_of one) start end inner
  pub inside : EachNode holds inner (inner_role (standing_of (name_of one)) around None)
      (inner_before (standing_of (name_of one)) None)
  pub stood : EachStood holds around (Some one) rest
  pub firsts : List Symbol
  pub fit : Fits items firsts
  pub grouped : IsGrouped firsts (seen_of rest)

pub head_of : (holds : Claim) (one : Symbol) (items : List Item) (around : Role)
    (nodes : List Stand) (firsts : List Symbol) → is_shared one ≡ false → is_lone one ≡ true →
    EachStood holds around None nodes → IsGrouped firsts (seen_of nodes) →
    Fits (item.Once (Only one) ∷ items) firsts → Head holds one items around nodes
head_of holds one items around nodes firsts alone lone stood grouped fit =
    let once = once-is one items fit.0 fit.1 firsts fit.4 fit.3 fit.2 fit.5 in
    let f = follows one once.others (seen_of nodes) lone
    (subst (λ s. IsGrouped s (seen_of nodes)) once.are grouped) in
    by nodes f.others stood f.are once.others once.fit f.grouped
  where
    by : (nodes : List Stand) (others : List Symbol) → EachStood holds around None nodes →
        seen_of nodes ≡ one ∷ others → (firsts : List Symbol) → Fits items firsts →
        IsGrouped firsts others → Head holds one items around nodes
    by [] others stood e firsts fit grouped = absurd (cc e)
    by (node ∷ nodes) others stood e firsts fit grouped =
        let first : node.seen ≡ one = cc in
        let rest : others ≡ seen_of nodes = cc in
        let name = named holds around None node one stood.0 first alone in
        record {
          start = node.start;
          end = node.end;
          inner = node.children;
          rest = nodes;
          are =
              ap (λ s. stand node.name s node.start node.end node.children ∷ nodes) first
              ∙ ap (λ n. stand n one node.start node.end node.children ∷ nodes) name;
          here = subst (λ n. holds around None n node.start node.end node.children) name
              (Stood.here stood.0);
          inside = subst (λ n. EachNode holds node.children (inner_role (standing_of n) around None)
              (inner_before (standing_of n) None)) name (Stood.inside stood.0);
          stood = subst (λ s. EachStood holds around (Some s) nodes) first stood.1;
          firsts = firsts;
          fit = fit;
          grouped = subst (IsGrouped firsts) rest grouped;
        }

pub head : (holds : Claim) (one : Symbol) (items : List Item) (around : Role) (children : Forest) →
    is_shared one ≡ false → is_lone one ≡ true →
    pattern_of around ≡ item.Once (Only one) ∷ items → EachNode holds children around None →
    Matches around (spine children) → Head holds one items around (stands children)
head holds one items around children alone lone pattern all match =
    grind (arith, head_of, each-stood, spine-stands)

-- the node that is found by its name
pub head-found : {A : Type 0} {holds : Claim} {one : Symbol} {items : List Item} (around : Role)
    (children : Forest) (test : Name → Bool) (tell : Point → Point → Forest → A) →
    AreShaped children around None → IsSolid test → test (name_of one) ≡ true →
    (first : Head holds one items around (stands children)) →
    first_on_spine test tell children ≡ Some (tell first.start first.end first.inner)
head-found {one = one} around children test tell shaped solid passes first =
    first-stands test tell solid children around None shaped
    ∙ ap (first_seen test tell) first.are
    ∙ ap (λ t. if t then Some (tell first.start first.end first.inner)
    else first_seen test tell first.rest) passes
