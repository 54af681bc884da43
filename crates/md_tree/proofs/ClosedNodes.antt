-- A node that ends is valid, and extends its parent's spine.
use Rattle.std.proofs.Common.{arith, ◌≡◌, ◌≢◌, true, false, Option, Some, List, refl, sym, ap, ◌∙◌}
use Rattle.std.proofs.Common.{subst}
use Rattle.md_tree.proofs.Common.{Point, Name, Symbol, Role, Childless, Reading, Standing, Through}
use Rattle.md_tree.proofs.Common.{Solid, Referral, Missing, State, Entry, Open, Outer, Forest}
use Rattle.md_tree.proofs.Common.{Empty, Node, spine, shown, EachNode, IsStanding, role_for, place}
use Rattle.md_tree.proofs.Common.{target_at, target_after, target_of, may_hold, start_of, Reads}
use Rattle.md_tree.proofs.Common.{Course, ExitsWhere, entered_on}
use Rattle.md_tree.proofs.Spots.{Feeds, advance_role, option_map-some}
use Rattle.md_tree.proofs.SpinesRead.{matches_feeds}
use Rattle.md_tree.proofs.NodesRead.{IsReadWhere, IsFine}

-- a node that ends is valid, and extends its parent's spine
pub record Closed (holds : Reads) (standing : Standing) (name : Name) (start end : Point)
    (children : Forest) (here after : State) (found : Referral) (target : Referral) : Type 0 where
  pub apart : here.role ≢ Childless
  pub shaped : IsStanding standing here.role here.before children
  pub read : IsReadWhere holds standing here.role here.before start end (target_of children Missing)
  pub feeds : Feeds here (shown standing (spine children)) after
  pub target_is : target ≡ target_after standing found (target_of children) (place start end)

pub not_childless : (role : Role) → may_hold role ≡ true → role ≢ Childless
not_childless role may e = let h : true ≡ false = sym may ∙ ap may_hold e in cc

nothing_inside : (holds : Reads) (children : Forest) (before : Option Symbol) →
    EachNode (IsFine holds) children Childless before → children ≡ Empty
nothing_inside holds Empty before fine = refl
nothing_inside holds (Node name start end children rest) before fine = absurd (fine.0.0.0 refl)

-- a node that ends, by how its name stands
module _ (holds ending : Reads) (name : Name) (start end : Point) (children : Forest)
    (here base : State) (found inner : Referral) (outer : Option Outer) (others : List Open)
    (last to : Course) (may : may_hold here.role ≡ true)
    (fine : EachNode (IsFine holds) children base.role base.before)
    (feeds : Feeds base (spine children) last.state)
    (target : last.target ≡ target_of children inner)
    (exits : ExitsWhere ending outer start end others last to) where
  abbrev Enters : Standing → Type 0
  Enters standing = entered_on standing here found
      ≡ Some (record { state = base; target = inner; outer = outer })

  abbrev Closes : Standing → Type 0
  Closes standing = Closed ending standing name start end children here to.state found to.target

  closed_through : Enters Through → Closes Through
  closed_through e = grind arith

  closed_solid : (symbol : Symbol) (usual : Role) (reading : Reading) →
      Enters (Solid symbol usual reading) → Closes (Solid symbol usual reading)
  closed_solid symbol usual reading e =
      let role = role_for here.role here.before usual in
      let m = option_map-some _ _ _ e in
      let next = m.0 in
      let base_is : start_of role ≡ base = ap Entry.state m.2 in
      let inner_is : Missing ≡ inner = ap Entry.target m.2 in
      let exit = subst (λ o. ExitsWhere ending o start end others last to)
      (ap Entry.outer (sym m.2)) exits in
      let target_here : last.target ≡ target_of children Missing =
      target ∙ ap (target_of children) (sym inner_is) in
      record {
        apart = not_childless here.role may;
        shaped = matches_feeds role _ last.state (rw (← base_is) at feeds) exit.0;
        read = rw (← (advance_role here next symbol m.1).0, ← target_here) exit.1;
        feeds = (next, m.1, ap Course.state (sym exit.2));
        target_is = ap Course.target exit.2
            ∙ ap (λ t. target_at reading found t (place start end)) target_here;
      }

  pub closed : (standing : Standing) → Enters standing → Closes standing
  closed standing e = grind (arith, closed_through, closed_solid, not_childless, nothing_inside)
